-- Laws of a walk over the dirty blocks of a segment: it is one over the set bits of their word (crate trace, proofs/WalkLaws.antt).
use Prim.Native.Nat.{ℕ, zero, suc, ◌+◌, ◌<◌}
use mathlib.Core.Path.{◌≡◌, refl}
use mathlib.Core.Bool.{cond}
use mathlib.Core.List.{[]}
use borrow.Author.Tests.{eq-eqb}
use Rattle.model.specs.Range.{cat}
use Rattle.model.specs.Session.{bit, is_dirty}
use Rattle.model.specs.Ops.{Ops, each_dirty}
use Rattle.model.proofs.Laws.Session.{bit_zero}
use Rattle.words.specs.Walk.{Turn}
use Rattle.words.proofs.WalkLaws.{Walk, walk_member}
use Rattle.trace.specs.declared.Writer.{Writer}
use Rattle.trace.specs.Emit.{Fits, Emitted}
use Rattle.trace.proofs.EmitLaws.{emitted_if, fits_if}
use Rattle.trace.proofs.WalkLaws.{walk_ends, walk_fits, walk_emits}

-- no block is dirty where the word is 0
pub none_dirty : (n : ℕ) (f : ℕ → Ops) → each_dirty 0 n f ≡ []
unfolding cat
none_dirty zero f = refl
none_dirty (suc n) f = rw (none_dirty n f, bit_zero n)

module _ {word blocks rest k : ℕ} (f : ℕ → Ops) (v : Walk word blocks rest k) where
  none : (b : ℕ) → b < blocks → bit word b ≡ 0 → cond (is_dirty word b) (f b) [] ≡ []
  none b l e = rw e

  pub dirty_ends : {w w₁ : Writer} → rest ≡ 0 → Emitted w (each_dirty word k f) w₁ → Emitted w (each_dirty word blocks f) w₁
  dirty_ends e p = walk_ends _ none v e p

  module _ {b after : ℕ} {w w₁ : Writer} (t : Turn rest b after) (p : Emitted w (each_dirty word k f) w₁) where
    pub dirty_fits : Fits w (each_dirty word blocks f) → Fits w₁ (f b)
    dirty_fits room = fits_if (is_dirty word b) (eq-eqb _ _ (walk_member v t)) (walk_fits _ none v t p room)

    pub dirty_emits : {w₂ : Writer} → Emitted w₁ (f b) w₂ → Emitted w (each_dirty word (b + 1) f) w₂
    dirty_emits q = walk_emits _ none v t p (emitted_if (is_dirty word b) (eq-eqb _ _ (walk_member v t)) q)
