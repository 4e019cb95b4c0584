-- Laws of a walk over a set that writes the operations of each of its members: room for the next, one turn more, its end.
use Prim.Native.Nat.{ℕ, zero, suc, ◌+◌, ◌-◌, ◌≤◌, ◌<◌}
use mathlib.Core.Path.{◌≡◌, sym, ap, ◌∙◌}
use mathlib.Core.List.{[], append-nil}
use native.Mathlib.Omega.{arith}
use Rattle.model.specs.Range.{cat}
use Rattle.model.specs.Session.{bit}
use Rattle.model.specs.Ops.{Ops}
use Rattle.words.specs.Walk.{Turn}
use Rattle.words.proofs.WalkLaws.{Walk, walk_left, walk_beyond, walk_below, walk_between}
use Rattle.trace.specs.declared.Writer.{Writer}
use Rattle.trace.specs.Emit.{Fits, Emitted}
use Rattle.trace.proofs.EmitLaws.{emitted_as, emitted_each, fits_each}

-- numbers without operations add nothing
cat_skip : (g : ℕ → Ops) (k d : ℕ) → ((b : ℕ) → k ≤ b → b < k + d → g b ≡ []) → cat (k + d) g ≡ cat k g
unfolding cat
cat_skip g k zero h = let e : k + 0 ≡ k = omega arith in ap (λ (n : ℕ). cat n g) e
cat_skip g k (suc d) h =
    let e : k + suc d ≡ suc (k + d) = omega arith in
    ap (λ (n : ℕ). cat n g) e ∙ rw (h (k + d) (omega arith) (omega arith)) (append-nil _) ∙ cat_skip g k d (λ b l r. h b l (omega arith))

-- the operations g of numbers below n, none of those that are not in the set
module _ {set n rest k : ℕ} (g : ℕ → Ops) (none : (b : ℕ) → b < n → bit set b ≡ 0 → g b ≡ []) (v : Walk set n rest k) where
  pub walk_ends : {w w₁ : Writer} → rest ≡ 0 → Emitted w (cat k g) w₁ → Emitted w (cat n g) w₁
  walk_ends e p =
      let e₁ : k + (n - k) ≡ n = omega (arith, v.within) in
      let skip = cat_skip g k (n - k) (λ b l h. none b (omega (arith, v.within)) (walk_left v e b l)) in
      emitted_as p (sym skip ∙ ap (λ (m : ℕ). cat m g) e₁)

  module _ {b after : ℕ} {w w₁ : Writer} (t : Turn rest b after) (p : Emitted w (cat k g) w₁) where
    reached : Emitted w (cat b g) w₁
    reached =
        let e₁ : k + (b - k) ≡ b = omega (arith, walk_beyond v t) in
        let skip = cat_skip g k (b - k) (λ i l h. none i (omega (arith, walk_below v t)) (walk_between v t i l (omega arith))) in
        emitted_as p (sym skip ∙ ap (λ (m : ℕ). cat m g) e₁)

    pub walk_fits : Fits w (cat n g) → Fits w₁ (g b)
    walk_fits room = fits_each b n g (walk_below v t) room reached

    pub walk_emits : {w₂ : Writer} → Emitted w₁ (g b) w₂ → Emitted w (cat (b + 1) g) w₂
    walk_emits q = emitted_each b g reached q
