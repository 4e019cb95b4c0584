-- Laws of the parts that the reads give: a block's bytes or none, and those of a part that is not there count as zeros.
use Prim.Native.Nat.{ℕ, ◌+◌, ◌*◌, ◌≤◌, ◌<◌}
use mathlib.Core.Path.{◌≡◌, refl, sym, ap, ◌∙◌}
use mathlib.Core.Logic.{◌⊎◌, inl, inr, ◌≢◌}
use mathlib.Core.Bool.{Bool, true, false}
use mathlib.Core.List.{List, []}
use native.Mathlib.Omega.{arith}
use native.Mathlib.Decide.{ℕ_discrete}
use lib.Dec.{eqb}
use lib.ListN.{length, get_or, length-take, length-drop, get_or-eq_default}
use borrow.Author.Tests.{eq-eqb, ne_eqb}
use Rattle.model.specs.declared.Layout.{Layout}
use Rattle.std.specs.Prelude.{Option, None, Some}
use Rattle.model.specs.Words.{Image}
use Rattle.model.specs.Layout.{main_at}
use Rattle.model.specs.Status.{served}
use Rattle.model.specs.Container.{active_line, checkpoint_located}
use Rattle.model.specs.Reads.{Part, part_of, read_status, no_part, block_part, located_part, checkpoint_part, working_block, checkpoint_block}
use Rattle.model.specs.Same.{same_bytes}
use Rattle.model.proofs.Laws.Range.{all_from, all_ext}
use Rattle.model.proofs.Laws.Container.{ContainerOk}
use Rattle.model.proofs.Argument.Pages.{read_served}
use Rattle.reads.proofs.ReadLaws.{readable, main_inside, located_block, working_refused, working_served, checkpoint_refused, checkpoint-served}

-- ---- zeros

-- a part of no bytes
past : (l : List ℕ) (k : ℕ) → length l ≡ 0 → get_or l k 0 ≡ 0
past l k e = get_or-eq_default l 0 (omega (arith, e))

eqb_turned : (a b : ℕ) → eqb a b ≡ eqb b a
eqb_turned a b = go (ℕ_discrete a b)
  where
    go : Dec (a ≡ b) → eqb a b ≡ eqb b a
    go (yes e) = eq-eqb a b e ∙ sym (eq-eqb b a (sym e))
    go (no n) = ne_eqb a b n ∙ sym (ne_eqb b a (λ e. n (sym e)))

pub none_is_zero : (n : ℕ) (a : List ℕ) → length a ≡ 0 → true ≡ same_bytes n a []
unfolding same_bytes
none_is_zero n a e = sym (all_from n _ (λ k l. eq-eqb _ _ (past a k e)))

-- a part that is not there on the left
pub none_left : (n : ℕ) (a b : List ℕ) → length a ≡ 0 → same_bytes n b [] ≡ same_bytes n a b
unfolding same_bytes
none_left n a b e = all_ext n _ _ (λ k l. eqb_turned (get_or b k 0) 0 ∙ ap (λ (x : ℕ). eqb x (get_or b k 0)) (sym (past a k e)))

-- ---- the reads

-- a block, or nothing
abbrev pub BlockOrNone : List ℕ → Type 0
BlockOrNone a = (length a ≡ 0) ⊎ (256 ≤ length a)

-- how long a part is
none_part : (I : Image) (p : Part) → p ≡ no_part → length (part_of I p) ≡ 0
none_part I p e = rw e refl

block_part_lem : (I : Image) (p : Part) (at b : ℕ) → p ≡ block_part at b → at + 256 * b + 256 ≤ length I → length (part_of I p) ≡ 256
block_part_lem I p at b e h = rw e (simp (length-take, length-drop) (omega arith))

module _ (l : Layout) (I : Image) (i b : ℕ) where
  pub working_long : BlockOrNone (working_block l I i b)
  working_long = go (served (read_status l I i b)) refl
    where
      go : (s : Bool) → served (read_status l I i b) ≡ s → BlockOrNone (working_block l I i b)
      go true e = inr (omega (arith, block_part_lem I _ (main_at l i) b (working_served l I i b e) (main_inside l I i b (readable l I i b e))))
      go false e = inl (none_part I _ (working_refused l I i b e))

  -- the part of a checkpoint that stands there
  located_long : (x : Option ℕ) → x ≡ checkpoint_located l I (active_line I) i → served (read_status l I i b) ≡ true
      → ((checkpoint_part l I i b).size ≡ (located_part x 0).size) × (length (checkpoint_block l I i b) ≡ (located_part x 0).size)
  located_long None q e = let p = checkpoint-served l I i b None e q in (rw p refl, none_part I _ p)
  located_long (Some x) q e = let p = checkpoint-served l I i b (Some x) e q in (rw p refl, block_part_lem I _ x b p (located_block l I i b (readable l I i b e) x q))

  pub checkpoint_long : BlockOrNone (checkpoint_block l I i b)
  checkpoint_long = go (served (read_status l I i b)) refl
    where
      found : (x : Option ℕ) → x ≡ checkpoint_located l I (active_line I) i → served (read_status l I i b) ≡ true → BlockOrNone (checkpoint_block l I i b)
      found None q e = inl (located_long None q e).1
      found (Some p) q e = inr (omega (arith, (located_long (Some p) q e).1))

      go : (s : Bool) → served (read_status l I i b) ≡ s → BlockOrNone (checkpoint_block l I i b)
      go true e = found (checkpoint_located l I (active_line I) i) refl e
      go false e = inl (none_part I _ (checkpoint_refused l I i b e))

-- in an image that is not refused, all blocks of a main segment have a checkpoint or none has
module _ (l : Layout) (I : Image) (ok : ContainerOk l I) (i : ℕ) (hi : i < l.mains) where
  abbrev size : ℕ
  size = (checkpoint_part l I i 0).size

  given : (b : ℕ) → b < l.blocks → served (read_status l I i b) ≡ true
  given b hb = eq-eqb _ 0 (read_served l I ok i b hi hb)

  pub blocks_long : (b : ℕ) → b < l.blocks → length (checkpoint_block l I i b) ≡ size
  blocks_long b hb =
      (located_long l I i b _ refl (given b hb)).1 ∙ sym (located_long l I i 0 _ refl (given 0 (omega arith))).0

  pub size_whole : size ≢ 0 → size ≡ 256
  size_whole n = go (checkpoint_located l I (active_line I) i) refl
    where
      go : (x : Option ℕ) → x ≡ checkpoint_located l I (active_line I) i → size ≡ 256
      go None q = absurd (n (located_long l I i 0 None q (given 0 (omega (arith, ok.sizes.2)))).0)
      go (Some p) q = (located_long l I i 0 (Some p) q (given 0 (omega (arith, ok.sizes.2)))).0
