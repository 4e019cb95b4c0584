-- Laws of the set of main segments that have a dirty block (specs/Marked.antt): its bits, how it is made, what a walk over it sums up.
use Prim.Native.Nat.{ℕ, zero, suc, ◌+◌, ◌-◌, ◌^◌, ◌≤◌, ◌<◌}
use mathlib.Core.Path.{◌≡◌, sym, ap, ◌∙◌}
use mathlib.Core.Bool.{cond}
use mathlib.Core.List.{List}
use native.Mathlib.Omega.{arith}
use native.Mathlib.Decide.{ℕ_discrete}
use lib.Count.{ones, ones-le}
use lib.Dec.{eqb}
use lib.ListN.{get_or}
use borrow.Author.Tests.{eq-eqb, ne_eqb}
use Rattle.model.specs.Range.{sum_to}
use Rattle.model.specs.Session.{bit, is_dirty, set_bit}
use Rattle.model.proofs.Laws.Range.{sum_ext}
use Rattle.model.proofs.Laws.Session.{bit_zero, bit_lt, bit_set_same, bit_set_other, bits_below}
use Rattle.words.specs.Walk.{Turn}
use Rattle.words.proofs.WalkLaws.{Walk, walk_left, walk_beyond, walk_below, walk_between}
use Rattle.session.specs.Marked.{marked_segments}

-- ---- how it is made

-- one main segment more
pub marked_more : (words : List ℕ) (n : ℕ) → marked_segments words (n + 1) ≡ cond (eqb (get_or words n 0) 0) (marked_segments words n) (set_bit (marked_segments words n) n)
unfolding marked_segments
marked_more words n = let e : n + 1 ≡ suc n = omega arith in ap (marked_segments words) e

-- those without a dirty block add nothing
pub marked_skip : (words : List ℕ) (n d : ℕ) → ((t : ℕ) → t < d → get_or words (n + t) 0 ≡ 0) → marked_segments words (n + d) ≡ marked_segments words n
unfolding marked_segments
marked_skip words n zero h = let e : n + 0 ≡ n = omega arith in ap (marked_segments words) e
marked_skip words n (suc d) h =
    let e : n + suc d ≡ suc (n + d) = omega arith in
    ap (marked_segments words) e ∙ rw (eq-eqb _ _ (h d (omega arith))) (marked_skip words n d (λ t l. h t (omega arith)))

-- ---- its bits

-- one is a member only if it is among the first n
marked_below : (words : List ℕ) (n f : ℕ) → bit (marked_segments words n) f ≡ 1 → f < n
unfolding marked_segments
marked_below words zero f e = absurd (omega (arith, bit_zero f))
marked_below words (suc n) f e = go (ℕ_discrete (get_or words n 0) 0) (ℕ_discrete n f) (marked_below words n f)
  where
    go : Dec (get_or words n 0 ≡ 0) → Dec (n ≡ f) → (bit (marked_segments words n) f ≡ 1 → f < n) → f < suc n
    go z (yes q) ih = omega arith
    go (yes z) (no q) ih = let r = ih (rw (eq-eqb _ _ z) at e) in omega arith
    go (no z) (no q) ih = let r = ih (sym (bit_set_other (marked_segments words n) n f q) ∙ (rw (ne_eqb _ _ z) at e)) in omega arith

pub marked_small : (words : List ℕ) (n : ℕ) → marked_segments words n < 2 ^ n
marked_small words n = (bits_below (marked_segments words n) n).1 (marked_below words n)

-- a main segment that is not in it has no dirty block
pub marked_clear : (words : List ℕ) (n i : ℕ) → i < n → bit (marked_segments words n) i ≡ 0 → get_or words i 0 ≡ 0
unfolding marked_segments
marked_clear words zero i l e = absurd (omega arith)
marked_clear words (suc n) i l e = go (ℕ_discrete (get_or words n 0) 0) (ℕ_discrete n i) (λ k. marked_clear words n i k)
  where
    go : Dec (get_or words n 0 ≡ 0) → Dec (n ≡ i) → (i < n → bit (marked_segments words n) i ≡ 0 → get_or words i 0 ≡ 0) → get_or words i 0 ≡ 0
    go (yes z) (yes q) ih = ap (λ (k : ℕ). get_or words k 0) (sym q) ∙ z
    go (yes z) (no q) ih = ih (omega arith) (rw (eq-eqb _ _ z) at e)
    go (no z) (yes q) ih =
        let m = set_bit (marked_segments words n) n in
        let c : bit m i ≡ 0 = rw (ne_eqb _ _ z) at e in
        absurd (omega (arith, bit_set_same (marked_segments words n) n, ap (bit m) q, c))
    go (no z) (no q) ih = ih (omega arith) (sym (bit_set_other (marked_segments words n) n i q) ∙ (rw (ne_eqb _ _ z) at e))

-- ---- a sum over a walk

-- numbers that add 0
sum_skip : (g : ℕ → ℕ) (k d : ℕ) → ((b : ℕ) → k ≤ b → b < k + d → g b ≡ 0) → sum_to (k + d) g ≡ sum_to k g
unfolding sum_to
sum_skip g k zero h = let e : k + 0 ≡ k = omega arith in ap (λ (n : ℕ). sum_to n g) e
sum_skip g k (suc d) h =
    let e : k + suc d ≡ suc (k + d) = omega arith in
    ap (λ (n : ℕ). sum_to n g) e ∙ omega (arith, h (k + d) (omega arith) (omega arith)) ∙ sum_skip g k d (λ b l r. h b l (omega arith))

module _ {set n rest k : ℕ} (g : ℕ → ℕ) (none : (b : ℕ) → b < n → bit set b ≡ 0 → g b ≡ 0) (w : Walk set n rest k) where
  pub sum_ends : rest ≡ 0 → sum_to k g ≡ sum_to n g
  sum_ends e =
      let d : k + (n - k) ≡ n = omega (arith, w.within) in
      sym (sum_skip g k (n - k) (λ b l h. none b (omega (arith, w.within)) (walk_left w e b l))) ∙ ap (λ (m : ℕ). sum_to m g) d

  pub sum-turns : {b after : ℕ} → Turn rest b after → sum_to (b + 1) g ≡ sum_to k g + g b
  unfolding sum_to
  sum-turns {b} t =
      let d : k + (b - k) ≡ b = omega (arith, walk_beyond w t) in
      let e : b + 1 ≡ suc b = omega arith in
      let s : sum_to b g ≡ sum_to k g = ap (λ (m : ℕ). sum_to m g) (sym d) ∙ sum_skip g k (b - k) (λ i l h. none i (omega (arith, walk_below w t)) (walk_between w t i l (omega arith))) in
      ap (λ (m : ℕ). sum_to m g) e ∙ ap (λ (x : ℕ). x + g b) s

-- the dirty blocks of the set's members are all
pub marked_sum : (words : List ℕ) (n : ℕ) → n ≤ 64 → sum_to 64 (λ b. cond (is_dirty (marked_segments words n) b) (ones (get_or words b 0)) 0) ≡ sum_to n (λ b. ones (get_or words b 0))
marked_sum words n h =
    let d : n + (64 - n) ≡ 64 = omega arith in
    ap (λ (m : ℕ). sum_to m g) (sym d) ∙ sum_skip g n (64 - n) (λ b l r. outside b l) ∙ sum_ext n g (λ b. ones (get_or words b 0)) (λ b l. inside b l (ℕ_discrete (bit set b) 1))
  where
    set : ℕ
    set = marked_segments words n

    g : ℕ → ℕ
    g b = cond (is_dirty (marked_segments words n) b) (ones (get_or words b 0)) 0

    outside : (b : ℕ) → n ≤ b → g b ≡ 0
    outside b l = rw (ne_eqb _ _ (λ (e : bit (marked_segments words n) b ≡ 1). absurd (omega (arith, (bits_below (marked_segments words n) n).0 (marked_small words n) b e))))

    inside : (b : ℕ) → b < n → Dec (bit (marked_segments words n) b ≡ 1) → g b ≡ ones (get_or words b 0)
    inside b l (yes e) = rw (eq-eqb _ _ e)
    inside b l (no e) =
        let z : bit (marked_segments words n) b ≡ 0 = omega (arith, bit_lt (marked_segments words n) b) in
        rw (ne_eqb _ _ e) (omega (arith, ones-le 0 (get_or words b 0) (omega (arith, marked_clear words n b l z))))
