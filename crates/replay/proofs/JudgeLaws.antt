-- Laws of what is judged: a trace by its operations, and where a store that passed stands.
use Prim.Native.Nat.{ℕ, zero, suc, ◌+◌, ◌*◌, ◌/◌, ◌%◌, ◌≤◌, ◌<◌}
use mathlib.Core.Path.{◌≡◌, refl, sym, ap, ◌∙◌, subst}
use mathlib.Core.Logic.{◌↔◌}
use mathlib.Core.Bool.{Bool, true, false, ◌||◌, false≢true}
use mathlib.Core.List.{List, [], ◌∷◌, map}
use native.Mathlib.Omega.{arith}
use native.Mathlib.Decide.{dec_lt}
use native.Mathlib.Nat.{add-zero}
use lib.Dec.{ltb, eqb}
use lib.ListN.{length, get_or, take, drop}
use borrow.Author.Tests.{lt-ltb, le-ltb, ltb-true, eqb-true}
use Rattle.std.specs.Prelude.{IsTrue}
use Rattle.std.specs.List.{AllPass}
use Rattle.std.specs.Simd.{first_chunks}
use Rattle.std.proofs.lemmas.List.{drop-drop}
use Rattle.std.proofs.lemmas.Simd.{get_or-chunk}
use Rattle.model.specs.Range.{all_b}
use Rattle.model.specs.Layout.{word_size, line_size}
use Rattle.model.specs.Ops.{Ops, Trace, op_store, op_of, decode}
use Rattle.model.specs.Replay.{well_formed, all_well_formed}
use Rattle.model.proofs.Laws.Range.{and_left, and_right, all_at, all_from, same_test}
use Rattle.replay.specs.Numbers.{op_well_formed, op_given}

-- ---- a trace in threes

pub length_threes : (k : ℕ) (t : Trace) → length (first_chunks 3 k t) ≡ k
length_threes zero t = refl
length_threes (suc k) t = ap suc (length_threes k (drop 3 t))

-- the first n of k
pub first_threes : (n k : ℕ) (t : Trace) → n ≤ k → take n (first_chunks 3 k t) ≡ first_chunks 3 n t
first_threes zero k t h = refl
first_threes (suc n) zero t h = absurd (omega arith)
first_threes (suc n) (suc k) t h = ap (λ O. take 3 t ∷ O) (first_threes n k (drop 3 t) (omega arith))

three_at : (k : ℕ) (t : Trace) (i : ℕ) (d : List ℕ) → i < k → get_or (first_chunks 3 k t) i d ≡ take 3 (drop (3 * i) t)
three_at zero t i d h = absurd (omega arith)
three_at (suc k) t zero d h = refl
three_at (suc k) t (suc i) d h =
    three_at k (drop 3 t) i d (omega arith) ∙ ap (take 3) (drop-drop (3 * i) 3 t ∙ ap (λ n. drop n t) (omega arith))

-- the operations that they are
pub decoded : (k : ℕ) (t : Trace) → 3 * k ≤ length t → map op_given (first_chunks 3 k t) ≡ decode (take (3 * k) t)
unfolding decode
decoded zero t h = refl
decoded (suc k) [] h = absurd (omega arith)
decoded (suc k) (x ∷ []) h = absurd (omega arith)
decoded (suc k) (x ∷ y ∷ []) h = absurd (omega arith)
decoded (suc k) (x ∷ y ∷ z ∷ t) h =
    let e : 3 * suc k ≡ suc (suc (suc (3 * k))) = omega arith in
    rw e (ap (λ (O : Ops). op_of x y z ∷ O) (decoded k t (omega arith)))

-- ---- the whole trace

module _ (lines : ℕ) (t : Trace) where
  abbrev well_formed_at : ℕ → Bool
  well_formed_at i = well_formed lines (get_or t (3 * i) 0) (get_or t (3 * i + 1) 0) (get_or t (3 * i + 2) 0)

  op_at : (k i : ℕ) (d : List ℕ) → i < k → op_well_formed lines (get_or (first_chunks 3 k t) i d) ≡ well_formed_at i
  op_at k i d l =
      let x = get_or-chunk (3 * i) 3 t 0 0 (omega arith) in
      let y = get_or-chunk (3 * i) 3 t 1 0 (omega arith) in
      let z = get_or-chunk (3 * i) 3 t 2 0 (omega arith) in
      rw (three_at k t i d l, x, y, z, add-zero)

  -- each is well formed where the trace is
  pub three_judged : (k i : ℕ) (d : List ℕ) → all_well_formed lines t k ≡ true → i < k → op_well_formed lines (get_or (first_chunks 3 k t) i d) ≡ true
  unfolding all_well_formed
  three_judged k i d e l = op_at k i d l ∙ all_at k well_formed_at e i l

  -- the code's test of the operations is that of the trace
  pub judged_threes : (k : ℕ) (r : Bool) {ops : List (List ℕ)} {good : Bool} → ops ≡ first_chunks 3 k t → (IsTrue r ↔ AllPass (op_well_formed lines) ops) → r ≡ good
      → all_well_formed lines t k ≡ good
  unfolding all_well_formed
  judged_threes k r e h g =
      let u = subst (λ (O : List (List ℕ)). IsTrue r ↔ AllPass (op_well_formed lines) O) e h in
      sym (same_test r (all_b k well_formed_at)
      (λ q. all_from k well_formed_at (λ i l. sym (op_at k i [] l) ∙ u.0 q i [] (rw (length_threes k t) l)))
      (λ q. u.1 (λ i d l. three_judged k i d q (rw (length_threes k t) at l)))) ∙ g

-- ---- one operation

-- a place lies below so many lines exactly if its line does
pub below_lines : (lines p : ℕ) → ltb p (line_size * lines) ≡ ltb (p / line_size) lines
below_lines lines p =
    elim (dec_lt (p / line_size) lines) [
      | yes h ↦ lt-ltb p (line_size * lines) (omega arith) ∙ sym (lt-ltb (p / line_size) lines h)
      | no h ↦ le-ltb p (line_size * lines) (omega arith) ∙ sym (le-ltb (p / line_size) lines (omega arith))
    ]

-- a well-formed store lies in the image
pub store_inside : (size kind p w : ℕ) → kind ≡ op_store → size % line_size ≡ 0 → well_formed (size / line_size) kind p w ≡ true → p + word_size ≤ size
unfolding well_formed
store_inside size kind p w e h good =
    omega (arith, ltb-true (p / line_size) (size / line_size) (and_left (ltb (p / line_size) (size / line_size)) _ good), whole (eqb (p % word_size) 0) refl (and_right (ltb (p / line_size) (size / line_size)) _ (rw e at good)))
  where
    whole : (b : Bool) → eqb (p % word_size) 0 ≡ b → (b || false || false) ≡ true → p % word_size ≡ 0
    whole true q r = eqb-true (p % word_size) 0 q
    whole false q r = absurd (false≢true r)
