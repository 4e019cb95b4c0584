-- Laws of words laid one over the other by `or`, in place of a test of each (union).
use Rattle.std.proofs.Common.{◌≡◌, refl, sym, ap, ◌∙◌, ℕ, zero, suc, ◌+◌, ◌^◌, ◌≤◌, ◌<◌, Bool, true, ◌&&◌, eqb, ltb, List, length, get_or, take, drop, bit_or, fold, arith, add-one}
use lib.Bits.{and_le_l, and_le_r, or_add_and, or_lt}
use lib.Pow.{pow_pos}
use native.Mathlib.Decide.{dec_lt}
use borrow.Author.Tests.{lt-ltb, le-ltb, eqb-true}
use Rattle.std.proofs.lemmas.List.{length-drop, get_or-drop}
use Rattle.std.proofs.lemmas.List.Sums.{fold_more}
use Rattle.model.specs.Range.{all_b}
use Rattle.model.proofs.Laws.Range.{or_zero_lem, all_at}

-- the union is below a power of two exactly if each word is
or_within : (n a b : ℕ) → ltb (bit_or a b) (2 ^ n) ≡ (ltb a (2 ^ n) && ltb b (2 ^ n))
or_within n a b = go (dec_lt a (2 ^ n)) (dec_lt b (2 ^ n))
  where
    go : Dec (a < 2 ^ n) → Dec (b < 2 ^ n) → ltb (bit_or a b) (2 ^ n) ≡ (ltb a (2 ^ n) && ltb b (2 ^ n))
    go (yes x) (yes y) = lt-ltb (bit_or a b) (2 ^ n) (or_lt n a b x y) ∙ sym (rw (lt-ltb a (2 ^ n) x, lt-ltb b (2 ^ n) y))
    go (yes x) (no y) = le-ltb (bit_or a b) (2 ^ n) (omega (arith, or_add_and a b, and_le_l a b)) ∙ sym (rw (lt-ltb a (2 ^ n) x, le-ltb b (2 ^ n) (omega arith)))
    go (no x) d = le-ltb (bit_or a b) (2 ^ n) (omega (arith, or_add_and a b, and_le_r a b)) ∙ sym (rw (le-ltb a (2 ^ n) (omega arith)))

-- a test that a union passes exactly if each word does
union_all : (P : ℕ → Bool) → P 0 ≡ true → ((a b : ℕ) → P (bit_or a b) ≡ (P a && P b)) → (words : List ℕ) (k : ℕ) → k ≤ length words
    → P (fold bit_or 0 (take k words)) ≡ all_b k (λ i. P (get_or words i 0))
unfolding all_b
union_all P none more words zero h = none
union_all P none more words (suc k) h =
    ap (λ (j : ℕ). P (fold bit_or 0 (take j words))) (sym (add-one k))
    ∙ ap P (fold_more bit_or 0 words k 0 (omega arith))
    ∙ more _ (get_or words k 0)
    ∙ ap (λ (b : Bool). b && P (get_or words k 0)) (union_all P none more words k (omega arith))

pub union_within : (n : ℕ) (words : List ℕ) (k : ℕ) → k ≤ length words → ltb (fold bit_or 0 (take k words)) (2 ^ n) ≡ all_b k (λ i. ltb (get_or words i 0) (2 ^ n))
union_within n = union_all (λ x. ltb x (2 ^ n)) (lt-ltb 0 (2 ^ n) (pow_pos n)) (or_within n)

pub union_zero : (words : List ℕ) (k : ℕ) → k ≤ length words → eqb (fold bit_or 0 (take k words)) 0 ≡ all_b k (λ i. eqb (get_or words i 0) 0)
union_zero = union_all (λ x. eqb x 0) refl or_zero_lem

-- a part of the words of which nothing is set
pub union_clear : (words : List ℕ) (i k : ℕ) → i + k ≤ length words → eqb (fold bit_or 0 (take k (drop i words))) 0 ≡ true → (t : ℕ) → t < k → get_or words (i + t) 0 ≡ 0
union_clear words i k h e t l =
    let clear = sym (union_zero (drop i words) k (omega (arith, length-drop i words))) ∙ e in
    sym (get_or-drop i words t 0) ∙ eqb-true _ _ (all_at k (λ j. eqb (get_or (drop i words) j 0) 0) clear t l)
