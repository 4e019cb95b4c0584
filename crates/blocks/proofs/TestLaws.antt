-- Laws of tests gathered over bytes: a number that is 0 exactly if every byte passed.
use Prim.Native.Nat.{ℕ, ◌+◌}
use mathlib.Core.Path.{◌≡◌, refl, sym, ◌∙◌}
use mathlib.Core.List.{List}
use native.Mathlib.Omega.{arith}
use native.Mathlib.Decide.{ℕ_discrete}
use lib.Bits.{bit_or, bit_xor, and_le_l, and_le_r, xor_add_and, xor_self}
use lib.Dec.{eqb}
use lib.ListN.{get_or}
use borrow.Author.Tests.{eq-eqb, ne_eqb}
use Rattle.model.specs.Range.{all_b}
use Rattle.model.proofs.Laws.Range.{or_zero_lem, all_more}

xor_zero : (a b : ℕ) → eqb (bit_xor a b) 0 ≡ eqb a b
xor_zero a b = go (ℕ_discrete a b)
  where
    go : Dec (a ≡ b) → eqb (bit_xor a b) 0 ≡ eqb a b
    go (yes x) = eq-eqb (bit_xor a b) 0 (rw x (xor_self b)) ∙ sym (eq-eqb a b x)
    go (no x) = ne_eqb (bit_xor a b) 0 (λ z. x (omega (arith, xor_add_and a b, and_le_l a b, and_le_r a b))) ∙ sym (ne_eqb a b x)

-- acc is 0 as long as all bytes were, and as long as all pairs of bytes agreed
pub zeros_more : (acc n : ℕ) (l : List ℕ) → eqb acc 0 ≡ all_b n (λ k. eqb (get_or l k 0) 0)
    → eqb (bit_or acc (get_or l n 0)) 0 ≡ all_b (n + 1) (λ k. eqb (get_or l k 0) 0)
zeros_more acc n l h = or_zero_lem acc (get_or l n 0) ∙ all_more n _ h refl

pub same_more : (acc n : ℕ) (l m : List ℕ) → eqb acc 0 ≡ all_b n (λ k. eqb (get_or l k 0) (get_or m k 0))
    → eqb (bit_or acc (bit_xor (get_or l n 0) (get_or m n 0))) 0 ≡ all_b (n + 1) (λ k. eqb (get_or l k 0) (get_or m k 0))
same_more acc n l m h =
    or_zero_lem acc _ ∙ all_more n _ h (xor_zero (get_or l n 0) (get_or m n 0))
