-- Laws of numbers: the number of a value, by the number of its bytes.
use Prim.Native.Nat.{ℕ, suc, ◌+◌, ◌*◌}
use mathlib.Core.Path.{◌≡◌, refl}
use mathlib.Core.Bool.{cond, not, ◌&&◌}
use mathlib.Core.List.{List, [], ◌∷◌}
use native.Mathlib.Omega.{arith}
use lib.Dec.{eqb}
use borrow.Author.Tests.{ne_eqb}
use lib.ListN.{length, get_or}
use Rattle.std.specs.Prelude.{None}
use Rattle.text.specs.Text.{code0, is_digit, digit_of, number_if, number_of}

pub number_cases : (l : List ℕ) → number_of l ≡ cond (eqb (length l) 1) (number_if (is_digit (get_or l 0 0)) (digit_of (get_or l 0 0)))
    (cond (eqb (length l) 2) (number_if (is_digit (get_or l 0 0) && is_digit (get_or l 1 0) && not (eqb (get_or l 0 0) code0)) (10 * digit_of (get_or l 0 0) + digit_of (get_or l 1 0)))
    (cond (eqb (length l) 3) (number_if (is_digit (get_or l 0 0) && is_digit (get_or l 1 0) && is_digit (get_or l 2 0) && not (eqb (get_or l 0 0) code0)) (100 * digit_of (get_or l 0 0) + 10 * digit_of (get_or l 1 0) + digit_of (get_or l 2 0)))
    None))
unfolding number_of
number_cases [] = refl
number_cases (a ∷ []) = refl
number_cases (a ∷ b ∷ []) = refl
number_cases (a ∷ b ∷ c ∷ []) = refl
number_cases (a ∷ b ∷ c ∷ d ∷ l) =
    rw (ne_eqb (suc (suc (suc (suc (length l))))) 1 (omega arith), ne_eqb (suc (suc (suc (suc (length l))))) 2 (omega arith), ne_eqb (suc (suc (suc (suc (length l))))) 3 (omega arith)) refl
