-- Laws of numbers as text, in any base: the fewest digits of a number are its text, and it has no more than there is room for.
use Prim.Native.Nat.{ℕ, zero, suc, ◌-◌, ◌*◌, ◌/◌, ◌%◌, ◌^◌, ◌≤◌, ◌<◌}
use mathlib.Core.Path.{◌≡◌, refl, ap, ◌∙◌}
use mathlib.Core.List.{List, [], ◌∷◌, ◌++◌}
use native.Mathlib.Omega.{arith}
use native.Mathlib.Nat.{one-mul, pow-suc, pow-zero, pow-le-pow_right, mod-eq_of_lt, div-lt_iff_lt-mul, le-div_iff_mul-le}
use native.Mathlib.Decide.{dec_le, dec_lt}
use borrow.Author.Tests.{lt-ltb, le-ltb}
use Rattle.io.specs.Digits.{last_digits, hex_digit_ascii, IsDigitCount}
use Rattle.printer.specs.Decimal.{number_size, decimal_in, decimal}
use Rattle.printer.specs.Numbers.{hex_size, digits_in, hexadecimal}

module _ (b : ℕ) (base : 1 < b) where
  first_power : b ^ 1 ≡ b
  first_power = pow-suc b 0 ∙ ap (λ (x : ℕ). x * b) (pow-zero b) ∙ one-mul b

  -- the fewest digits are those without a leading zero
  digits_in_lem : (k r n : ℕ) → r < k → n < b ^ suc r → (0 < r → b ^ r ≤ n) → last_digits b (suc r) n ≡ digits_in b k n
  unfolding digits_in
  digits_in_lem zero r n h l m = absurd (omega arith)
  digits_in_lem (suc k) zero n h l m =
      let q : n < b = omega (arith, first_power) in
      rw (lt-ltb n b q) (ap (λ (d : ℕ). hex_digit_ascii d ∷ []) (mod-eq_of_lt q))
  digits_in_lem (suc k) (suc r) n h l m =
      let p : b ^ r * b ≤ n = omega (arith, m (omega arith), pow-suc b r) in
      let x : n / b < b ^ suc r = (div-lt_iff_lt-mul {k = b} {x = n} {y = b ^ suc r} (omega arith)).1 (omega (arith, pow-suc b (suc r))) in
      let y : b ^ r ≤ n / b = (le-div_iff_mul-le {k = b} {x = b ^ r} {y = n} (omega arith)).1 p in
      let z : b ≤ n = omega (arith, p, pow-suc b r, first_power, pow-le-pow_right {n = b} (omega arith) {i = 1} {j = suc r} (omega arith)) in
      rw (le-ltb n b z) (ap (λ (t : List ℕ). t ++ hex_digit_ascii (n % b) ∷ []) (digits_in_lem k r (n / b) (omega arith) x (λ o. y)))

  -- a number below b ^ k has at most k digits
  fewest_most : (k n r : ℕ) → 0 < k → IsDigitCount b 1 n r → n < b ^ k → r ≤ k
  fewest_most k n r o f h = go (dec_le r k)
    where
      go : Dec (r ≤ k) → r ≤ k
      go (yes q) = q
      go (no q) = absurd (omega (arith, f.2 (omega arith), pow-le-pow_right {n = b} (omega arith) {i = k} {j = r - 1} (omega arith)))

  fewest_digits : (k n r : ℕ) → 0 < k → IsDigitCount b 1 n r → n < b ^ k → last_digits b r n ≡ digits_in b k n
  fewest_digits k n zero o f h = absurd (omega (arith, f.0))
  fewest_digits k n (suc r) o f h =
      digits_in_lem k r n (omega (arith, fewest_most k n (suc r) o f h)) f.1 (λ z. let e : suc r - 1 ≡ r = omega arith in rw e at (f.2 (omega arith)))

-- ---- numbers of 64 bits

pub digits_hexadecimal : (n r : ℕ) → IsDigitCount 16 1 n r → n < 2 ^ 64 → last_digits 16 r n ≡ hexadecimal n
unfolding hexadecimal
digits_hexadecimal n r f h = fewest_digits 16 (omega arith) hex_size n r (omega arith) f (omega arith)

digits_ten : (k n : ℕ) → digits_in 10 k n ≡ decimal_in k n
unfolding digits_in decimal_in
digits_ten zero n = refl
digits_ten (suc k) n =
    elim (dec_lt n 10) [
      | yes l ↦ rw (lt-ltb n 10 l)
      | no l ↦ rw (le-ltb n 10 (omega arith), lt-ltb (n % 10) 10 (omega arith), digits_ten k (n / 10))
    ]

pub digits_decimal : (n r : ℕ) → IsDigitCount 10 1 n r → n < 2 ^ 64 → last_digits 10 r n ≡ decimal n
unfolding decimal
digits_decimal n r f h = fewest_digits 10 (omega arith) number_size n r (omega arith) f (omega arith) ∙ digits_ten number_size n
