-- Numbers as text in any base, and in hexadecimal. Assumes nothing.
use Rattle.std.specs.Prelude.{ℕ, zero, suc, ◌/◌, ◌%◌, cond, List, [], ◌∷◌, ◌++◌, ltb}
use Rattle.io.specs.Digits.{hex_digit_ascii}

-- the digits of a number in base b in ASCII, `0` to `9` and then `a` to `f`, with no leading zero, at most k of them
unfoldable pub digits_in : ℕ → ℕ → ℕ → List ℕ
digits_in b zero n = []
digits_in b (suc k) n = cond (ltb n b) (hex_digit_ascii n ∷ []) (digits_in b k (n / b) ++ hex_digit_ascii (n % b) ∷ [])

-- hexadecimal digits that hold every number of 64 bits
abbrev pub hex_size : ℕ
hex_size = 16

unfoldable pub hexadecimal : ℕ → List ℕ
hexadecimal n = digits_in 16 hex_size n
