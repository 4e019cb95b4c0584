-- Texts of bytes: their lines, and the values in them (a number in decimal digits, bytes in hexadecimal digits). Assumes nothing.
use Rattle.std.specs.Prelude.{ℕ, ◌+◌, ◌-◌, ◌*◌, Bool, true, false, not, cond, ◌&&◌, ◌||◌, List, [], ◌∷◌, leb, eqb}
use Prim.Native.Char.{code}
use Prim.Native.String.{String, len, char_at}
use Rattle.model.specs.Range.{cat}
use Rattle.std.specs.Prelude.{Option, None, Some}

-- the bytes of a text in ASCII
unfoldable pub text : String → List ℕ
text s = cat (len s) (λ i. code (char_at s i) ∷ [])

-- whether the second list starts with the first
unfoldable pub starts_with : List ℕ → List ℕ → Bool
starts_with [] bs = true
starts_with (k ∷ ks) [] = false
starts_with (k ∷ ks) (b ∷ bs) = eqb k b && starts_with ks bs

-- ---- lines

abbrev pub Line : Type 0
Line = List ℕ

-- the byte that ends a line
abbrev pub line_end : ℕ
line_end = 10

-- lines with one byte more at the start of the first
abbrev pub before : ℕ → List Line → List Line
before b [] = (b ∷ []) ∷ []
before b (l ∷ ls) = (b ∷ l) ∷ ls

-- the lines of an input, each with the byte 10 that ends it; a last part that no byte 10 ends is a line too, and never a good one
unfoldable pub lines_of : List ℕ → List Line
lines_of [] = []
lines_of (b ∷ bs) = cond (eqb b line_end) ((b ∷ []) ∷ lines_of bs) (before b (lines_of bs))

-- ---- values

-- the codes of `0`, `9`, `a` and `f`
abbrev pub code0 : ℕ
code0 = 48

abbrev pub code9 : ℕ
code9 = 57

abbrev pub code_a : ℕ
code_a = 97

abbrev pub code_f : ℕ
code_f = 102

-- a decimal digit, and its number
abbrev pub is_digit : ℕ → Bool
is_digit b = leb code0 b && leb b code9

abbrev pub digit_of : ℕ → ℕ
digit_of b = b - code0

-- a number that is taken, or none
abbrev pub number_if : Bool → ℕ → Option ℕ
number_if taken n = cond taken (Some n) None

-- a number of one to three digits; more than one have no leading zero
unfoldable pub number_of : List ℕ → Option ℕ
number_of [] = None
number_of (a ∷ []) = number_if (is_digit a) (digit_of a)
number_of (a ∷ b ∷ []) = number_if (is_digit a && is_digit b && not (eqb a code0)) (10 * digit_of a + digit_of b)
number_of (a ∷ b ∷ c ∷ []) =
    number_if (is_digit a && is_digit b && is_digit c && not (eqb a code0)) (100 * digit_of a + 10 * digit_of b + digit_of c)
number_of (a ∷ b ∷ c ∷ d ∷ bs) = None

-- a lower-case hexadecimal digit, and its number
abbrev pub is_hex_digit : ℕ → Bool
is_hex_digit b = is_digit b || (leb code_a b && leb b code_f)

abbrev pub hex_digit_of : ℕ → ℕ
hex_digit_of b = cond (leb b code9) (b - code0) (b + 10 - code_a)

-- an even count of them
unfoldable pub hex_pairs : List ℕ → Bool
hex_pairs [] = true
hex_pairs (a ∷ []) = false
hex_pairs (a ∷ b ∷ bs) = is_hex_digit a && is_hex_digit b && hex_pairs bs

-- the bytes that they give, two digits a byte
unfoldable pub hex_bytes : List ℕ → List ℕ
hex_bytes [] = []
hex_bytes (a ∷ []) = []
hex_bytes (a ∷ b ∷ bs) = (16 * hex_digit_of a + hex_digit_of b) ∷ hex_bytes bs
