-- What the contracts of the reading functions say of an input: its first line, and where the bytes of a value are put.
-- A helper's: nothing that users of the library rely on is said in its terms. Assumes nothing.
use Rattle.std.specs.Prelude.{ℕ, suc, ◌≤◌, ◌≡◌, cond, List, [], ◌∷◌, ◌++◌, eqb, length, get_or, take, drop}
use Rattle.text.specs.Text.{line_end, lines_of, hex_bytes}

-- the bytes of the first line, 0 where there is none
unfoldable pub line_length : List ℕ → ℕ
line_length [] = 0
line_length (b ∷ bs) = cond (eqb b line_end) 1 (suc (line_length bs))

-- an input is its first line, which is empty where there is none, and the rest, which holds the others
pub record SplitsLine (input line rest : List ℕ) : Type 0 where
  pub joined : input ≡ line ++ rest
  pub first : line ≡ get_or (lines_of input) 0 []
  pub others : lines_of rest ≡ drop 1 (lines_of input)

-- the bytes of a value put at the start of a list that is long enough, of which nothing else changes
pub record Decodes (digits before after : List ℕ) (r : ℕ) : Type 0 where
  pub count : r ≡ length (hex_bytes digits)
  pub inside : r ≤ length before
  pub bytes : take r after ≡ hex_bytes digits
  pub rest : drop r after ≡ drop r before
  pub long : length after ≡ length before
