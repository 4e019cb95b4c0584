-- A bad sheet: what it prints.
use Prim.Native.Nat.{ℕ}
use mathlib.Core.Path.{◌≡◌, refl, ◌∙◌}
use mathlib.Core.List.{List, [], ◌∷◌, ◌++◌}
use Rattle.std.specs.Prelude.{Some}
use Rattle.model.specs.Range.{cat}
use Rattle.text.specs.Text.{text}
use Rattle.parser.specs.Script.{verdict, bad, parse_by}
use Rattle.printer.specs.Decimal.{decimal}
use Rattle.calls.specs.Printed.{script_text, printed}

-- the bytes that the code has are a text
abbrev pub sheet_bytes : List ℕ
sheet_bytes = 115 ∷ 104 ∷ 101 ∷ 101 ∷ 116 ∷ 61 ∷ []

bad_text : (n : ℕ) → sheet_bytes ++ decimal n ++ 10 ∷ [] ≡ script_text (bad n)
unfolding script_text text cat
bad_text n = refl

pub prints_bad : (input : List ℕ) (n : ℕ) → Some n ≡ verdict input → sheet_bytes ++ decimal n ++ 10 ∷ [] ≡ printed input
unfolding parse_by
prints_bad input n e = bad_text n ∙ rw (← e) refl
