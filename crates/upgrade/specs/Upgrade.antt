-- Sheets of the older rule (SPECIFICATION 16.8, 16.9): what the rule was, which sheets leave the line of backup segments out, how they are
-- rewritten, and what the program that does it prints. That they then print what they printed: OldSheets.antt. Assumes nothing.
use Rattle.std.specs.Prelude.{ℕ, ◌≡◌, false, cond, List, ◌++◌, ltb, length, drop}
use Rattle.text.specs.Text.{text, Line, lines_of}
use Rattle.std.specs.Prelude.{Option, None, Some}
use Rattle.lines.specs.declared.Key.TheVariants.{Mains, Backups}
use Rattle.lines.specs.Line.{number_in}
use Rattle.parser.specs.Script.{most_bytes, line_at, verdict, has_backups, bad}
use Rattle.printer.specs.Decimal.{decimal}
use Rattle.calls.specs.Printed.{script_text}

-- THE OLDER RULE: a line of backup segments that is left out means as many as main segments
unfoldable pub older_backups : ℕ → ℕ
older_backups mains = mains

-- a good sheet that leaves the line out
pub record LeavesOut (input : List ℕ) : Type 0 where
  pub good : verdict input ≡ None
  pub without : has_backups (lines_of input) ≡ false

-- ---- the rewriting

-- the first line, and the main segments that it gives
abbrev pub first_line : List ℕ → Line
first_line input = line_at (lines_of input) 0

abbrev pub mains_of : List ℕ → ℕ
mains_of input = number_in Mains (first_line input)

-- the line of n backup segments
unfoldable pub backups_line : ℕ → Line
backups_line n = text "spares=" ++ decimal n ++ text "\n"

-- A SHEET REWRITTEN: the line with as many backup segments as main segments stands behind the first, and everything else as it stood
unfoldable pub rewritten : List ℕ → List ℕ
rewritten input = first_line input ++ backups_line (mains_of input) ++ drop (length (first_line input)) input

-- ---- what the program prints

-- for a good sheet: the line that it has; how many bytes it would have, if these are too many; the rewritten sheet
unfoldable pub good_text : List ℕ → List ℕ
good_text input =
    cond (has_backups (lines_of input)) (backups_line (number_in Backups (line_at (lines_of input) 1)))
    (cond (ltb most_bytes (length (rewritten input))) (text "bytes=" ++ decimal (length (rewritten input)) ++ text "\n") (rewritten input))

-- by the verdict: for a bad sheet what the sheet program prints
abbrev pub verdict_text : Option ℕ → List ℕ → List ℕ
verdict_text None input = good_text input
verdict_text (Some n) input = script_text (bad n)

-- WHAT THE PROGRAM PRINTS for a sheet, by its bytes
unfoldable pub upgrade_text : List ℕ → List ℕ
upgrade_text input = verdict_text (verdict input) input
