-- OLD SHEETS PRINT WHAT THEY PRINTED: a good sheet that leaves the line of backup segments out, rewritten, prints what the older rule
-- printed for it; no other sheet is touched by the change of the rule. `printed` is what the sheet program prints (its contract),
-- `printed_by older_backups` the same under the older rule. Proved in proofs/OldSheets.antt. Assumes nothing.
use Rattle.std.specs.Prelude.{ℕ, ◌+◌, ◌≤◌, ◌<◌, ◌≡◌, true, List, ◌∷◌, length, drop}
use Rattle.text.specs.Text.{text, starts_with, lines_of}
use Rattle.parser.specs.Script.{most_bytes}
use Rattle.calls.specs.Printed.{printed_by, printed}
use Rattle.upgrade.specs.Upgrade.{older_backups, LeavesOut, first_line, mains_of, backups_line, rewritten, upgrade_text}

-- of a good sheet that leaves the line out
pub record Rewritten (input : List ℕ) : Type 0 where
  -- it gets the line as its second, all others stay, and it has nine bytes more
  pub lines : lines_of (rewritten input) ≡ first_line input ∷ backups_line (mains_of input) ∷ drop 1 (lines_of input)
  pub size : length (rewritten input) ≡ length input + 9
  -- its first key tells it from the program's other answers
  pub key : starts_with (text "mains=") (rewritten input) ≡ true
  -- up to the most bytes of a sheet it is what the program prints for the old one, and WHAT IT PRINTS IS WHAT WAS PRINTED
  pub given : length (rewritten input) ≤ most_bytes → upgrade_text input ≡ rewritten input
  pub same : length (rewritten input) ≤ most_bytes → printed (rewritten input) ≡ printed_by older_backups input
  -- past them it is no good sheet
  pub long : most_bytes < length (rewritten input) → printed (rewritten input) ≡ text "sheet=0\n"
  -- one main segment has one backup segment under both rules
  pub one : mains_of input ≡ 1 → printed input ≡ printed_by older_backups input

pub record OldSheets : Type 0 where
  pub old : (input : List ℕ) → LeavesOut input → Rewritten input
  -- every other sheet prints the same under any two rules
  pub others : (input : List ℕ) → (LeavesOut input → ⊥) → (rule rule' : ℕ → ℕ) → printed_by rule input ≡ printed_by rule' input
  -- a rewritten one is among these others
  pub settled : (input : List ℕ) → LeavesOut input → LeavesOut (rewritten input) → ⊥
