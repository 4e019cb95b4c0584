-- The language of the bench sheet (SPECIFICATION 16): key=value lines in fixed order, which of them is the first
-- bad or missing one, and what a good sheet says. Assumes nothing.
use Rattle.std.specs.Prelude.{ℕ, zero, suc, ◌+◌, ◌/◌, Bool, true, false, cond, List, [], ◌∷◌, ltb, eqb, length, get_or, drop}
use Rattle.model.specs.declared.Layout.{Layout}
use Rattle.model.specs.Layout.{layout_of}
use Rattle.text.specs.Text.{Line, lines_of, hex_bytes}
use Rattle.std.specs.Prelude.{Option, None, Some}
use Rattle.lines.specs.declared.Key.{Key}
use Rattle.lines.specs.declared.Key.TheVariants.{Mains, Backups, Blocks, Main, Block, Offset, Bytes, Checkpoint}
use Rattle.lines.specs.Line.{named, value_of, good_line, number_in}

-- the most bytes of a sheet
abbrev pub most_bytes : ℕ
most_bytes = 4096

-- ---- the first bad line

-- the lines of a group
abbrev pub group_lines : ℕ
group_lines = 5

-- the key that is looked for in a line where key k is next: the line of spares may be left out
abbrev pub key_for : Key → Line → Key
key_for Mains l = Mains
key_for Backups l = cond (named Backups l) Backups Blocks
key_for Blocks l = Blocks
key_for Main l = Main
key_for Block l = Block
key_for Offset l = Offset
key_for Bytes l = Bytes
key_for Checkpoint l = Checkpoint

-- the key that comes after key k
abbrev pub following : Key → Key
following Mains = Backups
following Backups = Blocks
following Blocks = Main
following Main = Block
following Block = Offset
following Offset = Bytes
following Bytes = Checkpoint
following Checkpoint = Main

-- whether key k is the first of a group
abbrev pub starts_group : Key → Bool
starts_group Main = true
starts_group _ = false

-- the number of the first bad or missing line where n lines are read and key k is next, or none if there is none;
-- a sheet may end where a group may start
unfoldable pub first_bad : Key → ℕ → List Line → Option ℕ
first_bad k n [] = cond (starts_group k) None (Some (suc n))
first_bad k n (l ∷ ls) = cond (good_line (key_for k l) l) (first_bad (following (key_for k l)) (suc n) ls) (Some (suc n))

-- the verdict on a sheet: the number that a bad one prints, 0 if it is too long; none on a good one
unfoldable pub verdict : List ℕ → Option ℕ
verdict input = cond (ltb most_bytes (length input)) (Some 0) (first_bad Mains 0 (lines_of input))

-- ---- what a good sheet says

-- a group: a write, and whether a checkpoint follows (the trade: level, frame, at, bytes, save)
pub record Group : Type 0 where
  pub main : ℕ
  pub block : ℕ
  pub offset : ℕ
  pub bytes : List ℕ
  pub checkpoint : Bool

-- line i of some lines, empty where there is none
abbrev pub line_at : List Line → ℕ → Line
line_at ls i = get_or ls i []

-- the group of the first five lines
unfoldable pub group_of : List Line → Group
group_of ls = record {
  main = number_in Main (line_at ls 0);
  block = number_in Block (line_at ls 1);
  offset = number_in Offset (line_at ls 2);
  bytes = hex_bytes (value_of Bytes (line_at ls 3));
  checkpoint = eqb (number_in Checkpoint (line_at ls 4)) 1;
}

-- the first n groups, and all
unfoldable pub first_groups : ℕ → List Line → List Group
first_groups zero ls = []
first_groups (suc n) ls = group_of ls ∷ first_groups n (drop group_lines ls)

unfoldable pub groups_of : List Line → List Group
groups_of ls = first_groups (length ls / group_lines) ls

-- the number of backup segments where the sheet has no line of them: half of the main segments, rounded up
unfoldable pub default_backups : ℕ → ℕ
default_backups mains = (mains + 1) / 2

-- whether there is a line of backups, which is the second; and the place of the line of blocks, which comes after it or in its place
abbrev pub has_backups : List Line → Bool
has_backups ls = named Backups (line_at ls 1)

unfoldable pub blocks_line : List Line → ℕ
blocks_line ls = cond (has_backups ls) 2 1

-- the three sizes, where a line of backups that is left out means what `rule` makes of the main segments
unfoldable pub sizes_of : (ℕ → ℕ) → List Line → Layout
sizes_of rule ls =
    let mains : ℕ = number_in Mains (line_at ls 0) in
    layout_of mains (cond (has_backups ls) (number_in Backups (line_at ls 1)) (rule mains)) (number_in Blocks (line_at ls (blocks_line ls)))

-- a sheet: bad, with the number that it prints, or good
pub data Script : Type 0 where
  bad : ℕ → Script
  good : Layout → List Group → Script

-- the lines, once the verdict is known
abbrev pub judged : (ℕ → ℕ) → Option ℕ → List Line → Script
judged rule None ls = good (sizes_of rule ls) (groups_of (drop (suc (blocks_line ls)) ls))
judged rule (Some n) ls = bad n

-- A SHEET READ, under any rule for the line that may be left out, and under the one of today
unfoldable pub parse_by : (ℕ → ℕ) → List ℕ → Script
parse_by rule input = judged rule (verdict input) (lines_of input)

abbrev pub parse : List ℕ → Script
parse input = parse_by default_backups input
