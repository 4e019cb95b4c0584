-- What the contracts of the reading functions say of an input: the sizes, and one group. A helper's: nothing that users of the
-- library rely on is said in its terms. Assumes nothing.
use Rattle.std.specs.Prelude.{ℕ, zero, suc, ◌+◌, ◌-◌, ◌≤◌, min, ◌≡◌, List, length, take, drop}
use Rattle.text.specs.Text.{lines_of}
use Rattle.text.specs.Read.{line_length}
use Rattle.lines.specs.declared.Key.{Key}
use Rattle.lines.specs.declared.Key.TheVariants.{Bytes}
use Rattle.lines.specs.Line.{name, value_of}
use Rattle.parser.specs.Script.{group_lines, line_at, group_of, default_backups, blocks_line, sizes_of}
use Rattle.parser.specs.declared.HeaderAt.{HeaderAt}
use Rattle.parser.specs.declared.GroupAt.{GroupAt}

-- where line i of an input starts: where the one before it ends
unfoldable pub line_start : List ℕ → ℕ → ℕ
line_start input zero = 0
line_start input (suc i) = line_start input i + line_length (drop (line_start input i) input)

-- where the value for key k stands in line i: behind the key, and before the last byte
abbrev pub value_start : Key → List ℕ → ℕ → ℕ
value_start k input i = min (line_start input i + length (name k)) (line_start input (suc i))

abbrev pub value_end : Key → List ℕ → ℕ → ℕ
value_end k input i = value_start k input i + (line_start input (suc i) - line_start input i - 1 - length (name k))

-- the sizes, and the rest, which has the lines of the groups
pub record ReadsHeader (input : List ℕ) (r : HeaderAt) : Type 0 where
  pub layout : r.layout ≡ sizes_of default_backups (lines_of input)
  pub rest : lines_of r.rest.now ≡ drop (suc (blocks_line (lines_of input))) (lines_of input)

-- the rest is the end of the input, from the lines of the groups on
pub record HeaderStands (input : List ℕ) (r : HeaderAt) : Type 0 where
  pub inside : line_start input (suc (blocks_line (lines_of input))) ≤ length input
  pub tail : r.rest.now ≡ drop (line_start input (suc (blocks_line (lines_of input)))) input

-- the group of the first five lines, its digits as the fourth of them has them, and the rest, which has the lines behind them
pub record ReadsGroup (input : List ℕ) (r : GroupAt) : Type 0 where
  pub main : r.place.main ≡ (group_of (lines_of input)).main
  pub block : r.place.block ≡ (group_of (lines_of input)).block
  pub offset : r.place.offset ≡ (group_of (lines_of input)).offset
  pub digits : r.digits.now ≡ value_of Bytes (line_at (lines_of input) 3)
  pub checkpoint : r.checkpoint ≡ (group_of (lines_of input)).checkpoint
  pub rest : lines_of r.rest.now ≡ drop group_lines (lines_of input)

-- where its digits stand in the input, and the rest is the end of the input, from the lines behind them on
pub record GroupStands (input : List ℕ) (r : GroupAt) : Type 0 where
  pub place : r.digits.now ≡ take (value_end Bytes input 3 - value_start Bytes input 3) (drop (value_start Bytes input 3) input)
  pub ordered : (value_start Bytes input 3 ≤ value_end Bytes input 3) × (value_end Bytes input 3 ≤ line_start input group_lines)
  pub inside : line_start input group_lines ≤ length input
  pub tail : r.rest.now ≡ drop (line_start input group_lines) input
