-- What the contract of a group says; a helper's, nothing that users rely on is said in its terms. Assumes nothing.
use Rattle.std.specs.Prelude.{ℕ, ◌*◌}
use Rattle.parser.specs.Script.{Group}
use Rattle.printer.specs.declared.Page.{Page}
use Rattle.printer.specs.Page.{Appended}
use Rattle.calls.specs.declared.Sheet.{Sheet}
use Rattle.calls.specs.Printed.{Board, after_group, group_text}
use Rattle.calls.specs.Ran.{call_size, BoardAt}

-- the most bytes of a group's line: its number and its epoch take no more than a call
abbrev pub group_size : ℕ
group_size = 3 * call_size

-- group n with its line: wherever a sheet stands at s and the page is p, where it stands and the page afterwards
abbrev pub GroupRan : Sheet → ℕ → Group → Page → Sheet → Page → Type 0
GroupRan s n g p s' p' = (b : Board) → BoardAt b s → Appended p (group_text b n g) p' × BoardAt (after_group b g) s'
