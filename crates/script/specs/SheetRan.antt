-- What the contracts of a sheet's parts say; a helper's, nothing that users rely on is said in its terms. A sheet stands at s, and the
-- page is p before and p' afterwards. Assumes nothing.
use Rattle.std.specs.Prelude.{ℕ, ◌+◌, ◌*◌, ◌≡◌, List, None}
use Rattle.model.specs.Layout.{metadata_size, block_size}
use Rattle.text.specs.Text.{lines_of, hex_bytes}
use Rattle.lines.specs.declared.Key.TheVariants.{Main}
use Rattle.lines.specs.Line.{most_size}
use Rattle.parser.specs.Script.{most_bytes, Script, Group, first_bad, groups_of}
use Rattle.parser.specs.declared.GroupAt.{GroupAt}
use Rattle.printer.specs.declared.Page.{Page}
use Rattle.printer.specs.Page.{Appended}
use Rattle.calls.specs.declared.Sheet.{Sheet}
use Rattle.calls.specs.Printed.{Board, groups_text, script_text}
use Rattle.calls.specs.Ran.{BoardAt}

-- ---- sizes

-- bytes of the buffer for the printed text
abbrev pub most_text : ℕ
most_text = 6 * most_bytes

-- bytes of the largest image of a sheet
abbrev pub most_image : ℕ
most_image = metadata_size + block_size * most_size * (most_size + most_size)

-- the least bytes of a group in a sheet: five keys, and a byte 10 behind each
abbrev pub group_least : ℕ
group_least = 31

-- ---- the groups of the rest of a sheet

-- a group may start there, and no line from there on is bad
abbrev pub GoodFrom : List ℕ → Type 0
GoodFrom input = (n : ℕ) × (first_bad Main n (lines_of input) ≡ None)

abbrev pub groups_from : List ℕ → List Group
groups_from input = groups_of (lines_of input)

-- a group by what is read of it
abbrev pub group_in : GroupAt → Group
group_in r = record { main = r.place.main; block = r.place.block; offset = r.place.offset; bytes = hex_bytes r.digits.now; checkpoint = r.checkpoint }

-- these groups are run
abbrev pub GroupsRan : Sheet → List Group → Page → Page → Type 0
GroupsRan s gs p p' = (b : Board) → BoardAt b s → Appended p (groups_text b 1 gs) p'

-- ---- a sheet

-- what it prints is appended
abbrev pub ScriptRan : Script → Page → Page → Type 0
ScriptRan s p p' = Appended p (script_text s) p'
