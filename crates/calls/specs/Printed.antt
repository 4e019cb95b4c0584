-- What a bench sheet prints (SPECIFICATION 16): a function of its bytes (`printed`), by the outcomes and steps of a module in a history,
-- in which one client, whose share and limit are all backup segments, makes every write. Sheets with what they print, computed from
-- this: crate benches. Assumes nothing.
use Rattle.std.specs.Prelude.{ℕ, suc, ◌+◌, ◌*◌, Bool, cond, List, [], ◌∷◌, ◌++◌, length, replicate}
use Prim.Native.String.{String}
use Rattle.model.specs.Session.{adr}
use Rattle.model.specs.declared.Layout.{Layout}
use Rattle.model.specs.Layout.{block_ops}
use Rattle.model.specs.Container.{committed_epoch}
use Rattle.model.specs.Format.{formatted}
use Rattle.model.specs.Ops.{op_numbers, Trace}
use Rattle.model.specs.Clients.{Clients}
use Rattle.model.specs.Outcome.{Lent, lent, Outcome}
use Rattle.model.specs.Open.{open_outcome}
use Rattle.model.specs.Write.{write_args_of}
use Rattle.model.specs.Reference.{CallArgs, write_args, checkpoint_args}
use Rattle.model.specs.History.{Device, Call, outcome, device_step, start}
use Rattle.model.specs.Shares.{alone}
use Rattle.text.specs.Text.{text}
use Rattle.lines.specs.Line.{most_size}
use Rattle.parser.specs.Script.{Script, bad, good, Group, default_backups, parse_by}
use Rattle.printer.specs.Decimal.{decimal}

-- the trace that every call gets: its numbers are those of the most operations of an opening, which always suffice
-- (SheetTrace.antt)
abbrev pub trace_numbers : ℕ
trace_numbers = op_numbers * (block_ops * (most_size * most_size) + 1)

unfoldable pub blank : Trace
blank = replicate trace_numbers 0

-- ---- where a sheet stands

-- the module, and the records of clients that the next call is lent: those that the last one left
pub record Board : Type 0 where
  pub device : Device
  pub clients : Clients

-- the call with these arguments there; what it answers; and where it leaves the sheet
abbrev pub call_on : Board → CallArgs → Call
call_on b a = record { args = a; lends = lent b.clients blank }

abbrev pub answer_on : Board → CallArgs → Outcome
answer_on b a = outcome b.device (call_on b a)

unfoldable pub board_step : Board → CallArgs → Board
board_step b a = record { device = device_step b.device (call_on b a); clients = (answer_on b a).clients }

-- ---- a call's answer

-- its number and its operations (the trade: orders)
unfoldable pub answer_text : String → Outcome → List ℕ
answer_text key o = text key ++ decimal o.status ++ text " orders=" ++ decimal (length o.ops)

-- ---- a group

-- its write, by the one client
abbrev pub write_of : Group → CallArgs
write_of g = write_args (write_args_of 0 g.main g.block g.offset g.bytes)

-- a checkpoint runs if it is asked for, whatever the write answered; where it is not, its text says so
unfoldable pub checkpointed : Board → Bool → Board
checkpointed b wanted = cond wanted (board_step b checkpoint_args) b

unfoldable pub checkpoint_text : Board → Bool → List ℕ
checkpoint_text b wanted = cond wanted (answer_text "save=" (answer_on b checkpoint_args)) (text "save=- orders=0")

-- where a group leaves the sheet
unfoldable pub after_group : Board → Group → Board
after_group b g = checkpointed (board_step b (write_of g)) g.checkpoint

-- the line of group n; the epoch is the one after the group
unfoldable pub group_text : Board → ℕ → Group → List ℕ
group_text b n g =
    text "step=" ++ decimal n
    ++ text " " ++ answer_text "write=" (answer_on b (write_of g))
    ++ text " " ++ checkpoint_text (board_step b (write_of g)) g.checkpoint
    ++ text " epoch=" ++ decimal (committed_epoch (after_group b g).device.image)
    ++ text "\n"

-- the lines of groups from number n on
unfoldable pub groups_text : Board → ℕ → List Group → List ℕ
groups_text b n [] = []
groups_text b n (g ∷ gs) = group_text b n g ++ groups_text (after_group b g) (suc n) gs

-- ---- a sheet

-- what the opening is lent: the one client, which has taken nothing
abbrev pub first_lent : Layout → Lent
first_lent l = lent (alone l 0) blank

-- where the opening of a formatted image leaves the sheet
unfoldable pub opened_board : Layout → Board
opened_board l = record { device = (start l adr (formatted l) (first_lent l)).device; clients = (open_outcome l adr (formatted l) (first_lent l)).clients }

-- the first line: its answer
unfoldable pub open_text : Layout → List ℕ
open_text l = answer_text "open=" (open_outcome l adr (formatted l) (first_lent l)) ++ text "\n"

-- all that a sheet prints: a bad one only its number
unfoldable pub script_text : Script → List ℕ
script_text (bad n) = text "sheet=" ++ decimal n ++ text "\n"
script_text (good l gs) = open_text l ++ groups_text (opened_board l) 1 gs

-- WHAT A SHEET PRINTS, by its bytes: under any rule for a line of backup segments that is left out, and under the one of today
abbrev pub printed_by : (ℕ → ℕ) → List ℕ → List ℕ
printed_by rule input = script_text (parse_by rule input)

abbrev pub printed : List ℕ → List ℕ
printed input = printed_by default_backups input
