-- The bench cases P1 to P10 of SPECIFICATION 17 as one table. Each row holds the numbers that the definitions of `model` give
-- and those that are expected; `TableHolds` says that they agree in every row. P2's two rows are openings of one fresh image,
-- each made alone; P3 to P9 are one history from there, each call made by the step of model's histories. There is one client, whose
-- share and limit are all backup segments (the trade: one console with share and limit S), the history is one run (Turns.antt), and the
-- module is of kind 0 (specs/Eadr.antt has one of kind 1).
-- Expected are the numbers that the specification states in these cases and, beside them, what its rules give: 0 for a served call, no
-- operations of a refused one, the two words of P3, the two operations of P3, 43 and 1 of P8 and P9, and in P8 that the backup
-- segment is free after the checkpoint and no more after the write that takes it. Proved in proofs/Table.antt.
use Rattle.std.specs.Prelude.{ℕ, ◌≡◌, cond, List, [], ◌∷◌, ◌++◌, map, length, take, drop, replicate}
use Rattle.model.specs.declared.Layout.{Layout}
use Rattle.model.specs.declared.Session.{Session}
use Rattle.model.specs.Words.{Image}
use Rattle.model.specs.Layout.{line_size, unpaired, image_size}
use Rattle.model.specs.Session.{adr}
use Rattle.model.specs.Container.{active_line, seg_state, backup_to_main, is_free}
use Rattle.model.specs.Ops.{Trace, encode}
use Rattle.model.specs.Outcome.{Lent, lent, Outcome}
use Rattle.model.specs.Format.{container, format_outcome}
use Rattle.model.specs.Open.{open_outcome}
use Rattle.model.specs.Reads.{read_status, checkpoint_part}
use Rattle.model.specs.Write.{WriteArgs, write_args_of, write_outcome}
use Rattle.model.specs.Reference.{write_args, checkpoint_args}
use Rattle.model.specs.History.{State}
use Rattle.model.specs.Shares.{alone}
use Rattle.cases.specs.Turns.{Point, begin, Turn, answer_at, turn}

-- ---- rows

pub record Row : Type 0 where
  -- the number of the case in SPECIFICATION 17.2, or of the call in a history of its own
  pub case : ℕ
  pub given : List ℕ
  pub expected : List ℕ

abbrev pub row : ℕ → List ℕ → List ℕ → Row
row n given expected = record { case = n; given = given; expected = expected }

-- the status of a call and its number of operations
abbrev pub answer : Outcome → List ℕ
answer o = o.status ∷ length o.ops ∷ []

-- ---- sizes, traces and calls

abbrev pub sizes : ℕ → ℕ → ℕ → Layout
sizes m s b = record { mains = m; backups = s; blocks = b }

abbrev pub l211 : Layout
l211 = sizes 2 1 1

-- an image as format leaves it
abbrev pub fresh : Image
fresh = (format_outcome l211 (replicate 1280 77)).image

-- a trace, long enough for every call of the history
abbrev pub long_trace : Trace
long_trace = replicate 219 0

-- what an opening is lent: the record of the one client, and a trace
abbrev pub lent_alone : Layout → Trace → Lent
lent_alone l t = lent (alone l 0) t

-- bytes written by that client to block 0 of a main segment
abbrev pub writes : ℕ → ℕ → List ℕ → WriteArgs
writes main offset bytes = write_args_of 0 main 0 offset bytes

abbrev pub turn_write : WriteArgs → Trace → Turn
turn_write w t = record { args = write_args w; trace = t }

abbrev pub write : ℕ → ℕ → List ℕ → Turn
write main offset bytes = turn_write (writes main offset bytes) long_trace

abbrev pub checkpoint : Turn
checkpoint = record { args = checkpoint_args; trace = long_trace }

abbrev pub a_word : List ℕ
a_word = 1 ∷ 2 ∷ 3 ∷ 4 ∷ 5 ∷ 6 ∷ 7 ∷ 8 ∷ []

-- the bytes of P3 and its write
abbrev pub four_bytes : List ℕ
four_bytes = 0xa1 ∷ 0xb2 ∷ 0xc3 ∷ 0xd4 ∷ []

abbrev pub write_four : Turn
write_four = write 0 6 four_bytes

-- ---- the history

-- a call of the history, what is read off it besides its answer, and the numbers expected
pub record Case : Type 0 where
  pub case : ℕ
  pub call : Turn
  pub read : Outcome → State → List ℕ
  pub expected : List ℕ

abbrev pub case : ℕ → Turn → (Outcome → State → List ℕ) → List ℕ → Case
case n c read expected = record { case = n; call = c; read = read; expected = expected }

abbrev pub answer_only : Outcome → State → List ℕ
answer_only o s = []

-- 1 if backup segment 0 is free
abbrev pub backup_free : State → ℕ
backup_free s = cond (is_free (seg_state s.device.image (active_line s.device.image)) (backup_to_main s.device.image) 0) 1 0

unfoldable pub history : List Case
history =
    case 3 write_four (λ o s. encode o.ops) (0 ∷ 2 ∷ 1 ∷ 512 ∷ 0xb2a1000000000000 ∷ 1 ∷ 520 ∷ 0xd4c3 ∷ [])
    ∷ case 4 checkpoint (λ o s. take 2 (drop 192 s.device.image)) (0 ∷ 18 ∷ 1 ∷ 0 ∷ [])
    ∷ case 5 (write 0 0 a_word) (λ o s. take 3 (encode o.ops)) (0 ∷ 43 ∷ 1 ∷ 256 ∷ 0xffffffffffffff00 ∷ [])
    ∷ case 6 (write 0 8 a_word) (λ o s. (checkpoint_part l211 s.device.image 0 0).start ∷ []) (0 ∷ 1 ∷ 1024 ∷ [])
    ∷ case 7 (write 1 0 a_word) (λ o s. read_status l211 s.device.image 1 0 ∷ (checkpoint_part l211 s.device.image 1 0).size ∷ []) (0 ∷ 1 ∷ 0 ∷ 0 ∷ [])
    ∷ case 8 checkpoint (λ o s. backup_free s ∷ []) (0 ∷ 22 ∷ 1 ∷ [])
    ∷ case 8 (write 1 0 a_word) (λ o s. backup_to_main s.device.image 0 ∷ backup_free s ∷ []) (0 ∷ 43 ∷ 1 ∷ 0 ∷ [])
    ∷ case 8 (write 0 0 a_word) answer_only (9 ∷ 0 ∷ [])
    ∷ case 9 (write 1 255 (9 ∷ [])) answer_only (0 ∷ 1 ∷ [])
    ∷ case 9 (write 1 256 (9 ∷ [])) answer_only (8 ∷ 0 ∷ [])
    ∷ case 9 (write 1 0 []) answer_only (8 ∷ 0 ∷ [])
    ∷ []

-- where P3 starts
abbrev pub opened : Point
opened = begin l211 adr fresh (lent_alone l211 long_trace)

-- the row of a call that is made at the point p and leaves the history at the point after
abbrev pub row_of : Point → Case → Point → Row
row_of p c after = row c.case (answer (answer_at p c.call) ++ c.read (answer_at p c.call) after.state) c.expected

-- the calls, one after the other
unfoldable pub follow : List Case → Point → List Row
follow [] p = []
follow (c ∷ cs) p = row_of p c (turn p c.call) ∷ follow cs (turn p c.call)

-- their rows, from the point p on, have what is expected
abbrev pub AsExpected : Point → List Case → Type 0
AsExpected p cs = map (λ (r : Row). r.given) (follow cs p) ≡ map (λ (r : Row). r.expected) (follow cs p)

-- the calls
abbrev pub calls : List Case → List Turn
calls cs = map (λ (c : Case). c.call) cs

-- ---- the cases that stand alone

unfoldable pub size_cases : List Row
size_cases =
    row 1 (image_size l211 ∷ image_size (sizes 64 64 64) ∷ []) (1280 ∷ 2097664 ∷ [])
    ∷ row 1 ((format_outcome (sizes 65 1 1) []).status ∷ (open_outcome (sizes 65 1 1) adr [] (lent_alone (sizes 65 1 1) [])).status ∷ []) (1 ∷ 1 ∷ [])
    ∷ []

unfoldable pub open_cases : List Row
open_cases =
    row 2 (answer (open_outcome l211 adr fresh (lent_alone l211 (replicate 218 0)))) (11 ∷ 0 ∷ [])
    ∷ row 2 (answer (open_outcome l211 adr fresh (lent_alone l211 (replicate 219 0)))) (0 ∷ 73 ∷ [])
    ∷ []

-- state 1, paired, no segment dirty, one block dirty
abbrev pub image10 : Image
image10 =
    container (sizes 1 1 4) 0 (1 ∷ replicate 63 0) (replicate line_size 0) (0 ∷ replicate 63 unpaired) (replicate 2048 0)

abbrev pub session10 : Session
session10 = record { layout = sizes 1 1 4; dirty_segments = 0; dirty_blocks = 4 ∷ replicate 63 0; domain = adr }

unfoldable pub copy_case : List Row
copy_case = row 10 (answer (write_outcome session10 image10 (writes 0 0 a_word) (lent_alone (sizes 1 1 4) long_trace))) (0 ∷ 41 ∷ []) ∷ []

-- ---- the table

unfoldable pub rows : List Row
rows = size_cases ++ open_cases ++ follow history opened ++ copy_case

-- P1 TO P10
abbrev pub TableHolds : Type 0
TableHolds = map (λ r. r.given) rows ≡ map (λ r. r.expected) rows
