-- A board that lost power and was opened again with four main segments restored from all its backup segments, and its first
-- checkpoint after that (SPECIFICATION 17.4): 6 main segments, 4 backup segments, 1 block, and one client, whose share and limit are all
-- backup segments.
--
-- The first life: a formatted image is opened; a byte is written to each of main segments 0 to 4; a checkpoint; another byte is
-- written to each of main segments 0 to 3, which copies each of them first, to the lowest backup segment that is unpaired; power fails.
-- The second life is an opening of what is left. A write to main segment 4 is refused with 9, and one to main segment 5 is served. Then
-- comes a checkpoint, which turns every state to 1, and now main segment 4 can be written: all backup segments are paired, and it takes
-- the lowest whose main segment is in state 1, which is backup segment 0 (SPECIFICATION 3.4). Proved in proofs/Restored.antt.
use Rattle.std.specs.Prelude.{ℕ, ◌≡◌, List, [], ◌∷◌, ◌++◌, take, drop, replicate}
use Rattle.model.specs.declared.Layout.{Layout}
use Rattle.model.specs.Words.{Image, Bytes}
use Rattle.model.specs.Layout.{line_size, pairs_at, unpaired}
use Rattle.model.specs.Session.{adr}
use Rattle.model.specs.Container.{active_line}
use Rattle.model.specs.Ops.{Trace}
use Rattle.model.specs.Outcome.{Outcome}
use Rattle.model.specs.Format.{container, formatted}
use Rattle.model.specs.Open.{open_status}
use Rattle.model.specs.Reads.{checkpoint_block}
use Rattle.model.specs.Reference.{Page}
use Rattle.model.specs.History.{State}
use Rattle.model.specs.CrashSafety.{between, Recovers, adr_module}
use Rattle.cases.specs.Turns.{Point, begin, Turn, turn, turns, Supposed}
use Rattle.cases.specs.Table.{Case, sizes, long_trace, lent_alone, writes, turn_write, checkpoint, case, AsExpected, calls}
use Rattle.cases.specs.Cut.{MayLeave, CutCheckpoint}

abbrev pub l641 : Layout
l641 = sizes 6 4 1

-- a trace, long enough for every opening
abbrev pub board_trace : Trace
board_trace = replicate 651 0

-- the byte x written to main segment i, at its start
abbrev pub put : ℕ → ℕ → Turn
put i x = turn_write (writes i 0 (x ∷ [])) long_trace

-- ---- the first life

abbrev pub formatted_board : Point
formatted_board = begin l641 adr (formatted l641) (lent_alone l641 board_trace)

abbrev pub first_life : List Turn
first_life =
    put 0 10 ∷ put 1 11 ∷ put 2 12 ∷ put 3 13 ∷ put 4 14 ∷ checkpoint
    ∷ put 0 20 ∷ put 1 21 ∷ put 2 22 ∷ put 3 23 ∷ []

-- segments of which only the first byte was written, from these bytes
abbrev pub segments : List ℕ → List ℕ
segments [] = []
segments (x ∷ xs) = (x ∷ replicate 255 0) ++ segments xs

-- what is left
abbrev pub left_board : Image
left_board =
    container l641 1 (replicate line_size 0) (2 ∷ 2 ∷ 2 ∷ 2 ∷ 1 ∷ 0 ∷ replicate 58 0) (0 ∷ 1 ∷ 2 ∷ 3 ∷ replicate 60 unpaired)
    (segments (20 ∷ 21 ∷ 22 ∷ 23 ∷ 14 ∷ 0 ∷ []) ++ segments (10 ∷ 11 ∷ 12 ∷ 13 ∷ []))

-- ---- the second life

abbrev pub restored_board : Point
restored_board = begin l641 adr left_board (lent_alone l641 board_trace)

-- the active states of the main segments, and the pairs of the backup segments: six and four here
abbrev pub board_of : Layout → State → List ℕ
board_of l s = take l.mains (drop (active_line s.device.image) s.device.image) ++ take l.backups (drop pairs_at s.device.image)

abbrev pub board : State → List ℕ
board s = board_of l641 s

abbrev pub on_board : Outcome → State → List ℕ
on_board o s = board s

-- its calls, in their order: status, number of operations, states, pairs
unfoldable pub story : List Case
story =
    case 1 (put 4 34) on_board ((9 ∷ 0 ∷ []) ++ (2 ∷ 2 ∷ 2 ∷ 2 ∷ 1 ∷ 0 ∷ []) ++ (0 ∷ 1 ∷ 2 ∷ 3 ∷ []))
    ∷ case 2 (put 5 35) on_board ((0 ∷ 1 ∷ []) ++ (2 ∷ 2 ∷ 2 ∷ 2 ∷ 1 ∷ 0 ∷ []) ++ (0 ∷ 1 ∷ 2 ∷ 3 ∷ []))
    ∷ case 3 checkpoint on_board ((0 ∷ 18 ∷ []) ++ (1 ∷ 1 ∷ 1 ∷ 1 ∷ 1 ∷ 1 ∷ []) ++ (0 ∷ 1 ∷ 2 ∷ 3 ∷ []))
    ∷ case 4 (put 4 34) on_board ((0 ∷ 43 ∷ []) ++ (1 ∷ 1 ∷ 1 ∷ 1 ∷ 2 ∷ 1 ∷ []) ++ (4 ∷ 1 ∷ 2 ∷ 3 ∷ []))
    ∷ []

-- the same without the write to main segment 5, which stays without a checkpoint
unfoldable pub shorter : List Case
shorter =
    case 1 (put 4 34) on_board ((9 ∷ 0 ∷ []) ++ (2 ∷ 2 ∷ 2 ∷ 2 ∷ 1 ∷ 0 ∷ []) ++ (0 ∷ 1 ∷ 2 ∷ 3 ∷ []))
    ∷ case 2 checkpoint on_board ((0 ∷ 14 ∷ []) ++ (1 ∷ 1 ∷ 1 ∷ 1 ∷ 1 ∷ 0 ∷ []) ++ (0 ∷ 1 ∷ 2 ∷ 3 ∷ []))
    ∷ case 3 (put 4 34) on_board ((0 ∷ 43 ∷ []) ++ (1 ∷ 1 ∷ 1 ∷ 1 ∷ 2 ∷ 0 ∷ []) ++ (4 ∷ 1 ∷ 2 ∷ 3 ∷ []))
    ∷ []

-- where it stands before the checkpoint; and the page of the first life's checkpoint, and that of this one
abbrev pub before_checkpoint : Point
before_checkpoint = turn (turn restored_board (put 4 34)) (put 5 35)

abbrev pub old_page : Page
old_page = segments (10 ∷ 11 ∷ 12 ∷ 13 ∷ 14 ∷ 0 ∷ [])

abbrev pub new_page : Page
new_page = segments (10 ∷ 11 ∷ 12 ∷ 13 ∷ 14 ∷ 35 ∷ [])

-- ---- the story

pub record RestoredStory : Type 0 where
  -- the first life is a history that demand 3 speaks of, and a crash after it may leave this image
  pub first_bytes : Bytes (formatted l641)
  pub first_opens : open_status l641 adr (formatted l641) (lent_alone l641 board_trace) ≡ 0
  pub first_permitted : Supposed adr formatted_board first_life
  pub left : MayLeave adr_module (turns formatted_board first_life).state between left_board
  -- so is the second; its opening shows the checkpoint of the first, and leaves these states and pairs
  pub bytes : Bytes left_board
  pub opens : Recovers l641 adr left_board (lent_alone l641 board_trace) old_page
  pub restored : board restored_board.state ≡ (2 ∷ 2 ∷ 2 ∷ 2 ∷ 1 ∷ 0 ∷ []) ++ (0 ∷ 1 ∷ 2 ∷ 3 ∷ [])
  -- its calls are permitted and answer so; the crash inside its checkpoint
  pub permitted : Supposed adr restored_board (calls story)
  pub answered : AsExpected restored_board story
  pub cut : CutCheckpoint 18 before_checkpoint old_page new_page
  -- without the write to main segment 5
  pub untouched_permitted : Supposed adr restored_board (calls shorter)
  pub untouched : AsExpected restored_board shorter
  pub empty : checkpoint_block l641 (turns restored_board (calls shorter)).state.device.image 5 0 ≡ []
