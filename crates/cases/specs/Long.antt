-- Long writes (SPECIFICATION 17.5): 1 main segment, 1 backup segment, 4 blocks, and one client, whose share and limit are 1.
--
-- A formatted image is opened (L1). 700 bytes are written from block 0 on (L2); a checkpoint (L3); 700 bytes are written from block 1 on,
-- which copies the main segment to the backup segment first (L4); a checkpoint (L5); 700 bytes are written from block 0 on again, which
-- copies the three blocks that L4 made dirty (L6); and four writes at the bounds of refusal 8 (L7). The bytes of one write are all
-- alike, and each write has others; that bytes keep their order is not for this story to show, but for the definitions (`over_the_end`
-- in model/proofs/Anchors.antt) and for programs (`bench`). Proved in proofs/Long.antt.
use Rattle.std.specs.Prelude.{ℕ, ◌*◌, ◌<◌, ◌≡◌, List, [], ◌∷◌, ◌++◌, take, drop, replicate}
use Rattle.model.specs.declared.Layout.{Layout}
use Rattle.model.specs.Words.{Bytes}
use Rattle.model.specs.Session.{adr, dirty_word}
use Rattle.model.specs.Ops.{op_numbers, Trace, encode}
use Rattle.model.specs.Outcome.{Outcome}
use Rattle.model.specs.Format.{formatted}
use Rattle.model.specs.Open.{open_outcome}
use Rattle.model.specs.Write.{WriteArgs, write_args_of}
use Rattle.model.specs.Reference.{Page}
use Rattle.model.specs.History.{State}
use Rattle.model.specs.CrashSafety.{Reads, between, during, adr_module}
use Rattle.cases.specs.Turns.{Point, begin, Turn, call_at, turn, Supposed}
use Rattle.cases.specs.Table.{Case, answer, sizes, lent_alone, turn_write, checkpoint, case, AsExpected, calls}
use Rattle.cases.specs.Cut.{OnlyShows, CutCheckpoint}

abbrev pub l114 : Layout
l114 = sizes 1 1 4

-- a trace, long enough for every call of the story
abbrev pub longest_trace : Trace
longest_trace = replicate 717 0

-- n bytes v written to main segment 0 from this block and offset on
abbrev pub filling : ℕ → ℕ → ℕ → ℕ → WriteArgs
filling block offset n v = write_args_of 0 0 block offset (replicate n v)

abbrev pub fill : ℕ → ℕ → ℕ → ℕ → Turn
fill block offset n v = turn_write (filling block offset n v) longest_trace

-- the word of dirty blocks that a call answers
abbrev pub marks : Outcome → State → List ℕ
marks o s = dirty_word o.session 0 ∷ []

-- kind and place of its operation k
abbrev pub operation : ℕ → Outcome → List ℕ
operation k o = take 2 (drop (op_numbers * k) (encode o.ops))

abbrev pub marks_and_ends : Outcome → State → List ℕ
marks_and_ends o s = marks o s ++ operation 0 o ++ operation 88 o

-- the calls, in their order: status, number of operations, dirty blocks (7: blocks 0 to 2; 14: blocks 1 to 3; 15: all); of L2 also its
-- first and its last operation, which are stores at 536 and 1,240
unfoldable pub story : List Case
story =
    case 2 (fill 0 30 700 5) marks_and_ends (0 ∷ 89 ∷ 7 ∷ 1 ∷ 536 ∷ 1 ∷ 1240 ∷ [])
    ∷ case 3 checkpoint marks (0 ∷ 26 ∷ 7 ∷ [])
    ∷ case 4 (fill 1 30 700 6) marks (0 ∷ 239 ∷ 14 ∷ [])
    ∷ case 5 checkpoint marks (0 ∷ 26 ∷ 14 ∷ [])
    ∷ case 6 (fill 0 30 700 7) marks (0 ∷ 201 ∷ 7 ∷ [])
    ∷ case 7 (fill 2 30 700 8) marks (8 ∷ 0 ∷ 7 ∷ [])
    ∷ case 7 (fill 0 256 1 8) marks (8 ∷ 0 ∷ 7 ∷ [])
    ∷ case 7 (fill 0 30 994 8) marks (0 ∷ 125 ∷ 15 ∷ [])
    ∷ case 7 (fill 0 30 995 8) marks (8 ∷ 0 ∷ 15 ∷ [])
    ∷ []

-- where it stands after L1, L2, L3, L4 and L5
abbrev pub opened : Point
opened = begin l114 adr (formatted l114) (lent_alone l114 longest_trace)

abbrev pub after_l2 : Point
after_l2 = turn opened (fill 0 30 700 5)

abbrev pub after_l3 : Point
after_l3 = turn after_l2 checkpoint

abbrev pub after_l4 : Point
after_l4 = turn after_l3 (fill 1 30 700 6)

abbrev pub after_l5 : Point
after_l5 = turn after_l4 checkpoint

-- the pages of the first opening, of the first checkpoint, and of the second: L4's bytes over L2's
abbrev pub no_bytes : Page
no_bytes = replicate 1024 0

abbrev pub first_bytes : Page
first_bytes = replicate 30 0 ++ replicate 700 5 ++ replicate 294 0

abbrev pub second_bytes : Page
second_bytes = replicate 30 0 ++ replicate 256 5 ++ replicate 700 6 ++ replicate 38 0

-- ---- the story

pub record LongStory : Type 0 where
  -- it is a history that demand 3 speaks of, and its calls answer so
  pub bytes : Bytes (formatted l114)
  pub opens : answer (open_outcome l114 adr (formatted l114) (lent_alone l114 longest_trace)) ≡ 0 ∷ 145 ∷ []
  pub permitted : Supposed adr opened (calls story)
  pub answered : AsExpected opened story
  -- the crash inside L3
  pub cut : CutCheckpoint 26 after_l2 no_bytes first_bytes
  -- a crash after any of the 239 operations of L4
  pub copying : (p : ℕ) → p < 239 → OnlyShows adr_module after_l3.state (during (call_at after_l3 (fill 1 30 700 6)) p) first_bytes
  pub copied : OnlyShows adr_module after_l4.state between first_bytes
  -- both reads after L5
  pub reads : Reads l114 after_l5.state.device.image second_bytes second_bytes
