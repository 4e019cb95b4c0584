-- Edits dropped (SPECIFICATION 17.8): the board of 17.2, 2 main segments, 1 backup segment, 1 block, and one client. Two bytes are written to
-- main segment 0 and saved; others are written to it, which copies it first, and two to main segment 1, which is empty. Then the edits of
-- both are dropped: the first reads as it was saved, the second as zeros. Both stay dirty, so the checkpoint that follows flushes their
-- blocks, and main segment 1 has a checkpoint from then on, of zeros. A power cut inside a discard, or after that checkpoint, shows what was
-- saved first. Proved in proofs/Discards.antt.
use Rattle.std.specs.Prelude.{ℕ, ◌<◌, ◌≡◌, List, [], ◌∷◌, ◌++◌, take, drop, replicate}
use Rattle.model.specs.Layout.{block_size}
use Rattle.model.specs.Container.{active_line}
use Rattle.model.specs.Session.{adr, dirty_word}
use Rattle.model.specs.Ops.{Trace}
use Rattle.model.specs.Outcome.{Outcome}
use Rattle.model.specs.Reads.{working_block, checkpoint_block}
use Rattle.model.specs.Reference.{Page, discard_args}
use Rattle.model.specs.History.{State}
use Rattle.model.specs.CrashSafety.{between, during, adr_module}
use Rattle.cases.specs.Turns.{Point, Turn, call_at, turns, Supposed}
use Rattle.cases.specs.Table.{Case, l211, long_trace, write, checkpoint, case, AsExpected, calls, opened}
use Rattle.cases.specs.Cut.{OnlyShows}

-- the edits of main segment i dropped
abbrev pub turn_discard : ℕ → Trace → Turn
turn_discard i t = record { args = discard_args i; trace = t }

abbrev pub discard : ℕ → Turn
discard i = turn_discard i long_trace

-- what is read after a call: the active states; the first two bytes of each main segment; dirty segments, and dirty blocks of each
abbrev pub seen : Outcome → State → List ℕ
seen o s =
    take 2 (drop (active_line s.device.image) s.device.image)
    ++ take 2 (working_block l211 s.device.image 0 0) ++ take 2 (working_block l211 s.device.image 1 0)
    ++ s.device.session.dirty_segments ∷ dirty_word s.device.session 0 ∷ dirty_word s.device.session 1 ∷ []

-- the numbers expected: status and operations; what is read
abbrev pub seeing : ℕ → ℕ → List ℕ → List ℕ → List ℕ → List ℕ → List ℕ
seeing status ops states first second dirty = (status ∷ ops ∷ []) ++ states ++ first ++ second ++ dirty

-- saved, and edited
unfoldable pub edits : List Case
edits =
    case 1 (write 0 0 (10 ∷ 11 ∷ [])) seen (seeing 0 1 (0 ∷ 0 ∷ []) (10 ∷ 11 ∷ []) (0 ∷ 0 ∷ []) (1 ∷ 1 ∷ 0 ∷ []))
    ∷ case 2 checkpoint seen (seeing 0 18 (1 ∷ 0 ∷ []) (10 ∷ 11 ∷ []) (0 ∷ 0 ∷ []) (0 ∷ 1 ∷ 0 ∷ []))
    ∷ case 3 (write 0 0 (20 ∷ 21 ∷ [])) seen (seeing 0 43 (2 ∷ 0 ∷ []) (20 ∷ 21 ∷ []) (0 ∷ 0 ∷ []) (1 ∷ 1 ∷ 0 ∷ []))
    ∷ case 4 (write 1 0 (30 ∷ 31 ∷ [])) seen (seeing 0 1 (2 ∷ 0 ∷ []) (20 ∷ 21 ∷ []) (30 ∷ 31 ∷ []) (3 ∷ 1 ∷ 1 ∷ []))
    ∷ []

-- dropped; no such main segment; a trace too short; and then saved. A main segment that is not dirty needs no trace
unfoldable pub drops : List Case
drops =
    case 5 (discard 0) seen (seeing 0 32 (2 ∷ 0 ∷ []) (10 ∷ 11 ∷ []) (30 ∷ 31 ∷ []) (3 ∷ 1 ∷ 1 ∷ []))
    ∷ case 6 (discard 1) seen (seeing 0 32 (2 ∷ 0 ∷ []) (10 ∷ 11 ∷ []) (0 ∷ 0 ∷ []) (3 ∷ 1 ∷ 1 ∷ []))
    ∷ case 7 (discard 2) seen (seeing 6 0 (2 ∷ 0 ∷ []) (10 ∷ 11 ∷ []) (0 ∷ 0 ∷ []) (3 ∷ 1 ∷ 1 ∷ []))
    ∷ case 8 (turn_discard 0 (replicate 95 0)) seen (seeing 11 0 (2 ∷ 0 ∷ []) (10 ∷ 11 ∷ []) (0 ∷ 0 ∷ []) (3 ∷ 1 ∷ 1 ∷ []))
    ∷ case 9 checkpoint seen (seeing 0 22 (1 ∷ 1 ∷ []) (10 ∷ 11 ∷ []) (0 ∷ 0 ∷ []) (0 ∷ 1 ∷ 1 ∷ []))
    ∷ case 10 (turn_discard 0 []) seen (seeing 0 0 (1 ∷ 1 ∷ []) (10 ∷ 11 ∷ []) (0 ∷ 0 ∷ []) (0 ∷ 1 ∷ 1 ∷ []))
    ∷ []

-- where the first discard is made, and where the story ends
abbrev pub edited : Point
edited = turns opened (calls edits)

abbrev pub dropped : Point
dropped = turns opened (calls (edits ++ drops))

-- what was saved
abbrev pub saved_page : Page
saved_page = 10 ∷ 11 ∷ replicate 510 0

-- ---- the story

pub record DiscardStory : Type 0 where
  pub permitted : Supposed adr opened (calls (edits ++ drops))
  pub answered : AsExpected opened (edits ++ drops)
  -- a cut after any number of the first discard's operations
  pub cut : (n : ℕ) → n < 32 → OnlyShows adr_module edited.state (during (call_at edited (discard 0)) n) saved_page
  -- and one at the end
  pub after : OnlyShows adr_module dropped.state between saved_page
  -- the checkpoint read of main segment 1: nothing before its checkpoint, and zeros then
  pub before : checkpoint_block l211 edited.state.device.image 1 0 ≡ []
  pub silent : checkpoint_block l211 dropped.state.device.image 1 0 ≡ replicate block_size 0
