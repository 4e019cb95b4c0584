-- The same bench on a module of kind 1 (SPECIFICATION 17.10; 6.10 and 7.6), where no trace has a write-back: 2 main segments, 1 backup
-- segment, 1 block, and one client, as in 17.2. Opening has 65 operations in place of 73, a checkpoint 12 with any number of dirty blocks, a
-- write that takes a new backup segment 32 for each block and 4 beside those of its words, one that copies to its own 32 for each dirty block
-- and 3 beside those, and a discard 32 for each dirty block, as ever. An opening is refused with 5 for a kind that there is not, and may stand
-- in the story all the same: of a served one alone is its kind supposed. A cut inside the checkpoint shows the old page up to the store of the
-- epoch, and from there on the new one alone. Proved in proofs/Eadr.antt.
use Rattle.std.specs.Prelude.{ℕ, ◌≡◌, List, [], ◌∷◌, ◌++◌, map, replicate}
use Rattle.model.specs.Session.{eadr, zero_session}
use Rattle.model.specs.Ops.{Op, store, clwb, sfence, op_store, op_clwb, op_sfence}
use Rattle.model.specs.Outcome.{Outcome}
use Rattle.model.specs.Open.{open_outcome}
use Rattle.model.specs.Reference.{Page, open_args}
use Rattle.model.specs.History.{State}
use Rattle.model.specs.CrashSafety.{between, during, eadr_module}
use Rattle.cases.specs.Turns.{Point, begin, Turn, call_at, turn, Supposed}
use Rattle.cases.specs.Table.{Case, answer, l211, fresh, long_trace, lent_alone, write, checkpoint, a_word, case, answer_only, AsExpected, calls}
use Rattle.cases.specs.Cut.{OnlyShows, zeros}
use Rattle.cases.specs.Discards.{discard}

-- 1 for each store on a call's trace, 2 for each write-back, 3 for each fence
abbrev pub op_kind : Op → ℕ
op_kind (store p w) = op_store
op_kind (clwb p) = op_clwb
op_kind sfence = op_sfence

abbrev pub op_kinds : Outcome → State → List ℕ
op_kinds o s = map op_kind o.ops

-- an opening that is given the kind d
abbrev pub open_as : ℕ → Turn
open_as d = record { args = open_args l211 d; trace = long_trace }

-- the calls, in their order: status and number of operations; of the first checkpoint also what its operations are. Call 3 copies to a new
-- backup segment, and call 7 to that one, the one dirty block. The opening of call 8 is refused for its kind, so that call 9 is with the
-- session of zeros; that of call 10 copies main segment 0 back and fills main segment 1 with zeros
unfoldable pub story : List Case
story =
    case 1 (write 0 0 a_word) answer_only (0 ∷ 1 ∷ [])
    ∷ case 2 checkpoint op_kinds (0 ∷ 12 ∷ 3 ∷ replicate 8 1 ++ 3 ∷ 1 ∷ 3 ∷ [])
    ∷ case 3 (write 0 0 a_word) answer_only (0 ∷ 37 ∷ [])
    ∷ case 4 (write 0 8 a_word) answer_only (0 ∷ 1 ∷ [])
    ∷ case 5 (discard 0) answer_only (0 ∷ 32 ∷ [])
    ∷ case 6 checkpoint answer_only (0 ∷ 12 ∷ [])
    ∷ case 7 (write 0 0 a_word) answer_only (0 ∷ 36 ∷ [])
    ∷ case 8 (open_as 2) answer_only (5 ∷ 0 ∷ [])
    ∷ case 9 (write 0 0 a_word) answer_only (1 ∷ 0 ∷ [])
    ∷ case 10 (open_as eadr) answer_only (0 ∷ 65 ∷ [])
    ∷ []

abbrev pub opened : Point
opened = begin l211 eadr fresh (lent_alone l211 long_trace)

-- where it stands before the checkpoint, and the page that this makes
abbrev pub written : Point
written = turn opened (write 0 0 a_word)

abbrev pub word_page : Page
word_page = a_word ++ replicate 504 0

-- ---- the story

pub record EadrStory : Type 0 where
  -- the least trace that an opening needs, which is shorter than that of kind 0
  pub short : answer (open_outcome l211 eadr fresh (lent_alone l211 (replicate 194 0))) ≡ 11 ∷ 0 ∷ []
  pub opens : answer (open_outcome l211 eadr fresh (lent_alone l211 (replicate 195 0))) ≡ 0 ∷ 65 ∷ []
  -- there is no kind 2
  pub refused : answer (open_outcome l211 2 fresh (lent_alone l211 long_trace)) ≡ 5 ∷ 0 ∷ []
  pub zero : (open_outcome l211 2 fresh (lent_alone l211 long_trace)).session ≡ zero_session
  -- the calls are such as demand 3 speaks of, the refused opening of kind 2 among them, and answer so
  pub permitted : Supposed eadr opened (calls story)
  pub answered : AsExpected opened story
  -- a cut of the checkpoint after 10 and after 11 of its 12 operations, and at its end
  pub before : OnlyShows eadr_module written.state (during (call_at written checkpoint) 10) zeros
  pub stored : OnlyShows eadr_module written.state (during (call_at written checkpoint) 11) word_page
  pub after : OnlyShows eadr_module (turn written checkpoint).state between word_page
