-- What may happen where a module of kind 0 is opened as kind 1 (SPECIFICATION 8.10): no trace has a write-back then, and a crash may take a
-- finished checkpoint back whole. Demand 3 supposes that every served opening is given the module's own kind, and it fails without that. A
-- board of 1 main segment, 1 backup segment and 1 block, formatted and durable, with one client. The other way round is safe (`InDoubtAdr` in
-- model's specs/Domains.antt). Proved in proofs/WrongKind.antt.
use Rattle.std.specs.Prelude.{ℕ, ◌≡◌, List, [], ◌∷◌, ◌++◌, replicate}
use Rattle.model.specs.Words.{Image}
use Rattle.model.specs.Session.{adr, eadr}
use Rattle.model.specs.Format.{formatted}
use Rattle.model.specs.Crash.{CrashImage}
use Rattle.model.specs.Reference.{Page, open_args}
use Rattle.model.specs.History.{AllPermitted, AllOwnDomain}
use Rattle.model.specs.CrashSafety.{Recovers, between, Module, WithinAdr, adr_module}
use Rattle.cases.specs.Turns.{Point, begin, Turn, turns, made}
use Rattle.cases.specs.Table.{Case, long_trace, write, checkpoint, a_word, case, answer_only, AsExpected, calls}
use Rattle.cases.specs.Cut.{MayLeave, OnlyShows}
use Rattle.faults.specs.Faults.{lent_long, l111, two_calls}

-- what was durable at the start, and the two pages: of the format, and with the word
abbrev pub board : Image
board = formatted l111

abbrev pub no_word : Page
no_word = replicate 256 0

abbrev pub the_word : Page
the_word = a_word ++ replicate 248 0

-- ---- the calls: status and number of operations

-- a word written and a checkpoint, by a session of kind 1
unfoldable pub unflushed : List Case
unflushed = case 1 (write 0 0 a_word) answer_only (0 ∷ 1 ∷ []) ∷ case 2 checkpoint answer_only (0 ∷ 12 ∷ []) ∷ []

-- the same after another opening, which is given kind 1
abbrev pub open_as : ℕ → Turn
open_as d = record { args = open_args l111 d; trace = long_trace }

unfoldable pub opened_wrong : List Case
opened_wrong = case 0 (open_as eadr) answer_only (0 ∷ 33 ∷ []) ∷ unflushed

-- ---- what is lost

-- all calls are served and played whole, so that the word is in the last checkpoint; a crash of a module of kind 0 may leave what was
-- durable at the start
pub record LostSave (p : Point) (cs : List Case) : Type 0 where
  pub permitted : AllPermitted (made p (calls cs))
  pub answered : AsExpected p cs
  pub saved : (turns p (calls cs)).state.model.checkpoint ≡ the_word
  pub crash : MayLeave adr_module (turns p (calls cs)).state between board

-- a module whose cache may lose what was not written back, as one of kind 0, and which is opened as kind 1
abbrev pub lossy : Module
lossy = record { domain = eadr; leaves = CrashImage }

-- OPENED AS KIND 1
pub record WrongKind : Type 0 where
  -- in the first opening; and in a later one, on what an opening of kind 0 left durable
  pub first : LostSave (begin l111 eadr board (lent_long l111)) unflushed
  pub later : LostSave (begin l111 adr board (lent_long l111)) opened_wrong
  -- demand 3 speaks of neither: not of the first, since a module whose cache may lose lines, opened as kind 1, is not among those of
  -- `WithinAdr`; not of the second, since its served opening as kind 1 is what the supposition of the module's own kind excludes
  pub outside : WithinAdr lossy → ⊥
  pub foreign : AllOwnDomain adr (begin l111 adr board (lent_long l111)).state (made (begin l111 adr board (lent_long l111)) (calls opened_wrong)) → ⊥
  -- opening serves what is left, as either kind, and shows zeros
  pub shown : Recovers l111 adr board (lent_long l111) no_word
  pub shown_wrong : Recovers l111 eadr board (lent_long l111) no_word
  -- opened as kind 0 alone the same calls leave what shows the word alone
  pub right : OnlyShows adr_module (turns (begin l111 adr board (lent_long l111)) two_calls).state between the_word
