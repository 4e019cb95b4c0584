-- Programs in C that carry the operations out themselves: what the contracts of the exported calls say of a call (`Exported`;
-- the functions of src/lib.rt show that they do), and demands 2 and 3 of programs that make their calls so (`CarriedSafety`),
-- whose calls are histories (`CarriedHistories`) and, if they are the same, leave the same (`CarriedSameBoard`). Proved in
-- proofs/Carried.antt. Assumes what driver's specs/Driven.antt does; and of the caller, that he hands over the session's words that the last call
-- left, and carries out the operations that a call reports, the first `ops` on the trace, all of them and in their order, before the next
-- call.
use Rattle.std.specs.Prelude.{ℕ, ◌≡◌}
use Rattle.model.specs.declared.Layout.{Layout}
use Rattle.model.specs.declared.Session.{Session}
use Rattle.model.specs.Words.{Image, Bytes}
use Rattle.model.specs.Ops.{Trace}
use Rattle.model.specs.Clients.{Clients}
use Rattle.model.specs.Outcome.{Lent}
use Rattle.model.specs.Write.{WriteArgs}
use Rattle.model.specs.History.{Call, call_open, call_write, call_discard, call_checkpoint}
use Rattle.clients.specs.Words.{Words}
use Rattle.interface.specs.Interface.{session_in, open_returned, write_returned, discard_returned, checkpoint_returned, Returns}
use Rattle.driver.specs.Stepped.{Report}
use Rattle.driver.specs.Driven.{DrivenHistories, DrivenSameBoard, DrivenReads, DrivenSafety, DrivenOpeningSafety}

-- what an exported call reports: the number that it returned, the session and the records of clients that stand in the words that it left,
-- and the number of operations
abbrev pub report_in : ℕ → Words → Clients → ℕ → Report
report_in number s R ops = record { number = number; session = session_in s; clients = R; ops = ops }

-- a call of the interface on the image I, with what it reports and the trace that it leaves: the contracts of `crpm_open`, and, on
-- words in which the session s stands, of `crpm_write` (whose bytes are bytes), `crpm_discard` (which leaves the words, and records that it
-- is not lent) and `crpm_checkpoint`
pub data Exported (I : Image) (s : Session) : Call → Report → Trace → Type 0 where
  opens : (l : Layout) (d : ℕ) (k : Lent) (number : ℕ) (v : Words) (R : Clients) (t : Trace) (ops : ℕ)
      → Returns (open_returned l d I k.clients k.trace) number v R t ops → Exported I s (call_open l d k) (report_in number v R ops) t
  writes : (u : Words) → session_in u ≡ s → (w : WriteArgs) (k : Lent) (number : ℕ) (v : Words) (R : Clients) (t : Trace) (ops : ℕ) → Bytes w.bytes
      → Returns (write_returned I u k.clients w k.trace) number v R t ops → Exported I s (call_write w k) (report_in number v R ops) t
  discards : (u : Words) → session_in u ≡ s → (i : ℕ) (k : Lent) (number : ℕ) (t : Trace) (ops : ℕ)
      → Returns (discard_returned I u k.clients i k.trace) number u k.clients t ops → Exported I s (call_discard i k) (report_in number u k.clients ops) t
  checkpoints : (u : Words) → session_in u ≡ s → (k : Lent) (number : ℕ) (v : Words) (R : Clients) (t : Trace) (ops : ℕ)
      → Returns (checkpoint_returned I u k.clients k.trace) number v R t ops → Exported I s (call_checkpoint k) (report_in number v R ops) t

-- demands 2 and 3 of such programs; openings alone
abbrev pub CarriedSafety : Type 1
CarriedSafety = DrivenReads Exported × DrivenSafety Exported × DrivenOpeningSafety Exported

-- their calls are histories
abbrev pub CarriedHistories : Type 0
CarriedHistories = DrivenHistories Exported

-- the same calls leave the same
abbrev pub CarriedSameBoard : Type 0
CarriedSameBoard = DrivenSameBoard Exported
