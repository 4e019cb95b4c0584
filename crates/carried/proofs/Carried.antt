-- A call of the C interface is one of the library's, since nothing is lost in the words of a session; so demands 2 and 3 hold of C
-- programs that carry the operations out.
use Prim.Native.Nat.{ℕ}
use mathlib.Core.Path.{ap, ◌∙◌, subst}
use Rattle.model.specs.declared.Session.{Session}
use Rattle.model.specs.Ops.{Trace}
use Rattle.model.specs.Outcome.{Outcome}
use Rattle.model.specs.Clients.{Clients}
use Rattle.clients.specs.Words.{Words}
use Rattle.interface.specs.Interface.{session_in, returned, Returns}
use Rattle.interface.proofs.WordsLaws.{session_words_lem}
use Rattle.driver.specs.Stepped.{Reports, Called, OfLibrary}
use Rattle.driver.proofs.Driven.{driven_histories, driven_same_board, driven_reads, driven_safety, driven_opening_safety}
use Rattle.carried.specs.Carried.{report_in, Exported, opens, writes, discards, checkpoints, CarriedSafety, CarriedHistories, CarriedSameBoard}

returned_reports : (o : Outcome) (T : Trace) (number : ℕ) (v : Words) (R : Clients) (t : Trace) (ops : ℕ) → Returns (returned T o) number v R t ops
    → Reports o T (report_in number v R ops) t
returned_reports o T number v R t ops r = (r.0, ap session_in r.1 ∙ session_words_lem o.session, r.4, r.3, r.2)

exported_called : OfLibrary Exported
exported_called I s _ _ _ (opens l d k number v R t ops r) = (tt, returned_reports _ k.trace number v R t ops r)
exported_called I s c q _ (writes u e w k number v R t ops bytes r) =
    subst (λ (x : Session). Called I x c q t) e (bytes, returned_reports _ k.trace number v R t ops r)
exported_called I s c q _ (discards u e i k number t ops r) =
    subst (λ (x : Session). Called I x c q t) e (tt, returned_reports _ k.trace number u k.clients t ops r)
exported_called I s c q _ (checkpoints u e k number v R t ops r) =
    subst (λ (x : Session). Called I x c q t) e (tt, returned_reports _ k.trace number v R t ops r)

pub carried_safety : CarriedSafety
carried_safety = (driven_reads Exported exported_called, driven_safety Exported exported_called, driven_opening_safety Exported exported_called)

pub carried_histories : CarriedHistories
carried_histories = driven_histories Exported exported_called

pub carried_same_board : CarriedSameBoard
carried_same_board = driven_same_board Exported exported_called
