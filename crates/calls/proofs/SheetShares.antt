-- The one client of a sheet is never refused for a share: the statement of specs/SheetShares.antt proved. The calls of a sheet are a
-- history of model, of one run.
use mathlib.Core.Path.{◌≡◌, refl, sym, ap, ◌∙◌, subst}
use mathlib.Core.List.{List, [], ◌∷◌}
use native.Mathlib.Omega.{arith}
use borrow.Author.Tests.{eq-eqb}
use Rattle.model.specs.Session.{adr}
use Rattle.model.specs.declared.Layout.{Layout}
use Rattle.model.specs.Clients.{Clients, cleared}
use Rattle.model.specs.Outcome.{lent, outcome_of}
use Rattle.model.specs.Format.{formatted}
use Rattle.model.specs.Open.{open_outcome}
use Rattle.model.specs.Reference.{CallArgs}
use Rattle.model.specs.History.{Call, State, outcome, step, run, start, AllPermitted}
use Rattle.model.specs.Shares.{OneRun, clients_left, AllByFirst, NoShareRefuses}
use Rattle.model.proofs.Laws.Format.{formatted_starts}
use Rattle.model.proofs.Shares.{alone_unhindered}
use Rattle.calls.specs.Printed.{blank, Board, call_on, board_step, first_lent, opened_board}
use Rattle.calls.specs.SheetTrace.{SheetSizes}
use Rattle.calls.specs.SheetShares.{AllOfSheet, board_after, SheetUnhindered}
use Rattle.calls.proofs.SheetTrace.{sheet_trace_suffices}

abbrev board_of : State → Clients → Board
board_of s R = record { device = s.device; clients = R }

-- the calls that a sheet makes from a state on, with the records R
made : State → Clients → List CallArgs → List Call
made s R [] = []
made s R (c ∷ cs) = let k = call_on (board_of s R) c in k ∷ made (step s k) (outcome s.device k).clients cs

made_left : (s : State) (R : Clients) (cs : List CallArgs)
    → board_after (board_of s R) cs ≡ board_of (run s (made s R cs)) (clients_left s R (made s R cs))
unfolding made board_after board_step step run clients_left
made_left s R [] = refl
made_left s R (c ∷ cs) = let k = call_on (board_of s R) c in made_left (step s k) (outcome s.device k).clients cs

made_one : (s : State) (R : Clients) (cs : List CallArgs) → OneRun s R (made s R cs)
unfolding made
made_one s R [] = tt
made_one s R (c ∷ cs) = let k = call_on (board_of s R) c in (refl, made_one (step s k) (outcome s.device k).clients cs)

made_permitted : (s : State) (R : Clients) (cs : List CallArgs) → AllOfSheet cs → AllPermitted (made s R cs) × AllByFirst (made s R cs)
unfolding made
made_permitted s R [] h = (tt, tt)
made_permitted s R (c ∷ cs) h =
    let k = call_on (board_of s R) c in
    let q = made_permitted (step s k) (outcome s.device k).clients cs h.1 in
    ((h.0.0, q.0), (h.0.1, q.1))

-- an opening that is served leaves a client that has taken nothing
opened_clients : (l : Layout) → SheetSizes l → opened_board l ≡ board_of (start l adr (formatted l) (first_lent l)) (cleared (first_lent l).clients)
unfolding opened_board open_outcome outcome_of
opened_clients l h = rw (eq-eqb _ _ (sheet_trace_suffices.opening l h))

pub sheet_unhindered : SheetUnhindered
sheet_unhindered l h cs of c own =
    let s = start l adr (formatted l) (first_lent l) in
    let R = cleared (first_lent l).clients in
    let all = made_permitted s R cs of in
    let k : Call = record { args = c; lends = lent (clients_left s R (made s R cs)) blank } in
    let bytes = (formatted_starts l (omega (arith, h.mains, h.backups, h.blocks)) adr (first_lent l)).0 in
    subst (λ (b : Board). NoShareRefuses b.device (call_on b c))
    (sym (ap (λ (b : Board). board_after b cs) (opened_clients l h) ∙ made_left s R cs))
    (alone_unhindered l adr (formatted l) (first_lent l) 0 refl bytes (sheet_trace_suffices.opening l h) (made s R cs) all.0 all.1 (made_one s R cs) k own.0 own.1 refl)
