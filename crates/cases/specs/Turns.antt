-- Histories whose calls share one run of records of clients, as every story of this crate: each call is lent the records that the last
-- one left, the first of them those that the opening left. Proved in proofs/Turns.antt.
use Rattle.std.specs.Prelude.{ℕ, ◌≡◌, List, [], ◌∷◌}
use Rattle.model.specs.declared.Layout.{Layout}
use Rattle.model.specs.Words.{Image}
use Rattle.model.specs.Ops.{Trace}
use Rattle.model.specs.Clients.{Clients}
use Rattle.model.specs.Outcome.{Lent, lent, Outcome}
use Rattle.model.specs.Open.{open_outcome}
use Rattle.model.specs.Reference.{CallArgs}
use Rattle.model.specs.History.{Call, State, outcome, start, step, run, AllPermitted, AllOwnDomain}
use Rattle.model.specs.Shares.{OneRun}

-- where such a history stands: its state, and the records that the next call is lent
pub record Point : Type 0 where
  pub state : State
  pub clients : Clients

abbrev pub point_of : State → Clients → Point
point_of s R = record { state = s; clients = R }

-- it starts at an opening that is given the kind d of module and lent k
abbrev pub begin : Layout → ℕ → Image → Lent → Point
begin l d I k = point_of (start l d I k) (open_outcome l d I k).clients

-- a call but for the records: what it is given, and its trace
pub record Turn : Type 0 where
  pub args : CallArgs
  pub trace : Trace

-- the call that it is where the history stands; and what that answers
abbrev pub call_at : Point → Turn → Call
call_at p c = record { args = c.args; lends = lent p.clients c.trace }

abbrev pub answer_at : Point → Turn → Outcome
answer_at p c = outcome p.state.device (call_at p c)

-- where the history stands after it, and after a list of them; and the calls that were made by then
unfoldable pub turn : Point → Turn → Point
turn p c = point_of (step p.state (call_at p c)) (answer_at p c).clients

unfoldable pub turns : Point → List Turn → Point
turns p [] = p
turns p (c ∷ cs) = turns (turn p c) cs

unfoldable pub made : Point → List Turn → List Call
made p [] = []
made p (c ∷ cs) = call_at p c ∷ made (turn p c) cs

-- what demand 3 supposes of the calls, on a module of kind d: what they write are bytes, and a served opening is given that kind
abbrev pub Supposed : ℕ → Point → List Turn → Type 0
Supposed d p cs = AllPermitted (made p cs) × AllOwnDomain d p.state (made p cs)

-- it is a history of model, and one run as specs/Shares.antt there says it
pub record OneHistory : Type 0 where
  pub same : (p : Point) (cs : List Turn) → (turns p cs).state ≡ run p.state (made p cs)
  pub one_run : (p : Point) (cs : List Turn) → OneRun p.state p.clients (made p cs)
