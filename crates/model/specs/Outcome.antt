-- What opening, write, discard and checkpoint answer, built in one way, and when an answer of the code gives it. Assumes nothing.
use Rattle.std.specs.Prelude.{ℕ, ◌≡◌, cond, [], length}
use Rattle.model.specs.declared.Session.{Session}
use Rattle.std.specs.Prelude.{Result, Ok, Err}
use Rattle.model.specs.declared.Answer.{Answer}
use Rattle.model.specs.declared.Refusal.{Refusal}
use Rattle.model.specs.Status.{refusal_number, served}
use Rattle.model.specs.Ops.{Ops, Trace, written, for_domain}
use Rattle.model.specs.Clients.{Clients}

-- what a call is lent besides the image: the records of all clients, and the trace
pub record Lent : Type 0 where
  pub clients : Clients
  pub trace : Trace

abbrev pub lent : Clients → Trace → Lent
lent R t = record { clients = R; trace = t }

-- the status, the session, the records of all clients, and the operations that stand on the trace: `ops` is their list here, and their
-- number in what the code tells
pub record Outcome : Type 0 where
  pub status : ℕ
  pub session : Session
  pub clients : Clients
  pub ops : Ops

-- the outcome of a call with this status: refused, it answers the session `kept`, leaves the records R and writes nothing; served, it
-- answers the session `next`, leaves the records R' and writes those of the operations O that the trace has for the kind d of module
unfoldable pub outcome_of : ℕ → Session → Session → Clients → Clients → ℕ → Ops → Outcome
outcome_of e kept next R R' d O =
    record { status = e; session = cond (served e) next kept; clients = cond (served e) R' R; ops = cond (served e) (for_domain d O) [] }

-- what a call tells that was lent the session s: the number of its status, the session after it and how many operations stand on the
-- trace. One that is refused hands no session out: s stays, and nothing stands on the trace
pub record Told : Type 0 where
  pub status : ℕ
  pub session : Session
  pub ops : ℕ

abbrev pub told : Session → Result Answer Refusal → Told
told s (Ok a) = record { status = 0; session = a.session; ops = a.ops }
told s (Err r) = record { status = refusal_number r; session = s; ops = 0 }

-- what a call tells, and the trace and the records that it leaves, give an outcome: the number of its status, its session, its
-- number of operations, these on the trace t, and its records
abbrev pub Gives : Outcome → Trace → Told → Trace → Clients → Type 0
Gives o t a after R' =
    (a.status ≡ o.status) × (a.session ≡ o.session) × (a.ops ≡ length o.ops) × (after ≡ written o.ops t)
    × (R' ≡ o.clients)
