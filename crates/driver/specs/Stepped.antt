-- What a program does in one call of a history: the call itself, and the operations that it reports, carried out in their order: by
-- replay (this crate's functions), or by a caller of the C interface (crate carried). Said of images, sessions, reports and
-- traces as the contracts have them. Assumes nothing.
use Rattle.std.specs.Prelude.{ℕ, ◌*◌, ◌≡◌, length, take}
use Rattle.model.specs.declared.Session.{Session}
use Rattle.model.specs.Words.{Image}
use Rattle.model.specs.Ops.{op_numbers, Ops, Trace, decode, written, replay}
use Rattle.model.specs.Clients.{Clients}
use Rattle.model.specs.Outcome.{Outcome, Told}
use Rattle.model.specs.History.{Call, answers, Permitted}

-- what a call reports: its number, the session that it answers, the records of clients that it leaves, and how many operations stand on the
-- trace
pub record Report : Type 0 where
  pub number : ℕ
  pub session : Session
  pub clients : Clients
  pub ops : ℕ

-- what a call of the library tells and the records that it leaves are one
abbrev pub report_of : Told → Clients → Report
report_of a R = record { number = a.status; session = a.session; clients = R; ops = a.ops }

-- a report and the trace that the call leaves give an outcome, on the trace t (`Gives` says it of answers)
abbrev pub Reports : Outcome → Trace → Report → Trace → Type 0
Reports o t r after =
    (r.number ≡ o.status) × (r.session ≡ o.session) × (r.ops ≡ length o.ops) × (after ≡ written o.ops t)
    × (r.clients ≡ o.clients)

-- how a program makes its calls: which reports and traces may come of a call on an image with a session
abbrev pub Calls : Type 1
Calls = Image → Session → Call → Report → Trace → Type 0

-- by the library: the call c is permitted, and the report r and the trace t that it leaves give its outcome on the image I with the
-- session s
abbrev pub Called : Calls
Called I s c r t = Permitted c × Reports (answers s I c.args c.lends) c.lends.trace r t

-- whatever may come of a call made as C says may come of the library's
abbrev pub OfLibrary : Calls → Type 0
OfLibrary C = (I : Image) (s : Session) (c : Call) (r : Report) (t : Trace) → C I s c r t → Called I s c r t

-- the first p operations that stand on the trace t: what was carried out where power fails after p of them. That they are
-- carried out in this order is asked of whoever does it; that the code of replay does is read in its loop, since no contract
-- speaks of the order of its stores
abbrev pub carried : Trace → ℕ → Ops
carried t p = decode (take (op_numbers * p) t)

-- a call, made as C says, and all that it reports carried out, which leaves the image I'
abbrev pub Stepped : Calls → Image → Session → Call → Report → Trace → Image → Type 0
Stepped C I s c r t I' = C I s c r t × (I' ≡ replay (carried t r.ops) I)
