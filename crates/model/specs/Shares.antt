-- What a share guarantees (SPECIFICATION 15.7): several clients write through one run of records, and none starves another of backup
-- segments. A call may be lent any records; the guarantee is about calls that are lent what the last one left, from a served checkpoint on.
-- It needs that a checkpoint frees every backup segment (`CheckpointFrees`): before the first one after an opening, main segments that the
-- opening restored keep theirs in use, and a client below its share may hear 9 or 15. Proved in proofs/Shares.antt. Assumes nothing.
use Rattle.std.specs.Prelude.{ℕ, ◌≤◌, ◌<◌, ◌≡◌, ◌≢◌, Bool, true, false, ◌&&◌, List, [], ◌∷◌, length}
use Rattle.model.specs.declared.Layout.{Layout}
use Rattle.model.specs.Words.{Image, Bytes}
use Rattle.model.specs.Status.{served}
use Rattle.model.specs.Clients.{Clients, client_of, client_at, cleared}
use Rattle.model.specs.Outcome.{Lent, lent}
use Rattle.model.specs.Ops.{Trace}
use Rattle.model.specs.Open.{open_status}
use Rattle.model.specs.Write.{WriteArgs}
use Rattle.model.specs.Reference.{CallArgs, open_args, write_args, discard_args, checkpoint_args}
use Rattle.model.specs.History.{Call, call_write, call_checkpoint, Device, State, outcome, step, run, start, Permitted, AllPermitted}
use Rattle.model.specs.CrashSafety.{InEveryHistory}

-- ---- one run

-- each of the calls is lent the records that the last one left, and the first of them R: all share one run, which only they change
abbrev pub OneRun : State → Clients → List Call → Type 0
OneRun s R [] = Unit {0}
OneRun s R (c ∷ cs) = (c.lends.clients ≡ R) × OneRun (step s c) (outcome s.device c).clients cs

-- the records that the last of them leaves
unfoldable pub clients_left : State → Clients → List Call → Clients
clients_left s R [] = R
clients_left s R (c ∷ cs) = clients_left (step s c) (outcome s.device c).clients cs

-- whether a call is an opening, and the openings that a list of calls serves
abbrev pub is_opening : CallArgs → Bool
is_opening (open_args l d) = true
is_opening (write_args w) = false
is_opening (discard_args i) = false
is_opening checkpoint_args = false

abbrev pub NoneOpens : State → List Call → Type 0
NoneOpens s [] = Unit {0}
NoneOpens s (c ∷ cs) = ((is_opening c.args && served (outcome s.device c).status) ≡ false) × NoneOpens (step s c) cs

-- whether a call judges the records of clients: all do but a discard
abbrev pub judges_clients : CallArgs → Bool
judges_clients (open_args l d) = true
judges_clients (write_args w) = true
judges_clients (discard_args i) = false
judges_clients checkpoint_args = true

-- ---- the guarantee

-- client k has taken less than its share
abbrev pub BelowShare : Clients → ℕ → Type 0
BelowShare R k = (k < length R) × ((client_at R k).used < (client_at R k).reserved)

-- the records R' are those of the same clients, with the same shares and limits
pub record SameClients (R R' : Clients) : Type 0 where
  pub many : length R' ≡ length R
  pub reserved : (k : ℕ) → (client_at R' k).reserved ≡ (client_at R k).reserved
  pub quota : (k : ℕ) → (client_at R' k).quota ≡ (client_at R k).quota

-- no client has taken more than its limit
abbrev pub WithinQuotas : Clients → Type 0
WithinQuotas R = (k : ℕ) → k < length R → (client_at R k).used ≤ (client_at R k).quota

-- no write by a client below its share is refused with 9, 14 or 15 where a module stands and the records are R
abbrev pub SharesHold : Device → Clients → Type 0
SharesHold d R =
    (w : WriteArgs) (t : Trace) → BelowShare R w.client
    → let n : ℕ = (outcome d (call_write w (lent R t))).status in (n ≢ 9) × (n ≢ 14) × (n ≢ 15)

-- In the customer's words: "From the first served save after the latest opening of a history, a console below its share must never hear 9,
-- 14 or 15, whatever the others write, while all calls are lent one run and only they change it. None passes its limit."
pub record SharesKept : Type 0 where
  -- any history, with any records lent to its calls; then a served checkpoint, and any calls of any clients, which share one run from there,
  -- and of which none is a served opening
  pub shares : InEveryHistory (λ s.
      (k : Lent) → (outcome s.device (call_checkpoint k)).status ≡ 0
      → let s₁ : State = step s (call_checkpoint k) in
      let R₁ : Clients = (outcome s.device (call_checkpoint k)).clients in
      (cs : List Call) → AllPermitted cs → OneRun s₁ R₁ cs → NoneOpens s₁ cs
      → SharesHold (run s₁ cs).device (clients_left s₁ R₁ cs))
  -- shares and limits are the caller's: no call changes them, so what is guaranteed stays what was agreed
  pub agreed : (d : Device) (c : Call) → SameClients c.lends.clients (outcome d c).clients
  -- with any records lent: not after a served call that judges them, and a discard leaves them as they are
  pub quotas : (d : Device) (c : Call) → judges_clients c.args ≡ true → (outcome d c).status ≡ 0 → WithinQuotas (outcome d c).clients
  pub unjudged : (d : Device) (c : Call) → judges_clients c.args ≡ false → (outcome d c).clients ≡ c.lends.clients
  -- with one run, which the opening of the history was lent: never
  pub quotas_ever : (l : Layout) (d : ℕ) (I : Image) (k : Lent) → open_status l d I k ≡ 0
      → (cs : List Call) → OneRun (start l d I k) (cleared k.clients) cs → WithinQuotas (clients_left (start l d I k) (cleared k.clients) cs)

-- ---- one client alone

-- one client whose share and limit are all backup segments, of which it has taken some
abbrev pub alone : Layout → ℕ → Clients
alone l used = client_of l.backups l.backups used ∷ []

-- every write is that client's
abbrev pub ByFirst : CallArgs → Type 0
ByFirst (open_args l d) = Unit {0}
ByFirst (write_args w) = w.client ≡ 0
ByFirst (discard_args i) = Unit {0}
ByFirst checkpoint_args = Unit {0}

abbrev pub AllByFirst : List Call → Type 0
AllByFirst [] = Unit {0}
AllByFirst (c ∷ cs) = ByFirst c.args × AllByFirst cs

-- neither the records nor a share refuses a call
abbrev pub NoShareRefuses : Device → Call → Type 0
NoShareRefuses d c = let n : ℕ = (outcome d c).status in (n ≢ 13) × (n ≢ 14) × (n ≢ 15)

-- in every history of it, in which all calls share one run, 13, 14 and 15 do not come: 9 comes first
abbrev pub AloneUnhindered : Type 0
AloneUnhindered =
    (l : Layout) (d : ℕ) (I : Image) (k : Lent) (n : ℕ) → k.clients ≡ alone l n → Bytes I → open_status l d I k ≡ 0
    → (cs : List Call) → AllPermitted cs → AllByFirst cs → OneRun (start l d I k) (cleared k.clients) cs
    → (c : Call) → Permitted c → ByFirst c.args → c.lends.clients ≡ clients_left (start l d I k) (cleared k.clients) cs
    → NoShareRefuses (run (start l d I k) cs).device c
