-- Histories: any list of openings, writes, discards and checkpoints, each on the image and the session that the last one left, its
-- part of the trace replayed before the next. Every step is made of the outcomes that the calls' contracts cite.
-- Assumes nothing.
use Rattle.std.specs.Prelude.{ℕ, ◌*◌, ◌≡◌, true, cond, List, [], ◌∷◌, ◌++◌, length, take}
use Rattle.model.specs.declared.Layout.{Layout}
use Rattle.model.specs.declared.Session.{Session}
use Rattle.model.specs.Words.{Image, Bytes}
use Rattle.model.specs.Status.{served}
use Rattle.model.specs.Container.{active_line, checkpoint_bytes}
use Rattle.model.specs.Ops.{op_numbers, Ops, Trace, written, first_part}
use Rattle.model.specs.Outcome.{Lent, Outcome}
use Rattle.model.specs.Replay.{replay_outcome, replayed_ops}
use Rattle.model.specs.Open.{recovery_ops, open_outcome}
use Rattle.model.specs.Write.{WriteArgs, write_ops, write_outcome}
use Rattle.model.specs.Discard.{discard_ops, discard_outcome}
use Rattle.model.specs.Checkpoint.{checkpoint_ops, checkpoint_outcome}
use Rattle.model.specs.Reference.{Model, CallArgs, open_args, write_args, discard_args, checkpoint_args, model_step}

-- a call (the trade: openings, writes, drops and saves): its arguments, which are all of it that the model is fed, and what it is lent: any
-- records of clients, and any trace
pub record Call : Type 0 where
  pub args : CallArgs
  pub lends : Lent

abbrev pub call_open : Layout → ℕ → Lent → Call
call_open l d k = record { args = open_args l d; lends = k }

abbrev pub call_write : WriteArgs → Lent → Call
call_write w k = record { args = write_args w; lends = k }

abbrev pub call_discard : ℕ → Lent → Call
call_discard i k = record { args = discard_args i; lends = k }

abbrev pub call_checkpoint : Lent → Call
call_checkpoint k = record { args = checkpoint_args; lends = k }

-- where a module stands in a history
pub record Device : Type 0 where
  -- its sizes, those of the opening that the history started with
  pub layout : Layout
  -- the image when all was last durable, and the operations played since (a list; `played` of a replay's answer is a number)
  pub durable : Image
  pub played : Ops
  -- the same operations with the flushes put in: those that the traces of kind 0 have for the same calls
  pub adr_played : Ops
  -- the image as it stands, and the session last answered
  pub image : Image
  pub session : Session

-- where a history stands: the module, and the reference model beside it
pub record State : Type 0 where
  pub device : Device
  pub model : Model

-- what a call answers on an image and a session
abbrev pub answers : Session → Image → CallArgs → Lent → Outcome
answers s I (open_args l d) k = open_outcome l d I k
answers s I (write_args w) k = write_outcome s I w k
answers s I (discard_args i) k = discard_outcome s I i k
answers s I checkpoint_args k = checkpoint_outcome s I k

-- and where a module stands
abbrev pub outcome : Device → Call → Outcome
outcome d c = answers d.session d.image c.args c.lends

-- the kind of module that a call writes its trace for: an opening's own, and else the session's
abbrev pub domain_of : Session → CallArgs → ℕ
domain_of s (open_args l d) = d
domain_of s (write_args w) = s.domain
domain_of s (discard_args i) = s.domain
domain_of s checkpoint_args = s.domain

-- the operations of the rule that a call follows, of which its trace has those for that kind: all of them for kind 0
abbrev pub rule_ops : Session → Image → CallArgs → Ops
rule_ops s I (open_args l d) = recovery_ops l I (active_line I)
rule_ops s I (write_args w) = write_ops s I w
rule_ops s I (discard_args i) = discard_ops s I i
rule_ops s I checkpoint_args = checkpoint_ops s I

-- the operations of a call with the flushes put in, which the trace of kind 0 has for the same call (`AdrTraces` in specs/Domains.antt):
-- none where it is refused
abbrev pub adr_ops : Device → Call → Ops
adr_ops d c = cond (served (outcome d c).status) (rule_ops d.session d.image c.args) []

-- the part of the trace that holds the reported operations O, which a call leaves on the trace t: it is `encode O` whatever t is
-- (`reported_is`)
unfoldable pub reported : Ops → Trace → Trace
reported O t = take (op_numbers * length O) (written O t)

-- what replay plays of it on the image I where it is stopped after the first p operations
unfoldable pub played_ops : Image → Ops → Trace → ℕ → Ops
played_ops I O t p = replayed_ops (reported O t) (replay_outcome I (reported O t) p).played

-- and the image that it leaves
unfoldable pub replayed_image : Image → Ops → Trace → ℕ → Image
replayed_image I O t p = (replay_outcome I (reported O t) p).image

-- the operations of a call that are played where its replay is stopped after the first p
abbrev pub called_ops : Device → Call → ℕ → Ops
called_ops d c p = played_ops d.image (outcome d c).ops c.lends.trace p

-- and with the flushes put in: the shortest first part of them that holds these p
abbrev pub adr_called_ops : Device → Call → ℕ → Ops
adr_called_ops d c p = first_part (domain_of d.session c.args) p (adr_ops d c)

-- the module after one call, replayed whole
unfoldable pub device_step : Device → Call → Device
device_step d c = record {
  layout = d.layout;
  durable = d.durable;
  played = d.played ++ called_ops d c (length (outcome d c).ops);
  adr_played = d.adr_played ++ adr_ops d c;
  image = replayed_image d.image (outcome d c).ops c.lends.trace (length (outcome d c).ops);
  session = (outcome d c).session;
}

-- one call: the module's step, and the model's, which sees the arguments and whether the call was served
unfoldable pub step : State → Call → State
step s c = record {
  device = device_step s.device c;
  model = model_step s.device.layout c.args (served (outcome s.device c).status) s.model;
}

-- many
unfoldable pub run : State → List Call → State
run s [] = s
run s (c ∷ cs) = run (step s c) cs

-- the image that an opening leaves once its trace is replayed
unfoldable pub opened_image : Layout → ℕ → Image → Lent → Image
opened_image l d I k = replayed_image I (open_outcome l d I k).ops k.trace (length (open_outcome l d I k).ops)

-- a history starts at a finished opening, with all durable; both pages hold the checkpoint of the image handed to it
unfoldable pub start : Layout → ℕ → Image → Lent → State
start l d I k = record {
  device = record {
    layout = l;
    durable = opened_image l d I k;
    played = [];
    adr_played = [];
    image = opened_image l d I k;
    session = (open_outcome l d I k).session;
  };
  model = record { working = checkpoint_bytes l I (active_line I); checkpoint = checkpoint_bytes l I (active_line I) };
}

-- what is asked of a call: a write's bytes are bytes
abbrev pub PermittedArgs : CallArgs → Type 0
PermittedArgs (open_args l d) = Unit {0}
PermittedArgs (write_args w) = Bytes w.bytes
PermittedArgs (discard_args i) = Unit {0}
PermittedArgs checkpoint_args = Unit {0}

abbrev pub Permitted : Call → Type 0
Permitted c = PermittedArgs c.args

abbrev pub AllPermitted : List Call → Type 0
AllPermitted [] = Unit {0}
AllPermitted (c ∷ cs) = Permitted c × AllPermitted cs

-- what is supposed of a call where power cuts are spoken of (SPECIFICATION 8.10): a served opening is given the kind d
abbrev pub GivenDomain : ℕ → CallArgs → Type 0
GivenDomain d (open_args l given) = given ≡ d
GivenDomain d (write_args w) = Unit {0}
GivenDomain d (discard_args i) = Unit {0}
GivenDomain d checkpoint_args = Unit {0}

abbrev pub OwnDomain : ℕ → Device → Call → Type 0
OwnDomain own d c = served (outcome d c).status ≡ true → GivenDomain own c.args

-- and of a list of calls, from the state s on; openings that are refused, for their kind or anything else, may be among them
abbrev pub AllOwnDomain : ℕ → State → List Call → Type 0
AllOwnDomain own s [] = Unit {0}
AllOwnDomain own s (c ∷ cs) = OwnDomain own s.device c × AllOwnDomain own (step s c) cs
