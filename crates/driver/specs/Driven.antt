-- Programs that open a container and then make call after call, each on the image and the session that the last one left:
-- their calls are histories (`DrivenHistories`), the same calls leave the same (`DrivenSameBoard`), and demands 2 and 3 hold of them
-- (`DrivenReads`, `DrivenSafety`), for each way C of making the calls: by the library (`Called`), or by the C interface (`Exported` of crate carried).
-- Where such a program stands is said in terms of the code: the images that stood, the sessions that were answered, the operations read
-- from the traces and carried out, and a reference model that is fed whether each call was served by its number; what is carried along
-- with the flushes put in (`adr_played`), which no code has, is model's, and only `WithinAdr` looks at it. The call in which power
-- failed, the openings that were cut and the last one are calls that the code made too. Proved in proofs/Driven.antt. Assumes what
-- model's specs/Crash.antt does of the hardware, and that the image handed to the first opening was durable: then so is what
-- that opening leaves (`OpeningSettles`; after a format `FormatSettles`, when a program starts again `FlushDurable`).
use Rattle.std.specs.Prelude.{ℕ, ◌*◌, ◌≤◌, ◌<◌, ◌≡◌, ◌≢◌, ◌⊎◌, List, [], ◌∷◌, ◌++◌, length, take}
use Rattle.model.specs.declared.Layout.{Layout}
use Rattle.model.specs.declared.Session.{Session}
use Rattle.model.specs.Words.{Image, Bytes}
use Rattle.model.specs.Status.{served}
use Rattle.model.specs.Container.{active_line, checkpoint_bytes}
use Rattle.model.specs.Ops.{op_numbers, Ops, Trace}
use Rattle.model.specs.Outcome.{Lent}
use Rattle.model.specs.Open.{open_status}
use Rattle.model.specs.Reference.{Page, Model, model_step}
use Rattle.model.specs.History.{Call, call_open, Device, State, outcome, adr_ops, run, start, Permitted, AllPermitted, OwnDomain, AllOwnDomain}
use Rattle.model.specs.Sisters.{SameCall, SameCalls}
use Rattle.model.specs.CrashSafety.{Moment, between, during, MayShow, Reads, Module, WithinAdr}
use Rattle.driver.specs.Stepped.{Report, Calls, carried, Stepped}

-- both pages hold the checkpoint of the image I
abbrev pub saved_model : Layout → Image → Model
saved_model l I = record { working = checkpoint_bytes l I (active_line I); checkpoint = checkpoint_bytes l I (active_line I) }

-- where a program stands after an opening of the image I that reported r and, carried out, left the image I₁: with all durable
abbrev pub opened : Layout → Image → Report → Image → State
opened l I r I₁ = record {
  device = record { layout = l; durable = I₁; played = []; adr_played = []; image = I₁; session = r.session };
  model = saved_model l I;
}

-- and, from the state s on, after the call c that reported r with the trace t and, carried out, left the image I'
abbrev pub after : State → Call → Report → Trace → Image → State
after s c r t I' = record {
  device = record {
    layout = s.device.layout;
    durable = s.device.durable;
    played = s.device.played ++ carried t r.ops;
    adr_played = s.device.adr_played ++ adr_ops s.device c;
    image = I';
    session = r.session;
  };
  model = model_step s.device.layout c.args (served r.number) s.model;
}

-- steps one after the other, from a state to that after the last
pub data Driven (C : Calls) : State → List Call → State → Type 0 where
  done : (s : State) → Driven C s [] s
  next : (s s'' : State) (c : Call) (cs : List Call) (r : Report) (t : Trace) (I' : Image)
      → Stepped C s.device.image s.device.session c r t I' → Driven C (after s c r t I') cs s'' → Driven C s (c ∷ cs) s''

-- two reports are the same, and so are the parts of the traces that they report
abbrev pub SameReport : Report → Trace → Report → Trace → Type 0
SameReport r t q u = (r ≡ q) × (take (op_numbers * r.ops) t ≡ take (op_numbers * q.ops) u)

-- the crash falls between two steps, or after the first p operations of a call that the code makes where it stands and that
-- reports more, and that gives the module's kind d where it is an opening; with the operations of that call that were carried out
pub data Made (C : Calls) (d : ℕ) (s : State) : Moment → Ops → Type 0 where
  rests : Made C d s between []
  makes : (c : Call) (p : ℕ) (r : Report) (t : Trace) → C s.device.image s.device.session c r t → OwnDomain d s.device c
      → p < r.ops → Made C d s (during c p) (carried t p)

-- H becomes H' through openings that the code makes with the sizes l and the module's kind, each of them given what stands, any records
-- that 13 does not refuse and any trace that 11 does not refuse, and cut after any number of its operations
pub data CutDriven (C : Calls) (M : Module) (l : Layout) : Image → Image → Type 0 where
  none : {H : Image} → CutDriven C M l H H
  again : {H H' H'' : Image} (s : Session) (k : Lent) (p : ℕ) (r : Report) (t : Trace) → C H s (call_open l M.domain k) r t
      → r.number ≢ 11 → r.number ≢ 13 → p ≤ r.ops → M.leaves H (carried t p) H' → CutDriven C M l H' H'' → CutDriven C M l H H''

-- the calls of such a program are a permitted history, where the program stands is where that history does, and a call that the code
-- makes there is permitted, and gives the number of its outcome and leaves its records: so model's statements over
-- histories (Sisters, DiscardRestores, EpochCounts, States, FreeBackups, Shares, `CleanSettled`) are statements about the code
abbrev pub DrivenHistories : Calls → Type 0
DrivenHistories C =
    -- an opening of any image, with any sizes, kind of module, records and trace, that is served and carried out
    (l : Layout) (d : ℕ) (I : Image) (k : Lent)
    → (x : Session) (r : Report) (t : Trace) (I₁ : Image) → Stepped C I x (call_open l d k) r t I₁ → r.number ≡ 0
    -- then any steps, which lead to the state s
    → (cs : List Call) (s : State) → Driven C (opened l I r I₁) cs s
    → (open_status l d I k ≡ 0) × AllPermitted cs × (start l d I k ≡ opened l I r I₁) × (run (start l d I k) cs ≡ s)
    × ((c : Call) (q : Report) (u : Trace) → C s.device.image s.device.session c q u
    → Permitted c × (q.number ≡ (outcome s.device c).status) × (q.clients ≡ (outcome s.device c).clients))

-- same board, same tape, of the code (model's `SameBoard`): two programs that make the same calls, whatever stood on their traces. It is
-- not about crashes and assumes nothing
pub record DrivenSameBoard (C : Calls) : Type 0 where
  -- where they stand alike, a call reports the same, and puts the same on the trace
  pub calls : (d : Device) (b c : Call) → SameCall d b c → (r q : Report) (t u : Trace) → C d.image d.session b r t → C d.image d.session c q u
      → SameReport r t q u
  -- opened on the same image with the same sizes and kind, they report the same, and the calls that follow leave them at the same place:
  -- image, session, all operations carried out, and model
  pub programs : (l : Layout) (d : ℕ) (I : Image) (k m : Lent) (x : Session) (r : Report) (t : Trace) (I₁ : Image) → Stepped C I x (call_open l d k) r t I₁
      → (y : Session) (q : Report) (u : Trace) (J₁ : Image) → Stepped C I y (call_open l d m) q u J₁
      → k.clients ≡ m.clients → (length k.trace ≡ length m.trace) ⊎ ((r.number ≢ 11) × (q.number ≢ 11))
      → (bs cs : List Call) → SameCalls (opened l I r I₁) bs cs
      → (s s' : State) → Driven C (opened l I r I₁) bs s → Driven C (opened l I q J₁) cs s'
      → SameReport r t q u × (s ≡ s')

-- after the crash image H: any number of openings that are cut, which leave H', and one that is not. It is served, and both
-- reads of the image that it leaves give a page Q of which May holds; H' are bytes, and the pages with which a program starts
-- there are Q, so that lives chain
abbrev pub ShowsAfter : Calls → Module → Layout → Image → (Page → Type 0) → Type 0
ShowsAfter C M l H May =
    (H' : Image) → CutDriven C M l H H'
    → (s : Session) (k : Lent) (r : Report) (t : Trace) (I : Image) → Stepped C H' s (call_open l M.domain k) r t I → r.number ≢ 11 → r.number ≢ 13
    → (Q : Page) × May Q × (r.number ≡ 0) × Reads l I Q Q × Bytes H' × (saved_model l H' ≡ record { working = Q; checkpoint = Q })

-- DEMAND 2 of the code, where calls are made as C says, with any kinds of module: both reads of the image give the pages of the reference
-- model
abbrev pub DrivenReads : Calls → Type 0
DrivenReads C =
    -- an opening of any image, with any sizes, kind, records and trace, that is served and carried out
    (l : Layout) (d : ℕ) (I : Image) (k : Lent) → Bytes I
    → (x : Session) (r : Report) (t : Trace) (I₁ : Image) → Stepped C I x (call_open l d k) r t I₁ → r.number ≡ 0
    -- then any steps, which lead to the state s
    → (cs : List Call) (s : State) → Driven C (opened l I r I₁) cs s
    → Reads s.device.layout s.device.image s.model.working s.model.checkpoint

-- DEMAND 3 of the code, for any module M whose crash images are among those of kind 0
abbrev pub DrivenSafety : Calls → Type 1
DrivenSafety C =
    (M : Module) → WithinAdr M
    -- an opening of any image with the module's kind, with any sizes, records and trace, that is served and carried out
    → (l : Layout) (I : Image) (k : Lent) → Bytes I
    → (x : Session) (r : Report) (t : Trace) (I₁ : Image) → Stepped C I x (call_open l M.domain k) r t I₁ → r.number ≡ 0
    -- then any steps, of which each served opening is given that kind, which lead to the state s
    → (cs : List Call) → AllOwnDomain M.domain (opened l I r I₁) cs → (s : State) → Driven C (opened l I r I₁) cs s
    -- a crash at any moment, and what the openings then show
    → (m : Moment) (O : Ops) → Made C M.domain s m O → (H : Image) → M.leaves s.device.durable (s.device.played ++ O) H
    → ShowsAfter C M s.device.layout H (MayShow s m)

-- openings alone: any image that an opening of the code serves, cut in any number of openings of the code, shows its checkpoint
abbrev pub DrivenOpeningSafety : Calls → Type 1
DrivenOpeningSafety C =
    (M : Module) → WithinAdr M → (l : Layout) (I : Image) (k : Lent) → Bytes I
    → (x : Session) (r : Report) (t : Trace) → C I x (call_open l M.domain k) r t → r.number ≡ 0
    → ShowsAfter C M l I (λ Q. Q ≡ checkpoint_bytes l I (active_line I))
