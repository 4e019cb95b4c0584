-- DEMAND 3, as one statement over a whole history, for any module (`CrashSafety`), its two instances, kind 0 and kind 1, and what it is
-- made of. Proved in proofs/CrashSafety.antt. Assumes what specs/Crash.antt does of the hardware.
use Rattle.std.specs.Prelude.{ℕ, ◌<◌, ◌≡◌, ◌≢◌, ◌⊎◌, List, [], ◌∷◌, ◌++◌, length, replicate}
use Rattle.model.specs.declared.Layout.{Layout}
use Rattle.model.specs.Words.{Image, Bytes}
use Rattle.model.specs.Layout.{block_size, epoch_at, ss_initial}
use Rattle.model.specs.Container.{active_state, active_line, checkpoint_bytes}
use Rattle.model.specs.Session.{adr, eadr}
use Rattle.model.specs.Ops.{Ops, store, first_part}
use Rattle.model.specs.Outcome.{Lent}
use Rattle.model.specs.Open.{recovery_ops, open_status, open_outcome}
use Rattle.model.specs.Reads.{read_status, working_block, checkpoint_block}
use Rattle.model.specs.Crash.{CrashImage, Held}
use Rattle.model.specs.Reference.{Page, page_block, checkpoint_args}
use Rattle.model.specs.History.{Call, Device, State, outcome, played_ops, called_ops, adr_called_ops, run, opened_image, start, Permitted, AllPermitted, OwnDomain, AllOwnDomain}

-- ---- what the reads show

-- the two reads of block b of main segment i give the pages W and P; one in state 0 has no checkpoint
-- part, and P has zeros there
pub record ReadsBlock (l : Layout) (I : Image) (W P : Page) (i b : ℕ) : Type 0 where
  pub status : read_status l I i b ≡ 0
  pub working : working_block l I i b ≡ page_block l W i b
  pub checkpoint : (checkpoint_block l I i b ≡ page_block l P i b)
      ⊎ ((active_state I i ≡ ss_initial) × (checkpoint_block l I i b ≡ []) × (page_block l P i b ≡ replicate block_size 0))

-- in every block
abbrev pub Reads : Layout → Image → Page → Page → Type 0
Reads l I W P = (i b : ℕ) → i < l.mains → b < l.blocks → ReadsBlock l I W P i b

-- opening is served and, replayed whole, leaves an image of which both reads give the page Q; Q is also the page that a
-- history which starts at this opening begins with (SPECIFICATION 8.8: an opening shows a page)
pub record Recovers (l : Layout) (d : ℕ) (H : Image) (k : Lent) (Q : Page) : Type 0 where
  pub accepted : open_status l d H k ≡ 0
  pub shows : Reads l (opened_image l d H k) Q Q
  pub begins : checkpoint_bytes l H (active_line H) ≡ Q

-- ---- the moment of the crash

-- between two calls, or after the first p operations of one more call that has more (the trade: a cut); a call that was
-- played whole is one of the history's calls
pub data Moment : Type 0 where
  between : Moment
  during : Call → ℕ → Moment

-- the call is one that a history on a module of this kind may have
abbrev pub PermittedAt : ℕ → Device → Moment → Type 0
PermittedAt own d between = Unit {0}
PermittedAt own d (during c p) = Permitted c × OwnDomain own d c × (p < length (outcome d c).ops)

-- the operations played since all was durable
abbrev pub played_at : Device → Moment → Ops
played_at d between = d.played
played_at d (during c p) = d.played ++ called_ops d c p

-- the same with the flushes put in, as the traces of kind 0 have them for the same calls: of the call that is cut, the shortest first
-- part that holds what was played of it
abbrev pub adr_played_at : Device → Moment → Ops
adr_played_at d between = d.adr_played
adr_played_at d (during c p) = d.adr_played ++ adr_called_ops d c p

-- a store to the epoch is among the operations
abbrev pub EpochStored : Ops → Type 0
EpochStored O = (A : Ops) × (D : Ops) × (w : ℕ) × (O ≡ A ++ store epoch_at w ∷ D)

-- a served checkpoint whose epoch store is played and whose last fence, which is its last operation, is not
abbrev pub Window : Device → Call → ℕ → Type 0
Window d c p = (c.args ≡ checkpoint_args) × EpochStored (called_ops d c p) × (p < length (outcome d c).ops)

-- the pages that may be shown after a crash: the last completed checkpoint, which is the checkpoint page after the calls
-- whose traces were played whole (SPECIFICATION 8.6), and in the window also the working state
abbrev pub MayShow : State → Moment → Page → Type 0
MayShow s between Q = Q ≡ s.model.checkpoint
MayShow s (during c p) Q = (Q ≡ s.model.checkpoint) ⊎ (Window s.device c p × (Q ≡ s.model.working))

-- P holds of the state of every history: it starts at any image that an opening serves, with any sizes, kind, records of clients and
-- trace, and has any list of calls from there, of all clients, refused ones included, with any arguments, records and traces
abbrev pub InEveryHistory : (State → Type 0) → Type 0
InEveryHistory P =
    (l : Layout) (d : ℕ) (I : Image) (k : Lent) → Bytes I → open_status l d I k ≡ 0
    → (cs : List Call) → AllPermitted cs → P (run (start l d I k) cs)

-- and of every history in which each served opening is given the kind d
abbrev pub InEveryHistoryOf : ℕ → (State → Type 0) → Type 0
InEveryHistoryOf d P =
    (l : Layout) (I : Image) (k : Lent) → Bytes I → open_status l d I k ≡ 0
    → (cs : List Call) → AllPermitted cs → AllOwnDomain d (start l d I k) cs → P (run (start l d I k) cs)

-- ---- the module, which demand 3 has as a parameter

-- its kind, as its openings are given it, and what a crash may leave of it, by what was durable and the operations played since
pub record Module : Type 1 where
  pub domain : ℕ
  pub leaves : Image → Ops → Image → Type 0

-- an opening is lent a trace that 11 does not refuse, and records that 13 does not refuse
abbrev pub Enough : Layout → ℕ → Image → Lent → Type 0
Enough l d H k = (open_status l d H k ≢ 11) × (open_status l d H k ≢ 13)

-- H becomes H' through openings with the sizes l, each of them given what stands, the module's kind, any records and any trace that are
-- not refused, and cut after any number of its operations
pub data CutOpenings (M : Module) (l : Layout) : Image → Image → Type 0 where
  none : {H : Image} → CutOpenings M l H H
  again : {H H' H'' : Image} (k : Lent) (p : ℕ) → Enough l M.domain H k
      → M.leaves H (played_ops H (open_outcome l M.domain H k).ops k.trace p) H'
      → CutOpenings M l H' H'' → CutOpenings M l H H''

-- what a crash may leave of the module is among what one of kind 0 allows for the same stores and fences with the flushes put in, as the
-- traces of kind 0 have them for the same calls: at any moment of a history, and in an opening of any image, after any number p of the
-- operations that the module's own trace has
pub record WithinAdr (M : Module) : Type 0 where
  pub history : InEveryHistoryOf M.domain (λ s.
      (m : Moment) → PermittedAt M.domain s.device m
      → (H : Image) → M.leaves s.device.durable (played_at s.device m) H → CrashImage s.device.durable (adr_played_at s.device m) H)
  pub opening : (l : Layout) (I : Image) (k : Lent) → Bytes I → open_status l M.domain I k ≡ 0 → (p : ℕ)
      → (H : Image) → M.leaves I (played_ops I (open_outcome l M.domain I k).ops k.trace p) H
      → CrashImage I (first_part M.domain p (recovery_ops l I (active_line I))) H

-- ---- demand 3

abbrev pub CrashSafetyFor : Module → Type 0
CrashSafetyFor M = InEveryHistoryOf M.domain (λ s.
    -- any moment: at rest, or after any number of operations of one more call
    (m : Moment) → PermittedAt M.domain s.device m
    -- any image that a crash may leave there
    → (H : Image) → M.leaves s.device.durable (played_at s.device m) H
    -- any number of openings that are cut themselves
    → (H' : Image) → CutOpenings M s.device.layout H H'
    -- any trace for the last opening that is long enough, and any records that 13 does not refuse
    → (k : Lent) → Enough s.device.layout M.domain H' k
    -- it is served, and shows one of the permitted pages, whole; what stands are bytes, so that another life can start there
    → (Q : Page) × MayShow s m Q × Recovers s.device.layout M.domain H' k Q × Bytes H')

-- DEMAND 3 (SPECIFICATION 15.3), for any module whose cuts are among those of kind 0. In the customer's words: "Opening with the same
-- sizes and a long enough tape accepts what then stands, also after any number of such openings that were themselves cut in the same
-- way, and the first that finishes shows every byte of the last finished save. Only a cut from a save's epoch store up to its last
-- fence may show that save's bytes instead, and then all of them."
abbrev pub CrashSafety : Type 1
CrashSafety = (M : Module) → WithinAdr M → CrashSafetyFor M

-- ---- its instances

-- kind 0 itself, whose crash images are those of specs/Crash.antt, and kind 1, where every store played is held
abbrev pub adr_module : Module
adr_module = record { domain = adr; leaves = CrashImage }

abbrev pub eadr_module : Module
eadr_module = record { domain = eadr; leaves = Held }

-- both are modules of which demand 3 speaks
pub record BothKinds : Type 0 where
  pub adr_within : WithinAdr adr_module
  pub eadr_within : WithinAdr eadr_module
  pub adr_safe : CrashSafetyFor adr_module
  pub eadr_safe : CrashSafetyFor eadr_module
