-- What it means that two images have the same checkpoint (SPECIFICATION 13; the trade: that they are alike): the answer of the comparison
-- in plain words, that it is an equivalence, what the checkpoint read has to do with it, and which calls of a history keep it. Proved
-- in proofs/SameCheckpoint.antt. Assumes nothing.
use Rattle.std.specs.Prelude.{ℕ, ◌<◌, ◌≡◌, ◌↔◌, true, false, ◌&&◌}
use Rattle.model.specs.declared.Layout.{Layout}
use Rattle.model.specs.Words.{Image, Bytes}
use Rattle.model.specs.Layout.{ss_initial}
use Rattle.model.specs.Status.{first_error, served}
use Rattle.model.specs.Container.{active_line, active_state, checkpoint_bytes, container_errors}
use Rattle.model.specs.Session.{dirty_segment}
use Rattle.model.specs.Outcome.{Lent}
use Rattle.model.specs.Format.{format_outcome}
use Rattle.model.specs.Open.{open_status}
use Rattle.model.specs.Reads.{checkpoint_block}
use Rattle.model.specs.Same.{same_outcome}
use Rattle.model.specs.History.{Call, call_checkpoint, Device, State, outcome, step, opened_image, Permitted}
use Rattle.model.specs.CrashSafety.{InEveryHistory}
use Rattle.model.specs.EpochCounts.{is_checkpoint}

-- the comparison says yes
abbrev pub Same : Layout → Image → Image → Type 0
Same l I J = (same_outcome l I J).same ≡ true

-- the image is not refused with 1 to 4
abbrev pub Accepted : Layout → Image → Type 0
Accepted l I = first_error (container_errors l I) ≡ 0

-- the same main segments are in state 0, each image by its own active line
abbrev pub InitialAgree : Layout → Image → Image → Type 0
InitialAgree l I J = (i : ℕ) → i < l.mains → (active_state I i ≡ ss_initial) ↔ (active_state J i ≡ ss_initial)

-- it says yes exactly if neither image is refused, the same main segments are in state 0, and all checkpoint bytes agree
abbrev pub SameExactly : Type 0
SameExactly =
    (l : Layout) (I J : Image)
    → Same l I J
    ↔ (Accepted l I × Accepted l J × InitialAgree l I J × (checkpoint_bytes l I (active_line I) ≡ checkpoint_bytes l J (active_line J)))

-- and exactly if neither image is refused and no checkpoint read tells the two apart: every block is read with the same bytes, or with
-- none, in both
abbrev pub SameReads : Type 0
SameReads =
    (l : Layout) (I J : Image)
    → Same l I J
    ↔ (Accepted l I × Accepted l J × ((i b : ℕ) → i < l.mains → b < l.blocks → checkpoint_block l I i b ≡ checkpoint_block l J i b))

-- on images that are not refused it is an equivalence
pub record SameEquivalence : Type 0 where
  pub reflexive : (l : Layout) (I : Image) → Accepted l I → Same l I I
  pub symmetric : (l : Layout) (I J : Image) → Same l I J → Same l J I
  pub transitive : (l : Layout) (I J K : Image) → Same l I J → Same l J K → Same l I K

-- images that were formatted with equal sizes have the same checkpoint, whatever stood there
abbrev pub FormatsSame : Type 0
FormatsSame =
    (l : Layout) (I J : Image) → (format_outcome l I).status ≡ 0 → (format_outcome l J).status ≡ 0
    → Same l (format_outcome l I).image (format_outcome l J).image

-- ---- a history

-- a call leaves an image with the same checkpoint
abbrev pub KeepsCheckpoint : State → Call → Type 0
KeepsCheckpoint s c = Same s.device.layout s.device.image (step s c).device.image

-- no main segment is dirty
abbrev pub NoneDirty : Device → Type 0
NoneDirty d = (i : ℕ) → i < d.layout.mains → dirty_segment d.session i ≡ false

-- the opening that a history starts with keeps it; in every history each call but a served checkpoint does, and so does a served checkpoint
-- that is made while no main segment is dirty. This last is a fact of histories: of an image and a valid session that no history left, a main
-- segment in state 2 that is not dirty may differ from its backup segment (`CleanElsewhere` in crate cases)
pub record CheckpointKept : Type 0 where
  pub opening : (l : Layout) (d : ℕ) (I : Image) (k : Lent) → Bytes I → open_status l d I k ≡ 0 → Same l I (opened_image l d I k)
  pub others : InEveryHistory (λ s.
      (c : Call) → Permitted c → (is_checkpoint c.args && served (outcome s.device c).status) ≡ false → KeepsCheckpoint s c)
  pub clean : InEveryHistory (λ s.
      (k : Lent) → NoneDirty s.device → (outcome s.device (call_checkpoint k)).status ≡ 0 → KeepsCheckpoint s (call_checkpoint k))
