-- The first part of a copy on write: backup segment j becomes main segment i's and equal to it. What either way of doing that
-- owes (`Ready`), and all that the argument of a copy is given (`Copying`).
use Prim.Native.Nat.{ℕ, ◌+◌, ◌≤◌, ◌<◌}
use mathlib.Core.Path.{◌≡◌}
use mathlib.Core.Logic.{◌≢◌, ◌⊎◌}
use lib.ListN.{take}
use Rattle.model.specs.declared.Layout.{Layout}
use Rattle.model.specs.declared.Session.{Session}
use Rattle.model.specs.Words.{Image, byte_at, Bytes}
use Rattle.model.specs.Layout.{segment_size, main_at, backup_at}
use Rattle.model.specs.Container.{active_state, backup_to_main}
use Rattle.model.specs.Ops.{Ops, replay}
use Rattle.model.specs.Crash.{Stage}
use Rattle.model.proofs.Argument.Persist.{Clear}
use Rattle.model.proofs.Argument.Settled.{Keeps}
use Rattle.model.proofs.Argument.Holds.{Contents}
use Rattle.model.proofs.Argument.GivenBackup.{Givable}
use Rattle.model.proofs.Argument.Invariant.{Invariant}

-- H has the pairs of I, but that backup segment j is main segment i's
abbrev pub Given : Image → ℕ → ℕ → Image → Type 0
Given I i j H = (backup_to_main H j ≡ i) × ((t : ℕ) → t < 64 → t ≢ j → backup_to_main H t ≡ backup_to_main I t)

pub record Ready (l : Layout) (I : Image) (i j : ℕ) (A : Ops) : Type 0 where
  -- only the pairs' line and the backup segment are stored to
  pub clear : (k : ℕ) → (k < 256) ⊎ ((320 ≤ k) × ((k < backup_at l j) ⊎ (backup_at l j + segment_size l ≤ k))) → Clear k A
  pub copy : (x : ℕ) → x < segment_size l → byte_at (replay A I) (backup_at l j + x) ≡ byte_at I (main_at l i + x)
  pub paired : Given I i j (replay A I)
  pub keeps : (ℓ : ℕ) → Keeps ℓ A
  -- a crash leaves the pairs before or after
  pub part : (n : ℕ) (H : Image) → Stage 4 I (take n A) H → ((t : ℕ) → t < 64 → backup_to_main H t ≡ backup_to_main I t) ⊎ Given I i j H

-- a copy of main segment i to backup segment j whose first part is A, in the course of a history
pub record Copying (l : Layout) (O : Ops) (I₀ : Image) (s : Session) (P W : Contents) (i j : ℕ) (A : Ops) : Type 0 where
  pub held : Bytes I₀
  pub inv : Invariant l O (replay O I₀) s P W
  pub givable : Givable l (active_state (replay O I₀)) (backup_to_main (replay O I₀)) i j
  pub ready : Ready l (replay O I₀) i j A
