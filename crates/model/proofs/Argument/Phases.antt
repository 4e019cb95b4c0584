-- The phases of a copy on write and of a checkpoint, each ended by a fence: what a phase stores and writes back has arrived
-- before the next one stores.
use Prim.Native.Nat.{ℕ, suc, ◌+◌}
use mathlib.Core.Path.{◌≡◌}
use mathlib.Core.Bool.{cond}
use mathlib.Core.List.{[], ◌∷◌, ◌++◌, append_assoc}
use Rattle.model.specs.declared.Layout.{Layout}
use Rattle.model.specs.declared.Session.{Session}
use Rattle.model.specs.declared.Plan.{Plan}
use Rattle.model.specs.Words.{Image}
use Rattle.model.specs.Layout.{epoch_at, ss_backup}
use Rattle.model.specs.Container.{committed_epoch, active_line}
use Rattle.model.specs.Ops.{store, clwb, sfence, Ops, store_byte}
use Rattle.model.specs.Write.{copies, backup_ops, state_ops, copy_on_write_ops}
use Rattle.model.specs.Checkpoint.{flush_dirty, states_ops, epoch_ops, checkpoint_ops}

-- ---- a copy on write: the backup, then state 2

abbrev pub backup_phase : Layout → Image → ℕ → ℕ → Plan → Ops
backup_phase l I word i p = backup_ops l I word i p ++ sfence ∷ []

abbrev pub state_phase : Image → ℕ → Ops
state_phase I i = store_byte I (active_line I + i) ss_backup ∷ clwb (active_line I) ∷ sfence ∷ []

pub copy_phases : (l : Layout) (I : Image) (word i : ℕ) (p : Plan)
    → copy_on_write_ops l I word i p ≡ cond (copies p) (backup_phase l I word i p ++ state_phase I i) []
unfolding copy_on_write_ops state_ops
copy_phases l I word i p = simp append_assoc

-- ---- a checkpoint: dirty blocks, then states, then the epoch

abbrev pub blocks_phase : Session → Ops
blocks_phase s = flush_dirty s.layout s.dirty_blocks ++ sfence ∷ []

abbrev pub states_phase : Session → Image → Ops
states_phase s I = states_ops I s.dirty_segments ++ sfence ∷ []

abbrev pub epoch_phase : Image → Ops
epoch_phase I = store epoch_at (suc (committed_epoch I)) ∷ clwb epoch_at ∷ sfence ∷ []

-- all before the store of the epoch
abbrev pub before_epoch : Session → Image → Ops
before_epoch s I = blocks_phase s ++ states_phase s I

pub checkpoint_phases : (s : Session) (I : Image) → checkpoint_ops s I ≡ before_epoch s I ++ epoch_phase I
unfolding checkpoint_ops epoch_ops
checkpoint_phases s I = simp append_assoc
