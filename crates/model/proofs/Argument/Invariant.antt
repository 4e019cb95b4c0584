-- What holds between the calls of a history: the image I as it stands, the operations O played since all was durable, the
-- session s, and the contents P (checkpoint) and W (working) of the reference model.
use Prim.Native.Nat.{ℕ, ◌+◌, ◌/◌, ◌<◌}
use mathlib.Core.Path.{◌≡◌, refl}
use mathlib.Core.Logic.{◌≢◌}
use mathlib.Core.Bool.{Bool, true, false}
use Rattle.model.specs.declared.Layout.{Layout}
use Rattle.model.specs.declared.Session.{Session}
use Rattle.model.specs.Words.{Image, byte_at}
use Rattle.model.specs.Layout.{segment_size, main_at, backup_at}
use Rattle.model.specs.Container.{active_state, backup_to_main}
use Rattle.model.specs.Session.{dirty_segment, dirty_block}
use Rattle.model.specs.Ops.{Ops}
use Rattle.model.proofs.Argument.Settled.{Settled}
use Rattle.model.proofs.Argument.View.{Recoverable}
use Rattle.model.proofs.Argument.Holds.{Contents}

pub record Invariant (l : Layout) (O : Ops) (I : Image) (s : Session) (P W : Contents) : Type 0 where
  -- the image recovers to the checkpoint, and its main segments hold the working state
  pub recovers : Recoverable l I P
  pub working : (i x : ℕ) → i < l.mains → x < segment_size l → byte_at I (main_at l i + x) ≡ W i x
  -- dirty segments are segments, and none holds its checkpoint itself
  pub low : (i : ℕ) → dirty_segment s i ≡ true → i < l.mains
  pub moved : (i : ℕ) → dirty_segment s i ≡ true → active_state I i ≢ 1
  -- a segment that is not dirty has equal contents
  pub clean : (i x : ℕ) → i < l.mains → x < segment_size l → dirty_segment s i ≡ false → W i x ≡ P i x
  -- a backup segment equals its main segment in every block that is not dirty
  pub twin : (i j x : ℕ) → i < l.mains → j < l.backups → x < segment_size l → backup_to_main I j ≡ i → dirty_block s i (x / 256) ≡ false
      → byte_at I (backup_at l j + x) ≡ byte_at I (main_at l i + x)
  -- a segment without a checkpoint is zero in every block that is not dirty
  pub blank : (i x : ℕ) → i < l.mains → x < segment_size l → active_state I i ≡ 0 → dirty_block s i (x / 256) ≡ false → byte_at I (main_at l i + x) ≡ 0
  -- settled are: the metadata, segments that are not dirty, blocks that are not dirty, backup segments
  pub firm_meta : (i : ℕ) → i < 512 → Settled (i / 64) O
  pub firm_segment : (i x : ℕ) → i < l.mains → x < segment_size l → dirty_segment s i ≡ false → Settled ((main_at l i + x) / 64) O
  pub firm_clean : (i x : ℕ) → i < l.mains → x < segment_size l → dirty_block s i (x / 256) ≡ false → Settled ((main_at l i + x) / 64) O
  pub firm_backup : (j x : ℕ) → j < l.backups → x < segment_size l → Settled ((backup_at l j + x) / 64) O

-- a segment that holds its checkpoint itself is not dirty, so it is settled
pub firm_own : {l : Layout} {O : Ops} {I : Image} {s : Session} {P W : Contents} → Invariant l O I s P W
    → (i x : ℕ) → i < l.mains → x < segment_size l → active_state I i ≡ 1 → Settled ((main_at l i + x) / 64) O
firm_own {l} {O} {s = s} inv i x h k e = go (dirty_segment s i) refl
  where
    go : (b : Bool) → dirty_segment s i ≡ b → Settled ((main_at l i + x) / 64) O
    go true d = absurd (inv.moved i d e)
    go false d = inv.firm_segment i x h k d
