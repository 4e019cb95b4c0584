-- What the operations of a checkpoint go by, where no refusal applies. A helper's file: nothing that users rely on is said in
-- its terms. Assumes nothing.
use Rattle.std.specs.Prelude.{ℕ, ◌-◌, ◌^◌, ◌≤◌, ◌<◌, ◌≢◌, List, length, get_or}
use Rattle.model.specs.declared.Layout.{Layout}
use Rattle.model.specs.Words.{Image}
use Rattle.model.specs.Layout.{most, metadata_size}
use Rattle.model.specs.Container.{committed_epoch}

-- the epoch that cannot be raised
abbrev pub last_epoch : ℕ
last_epoch = 2 ^ 64 - 1

-- the image and the words of dirty blocks are such that a checkpoint can be written
pub record Advancing (l : Layout) (I : Image) (words : List ℕ) : Type 0 where
  pub mains : l.mains ≤ most
  pub blocks : l.blocks ≤ most
  pub long : metadata_size ≤ length I
  pub raises : committed_epoch I ≢ last_epoch
  pub within : (i : ℕ) → i < l.mains → get_or words i 0 < 2 ^ l.blocks
