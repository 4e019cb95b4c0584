-- A helper's: what refusals 1 to 6 leave of an image, and where a plan copies to. Nothing that users rely on is said in these
-- terms. Assumes nothing.
use Rattle.std.specs.Prelude.{ℕ, ◌+◌, ◌%◌, ◌≤◌, ◌<◌, ◌≡◌, length}
use Rattle.model.specs.declared.Layout.{Layout}
use Rattle.model.specs.declared.Plan.{Plan}
use Rattle.model.specs.declared.Plan.TheVariants.{NoCopy, OwnBackup, NewBackup, NoneFree}
use Rattle.model.specs.Words.{Image}
use Rattle.model.specs.Layout.{most, line_size, metadata_size, largest_image, segment_size, main_at}
use Rattle.model.specs.Container.{active_state, backup_to_main, Valid}

-- main segment i of the layout may be written to: the sizes, the image and the segment are as refusals 1 to 6 leave them
pub record Writable (l : Layout) (I : Image) (i : ℕ) : Type 0 where
  pub mains : l.mains ≤ most
  pub backups : l.backups ≤ most
  pub some : 1 ≤ l.blocks
  pub blocks : l.blocks ≤ most
  pub main : i < l.mains
  pub metadata : metadata_size ≤ length I
  pub size : length I ≤ largest_image
  pub lines : length I % line_size ≡ 0
  pub inside : main_at l i + segment_size l ≤ length I
  pub valid : Valid l (active_state I) (backup_to_main I)

-- where a plan copies to is a backup segment of the layout
abbrev pub CopiesTo : Layout → Plan → Type 0
CopiesTo l NoCopy = Unit {0}
CopiesTo l (OwnBackup j) = j < l.backups
CopiesTo l (NewBackup j) = j < l.backups
CopiesTo l NoneFree = Unit {0}
