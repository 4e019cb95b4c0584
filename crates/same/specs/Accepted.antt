-- What is known of an image that is not refused. Assumes nothing.
use Rattle.std.specs.Prelude.{◌≡◌, ◌≤◌, length}
use Rattle.model.specs.declared.Layout.{Layout}
use Rattle.model.specs.Words.{Image}
use Rattle.model.specs.Layout.{metadata_size, SizesOk, image_size}
use Rattle.model.specs.Container.{HeaderOk, Valid, active_state, backup_to_main}

pub record Accepted (l : Layout) (I : Image) : Type 0 where
  pub sizes : SizesOk l
  pub long : length I ≡ image_size l
  pub room : metadata_size ≤ length I
  pub header : HeaderOk l I
  pub valid : Valid l (active_state I) (backup_to_main I)
