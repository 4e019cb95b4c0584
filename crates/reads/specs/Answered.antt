-- What a part that the code answers says: it is the part that model's definition gives, and lies inside the image.
-- Assumes nothing.
use Rattle.std.specs.Prelude.{◌+◌, ◌≤◌, ◌≡◌, length}
use Rattle.model.specs.Words.{Image}
use Rattle.model.specs.Reads as model
use Rattle.reads.specs.declared.Part.{Part}

pub record Answered (I : Image) (p : model.Part) (r : Part) : Type 0 where
  pub start : r.start ≡ p.start
  pub size : r.size ≡ p.size
  pub inside : r.start + r.size ≤ length I
