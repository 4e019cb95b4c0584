-- What the comparison's text names is there: two images that are not refused are unlike exactly if some main segment is by SameText.antt, so
-- that the one named is a main segment of the layout. Proved in proofs/UnlikeNamed.antt. Assumes nothing.
use Rattle.std.specs.Prelude.{◌<◌, ◌≡◌, ◌↔◌, false}
use Rattle.model.specs.declared.Layout.{Layout}
use Rattle.model.specs.Words.{Image}
use Rattle.model.specs.Same.{same_outcome}
use Rattle.unlike.specs.SameText.{first_main}

abbrev pub UnlikeNamed : Type 0
UnlikeNamed =
    (l : Layout) (I J : Image) → (same_outcome l I J).status ≡ 0
    → ((same_outcome l I J).same ≡ false) ↔ (first_main l I J < l.mains)
