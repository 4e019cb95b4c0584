-- When a main segment has the same checkpoint in two images. Assumes nothing.
use Rattle.std.specs.Prelude.{ℕ, Bool, ◌&&◌, eqb}
use Rattle.std.specs.Bool.{beq}
use Rattle.model.specs.declared.Layout.{Layout}
use Rattle.model.specs.Words.{Image}
use Rattle.model.specs.Layout.{ss_initial, segment_size}
use Rattle.model.specs.Container.{active_line, active_state, checkpoint_segment}
use Rattle.model.specs.Same.{same_bytes}

-- main segment i is in state 0 in both or in neither, and its checkpoint bytes agree
unfoldable pub same_segment : Layout → Image → Image → ℕ → Bool
same_segment l I J i =
    beq (eqb (active_state I i) ss_initial) (eqb (active_state J i) ss_initial)
    && same_bytes (segment_size l) (checkpoint_segment l I (active_line I) i) (checkpoint_segment l J (active_line J) i)
