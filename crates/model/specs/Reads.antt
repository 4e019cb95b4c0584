-- The two reads (SPECIFICATION 12; the trade: working read and saved read) and the companion that gives their number. Assumes
-- nothing.
use Rattle.std.specs.Prelude.{ℕ, ◌+◌, ◌*◌, cond, List, ◌++◌, take, drop}
use Rattle.model.specs.declared.Layout.{Layout}
use Rattle.std.specs.Prelude.{Option, None, Some}
use Rattle.model.specs.Words.{Image}
use Rattle.model.specs.Layout.{block_size, main_at}
use Rattle.model.specs.Status.{Errors, first_error, served}
use Rattle.model.specs.Container.{active_line, checkpoint_located, container_errors, main_errors, block_errors}

abbrev pub read_errors : Layout → Image → ℕ → ℕ → Errors
read_errors l I i b = container_errors l I ++ main_errors l i ++ block_errors l b

-- the companion: the number of either read
unfoldable pub read_status : Layout → Image → ℕ → ℕ → ℕ
read_status l I i b = first_error (read_errors l I i b)

-- a part of the image: where it starts and how long it is
pub record Part : Type 0 where
  pub start : ℕ
  pub size : ℕ

-- the bytes of a part
abbrev pub part_of : Image → Part → List ℕ
part_of I p = take p.size (drop p.start I)

-- the part of length 0, for a refusal or an empty segment
abbrev pub no_part : Part
no_part = record { start = 0; size = 0 }

-- block b of the segment that starts at a place
abbrev pub block_part : ℕ → ℕ → Part
block_part at b = record { start = at + block_size * b; size = block_size }

-- block b of what stands there, or no part
abbrev pub located_part : Option ℕ → ℕ → Part
located_part None b = no_part
located_part (Some p) b = block_part p b

-- the working read: the block in its main segment
unfoldable pub working_part : Layout → Image → ℕ → ℕ → Part
working_part l I i b = cond (served (read_status l I i b)) (block_part (main_at l i) b) no_part

-- the checkpoint read: the block where the checkpoint stands, by the active line
unfoldable pub checkpoint_part : Layout → Image → ℕ → ℕ → Part
checkpoint_part l I i b =
    cond (served (read_status l I i b)) (located_part (checkpoint_located l I (active_line I) i) b) no_part

abbrev pub working_block : Layout → Image → ℕ → ℕ → List ℕ
working_block l I i b = part_of I (working_part l I i b)

abbrev pub checkpoint_block : Layout → Image → ℕ → ℕ → List ℕ
checkpoint_block l I i b = part_of I (checkpoint_part l I i b)
