-- A helper's: what refusals 1 to 8 leave. Nothing that users rely on is said in these terms. Assumes nothing.
use Rattle.std.specs.Prelude.{◌+◌, ◌-◌, ◌*◌, ◌^◌, ◌≤◌, ◌<◌, length}
use Rattle.model.specs.declared.Session.{Session}
use Rattle.model.specs.Words.{Image}
use Rattle.model.specs.Layout.{block_size, SizesOk}
use Rattle.model.specs.Session.{dirty_word}
use Rattle.model.specs.Write.{WriteArgs}
use Rattle.copy.specs.Steps.{Writable}

-- none of refusals 1 to 8 applies: what that leaves of the segment, of the span, and of the segment's word of dirty blocks
pub record SpanWritable (s : Session) (I : Image) (w : WriteArgs) : Type 0 where
  pub sizes : SizesOk s.layout
  pub segment : Writable s.layout I w.main
  pub block : w.block < s.layout.blocks
  pub some : 1 ≤ length w.bytes
  pub offset : w.offset < block_size
  pub span : w.offset + length w.bytes ≤ block_size * (s.layout.blocks - w.block)
  pub word : dirty_word s w.main < 2 ^ s.layout.blocks
