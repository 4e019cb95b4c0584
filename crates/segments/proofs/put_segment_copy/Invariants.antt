use Prim.Native.Nat.{◌+◌, ◌*◌}
use Rattle.model.specs.Range.{cat}
use Rattle.model.specs.Layout.{block_size}
use Rattle.model.specs.Ops.{persist_copy}
use Rattle.trace.specs.Emit.{Emitted}
use Rattle.segments.proofs.put_segment_copy.Given as goal

abbrev pub invariant-loop-b : goal.invariant-loop-b
invariant-loop-b l = Emitted l.initial.out (cat l.b (λ i. persist_copy l.image (l.from + block_size * i) (l.to + block_size * i))) l.out
