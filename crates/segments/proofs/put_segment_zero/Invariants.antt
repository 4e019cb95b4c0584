use Prim.Native.Nat.{◌+◌, ◌*◌}
use Rattle.model.specs.Range.{cat}
use Rattle.model.specs.Layout.{block_size}
use Rattle.model.specs.Ops.{persist_zero}
use Rattle.trace.specs.Emit.{Emitted}
use Rattle.segments.proofs.put_segment_zero.Given as goal

abbrev pub invariant-loop-b : goal.invariant-loop-b
invariant-loop-b l = Emitted l.initial.out (cat l.b (λ i. persist_zero (l.to + block_size * i))) l.out
