use Prim.Native.Nat.{ℕ, ◌+◌, ◌*◌}
use Rattle.model.specs.Layout.{block_size, block_lines}
use Rattle.model.specs.Ops.{clwbs, each_dirty}
use Rattle.trace.specs.Emit.{Emitted}
use Rattle.words.proofs.WalkLaws.{Walk}
use Rattle.segments.proofs.put_dirty_clwbs.Given as goal

abbrev pub invariant-loop-b : goal.invariant-loop-b
invariant-loop-b l = (k : ℕ) × (Walk l.dirty l.blocks l.b-iterator.rest k × Emitted l.initial.out (each_dirty l.dirty k (λ b. clwbs block_lines (l.at + block_size * b))) l.out)
