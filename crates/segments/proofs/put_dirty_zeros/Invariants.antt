use Prim.Native.Nat.{ℕ, ◌+◌, ◌*◌}
use mathlib.Core.Bool.{false}
use Rattle.model.specs.Layout.{block_size}
use Rattle.model.specs.Ops.{put_block, each_dirty}
use Rattle.trace.specs.Emit.{Emitted}
use Rattle.words.proofs.WalkLaws.{Walk}
use Rattle.segments.proofs.put_dirty_zeros.Given as goal

abbrev pub invariant-loop-b : goal.invariant-loop-b
invariant-loop-b l = (k : ℕ) × (Walk l.word l.blocks l.b-iterator.rest k × Emitted l.initial.out (each_dirty l.word k (λ b. put_block false (l.to + block_size * b) (λ _. 0))) l.out)
