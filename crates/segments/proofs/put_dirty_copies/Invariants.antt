use Prim.Native.Nat.{ℕ, ◌+◌, ◌*◌}
use Rattle.model.specs.Words.{word_at}
use Rattle.model.specs.Layout.{word_size, block_size}
use Rattle.model.specs.Ops.{put_block, each_dirty}
use Rattle.trace.specs.Emit.{Emitted}
use Rattle.words.proofs.WalkLaws.{Walk}
use Rattle.segments.proofs.put_dirty_copies.Given as goal

abbrev pub invariant-loop-b : goal.invariant-loop-b
invariant-loop-b l =
    (k : ℕ) × (Walk l.word l.blocks l.b-iterator.rest k × Emitted l.initial.out (each_dirty l.word k (λ b. put_block l.flush (l.to + block_size * b) (λ j. word_at l.image (l.from + block_size * b + word_size * j)))) l.out)
