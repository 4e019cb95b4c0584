use Rattle.model.specs.Ops.{stores}
use Rattle.trace.specs.Emit.{Emitted}
use Rattle.blocks.proofs.put_zeros.Given as goal

abbrev pub invariant-loop-k : goal.invariant-loop-k
invariant-loop-k l = Emitted l.initial.out (stores l.k l.to (λ _. 0)) l.out
