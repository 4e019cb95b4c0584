use Rattle.model.specs.Ops.{clwbs}
use Rattle.trace.specs.Emit.{Emitted}
use Rattle.blocks.proofs.put_clwbs.Given as goal

abbrev pub invariant-loop-k : goal.invariant-loop-k
invariant-loop-k l = Emitted l.initial.out (clwbs l.k l.at) l.out
