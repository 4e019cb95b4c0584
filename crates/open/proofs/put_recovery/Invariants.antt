use Rattle.model.specs.Range.{cat}
use Rattle.model.specs.Open.{recover_segment}
use Rattle.trace.specs.Emit.{Emitted}
use Rattle.open.proofs.put_recovery.Given as goal

abbrev pub invariant-loop-i : goal.invariant-loop-i
invariant-loop-i l = Emitted l.initial.here (cat l.i (recover_segment l.layout l.image l.line)) l.here
