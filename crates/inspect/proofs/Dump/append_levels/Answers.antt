use native.Mathlib.Omega.{arith}
use native.Mathlib.Numerals.{add-one}
use Rattle.model.specs.Range.{cat}
use Rattle.printer.proofs.AppendedLaws.{appended_then}
use Rattle.inspect.proofs.Dump.append_levels.Goals as goal

pub loop-main-preserved : goal.loop-main-preserved
unfolding cat
loop-main-preserved c = record { upper_bound = omega arith; appended = rw add-one (appended_then c.loop-main.invariant.appended c.append_level.ensures.appended) }
