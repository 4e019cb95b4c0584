use mathlib.Core.Path.{◌≡◌}
use native.Mathlib.Omega.{arith}
use Rattle.model.specs.Ops.{persist_zero, zero_segment}
use Rattle.trace.proofs.EmitLaws.{emitted_none, emitted_each, fits_each}
use Rattle.segments.proofs.put_segment_zero.Goals as goal

pub loop-b-init : goal.loop-b-init
loop-b-init c = emitted_none _

pub put_zero-requires-clause-fits : goal.put_zero-requires-clause-fits
unfolding zero_segment persist_zero
put_zero-requires-clause-fits c =
    let l = c.loop-b in
    fits_each l.b c.args.layout.blocks _ (omega arith) c.requires.fits l.invariant

pub loop-b-preserved : goal.loop-b-preserved
unfolding persist_zero
loop-b-preserved c = let l = c.loop-b in emitted_each l.b _ l.invariant c.put_zero.ensures

pub returns : goal.returns
unfolding zero_segment
returns c = let e : c.loop-b.b ≡ c.args.layout.blocks = omega arith in rw e at c.loop-b.invariant
