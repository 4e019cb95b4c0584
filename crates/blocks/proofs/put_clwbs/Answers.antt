use native.Mathlib.Omega.{arith}
use Rattle.model.specs.Ops.{clwbs}
use Rattle.trace.proofs.EmitLaws.{emitted_none, emitted_each, fits_each}
use Rattle.blocks.proofs.put_clwbs.Goals as goal

pub loop-k-init : goal.loop-k-init
unfolding clwbs
loop-k-init c = emitted_none _

pub clwb-requires : goal.clwb-requires
unfolding clwbs
clwb-requires c = let l = c.loop-k in fits_each l.k 4 _ (omega arith) c.requires.fits l.invariant

pub loop-k-preserved : goal.loop-k-preserved
unfolding clwbs
loop-k-preserved c = let l = c.loop-k in emitted_each l.k _ l.invariant c.clwb.ensures
