use native.Mathlib.Omega.{arith}
use Rattle.model.specs.Ops.{stores}
use Rattle.trace.proofs.EmitLaws.{emitted_none, emitted_each, fits_each}
use Rattle.blocks.proofs.put_zeros.Goals as goal

pub loop-k-init : goal.loop-k-init
unfolding stores
loop-k-init c = emitted_none _

pub store-requires : goal.store-requires
unfolding stores
store-requires c = let l = c.loop-k in fits_each l.k 32 _ (omega arith) c.requires.fits l.invariant

pub loop-k-preserved : goal.loop-k-preserved
unfolding stores
loop-k-preserved c = let l = c.loop-k in emitted_each l.k _ l.invariant c.store.ensures
