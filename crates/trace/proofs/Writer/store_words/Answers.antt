use native.Mathlib.Omega.{arith}
use Rattle.model.specs.Ops.{stores}
use Rattle.trace.proofs.EmitLaws.{emitted_none, fits_each, emitted_each}
use Rattle.trace.proofs.Writer.store_words.Goals as goal

pub loop-k-init : goal.loop-k-init
unfolding stores
loop-k-init c = emitted_none _

pub loop-k-preserved : goal.loop-k-preserved
unfolding stores
loop-k-preserved c =
    let l = c.loop-k in
    emitted_each l.k _ l.invariant (rw c.word_at-word.ensures at c.store.ensures)

pub store-requires : goal.store-requires
unfolding stores
store-requires c =
    let l = c.loop-k in
    rw c.word_at-word.ensures (fits_each l.k _ _ (omega arith) c.requires.fits l.invariant)
