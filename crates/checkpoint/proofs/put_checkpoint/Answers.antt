use Rattle.model.specs.Checkpoint.{checkpoint_ops}
use Rattle.trace.proofs.EmitLaws.{fits_first, fits_then, emitted_then}
use Rattle.checkpoint.proofs.put_checkpoint.Goals as goal

pub put_flushes-requires-clause-fits : goal.put_flushes-requires-clause-fits
unfolding checkpoint_ops
put_flushes-requires-clause-fits c = fits_first _ (fits_first _ (fits_first _ c.requires.fits))

pub sfence-requires : goal.sfence-requires
unfolding checkpoint_ops
sfence-requires c = fits_first _ (fits_then (fits_first _ (fits_first _ c.requires.fits)) c.put_flushes.ensures)

pub put_states-requires-clause-fits : goal.put_states-requires-clause-fits
unfolding checkpoint_ops
put_states-requires-clause-fits c = fits_then (fits_then (fits_first _ (fits_first _ c.requires.fits)) c.put_flushes.ensures) c.sfence.ensures

pub sfence-requires-2 : goal.sfence-requires-2
unfolding checkpoint_ops
sfence-requires-2 c =
    let w = emitted_then c.put_flushes.ensures (emitted_then c.sfence.ensures c.put_states.ensures) in
    fits_first _ (fits_then (fits_first _ c.requires.fits) w)

pub put_epoch-requires-clause-fits : goal.put_epoch-requires-clause-fits
unfolding checkpoint_ops
put_epoch-requires-clause-fits c =
    let w = emitted_then c.put_flushes.ensures (emitted_then c.sfence.ensures c.put_states.ensures) in
    fits_then (fits_then (fits_first _ c.requires.fits) w) c.sfence-2.ensures

pub sfence-requires-3 : goal.sfence-requires-3
unfolding checkpoint_ops
sfence-requires-3 c =
    let w = emitted_then c.put_flushes.ensures (emitted_then c.sfence.ensures c.put_states.ensures) in
    fits_then c.requires.fits (emitted_then w (emitted_then c.sfence-2.ensures c.put_epoch.ensures))

pub returns : goal.returns
unfolding checkpoint_ops
returns c =
    let w = emitted_then c.put_flushes.ensures (emitted_then c.sfence.ensures c.put_states.ensures) in
    emitted_then (emitted_then w (emitted_then c.sfence-2.ensures c.put_epoch.ensures)) c.sfence-3.ensures
