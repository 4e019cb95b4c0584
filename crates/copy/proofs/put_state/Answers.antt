use mathlib.Core.List.{[], ◌∷◌, ◌++◌}
use Rattle.model.specs.Ops.{sfence}
use Rattle.model.specs.Write.{state_ops}
use Rattle.trace.proofs.EmitLaws.{fits_first, fits_then, emitted_then}
use Rattle.copy.proofs.put_state.Goals as goal

pub sfence-requires : goal.sfence-requires
sfence-requires c = fits_first (state_ops c.args.image.now c.args.main ++ sfence ∷ []) c.requires.fits

pub put_byte-requires-clause-fits : goal.put_byte-requires-clause-fits
unfolding state_ops
put_byte-requires-clause-fits c = rw c.active_at-active.ensures.0 (fits_first _ (fits_then c.requires.fits c.sfence.ensures))

pub clwb-requires : goal.clwb-requires
unfolding state_ops
clwb-requires c =
    let line = c.active_at-active.ensures.0 in
    rw line (fits_first _ (fits_then (fits_then c.requires.fits c.sfence.ensures) (rw line at c.put_byte.ensures)))

pub sfence-requires-2 : goal.sfence-requires-2
unfolding state_ops
sfence-requires-2 c =
    let line = c.active_at-active.ensures.0 in
    fits_then (fits_then (fits_then c.requires.fits c.sfence.ensures) (rw line at c.put_byte.ensures)) (rw line at c.clwb.ensures)

pub returns : goal.returns
unfolding state_ops
returns c =
    let line = c.active_at-active.ensures.0 in
    emitted_then c.sfence.ensures (emitted_then (rw line at c.put_byte.ensures) (emitted_then (rw line at c.clwb.ensures) c.sfence-2.ensures))
