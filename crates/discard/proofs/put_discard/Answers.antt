use mathlib.Core.Path.{sym}
use Rattle.trace.proofs.EmitLaws.{fits_as, emitted_as}
use Rattle.discard.proofs.DiscardLaws.{zero_ops, copy_ops_lem}
use Rattle.discard.proofs.put_discard.Goals as goal

pub put_dirty_zeros-requires-clause-fits : goal.put_dirty_zeros-requires-clause-fits
put_dirty_zeros-requires-clause-fits c =
    fits_as (sym (zero_ops _ _ c.args.word _ c.main_at-to.ensures.0 c.active_at-active.ensures.0 c.in-None.ensures)) c.requires.fits

pub put_dirty_copies-requires-clause-fits : goal.put_dirty_copies-requires-clause-fits
put_dirty_copies-requires-clause-fits c =
    fits_as (sym (copy_ops_lem _ _ c.args.word _ c.main_at-to.ensures.0 c.active_at-active.ensures.0 c.in-Some.ensures)) c.requires.fits

pub returns-in-None : goal.returns-in-None
returns-in-None c =
    emitted_as c.put_dirty_zeros.ensures (zero_ops _ _ c.args.word _ c.main_at-to.ensures.0 c.active_at-active.ensures.0 c.in-None.ensures)

pub returns-in-Some : goal.returns-in-Some
returns-in-Some c =
    emitted_as c.put_dirty_copies.ensures (copy_ops_lem _ _ c.args.word _ c.main_at-to.ensures.0 c.active_at-active.ensures.0 c.in-Some.ensures)
