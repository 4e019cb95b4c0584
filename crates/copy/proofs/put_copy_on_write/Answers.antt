use mathlib.Core.Path.{sym, ◌∙◌}
use mathlib.Core.List.{append_assoc}
use Rattle.model.specs.Write.{copy_on_write_ops}
use Rattle.trace.proofs.EmitLaws.{emitted_then, emitted_unless, fits_first, fits_then}
use Rattle.copy.proofs.put_copy_on_write.Goals as goal

pub put_backup-requires-clause-fits : goal.put_backup-requires-clause-fits
unfolding copy_on_write_ops
put_backup-requires-clause-fits c = fits_first _ (fits_first _ (rw (sym c.has_copy.ensures ∙ c.if-has_copy.true) at c.requires.fits))

pub put_state-requires-clause-fits : goal.put_state-requires-clause-fits
unfolding copy_on_write_ops
put_state-requires-clause-fits c =
    fits_then (rw (sym c.has_copy.ensures ∙ c.if-has_copy.true, append_assoc) at c.requires.fits) c.put_backup.ensures

pub returns-then-has_copy : goal.returns-then-has_copy
unfolding copy_on_write_ops
returns-then-has_copy c =
    rw (sym c.has_copy.ensures ∙ c.if-has_copy.true, append_assoc) (emitted_then c.put_backup.ensures c.put_state.ensures)

pub returns-else-has_copy : goal.returns-else-has_copy
unfolding copy_on_write_ops
returns-else-has_copy c = emitted_unless _ _ (sym c.has_copy.ensures ∙ c.if-has_copy.false)
