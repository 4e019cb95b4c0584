use mathlib.Core.Logic.{⊎_elim}
use Rattle.model.specs.Ops.{persist_copy}
use Rattle.model.specs.Write.{copy_dirty, backup_ops}
use Rattle.trace.proofs.EmitLaws.{emitted_nil, emitted_then, fits_first, fits_then}
use Rattle.copy.proofs.put_backup.Goals as goal

pub put_dirty_copies-requires-clause-fits : goal.put_dirty_copies-requires-clause-fits
unfolding backup_ops copy_dirty persist_copy
put_dirty_copies-requires-clause-fits c =
    rw (c.main_at-from.ensures.0, c.backup_at-to.ensures.0) (rw c.in-OwnBackup.is at c.requires.fits)

pub put_pair-requires-clause-fits : goal.put_pair-requires-clause-fits
unfolding backup_ops
put_pair-requires-clause-fits c = fits_first _ (rw c.in-NewBackup.is at c.requires.fits)

pub put_segment_copy-requires-clause-fits : goal.put_segment_copy-requires-clause-fits
unfolding backup_ops
put_segment_copy-requires-clause-fits c =
    let room = fits_then (rw c.in-NewBackup.is at c.requires.fits) c.put_pair.ensures in
    rw (c.main_at-from.ensures.0, c.backup_at-to-in-NewBackup.ensures.0) room

pub returns-in-NoCopy : goal.returns-in-NoCopy
unfolding backup_ops
returns-in-NoCopy c = ⊎_elim (λ e. rw e emitted_nil) (λ e. rw e emitted_nil) c.in-NoCopy.is

pub returns-in-OwnBackup : goal.returns-in-OwnBackup
unfolding backup_ops copy_dirty persist_copy
returns-in-OwnBackup c = rw c.in-OwnBackup.is (rw (c.main_at-from.ensures.0, c.backup_at-to.ensures.0) at c.put_dirty_copies.ensures)

pub returns-in-NewBackup : goal.returns-in-NewBackup
unfolding backup_ops
returns-in-NewBackup c =
    rw c.in-NewBackup.is
    (emitted_then c.put_pair.ensures (rw (c.main_at-from.ensures.0, c.backup_at-to-in-NewBackup.ensures.0) at c.put_segment_copy.ensures))
