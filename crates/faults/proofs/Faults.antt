-- The six faults, gathered.
use Rattle.faults.specs.Faults.{Faults}
use Rattle.faults.proofs.EarlyState.{early_state_lem, early_state_unseen_lem}
use Rattle.faults.proofs.ClearedMarks.{cleared_marks_lem}
use Rattle.faults.proofs.SkippedCopy.{skipped_copy_lem}
use Rattle.faults.proofs.InactiveLine.{inactive_line_lem}
use Rattle.faults.proofs.FirstMarked.{first_marked_lem, both_marked_lem}
use Rattle.faults.proofs.DiscardClears.{discard_clears_marks_lem, discard_keeps_marks_lem, discard_clears_touch_lem}

pub faults : Faults
faults = record {
  early_state = early_state_lem;
  early_state_unseen = early_state_unseen_lem;
  cleared_marks = cleared_marks_lem;
  skipped_copy = skipped_copy_lem;
  inactive_line = inactive_line_lem;
  first_marked = first_marked_lem;
  both_marked = both_marked_lem;
  discard_clears_marks = discard_clears_marks_lem;
  discard_keeps_marks = discard_keeps_marks_lem;
  discard_clears_touch = discard_clears_touch_lem;
}
