use Prim.Native.Nat.{◌≤◌}
use mathlib.Core.Path.{◌≡◌}
use Rattle.model.specs.Container.{seg_state, backup_to_main, is_paired}
use Rattle.model.specs.Open.{recovery_action}
use Rattle.model.specs.Range.{sum_to}
use Rattle.model.specs.Counts.{acts}
use Rattle.open.proofs.count_treated.Given as goal

abbrev pub invariant-loop-i : goal.invariant-loop-i
invariant-loop-i l = (l.sum ≡ sum_to l.i (λ j. acts (recovery_action (seg_state l.image l.line j) (is_paired l.layout (backup_to_main l.image) j)))) × (l.sum ≤ l.i)
