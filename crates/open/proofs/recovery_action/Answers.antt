use mathlib.Core.Path.{sym, ap, ◌∙◌}
use native.Mathlib.Omega.{arith}
use Rattle.model.specs.Open.{recovery_action}
use Rattle.open.proofs.ActionLaws.{paired_cell, unpaired_cell}
use Rattle.open.proofs.recovery_action.Goals as goal

pub returns-then-paired : goal.returns-then-paired
returns-then-paired c = paired_cell _ (omega arith) ∙ ap (recovery_action _) (sym c.if-paired.true)

pub returns-else-paired : goal.returns-else-paired
returns-else-paired c = unpaired_cell _ (omega arith) ∙ ap (recovery_action _) (sym c.if-paired.false)
