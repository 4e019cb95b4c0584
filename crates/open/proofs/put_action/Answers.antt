use Rattle.model.specs.Open.{action_ops}
use Rattle.trace.proofs.EmitLaws.{emitted_nil}
use Rattle.open.proofs.put_action.Goals as goal

pub returns-in-Nothing : goal.returns-in-Nothing
unfolding action_ops
returns-in-Nothing c = rw c.in-Nothing.is emitted_nil
