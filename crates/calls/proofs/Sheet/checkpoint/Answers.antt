use native.Mathlib.Omega.{arith}
use Rattle.model.specs.Range.{cat}
use Rattle.text.specs.Text.{text}
use Rattle.calls.specs.Printed.{blank, checkpointed, checkpoint_text}
use Rattle.calls.proofs.CallLaws.{made, call_text, call_step}
use Rattle.calls.proofs.Sheet.checkpoint.Goals as goal

pub returns-then-not-wanted-clause-checkpoint_ran : goal.returns-then-not-wanted-clause-checkpoint_ran
unfolding checkpointed checkpoint_text text cat
returns-then-not-wanted-clause-checkpoint_ran c = λ b «is». rw c.if-not-wanted.true (c.text.ensures, «is»)

pub returns-clause-checkpoint_ran : goal.returns-clause-checkpoint_ran
unfolding checkpointed checkpoint_text blank text cat
returns-clause-checkpoint_ran c = λ b «is».
    let left = c.answered.ensures in
    let m = made {s = c.args.self.now} {s' = c.answered.new.self} c.step_checkpoint-checkpointed.ensures c.from_mut-clients.ensures.value (omega arith) left.same.1 left.session left.same.2 in
    rw c.if-not-wanted.false (call_text m b «is» (text " ") "save=" left.appended, call_step m b «is»)
