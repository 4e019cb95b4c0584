use native.Mathlib.Omega.{arith}
use mathlib.Core.List.{[]}
use Rattle.model.specs.Range.{cat}
use Rattle.text.specs.Text.{text}
use Rattle.calls.specs.Printed.{blank}
use Rattle.calls.proofs.CallLaws.{made, call_text, call_step}
use Rattle.calls.proofs.Sheet.write.Goals as goal

pub returns-clause-call_ran : goal.returns-clause-call_ran
unfolding blank text cat
returns-clause-call_ran c = λ b «is».
    let left = c.answered.ensures in
    let m = made {s = c.args.self.now} {s' = c.answered.new.self} c.step_write-written.ensures c.from_mut-clients.ensures.value (omega arith) left.same.1 left.session left.same.2 in
    (call_text m b «is» [] "write=" left.appended, call_step m b «is»)
