use Rattle.model.specs.Range.{cat}
use Rattle.text.specs.Text.{text}
use Rattle.printer.proofs.AppendedLaws.{appended_then}
use Rattle.calls.proofs.Sheet.answered.Goals as goal
use Rattle.calls.proofs.Sheet.answered.Goals.{in-Ok, in-Err}

pub returns-clause-appended : goal.returns-clause-appended
unfolding text cat
returns-clause-appended c =
    let line = appended_then c.number.ensures.appended c.decimal.ensures.appended in
    elim c.match-answer.branch [
      | in-Ok w ↦ rw w.in-Ok.is (rw (c.status_code.ensures, w.answer-is, w.ops-is) at line)
      | in-Err w ↦ rw w.in-Err.is (rw (c.status_code.ensures, w.answer-is, w.in-Err.is, w.ops-is) at line)
    ]
