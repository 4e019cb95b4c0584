use Rattle.model.specs.Range.{cat}
use Rattle.model.proofs.Laws.Status.{refusal_refuses}
use Rattle.text.specs.Text.{text}
use Rattle.printer.proofs.AppendedLaws.{appended_first}
use Rattle.unlike.specs.SameText.{same_text}
use Rattle.unlike.proofs.same_text.Goals as goal
use Rattle.unlike.proofs.same_text.Goals.{in-Err, in-Ok-true, in-Ok-false}

pub returns-clause-size_value : goal.returns-clause-size_value
unfolding same_text text cat
returns-clause-size_value c =
    let begun = c.new-page.ensures.begun in
    elim c.match-compared.branch [
      | in-Err w ↦
          let k = w.in-Err in
          rw (w.page-is, ← k.ensures.status_value, refusal_refuses k.refusal) (appended_first begun w.append_refused.ensures).1
      | in-Ok-true w ↦
          let k = w.in-Ok-true in
          rw (w.page-is, ← k.ensures.status_value, ← k.ensures.same_value, k.field-0-test) (appended_first begun w.text.ensures).1
      | in-Ok-false w ↦
          let k = w.in-Ok-false in
          rw (w.page-is, ← k.ensures.status_value, ← k.ensures.same_value, k.field-0-test) (appended_first begun w.append_unlike.ensures).1
    ]
