use Rattle.model.specs.Range.{cat}
use Rattle.text.specs.Text.{text}
use Rattle.printer.proofs.AppendedLaws.{appended_then}
use Rattle.inspect.proofs.append_item.Goals as goal
use Rattle.inspect.proofs.append_item.Goals.{then-seen, else-seen}

pub returns-clause-appended : goal.returns-clause-appended
unfolding text cat
returns-clause-appended c =
    let number = c.decimal.ensures.appended in
    elim c.if-seen.branch [
      | then-seen w ↦ rw w.if-seen.true (appended_then w.text.ensures (rw w.page-is at number))
      | else-seen w ↦ rw w.if-seen.false (rw w.page-is at number)
    ]
