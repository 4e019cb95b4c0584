use Rattle.std.proofs.Common.{sym}
use Rattle.printer.proofs.AppendedLaws.{appended_first, appended_as}
use Rattle.upgrade.proofs.AnswerLaws.{answer_good, answer_bad}
use Rattle.upgrade.proofs.upgrade_sheet.Goals as goal
use Rattle.upgrade.proofs.upgrade_sheet.Goals.{in-Some, in-None}

pub returns-clause-value : goal.returns-clause-value
returns-clause-value c =
    elim c.match-verdict.branch [
      | in-Some w ↦ rw w.page-is (appended_first c.new-page.ensures.begun (appended_as (answer_bad c.args.input.now w.in-Some.n (sym w.in-Some.ensures)) w.number.ensures.appended)).1
      | in-None w ↦ rw w.page-is (appended_first c.new-page.ensures.begun (appended_as (answer_good c.args.input.now (sym w.in-None.ensures)) w.upgrade_good.ensures)).1
    ]
