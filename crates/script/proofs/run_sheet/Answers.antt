use Rattle.printer.proofs.AppendedLaws.{appended_first, appended_as}
use Rattle.script.proofs.SheetLaws.{prints_bad}
use Rattle.script.proofs.run_sheet.Goals as goal
use Rattle.script.proofs.run_sheet.Goals.{in-Some, in-None}

pub returns-clause-value : goal.returns-clause-value
returns-clause-value c =
    elim c.match-verdict.branch [
      | in-Some w ↦ rw w.page-is (appended_first c.new-page.ensures.begun (appended_as (prints_bad c.args.input.now w.in-Some.n w.in-Some.ensures) w.number.ensures.appended)).1
      | in-None w ↦ rw w.page-is (appended_first c.new-page.ensures.begun w.run_good.ensures).1
    ]
