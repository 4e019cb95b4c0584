use mathlib.Core.Path.{sym, ◌∙◌}
use Rattle.printer.proofs.AppendedLaws.{appended_none, appended_then, appended_first}
use Rattle.inspect.specs.DumpText.{dump_text}
use Rattle.inspect.proofs.LineLaws.{ok_served}
use Rattle.inspect.proofs.dump_text.Goals as goal
use Rattle.inspect.proofs.dump_text.Goals.{then-is_ok, else-is_ok}

pub returns-clause-size_value : goal.returns-clause-size_value
unfolding dump_text
returns-clause-size_value c =
    let first = c.append_first.ensures.appended in
    let judged = sym (ok_served _ _ c.read_status-status.ensures) ∙ sym c.is_ok.ensures.value in
    elim c.if-is_ok.branch [
      | then-is_ok w ↦ rw (w.page-is, judged ∙ w.if-is_ok.true) (appended_first c.new-page.ensures.begun (appended_then first w.append_levels.ensures)).1
      | else-is_ok w ↦ rw (w.page-is, judged ∙ w.if-is_ok.false) (appended_first c.new-page.ensures.begun (appended_then first appended_none)).1
    ]
