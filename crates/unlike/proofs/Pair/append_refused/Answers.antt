use mathlib.Core.Path.{sym, ◌∙◌}
use Rattle.model.specs.Range.{cat}
use Rattle.text.specs.Text.{text}
use Rattle.printer.proofs.AppendedLaws.{appended_then}
use Rattle.inspect.proofs.LineLaws.{ok_served}
use Rattle.unlike.specs.SameText.{refused_text}
use Rattle.unlike.proofs.Pair.append_refused.Goals as goal

pub returns-then-is_ok : goal.returns-then-is_ok
unfolding refused_text text cat
returns-then-is_ok c =
    let judged = sym (ok_served _ _ c.read_status.ensures) ∙ sym c.is_ok.ensures.value in
    rw (judged ∙ c.if-is_ok.true, ← c.from.ensures) (appended_then c.keyed.ensures.appended c.text.ensures)

pub returns-else-is_ok : goal.returns-else-is_ok
unfolding refused_text text cat
returns-else-is_ok c =
    let judged = sym (ok_served _ _ c.read_status.ensures) ∙ sym c.is_ok.ensures.value in
    rw (judged ∙ c.if-is_ok.false, ← c.from.ensures) (appended_then c.keyed.ensures.appended c.text-else-is_ok.ensures)
