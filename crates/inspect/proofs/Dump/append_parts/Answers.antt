use mathlib.Core.Path.{sym}
use Rattle.model.specs.Range.{cat}
use Rattle.text.specs.Text.{text}
use Rattle.printer.proofs.AppendedLaws.{appended_then}
use Rattle.inspect.specs.DumpText.{part_text}
use Rattle.inspect.proofs.Dump.append_parts.Goals as goal

pub returns-clause-appended : goal.returns-clause-appended
unfolding part_text text cat
returns-clause-appended c =
    let saved = c.checkpoint_part-saved.ensures in
    let working = c.working_part-working.ensures in
    rw (sym saved.start, sym saved.size, sym working.start, sym working.size)
    (appended_then c.append_part.ensures.appended c.append_part-2.ensures.appended)
