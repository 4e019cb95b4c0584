use Rattle.model.specs.Range.{cat}
use Rattle.text.specs.Text.{text}
use Rattle.printer.proofs.AppendedLaws.{appended_then}
use Rattle.inspect.specs.DumpText.{level_text}
use Rattle.inspect.proofs.Dump.append_level.Goals as goal

pub returns-clause-appended : goal.returns-clause-appended
unfolding level_text text cat
returns-clause-appended c =
    appended_then
    (appended_then (appended_then (appended_then c.append_state.ensures.appended c.append_backup.ensures.appended) c.append_parts.ensures.appended)
    (appended_then c.text.ensures c.append_list.ensures.appended))
    (rw c.is_silent.ensures at c.append_end.ensures.appended)
