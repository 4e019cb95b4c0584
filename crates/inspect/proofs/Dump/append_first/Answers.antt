use Rattle.model.specs.Range.{cat}
use Rattle.text.specs.Text.{text}
use Rattle.printer.proofs.AppendedLaws.{appended_then}
use Rattle.inspect.specs.DumpText.{first_text}
use Rattle.inspect.proofs.Dump.append_first.Goals as goal

pub returns-clause-appended : goal.returns-clause-appended
unfolding first_text text cat
returns-clause-appended c =
    appended_then (appended_then (appended_then c.append_sizes.ensures.appended c.append_epoch.ensures.appended) c.append_states_at.ensures.appended)
    (rw (c.status_code-code.ensures, c.requires.code) at c.number.ensures.appended)
