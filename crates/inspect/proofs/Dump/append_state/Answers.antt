use Rattle.model.specs.Range.{cat}
use Rattle.text.specs.Text.{text}
use Rattle.printer.proofs.AppendedLaws.{appended_then}
use Rattle.inspect.proofs.Dump.append_state.Goals as goal

pub returns-clause-appended : goal.returns-clause-appended
unfolding text cat
returns-clause-appended c = appended_then c.keyed.ensures.appended (rw (← c.active_line.ensures.0, ← c.byte_or_zero-state.ensures, ← c.from.ensures) c.keyed-2.ensures.appended)
