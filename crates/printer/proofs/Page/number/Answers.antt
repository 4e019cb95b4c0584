use Rattle.printer.proofs.AppendedLaws.{appended_then}
use Rattle.printer.proofs.Page.number.Goals as goal

pub returns-clause-appended : goal.returns-clause-appended
returns-clause-appended c = appended_then c.keyed.ensures.appended c.text.ensures
