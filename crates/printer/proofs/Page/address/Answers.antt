use Rattle.printer.proofs.AppendedLaws.{appended_then}
use Rattle.printer.proofs.Page.address.Goals as goal

pub returns-clause-appended : goal.returns-clause-appended
returns-clause-appended c = appended_then c.text.ensures c.hexadecimal.ensures.appended
