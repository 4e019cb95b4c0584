use native.Mathlib.Omega.{arith}
use borrow.Author.Tests.{eq-eqb, ne_eqb}
use Rattle.model.specs.Range.{cat}
use Rattle.text.specs.Text.{text}
use Rattle.printer.proofs.AppendedLaws.{appended_then}
use Rattle.inspect.proofs.append_part.Goals as goal

pub returns-then-part-eq0-clause-appended : goal.returns-then-part-eq0-clause-appended
unfolding text cat
returns-then-part-eq0-clause-appended c = appended_then c.text.ensures (rw (eq-eqb c.args.part.size 0 (omega arith)) c.text-then-part-eq0.ensures)

pub returns-else-part-eq0-clause-appended : goal.returns-else-part-eq0-clause-appended
returns-else-part-eq0-clause-appended c = appended_then c.text.ensures (rw (ne_eqb c.args.part.size 0 c.if-part-eq0.false) c.hexadecimal.ensures.appended)
