use Prim.Native.Nat.{◌%◌}
use borrow.Author.Tests.{eq-eqb}
use Rattle.trace.proofs.EmitLaws.{emitted_nil}
use Rattle.span.proofs.put_first.Goals as goal

pub returns-else-at-ne0 : goal.returns-else-at-ne0
returns-else-at-ne0 c = rw (eq-eqb (c.args.at % 8) 0 c.if-at-ne0.false) emitted_nil
