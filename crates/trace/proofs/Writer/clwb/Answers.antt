use mathlib.Core.Path.{refl}
use native.Mathlib.Omega.{arith}
use borrow.Author.Tests.{eq-eqb, ne_eqb}
use Rattle.model.specs.Session.{adr}
use Rattle.model.specs.Ops.{encode, for_domain}
use Rattle.trace.specs.Emit.{emit}
use Rattle.trace.proofs.Writer.clwb.Goals as goal

pub returns-then-self-ne-ADR : goal.returns-then-self-ne-ADR
unfolding emit encode for_domain
returns-then-self-ne-ADR c =
    let e = ne_eqb c.args.self.now.domain adr (omega arith) in
    record { same = refl; kind = refl; stands = rw e refl; next = rw e (omega arith) }

pub put-requires : goal.put-requires
unfolding for_domain
put-requires c =
    rw (eq-eqb c.args.self.now.domain adr (omega arith)) at c.requires.room

pub returns : goal.returns
unfolding emit encode for_domain
returns c =
    let e = eq-eqb c.args.self.now.domain adr (omega arith) in
    let p = c.put.ensures in
    record { same = p.same.0; kind = p.same.1; stands = rw e p.stands; next = rw e p.next }
