use Rattle.model.specs.Ops.{encode, for_domain}
use Rattle.trace.specs.Emit.{emit}
use Rattle.trace.proofs.Writer.sfence.Goals as goal

pub put-requires : goal.put-requires
unfolding for_domain
put-requires c = c.requires.room

pub returns : goal.returns
unfolding emit encode for_domain
returns c =
    let p = c.put.ensures in
    record { same = p.same.0; kind = p.same.1; stands = p.stands; next = p.next }
