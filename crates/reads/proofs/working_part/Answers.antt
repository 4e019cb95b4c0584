use mathlib.Core.Path.{sym}
use borrow.Author.Tests.{eq-eqb}
use Rattle.reads.proofs.ReadLaws.{accepted, main_inside, working_served, answered_block}
use Rattle.reads.proofs.working_part.Goals as goal

pub returns : goal.returns
returns c =
    let a = c.args in
    answered_block a.image.now _ _ _ _ a.block c.of_block.ensures c.main_at.ensures.0 (working_served a.layout a.image.now a.main a.block (eq-eqb _ 0 (sym c.in-Ok.ensures)))
    (main_inside a.layout a.image.now a.main a.block (accepted a.layout a.image.now a.main a.block c.in-Ok.ensures))
