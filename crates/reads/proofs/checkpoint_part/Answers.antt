use mathlib.Core.Path.{refl, sym}
use native.Mathlib.Omega.{arith}
use borrow.Author.Tests.{eq-eqb}
use Rattle.reads.proofs.ReadLaws.{accepted, located_block, checkpoint-served, answered_block}
use Rattle.reads.proofs.checkpoint_part.Goals as goal

pub of_block-requires : goal.of_block-requires
of_block-requires c =
    let a = c.args in
    let r = accepted a.layout a.image.now a.main a.block c.in-Ok.ensures in
    let i = located_block a.layout a.image.now a.main a.block r c.in-Some.at (rw c.active_at-line.ensures.0 at c.in-Some.ensures) in
    omega arith

pub returns : goal.returns
returns c =
    let a = c.args in
    let r = accepted a.layout a.image.now a.main a.block c.in-Ok.ensures in
    let e = rw c.active_at-line.ensures.0 at c.in-Some.ensures in
    answered_block a.image.now _ _ _ _ a.block c.of_block.ensures refl (checkpoint-served a.layout a.image.now a.main a.block _ (eq-eqb _ 0 (sym c.in-Ok.ensures)) e) (located_block a.layout a.image.now a.main a.block r _ e)
