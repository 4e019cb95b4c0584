use mathlib.Core.Path.{◌≡◌}
use native.Mathlib.Omega.{arith}
use lib.ListN.{get_or, take, length-take}
use lib.Seq.{get_or-take}
use Rattle.model.proofs.Laws.Range.{all_none}
use Rattle.blocks.proofs.TestLaws.{zeros_more}
use Rattle.blocks.proofs.block_is_zero.Goals as goal

pub loop-byte-init : goal.loop-byte-init
loop-byte-init c = all_none _

pub loop-byte-preserved : goal.loop-byte-preserved
loop-byte-preserved c =
    let l = c.loop-byte in
    let B = c.args.block.now in
    let e : get_or (take 256 B) l.byte-index 0 ≡ get_or B l.byte-index 0 = get_or-take 256 B l.byte-index 0 (omega (arith, length-take 256 B)) in
    rw e (zeros_more l.seen l.byte-index B l.invariant)

pub returns : goal.returns
returns c =
    let l = c.loop-byte in
    let e : l.byte-index ≡ 256 = omega (arith, length-take 256 c.args.block.now) in
    rw e at l.invariant
