use mathlib.Core.Path.{◌≡◌, ◌∙◌}
use native.Mathlib.Omega.{arith}
use lib.ListN.{length, take, length-take, length-append}
use lib.Seq.{get_or-take}
use borrow.Author.Rules.{rules}
use Rattle.std.proofs.lemmas.Slice.Zip.{zip_turn, zip_end}
use Rattle.model.proofs.Laws.Range.{all_none}
use Rattle.blocks.proofs.TestLaws.{same_more}
use Rattle.blocks.proofs.blocks_equal.Goals as goal

pub loop-x-init : goal.loop-x-init
loop-x-init c = all_none _

pub loop-x-preserved : goal.loop-x-preserved
loop-x-preserved c =
    let l = c.loop-x in
    let a = c.args.a.now in
    let b = c.args.b.now in
    let n = length l.yielded in
    let t = zip_turn (take 256 a) (take 256 b) l.yielded c.into_iter-x-iterator.result l.x-iterator c.next.new.self _ (search rules) (search rules) l.yielded_by _ c.in-Some.is c.next.ensures.steps in
    let x = t.2 0 ∙ get_or-take 256 a n 0 (omega (arith, t.0, length-take 256 a)) in
    let y = t.3 0 ∙ get_or-take 256 b n 0 (omega (arith, t.0, length-take 256 a)) in
    rw (x, y, length-append) (same_more l.unlike n a b l.invariant)

pub returns : goal.returns
returns c =
    let l = c.loop-x in
    let a = c.args.a.now in
    let b = c.args.b.now in
    let n = zip_end (take 256 a) (take 256 b) l.yielded c.into_iter-x-iterator.result l.x-iterator c.next.new.self _ (search rules) (search rules) l.yielded_by c.in-None.is c.next.ensures.steps in
    let e : length l.yielded ≡ 256 = omega (arith, n, length-take 256 a, length-take 256 b) in
    rw e at l.invariant
