use mathlib.Core.Path.{◌≡◌}
use native.Mathlib.Omega.{arith}
use lib.ListN.{length, length-append}
use borrow.Author.Rules.{rules}
use Rattle.std.proofs.lemmas.Slice.Zip.{zip_turn, zip_end}
use Rattle.model.proofs.Laws.Range.{all_none}
use Rattle.model.specs.Same.{same_initial}
use Rattle.same.proofs.TestLaws.{initial_more}
use Rattle.same.proofs.same_initial.Goals as goal

pub loop-x-init : goal.loop-x-init
unfolding same_initial
loop-x-init c = all_none _

pub loop-x-preserved : goal.loop-x-preserved
loop-x-preserved c =
    let l = c.loop-x in
    let a = c.args.a.now in
    let b = c.args.b.now in
    let t = zip_turn a b l.yielded c.into_iter-x-iterator.result l.x-iterator c.next.new.self _ (search rules) (search rules) l.yielded_by _ c.in-Some.is c.next.ensures.steps in
    simp length-append (initial_more a b (length l.yielded) l.invariant (t.2 0) (t.3 0))

pub returns : goal.returns
returns c =
    let l = c.loop-x in
    let n = zip_end c.args.a.now c.args.b.now l.yielded c.into_iter-x-iterator.result l.x-iterator c.next.new.self _ (search rules) (search rules) l.yielded_by c.in-None.is c.next.ensures.steps in
    let e : length l.yielded ≡ length c.args.a.now = omega (arith, n, c.requires) in
    rw e at l.invariant
