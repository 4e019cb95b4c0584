use mathlib.Core.Path.{◌≡◌, refl, ap₂, ◌∙◌}
use mathlib.Core.List.{[], List}
use Prim.Native.Nat.{ℕ, ◌/◌}
use native.Mathlib.Omega.{arith}
use lib.ListN.{length, length-append}
use borrow.Author.Rules.{rules}
use Rattle.std.proofs.lemmas.Slice.Zip.{zip_turn, zip_end}
use Rattle.model.specs.Same.{same_bytes}
use Rattle.model.proofs.Laws.Range.{all_none, all_more}
use Rattle.same.proofs.TestLaws.{blocks_tested}
use Rattle.same.proofs.same_bytes.Goals as goal

pub loop-x-init : goal.loop-x-init
loop-x-init c = all_none _

pub loop-x-preserved : goal.loop-x-preserved
unfolding same_bytes
loop-x-preserved c =
    let l = c.loop-x in
    let p = c.as_chunks.ensures.front in
    let q = c.as_chunks-2.ensures.front in
    let t = zip_turn c.as_chunks.result.0.now c.as_chunks-2.result.0.now l.yielded c.into_iter-x-iterator.result l.x-iterator c.next.new.self _ (search rules) (search rules) l.yielded_by _ c.in-Some.is c.next.ensures.steps in
    simp length-append (all_more (length l.yielded) _ l.invariant (c.blocks_equal-same.ensures ∙ ap₂ (λ (x y : List ℕ). same_bytes 256 x y) (rw p at (t.2 [])) (rw q at (t.3 []))))

pub returns : goal.returns
returns c =
    let l = c.loop-x in
    let x = c.as_chunks.ensures in
    let y = c.as_chunks-2.ensures in
    let n = zip_end c.as_chunks.result.0.now c.as_chunks-2.result.0.now l.yielded c.into_iter-x-iterator.result l.x-iterator c.next.new.self _ (search rules) (search rules) l.yielded_by c.in-None.is c.next.ensures.steps in
    let e : length l.yielded ≡ length c.args.a.now / 256 = omega (arith, n, c.requires.same_len, x.front_len, y.front_len) in
    (rw e at l.invariant) ∙ blocks_tested c.args.a.now c.args.b.now c.requires.same_len c.requires.whole refl refl
