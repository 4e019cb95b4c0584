use Prim.Native.Nat.{◌+◌}
use native.Mathlib.Omega.{arith}
use borrow.Author.Rules.{rules}
use Rattle.trace.proofs.EmitLaws.{emitted_none}
use Rattle.words.proofs.WalkLaws.{walk_start, walk_below, walk_turns}
use Rattle.segments.proofs.DirtyLaws.{dirty_ends, dirty_fits, dirty_emits}
use Rattle.segments.proofs.put_dirty_clwbs.Goals as goal

pub loop-b-init : goal.loop-b-init
loop-b-init c =
    let start = walk_start c.bits-b-items.ensures (search rules) (search rules) in
    (0, (rw c.into_iter-b-iterator.ensures.into_iter_gives start, emitted_none _))

pub overflow_add-place : goal.overflow_add-place
overflow_add-place c = omega (arith, walk_below c.loop-b.invariant.1.0 c.in-Some.ensures.steps)

pub put_clwbs-requires : goal.put_clwbs-requires
put_clwbs-requires c =
    let w = c.loop-b.invariant.1 in
    let t = c.in-Some.ensures.steps in
    record { block_size_bound = omega (arith, walk_below w.0 t); fits = dirty_fits _ w.0 t w.1 c.requires.fits }

pub loop-b-preserved : goal.loop-b-preserved
loop-b-preserved c =
    let w = c.loop-b.invariant.1 in
    let t = c.in-Some.ensures.steps in
    (c.in-Some.b + 1, (walk_turns w.0 t, dirty_emits _ w.0 t w.1 c.put_clwbs.ensures))

pub returns : goal.returns
returns c = let w = c.loop-b.invariant.1 in dirty_ends _ w.0 c.in-None.ensures.steps.0 w.1
