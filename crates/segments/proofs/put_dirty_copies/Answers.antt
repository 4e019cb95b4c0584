use Prim.Native.Nat.{◌+◌, ◌*◌}
use mathlib.Core.Path.{sym}
use native.Mathlib.Omega.{arith}
use borrow.Author.Rules.{rules}
use Rattle.model.specs.Layout.{block_size}
use Rattle.trace.proofs.EmitLaws.{fits_as, emitted_as, emitted_none}
use Rattle.blocks.proofs.PartLaws.{length_part, copy_part}
use Rattle.words.proofs.WalkLaws.{walk_start, walk_below, walk_turns}
use Rattle.segments.proofs.DirtyLaws.{dirty_ends, dirty_fits, dirty_emits}
use Rattle.segments.proofs.put_dirty_copies.Goals as goal

pub loop-b-init : goal.loop-b-init
loop-b-init c = (0, (walk_start (search rules) (search rules) (search rules), emitted_none _))

pub overflow_add-target : goal.overflow_add-target
overflow_add-target c = omega (arith, walk_below c.loop-b.invariant.1.0 c.in-Some.ensures.steps)

pub slice_bounds-put_copy-end : goal.slice_bounds-put_copy-end
slice_bounds-put_copy-end c = omega (arith, walk_below c.loop-b.invariant.1.0 c.in-Some.ensures.steps)

pub put_copy-requires-clause-block_len : goal.put_copy-requires-clause-block_len
put_copy-requires-clause-block_len c =
    let below = walk_below c.loop-b.invariant.1.0 c.in-Some.ensures.steps in
    length_part c.args.image.now (c.args.from + block_size * c.in-Some.b) (omega (arith, below))

pub put_copy-requires-clause-block_size_bound : goal.put_copy-requires-clause-block_size_bound
put_copy-requires-clause-block_size_bound c = omega (arith, walk_below c.loop-b.invariant.1.0 c.in-Some.ensures.steps)

pub put_copy-requires-clause-fits : goal.put_copy-requires-clause-fits
put_copy-requires-clause-fits c =
    let g = c.args in
    let w = c.loop-b.invariant.1 in
    fits_as (sym (copy_part g.image.now (g.from + block_size * c.in-Some.b) _ _)) (dirty_fits _ w.0 c.in-Some.ensures.steps w.1 c.requires.fits)

pub loop-b-preserved : goal.loop-b-preserved
loop-b-preserved c =
    let g = c.args in
    let b = c.in-Some.b in
    let w = c.loop-b.invariant.1 in
    let t = c.in-Some.ensures.steps in
    (b + 1, (walk_turns w.0 t, dirty_emits _ w.0 t w.1 (emitted_as c.put_copy.ensures (copy_part g.image.now (g.from + block_size * b) _ _))))

pub returns : goal.returns
returns c = let w = c.loop-b.invariant.1 in dirty_ends _ w.0 c.in-None.ensures.steps.0 w.1
