use Prim.Native.Nat.{◌+◌, ◌*◌}
use mathlib.Core.Path.{◌≡◌, sym}
use native.Mathlib.Omega.{arith}
use Rattle.model.specs.Layout.{block_size}
use Rattle.model.specs.Ops.{persist_copy, copy_segment}
use Rattle.trace.proofs.EmitLaws.{fits_as, fits_each, emitted_as, emitted_none, emitted_each}
use Rattle.blocks.proofs.PartLaws.{length_part, copy_part}
use Rattle.segments.proofs.put_segment_copy.Goals as goal

pub loop-b-init : goal.loop-b-init
loop-b-init c = emitted_none _

pub put_copy-requires-clause-block_len : goal.put_copy-requires-clause-block_len
put_copy-requires-clause-block_len c = length_part c.args.image.now (c.args.from + block_size * c.loop-b.b) (omega arith)

pub put_copy-requires-clause-fits : goal.put_copy-requires-clause-fits
unfolding copy_segment persist_copy
put_copy-requires-clause-fits c =
    let l = c.loop-b in
    let g = c.args in
    fits_as (sym (copy_part g.image.now (g.from + block_size * l.b) _ _)) (fits_each l.b g.layout.blocks _ (omega arith) c.requires.fits l.invariant)

pub loop-b-preserved : goal.loop-b-preserved
unfolding persist_copy
loop-b-preserved c =
    let l = c.loop-b in
    let g = c.args in
    emitted_each l.b _ l.invariant (emitted_as c.put_copy.ensures (copy_part g.image.now (g.from + block_size * l.b) _ _))

pub returns : goal.returns
unfolding copy_segment
returns c = let e : c.loop-b.b ≡ c.args.layout.blocks = omega arith in rw e at c.loop-b.invariant
