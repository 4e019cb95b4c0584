use Prim.Native.Nat.{ℕ, ◌+◌, ◌*◌, ◌<◌}
use mathlib.Core.Path.{◌≡◌, ap, ◌∙◌}
use mathlib.Core.List.{List, []}
use native.Mathlib.Omega.{arith}
use borrow.Author.Rules.{rules}
use Rattle.model.specs.declared.Layout.{Layout}
use Rattle.model.specs.Layout.{block_size, block_lines, main_at}
use Rattle.model.specs.Session.{bit}
use Rattle.model.specs.Ops.{clwbs, each_dirty}
use Rattle.model.specs.Checkpoint.{flush_dirty}
use Rattle.words.proofs.WalkLaws.{walk_start, walk_below, walk_turns}
use Rattle.trace.proofs.EmitLaws.{emitted_none}
use Rattle.trace.proofs.WalkLaws.{walk_ends, walk_fits, walk_emits}
use Rattle.segments.proofs.DirtyLaws.{none_dirty}
use Rattle.session.specs.Marked.{marked_segments}
use Rattle.session.proofs.MarkedLaws.{marked_small, marked_clear}
use Rattle.checkpoint.proofs.put_flushes.Invariants.{flushed}
use Rattle.checkpoint.proofs.put_flushes.Goals as goal

none : (layout : Layout) (words : List ℕ) (marked : ℕ) → marked ≡ marked_segments words layout.mains
    → (i : ℕ) → i < layout.mains → bit marked i ≡ 0 → flushed layout words i ≡ []
none layout words marked e i l d =
    ap (λ (w : ℕ). each_dirty w layout.blocks (λ b. clwbs block_lines (main_at layout i + block_size * b))) (marked_clear words layout.mains i l (rw e at d))
    ∙ none_dirty layout.blocks (λ b. clwbs block_lines (main_at layout i + block_size * b))

pub loop-i-init : goal.loop-i-init
loop-i-init c =
    let small = marked_small c.args.words.now c.args.layout.mains in
    (0, (walk_start (search rules) (rw c.requires.marked_value small) (search rules), emitted_none _))

pub put_dirty_clwbs-requires-clause-fits : goal.put_dirty_clwbs-requires-clause-fits
unfolding flush_dirty
put_dirty_clwbs-requires-clause-fits c =
    let g = c.args in
    let w = c.loop-i.invariant.1 in
    rw c.main_at-at.ensures.0 (walk_fits (flushed g.layout g.words.now) (none g.layout g.words.now g.marked c.requires.marked_value) w.0 c.in-Some.ensures.steps w.1 c.requires.fits)

pub put_dirty_clwbs-requires-clause-blocks_le_most : goal.put_dirty_clwbs-requires-clause-blocks_le_most
put_dirty_clwbs-requires-clause-blocks_le_most c =
    (omega arith, c.requires.by_index c.in-Some.i (walk_below c.loop-i.invariant.1.0 c.in-Some.ensures.steps))

pub loop-i-preserved : goal.loop-i-preserved
loop-i-preserved c =
    let g = c.args in
    let w = c.loop-i.invariant.1 in
    let t = c.in-Some.ensures.steps in (
      c.in-Some.i + 1,
      (
        walk_turns w.0 t,
        walk_emits (flushed g.layout g.words.now) (none g.layout g.words.now g.marked c.requires.marked_value) w.0 t w.1 (rw c.main_at-at.ensures.0 at c.put_dirty_clwbs.ensures),
      ),
    )

pub returns : goal.returns
unfolding flush_dirty
returns c =
    let g = c.args in
    let w = c.loop-i.invariant.1 in
    walk_ends (flushed g.layout g.words.now) (none g.layout g.words.now g.marked c.requires.marked_value) w.0 c.in-None.ensures.steps.0 w.1
