use mathlib.Core.Path.{◌≡◌, sym, ◌∙◌}
use native.Mathlib.Omega.{arith}
use Rattle.std.proofs.Math.Bool.{or-false}
use Rattle.model.specs.Range.{cat, any_b}
use Rattle.model.proofs.Laws.Range.{or_right}
use Rattle.text.specs.Text.{text}
use Rattle.printer.proofs.AppendedLaws.{appended_then}
use Rattle.inspect.specs.DumpText.{block_differs, list_text}
use Rattle.inspect.proofs.LineLaws.{listed_more, listed_same, any_more, listed_nothing}
use Rattle.inspect.proofs.Dump.append_list.Goals as goal
use Rattle.inspect.proofs.Dump.append_list.Goals.{then-block_differs, else-block_differs}

pub loop-block-preserved : goal.loop-block-preserved
loop-block-preserved c =
    let l = c.loop-block in
    let a = c.args in
    let p = block_differs a.self.layout a.self.image.now a.main in
    elim c.if-block_differs.branch [
      | then-block_differs w ↦
          let on = sym c.block_differs.ensures ∙ w.if-block_differs.true in
          rw (w.page-is, w.seen-is) (record {
            upper_bound = omega (arith, w.append_item.ensures.upper_bound);
            seen = sym (any_more p l.block ∙ or_right (any_b l.block p) on);
            appended = listed_more p l.block on l.invariant.appended (rw l.invariant.seen at w.append_item.ensures.appended);
          })
      | else-block_differs w ↦
          let off = sym c.block_differs.ensures ∙ w.if-block_differs.false in
          rw (w.page-is, w.seen-is) (record {
            upper_bound = omega arith;
            seen = rw (any_more p l.block, off) (l.invariant.seen ∙ sym (or-false _));
            appended = listed_same p l.block off l.invariant.appended;
          })
    ]

pub returns-then-not-seen-clause-appended : goal.returns-then-not-seen-clause-appended
unfolding list_text text cat
returns-then-not-seen-clause-appended c =
    let l = c.loop-block in
    let a = c.args in
    let e : l.block ≡ a.self.layout.blocks = omega arith in
    let none = rw e at (sym l.invariant.seen ∙ c.if-not-seen.true) in
    let listed = rw (e, listed_nothing (block_differs a.self.layout a.self.image.now a.main) a.self.layout.blocks none) at l.invariant.appended in
    rw none (appended_then listed c.text.ensures)

pub returns-else-not-seen-clause-appended : goal.returns-else-not-seen-clause-appended
unfolding list_text
returns-else-not-seen-clause-appended c =
    let l = c.loop-block in
    let e : l.block ≡ c.args.self.layout.blocks = omega arith in
    let some = rw e at (sym l.invariant.seen ∙ c.if-not-seen.false) in
    rw some (rw e at l.invariant.appended)
