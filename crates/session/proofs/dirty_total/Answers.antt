use Prim.Native.Nat.{ℕ, ◌+◌}
use mathlib.Core.Path.{◌≡◌, refl, sym, ap, ◌∙◌}
use mathlib.Core.Bool.{cond}
use native.Mathlib.Omega.{arith}
use lib.Count.{ones}
use lib.ListN.{get_or}
use borrow.Author.Tests.{eq-eqb}
use Rattle.model.specs.Range.{sum_to}
use Rattle.model.specs.Session.{is_dirty}
use Rattle.model.specs.Counts.{dirty_total}
use Rattle.model.proofs.Laws.Counts.{dirty_ones}
use Rattle.model.proofs.Laws.Range.{sum_ext}
use Rattle.words.proofs.WalkLaws.{walk_start, walk_beyond, walk_member, walk_turns}
use Rattle.session.proofs.MarkedLaws.{marked_sum, sum_ends, sum-turns}
use borrow.Author.Rules.{rules}
use Rattle.session.proofs.dirty_total.Goals as goal

pub loop-i-init : goal.loop-i-init
unfolding sum_to
loop-i-init c = (0, (walk_start (search rules) (search rules) (search rules), (refl, search rules)))

pub loop-i-preserved : goal.loop-i-preserved
loop-i-preserved c =
    let l = c.loop-i in
    let a = c.args in
    let w = l.invariant.1 in
    let t = c.in-Some.ensures.steps in
    let b = c.in-Some.i in
    let g : ℕ → ℕ = λ b. cond (is_dirty a.marked b) (ones (get_or a.words.now b 0)) 0 in
    let member : g b ≡ ones (get_or a.words.now b 0) = rw (eq-eqb _ _ (walk_member w.0 t)) in
    let turns = sum-turns g (λ b h e. rw e) w.0 t in (
      b + 1,
      (
        walk_turns w.0 t,
        (omega (arith, turns, member, w.1.0, c.dirty_count-sum.ensures.0), omega (arith, w.1.1, c.dirty_count-sum.ensures.1, walk_beyond w.0 t)),
      ),
    )

pub returns : goal.returns
unfolding dirty_total
returns c =
    let l = c.loop-i in
    let a = c.args in
    let words = a.words.now in
    let w = l.invariant.1 in
    let g : ℕ → ℕ = λ b. cond (is_dirty a.marked b) (ones (get_or words b 0)) 0 in
    let all = w.1.0 ∙ sum_ends g (λ b h e. rw e) w.0 c.in-None.ensures.steps.0 in
    let members = ap (λ (m : ℕ). sum_to 64 (λ b. cond (is_dirty m b) (ones (get_or words b 0)) 0)) c.requires.marked_value ∙ marked_sum words a.layout.mains (omega arith) in
    (all ∙ members ∙ sym (sum_ext _ _ _ (λ i h. dirty_ones _ _ (c.requires.by_index i h))), omega (arith, w.1.1, w.0.within))
