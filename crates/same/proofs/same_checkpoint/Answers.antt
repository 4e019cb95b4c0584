use mathlib.Core.Path.{◌≡◌, refl, sym, ◌∙◌}
use mathlib.Core.Bool.{true, false}
use native.Mathlib.Omega.{arith}
use borrow.Author.Rules.{rules}
use borrow.Author.Tests.{tests}
use Rattle.std.proofs.lemmas.Iterator.{cases_from_all, YieldsList-from_range}
use Rattle.same.specs.Segment.{same_segment}
use Rattle.same.proofs.TestLaws.{range_tested}
use Rattle.same.proofs.SameLaws.{states_tested, unlike_by_states, decided_by_segments}
use Rattle.same.proofs.same_checkpoint.Goals as goal

pub returns-then-same_initial : goal.returns-then-same_initial
returns-then-same_initial c =
    let l = c.args.layout in
    let a = c.args.a.now in
    let b = c.args.b.now in
    let s = states_tested l a b c.active_at-x.result c.active_at-y.result c.active_at-x.ensures.0 c.active_at-y.ensures.0 (omega arith) c.same_initial.ensures in
    range_tested (same_segment l a b) l.mains c.all.result
    (cases_from_all c.all.new.self _ _ (λ i. same_segment l a b i ≡ true) (λ i. same_segment l a b i ≡ false) c.all.ensures.ran (YieldsList-from_range 0 l.mains l.mains refl (omega arith)) (λ x q k. search (rules, tests)) (λ x q k. search (rules, tests)))
    ∙ decided_by_segments l a b (sym c.if-same_initial.true ∙ s) c.requires.a_accepted c.requires.b_accepted

pub returns-else-same_initial : goal.returns-else-same_initial
returns-else-same_initial c =
    let l = c.args.layout in
    let a = c.args.a.now in
    let b = c.args.b.now in
    let s = states_tested l a b c.active_at-x.result c.active_at-y.result c.active_at-x.ensures.0 c.active_at-y.ensures.0 (omega arith) c.same_initial.ensures in
    c.if-same_initial.false ∙ unlike_by_states l a b (sym c.if-same_initial.false ∙ s)
