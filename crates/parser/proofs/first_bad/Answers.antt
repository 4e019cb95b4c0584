use Rattle.std.proofs.Common.{rules, arith, eqb, sym, ◌∙◌}
use Rattle.text.proofs.LineLaws.{split_behind, split_lines, split_less, lines_none}
use Rattle.std.proofs.lemmas.List.Sorted.{answers_always}
use Rattle.parser.proofs.BadLaws.{bad_end, good_end, bad_line, good_line_lem}
use Rattle.parser.proofs.first_bad.Goals as goal

pub returns-then-not-is_good : goal.returns-then-not-is_good
returns-then-not-is_good c =
    let s = c.in-Some.ensures.steps in
    let l = split_behind _ _ _ s.1.0 s.0 s.1.1 (s.1.2 (λ b. eqb b 10) (answers_always _ _ _ (λ f a r g h. search rules))).1 in
    bad_line _ _ _ _ _ _ (split_lines _ _ _ l s.2) c.key_for-key.ensures c.is_good.ensures c.if-not-is_good.true ∙ sym c.loop-line.invariant.3

pub loop-line-preserved : goal.loop-line-preserved
loop-line-preserved c =
    let s = c.in-Some.ensures.steps in
    let l = split_behind _ _ _ s.1.0 s.0 s.1.1 (s.1.2 (λ b. eqb b 10) (answers_always _ _ _ (λ f a r g h. search rules))).1 in (
      search rules,
      search rules,
      omega (arith, split_less _ _ _ l s.2, c.loop-line.invariant.2),
      c.loop-line.invariant.3
          ∙ good_line_lem _ _ _ _ _ _ (split_lines _ _ _ l s.2) c.key_for-key.ensures c.is_good.ensures c.if-not-is_good.false c.key_after-next.ensures,
    )

pub returns-then-eq : goal.returns-then-eq
returns-then-eq c = good_end _ _ _ (lines_none _ c.in-None.ensures.steps.0) c.if-eq.ensures ∙ sym c.loop-line.invariant.3

pub returns : goal.returns
returns c = bad_end _ _ _ (lines_none _ c.in-None.ensures.steps.0) c.if-eq.ensures ∙ sym c.loop-line.invariant.3
