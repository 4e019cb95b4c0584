use Rattle.std.proofs.Common.{rules, tests, arith, eqb}
use Rattle.std.proofs.lemmas.Iterator.{YieldsList-from_slice}
use Rattle.std.proofs.lemmas.Iterator.Search.{position_from_yields_List}
use Rattle.text.proofs.LineLaws.{line_found, line_unfound}
use Rattle.text.proofs.line_len.Goals as goal

pub returns-in-Some : goal.returns-in-Some
returns-in-Some c =
    line_found c.args.input.now c.in-Some.end
    (position_from_yields_List (λ b. eqb b 10) _ _ _ c.in-Some.ensures.ran (YieldsList-from_slice c.args.input.now cc) (λ x b q k. search (rules, tests)))

pub returns-in-None : goal.returns-in-None
returns-in-None c = (
  line_unfound c.args.input.now
      (position_from_yields_List (λ b. eqb b 10) _ _ _ c.in-None.ensures.ran (YieldsList-from_slice c.args.input.now cc) (λ x b q k. search (rules, tests))),
  omega arith,
)
