use Rattle.std.proofs.Common.{get_or, arith}
use Rattle.std.proofs.lemmas.Grind.{common_steps}
use Rattle.session.specs.Parts.{viewed}
use Rattle.session.proofs.SessionLaws.{valid_view_tests}
use Rattle.session.proofs.SessionView.is_valid.Goals as goal

pub returns-then-none_in_main : goal.returns-then-none_in_main
returns-then-none_in_main c =
    let v = valid_view_tests (viewed c.args.self) (λ i. get_or c.args.states.now i 0) (omega arith) (omega arith) in
    grind (arith, common_steps)

pub returns-else-none_in_main : goal.returns-else-none_in_main
returns-else-none_in_main c =
    let v = valid_view_tests (viewed c.args.self) (λ i. get_or c.args.states.now i 0) (omega arith) (omega arith) in
    grind (arith, common_steps)
