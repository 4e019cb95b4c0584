use native.Mathlib.Omega.{arith}
use Rattle.std.proofs.lemmas.Grind.{common_steps}
use Rattle.std.proofs.lemmas.Result.{err_from_is_err_and}
use Rattle.model.specs.Status.{first_error}
use Rattle.write.proofs.judge_late.Goals as goal

pub returns-in_err-judge_share-clause-result_value : goal.returns-in_err-judge_share-clause-result_value
unfolding first_error
returns-in_err-judge_share-clause-result_value c = λ R O t e x y.
    let p = err_from_is_err_and c.from_residual.result c.from_residual.ensures.1 in
    rw (p.1, p.2) (grind (arith, common_steps))
