use Rattle.std.proofs.lemmas.Result.{err_from_is_err_and}
use Rattle.model.proofs.Laws.Status.{refusal_refuses, stage_refused}
use Rattle.discard.proofs.discard_status.Goals as goal

pub returns-in_err-judge : goal.returns-in_err-judge
returns-in_err-judge c =
    let p = err_from_is_err_and c.from_residual.result c.from_residual.ensures.1 in
    rw (p.1, p.2) (stage_refused _ _ _ c.in_err-judge.ensures (refusal_refuses _))
