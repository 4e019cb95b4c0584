use mathlib.Core.Path.{sym}
use Rattle.std.proofs.lemmas.Result.{err_from_is_err_and}
use Rattle.model.specs.Outcome.{lent}
use Rattle.model.specs.Open.{open_status, open_outcome}
use Rattle.model.proofs.Laws.Status.{refusal_refuses, stage_refused}
use Rattle.trace.proofs.CallLaws.{gives_refused}
use Rattle.open.proofs.RecoveryLaws.{open_recovers}
use Rattle.open.proofs.open_parts.Goals as goal

pub returns-in_err-layout_status : goal.returns-in_err-layout_status
unfolding open_outcome open_status
returns-in_err-layout_status c = λ R x.
    let p = err_from_is_err_and c.from_residual.result c.from_residual.ensures.1 in
    rw (p.1, p.2, refusal_refuses) (gives_refused _ _ _ _ _ _ _ _ _ (stage_refused _ _ _ c.in_err-layout_status.ensures (refusal_refuses _)))

pub returns : goal.returns
returns c = λ R x.
    let g = c.args in
    let t = g.trace.now in
    rw (← open_recovers g.layout g.domain g.image.now (lent R t) c.in_ok-layout_status.ensures c.active_at-active.ensures.0) (c.recover.ensures R x)
