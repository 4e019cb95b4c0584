use Rattle.std.proofs.Common.{Bool, cond, sym, ap, ◌∙◌}
use Rattle.std.proofs.lemmas.Result.{err_from_is_err_and}
use Rattle.model.specs.Container.{container_errors}
use Rattle.model.specs.Session.{session_errors}
use Rattle.model.proofs.Laws.Status.{refusal_refuses, stage_refused}
use Rattle.session.specs.Parts.{viewed}
use Rattle.session.proofs.SessionLaws.{session_judged}
use Rattle.session.proofs.SessionView.judge.Goals as goal

pub returns-in_err-container_status : goal.returns-in_err-container_status
returns-in_err-container_status c =
    let a = c.args in
    let p = err_from_is_err_and c.from_residual.result c.from_residual.ensures.1 in
    rw (p.1, p.2)
    (stage_refused _ (container_errors a.self.layout a.image.now) (session_errors (viewed a.self) a.image.now) c.in_err-container_status.ensures (refusal_refuses _))

pub returns-then-not-is_valid : goal.returns-then-not-is_valid
returns-then-not-is_valid c =
    let a = c.args in
    ap (λ (v : Bool). cond v 0 5) (sym c.if-not-is_valid.true)
    ∙ session_judged (viewed a.self) a.image.now _ _ c.in_ok-container_status.ensures c.active_at-active.ensures.0 c.is_valid.ensures

pub returns : goal.returns
returns c =
    let a = c.args in
    ap (λ (v : Bool). cond v 0 5) (sym c.if-not-is_valid.false)
    ∙ session_judged (viewed a.self) a.image.now _ _ c.in_ok-container_status.ensures c.active_at-active.ensures.0 c.is_valid.ensures
