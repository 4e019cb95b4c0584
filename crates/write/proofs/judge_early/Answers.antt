use mathlib.Core.Path.{sym, ◌∙◌}
use mathlib.Core.List.{[]}
use native.Mathlib.Omega.{arith}
use Rattle.std.proofs.lemmas.Result.{err_from_is_err_and}
use Rattle.model.proofs.Laws.Status.{refusal_refuses, stage_refused, after-served}
use Rattle.session.specs.Parts.{viewed}
use Rattle.span.specs.Steps.{args_of}
use Rattle.write.proofs.OutcomeLaws.{block_lt_blocks, early_writable}
use Rattle.write.proofs.judge_early.Goals as goal

pub returns-in_err-judge-clause-result_value : goal.returns-in_err-judge-clause-result_value
returns-in_err-judge-clause-result_value c = λ R bytes e x.
    let p = err_from_is_err_and c.from_residual.result c.from_residual.ensures.1 in
    rw (p.1, p.2) (stage_refused _ _ _ c.in_err-judge.ensures (refusal_refuses _))

pub returns-in_err-judge_client-clause-result_value : goal.returns-in_err-judge_client-clause-result_value
returns-in_err-judge_client-clause-result_value c = λ R bytes e x.
    let p = err_from_is_err_and c.from_residual-in_err-judge_client.result c.from_residual-in_err-judge_client.ensures.1 in
    rw (p.1, p.2) (stage_refused _ _ _ (c.in_err-judge_client.ensures.result_value R e) (refusal_refuses _)
    ∙ sym (after-served _ _ (omega arith) (sym c.in_ok-judge.ensures)))

pub returns-in_err-place_status-clause-result_value : goal.returns-in_err-place_status-clause-result_value
returns-in_err-place_status-clause-result_value c = λ R bytes e x.
    let p = err_from_is_err_and c.from_residual-in_err-place_status.result c.from_residual-in_err-place_status.ensures.1 in
    rw (p.1, p.2) (stage_refused _ _ _ c.in_err-place_status.ensures (refusal_refuses _)
    ∙ sym (after-served _ _ (omega arith) (sym (c.in_ok-judge_client.ensures.result_value R e)))
    ∙ sym (after-served _ _ (omega arith) (sym c.in_ok-judge.ensures)))

pub is_bad-requires : goal.is_bad-requires
is_bad-requires c =
    let a = c.args in
    block_lt_blocks (viewed a.session) a.image.now (args_of a.client a.span.place []) c.in_ok-judge.ensures c.in_ok-place_status.ensures

pub returns-clause-writable : goal.returns-clause-writable
returns-clause-writable c =
    let a = c.args in
    λ bytes x. early_writable (viewed a.session) a.image.now (args_of a.client a.span.place bytes) c.in_ok-judge.ensures c.in_ok-place_status.ensures
    (sym (c.is_bad.ensures a.client bytes x) ∙ c.if-is_bad.false)
