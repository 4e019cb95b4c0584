use mathlib.Core.Path.{sym, ◌∙◌}
use native.Mathlib.Omega.{arith}
use Rattle.std.proofs.lemmas.Result.{err_from_is_err_and}
use Rattle.model.proofs.Laws.Status.{refusal_refuses, stage_refused, after-served}
use Rattle.session.specs.Parts.{viewed}
use Rattle.checkpoint.proofs.StatusLaws.{long_enough, advancing}
use Rattle.checkpoint.proofs.checkpoint_status.Goals as goal

pub returns-in_err-judge-clause-result_value : goal.returns-in_err-judge-clause-result_value
returns-in_err-judge-clause-result_value c = λ R x.
    let p = err_from_is_err_and c.from_residual.result c.from_residual.ensures.1 in
    rw (p.1, p.2) (stage_refused _ _ _ c.in_err-judge.ensures (refusal_refuses _))

pub returns-in_err-judged-clause-result_value : goal.returns-in_err-judged-clause-result_value
returns-in_err-judged-clause-result_value c = λ R x.
    let p = err_from_is_err_and c.from_residual-in_err-judged.result c.from_residual-in_err-judged.ensures.1 in
    rw (p.1, p.2) (stage_refused _ _ _ (rw c.in_err-judged.was at x) (refusal_refuses _) ∙ sym (after-served _ _ (omega arith) (sym c.in_ok-judge.ensures)))

pub word_at-requires : goal.word_at-requires
word_at-requires c = omega (arith, long_enough (viewed c.args.session) c.args.image.now c.in_ok-judge.ensures)

pub returns-clause-advancing : goal.returns-clause-advancing
returns-clause-advancing c =
    advancing (viewed c.args.session) c.args.image.now c.in_ok-judge.ensures (λ e. c.if-word_at-eq-LAST_EPOCH.false (c.word_at.ensures ∙ e))
