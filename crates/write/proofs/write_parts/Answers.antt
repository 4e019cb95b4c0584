use Prim.Native.Nat.{suc, ◌+◌}
use mathlib.Core.Path.{refl, sym, ap, ◌∙◌}
use mathlib.Core.Bool.{Bool, cond}
use Rattle.std.proofs.Common.{rules}
use Rattle.std.proofs.lemmas.Result.{err_from_is_err_and}
use Rattle.model.specs.Clients.{client_at}
use Rattle.model.specs.Write.{write_status, write_outcome}
use Rattle.model.proofs.Laws.Status.{refusal_refuses, stage_refused}
use Rattle.trace.proofs.CallLaws.{fits_whole, gives_refused}
use Rattle.session.specs.Parts.{viewed}
use Rattle.span.specs.Steps.{args_of}
use Rattle.write.proofs.OutcomeLaws.{length_ops, status_late, served-write}
use Rattle.write.proofs.write_parts.Goals as goal

pub returns-in_err-judge_early-clause-gives : goal.returns-in_err-judge_early-clause-gives
unfolding write_outcome write_status
returns-in_err-judge_early-clause-gives c =
    let p = err_from_is_err_and c.from_residual.result c.from_residual.ensures.1 in
    λ R e. rw (p.1, p.2) (gives_refused _ _ _ _ _ _ _ _ _ (stage_refused _ _ _ (c.in_err-judge_early.ensures.result_value R c.args.bytes.now e refl) (refusal_refuses _)))

pub returns-in_err-judge_late-clause-gives : goal.returns-in_err-judge_late-clause-gives
unfolding write_outcome
returns-in_err-judge_late-clause-gives c =
    let a = c.args in
    let s = viewed a.session in
    let w = args_of a.client a.place a.bytes.now in
    let place = c.at-at in
    let plan = c.plan_copy-plan in
    let count = length_ops s a.image.now w plan.result place.result _ _ (c.copy_count.ensures.0 a.image.now) c.span_words.ensures in
    let p = err_from_is_err_and c.from_residual-in_err-judge_late.result c.from_residual-in_err-judge_late.ensures.1 in
    λ R e. rw (p.1, p.2) (gives_refused _ _ _ _ _ _ _ _ _ (c.in_err-judge_late.ensures.result_value R _ a.trace.now e count refl
    ∙ status_late s a.image.now R w a.trace.now plan.result place.result (c.in_ok-judge_early.ensures.result_value R a.bytes.now e refl)
    (plan.ensures.by_index s.dirty_blocks s.domain) place.ensures))

pub put_write-requires-clause-fits : goal.put_write-requires-clause-fits
put_write-requires-clause-fits c =
    let a = c.args in
    let s = viewed a.session in
    let w = args_of a.client a.place a.bytes.now in
    let place = c.at-at in
    let plan = c.plan_copy-plan in
    let count = length_ops s a.image.now w plan.result place.result _ _ (c.copy_count.ensures.0 a.image.now) c.span_words.ensures in
    fits_whole _ c.new-out.ensures.begun (c.in_ok-judge_late.ensures.value _ a.trace.now count refl)

pub returns-clause-gives : goal.returns-clause-gives
returns-clause-gives c =
    let a = c.args in
    let s = viewed a.session in
    let w = args_of a.client a.place a.bytes.now in
    let place = c.at-at in
    let plan = c.plan_copy-plan in
    let count = length_ops s a.image.now w plan.result place.result _ _ (c.copy_count.ensures.0 a.image.now) c.span_words.ensures in
    λ R e. served-write s a.image.now R w a.trace.now plan.result place.result (c.in_ok-judge_early.ensures.result_value R a.bytes.now e refl)
    (plan.ensures.by_index s.dirty_blocks s.domain) place.ensures (c.in_ok-judge_late.ensures.result_value R _ a.trace.now e count refl) _
    c.new-out.ensures.begun (c.in_ok-judge_late.ensures.value _ a.trace.now count refl) c.set_segment.ensures (c.written_word.ensures a.client a.bytes.now refl)
    (c.used_after.ensures R e ∙ ap (λ (x : Bool). cond x (suc (client_at R a.client).used) (client_at R a.client).used) c.has_copy.ensures)
    (sym count) c.put_write.ensures (search rules)
