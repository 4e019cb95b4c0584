use mathlib.Core.Path.{refl, sym, ◌∙◌}
use native.Mathlib.Omega.{arith}
use Rattle.std.proofs.Common.{rules}
use Rattle.std.proofs.lemmas.Result.{err_from_is_err_and}
use Rattle.model.specs.Checkpoint.{checkpoint_status, checkpoint_outcome}
use Rattle.model.proofs.Laws.Status.{refusal_refuses, stage_refused, after-served}
use Rattle.trace.proofs.CallLaws.{fits_whole, gives_refused, gives_served}
use Rattle.checkpoint.proofs.checkpoint_parts.Goals as goal

pub returns-in_err-checkpoint_status : goal.returns-in_err-checkpoint_status
unfolding checkpoint_outcome checkpoint_status
returns-in_err-checkpoint_status c = λ R x.
    let p = err_from_is_err_and c.from_residual.result c.from_residual.ensures.1 in
    rw (p.1, p.2, refusal_refuses) (gives_refused _ _ _ _ _ _ _ _ _ (stage_refused _ _ _ (c.in_err-checkpoint_status.ensures.result_value R x) (refusal_refuses _)))

pub returns-in_err-trace_status : goal.returns-in_err-trace_status
unfolding checkpoint_outcome checkpoint_status
returns-in_err-trace_status c = λ R x.
    let g = c.args in
    let m = c.checkpoint_length-ops.ensures.0 g.session.dirty_segments g.image.now in
    let p = err_from_is_err_and c.from_residual-in_err-trace_status.result c.from_residual-in_err-trace_status.ensures.1 in
    rw (p.1, p.2, refusal_refuses) (gives_refused _ _ _ _ _ _ _ _ _
    (c.in_err-trace_status.ensures _ g.trace.now (sym m) refl ∙ sym (after-served _ _ (omega arith) (sym (c.in_ok-checkpoint_status.ensures.result_value R x)))))

pub put_checkpoint-requires-clause-fits : goal.put_checkpoint-requires-clause-fits
put_checkpoint-requires-clause-fits c =
    let g = c.args in
    let m = c.checkpoint_length-ops.ensures.0 g.session.dirty_segments g.image.now in
    fits_whole _ c.new-out.ensures.begun (c.in_ok-trace_status.ensures _ g.trace.now (sym m) refl)

pub returns : goal.returns
unfolding checkpoint_outcome checkpoint_status
returns c = λ R x.
    let g = c.args in
    let m = c.checkpoint_length-ops.ensures.0 g.session.dirty_segments g.image.now in
    let p = c.in_ok-trace_status.ensures _ g.trace.now (sym m) refl in
    gives_served _ _ _ R _ _ _ _ (after-served _ _ (omega arith) (sym (c.in_ok-checkpoint_status.ensures.result_value R x)) ∙ sym p) refl m
    c.new-out.ensures.begun p c.put_checkpoint.ensures (search rules)
