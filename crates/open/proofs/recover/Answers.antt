use mathlib.Core.Path.{refl, sym, ap, ◌∙◌}
use mathlib.Core.Bool.{not}
use native.Mathlib.Omega.{arith}
use Rattle.std.proofs.Common.{rules}
use Rattle.std.proofs.lemmas.Result.{err_from_is_err_and}
use Rattle.model.specs.declared.Refusal.TheVariants.{Invalid}
use Rattle.model.proofs.Laws.Layout.{metadata_inside}
use Rattle.model.proofs.Laws.Status.{first_holds, refusal_refuses, stage_refused, after-served}
use Rattle.trace.proofs.CallLaws.{fits_whole, gives_refused, gives_served}
use Rattle.open.specs.Recovery.{recovery_outcome}
use Rattle.open.proofs.RecoveryLaws.{recovers_by, valid_served}
use Rattle.open.proofs.recover.Goals as goal

pub examine-requires : goal.examine-requires
examine-requires c = omega (arith, metadata_inside c.args.layout)

pub returns-in_default : goal.returns-in_default
unfolding recovery_outcome
returns-in_default c = λ R y. gives_refused _ _ _ _ _ _ _ _ Invalid (first_holds 4 _ _ (ap not (rw c.in_default.is at c.examine.ensures).invalid))

pub returns-in_err-domain_status : goal.returns-in_err-domain_status
unfolding recovery_outcome
returns-in_err-domain_status c = λ R y.
    let v = rw c.in-Ok.is at c.examine.ensures in
    let p = err_from_is_err_and c.from_residual.result c.from_residual.ensures.1 in
    rw (p.1, p.2, refusal_refuses) (gives_refused _ _ _ _ _ _ _ _ _
    (stage_refused _ _ _ c.in_err-domain_status.ensures (refusal_refuses _) ∙ sym (after-served _ _ (omega arith) (valid_served v))))

pub returns-in_err-judged : goal.returns-in_err-judged
unfolding recovery_outcome
returns-in_err-judged c = λ R y.
    let v = rw c.in-Ok.is at c.examine.ensures in
    let p = err_from_is_err_and c.from_residual-in_err-judged.result c.from_residual-in_err-judged.ensures.1 in
    rw (p.1, p.2, refusal_refuses) (gives_refused _ _ _ _ _ _ _ _ _
    (stage_refused _ _ _ (rw c.in_err-judged.was at y) (refusal_refuses _)
    ∙ sym (after-served _ _ (omega arith) (sym c.in_ok-domain_status.ensures)) ∙ sym (after-served _ _ (omega arith) (valid_served v))))

pub recovery_length-ops-requires : goal.recovery_length-ops-requires
recovery_length-ops-requires c =
    let v = rw c.in-Ok.is at c.examine.ensures in
    recovers_by c.args.layout c.args.image.now c.args.line c.requires.0 c.requires.1 c.requires.2 v

pub returns-in_err-trace_status : goal.returns-in_err-trace_status
unfolding recovery_outcome
returns-in_err-trace_status c = λ R y.
    let v = rw c.in-Ok.is at c.examine.ensures in
    let p = err_from_is_err_and c.from_residual-in_err-trace_status.result c.from_residual-in_err-trace_status.ensures.1 in
    rw (p.1, p.2, refusal_refuses) (gives_refused _ _ _ _ _ _ _ _ _
    (c.in_err-trace_status.ensures _ c.args.trace.now (sym c.recovery_length-ops.ensures.0) refl ∙ sym (after-served _ _ (omega arith) (sym (rw c.in_ok-judged.was at y)))
    ∙ sym (after-served _ _ (omega arith) (sym c.in_ok-domain_status.ensures)) ∙ sym (after-served _ _ (omega arith) (valid_served v))))

pub put_recovery-requires : goal.put_recovery-requires
put_recovery-requires c =
    let g = c.args in
    let v = rw c.in-Ok.is at c.examine.ensures in
    record {
      valid_by = recovers_by g.layout g.image.now g.line c.requires.0 c.requires.1 c.requires.2 v;
      fits = fits_whole _ c.new-out.ensures.begun (c.in_ok-trace_status.ensures _ g.trace.now (sym c.recovery_length-ops.ensures.0) refl);
    }

pub returns : goal.returns
unfolding recovery_outcome
returns c = λ R y.
    let m = c.recovery_length-ops.ensures.0 in
    let v = rw c.in-Ok.is at c.examine.ensures in
    let z = c.in_ok-trace_status.ensures _ c.args.trace.now (sym m) refl in
    gives_served _ _ _ R _ _ _ _
    (after-served _ _ (omega arith) (valid_served v) ∙ after-served _ _ (omega arith) (sym c.in_ok-domain_status.ensures) ∙ after-served _ _ (omega arith) (sym (rw c.in_ok-judged.was at y)) ∙ sym z)
    c.fresh.ensures m c.new-out.ensures.begun z c.put_recovery.ensures (search rules)
