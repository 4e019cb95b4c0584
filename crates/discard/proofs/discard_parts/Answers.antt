use mathlib.Core.Path.{refl, sym, ◌∙◌}
use native.Mathlib.Omega.{arith}
use Rattle.std.proofs.Common.{rules}
use Rattle.std.proofs.lemmas.Result.{err_from_is_err_and}
use Rattle.model.specs.Discard.{discard_status, discard_outcome}
use Rattle.model.proofs.Laws.Status.{refusal_refuses, stage_refused, after-served}
use Rattle.trace.proofs.EmitLaws.{fits_as, emitted_as}
use Rattle.trace.proofs.CallLaws.{fits_whole, gives_refused, gives_served}
use Rattle.session.specs.Parts.{viewed}
use Rattle.discard.proofs.DiscardLaws.{discardable, discarded_within, discard_ops_lem, discarded_length}
use Rattle.discard.proofs.discard_parts.Goals as goal

pub returns-in_err-discard_status : goal.returns-in_err-discard_status
unfolding discard_outcome discard_status
returns-in_err-discard_status c = λ R.
    let p = err_from_is_err_and c.from_residual.result c.from_residual.ensures.1 in
    rw (p.1, p.2) (gives_refused _ _ _ _ _ _ _ _ _ (stage_refused _ _ _ c.in_err-discard_status.ensures (refusal_refuses _)))

pub discarded_blocks-word-requires : goal.discarded_blocks-word-requires
discarded_blocks-word-requires c =
    let g = c.args in
    let d = discardable (viewed g.session) g.image.now g.main (sym c.in_ok-discard_status.ensures) in
    omega (arith, d.main, d.sizes)

pub returns-in_err-trace_status : goal.returns-in_err-trace_status
unfolding discard_outcome discard_status
returns-in_err-trace_status c = λ R.
    let g = c.args in
    let s = viewed g.session in
    let z = sym c.in_ok-discard_status.ensures in
    let m = discarded_length s g.image.now g.main _ c.discarded_blocks-word.ensures (discardable s g.image.now g.main z) _ c.discard_length-ops.ensures.0 in
    let p = err_from_is_err_and c.from_residual-in_err-trace_status.result c.from_residual-in_err-trace_status.ensures.1 in
    rw (p.1, p.2) (gives_refused _ _ _ _ _ _ _ _ _ (c.in_err-trace_status.ensures _ g.trace.now (sym m) refl ∙ sym (after-served _ _ (omega arith) z)))

pub put_discard-requires : goal.put_discard-requires
put_discard-requires c =
    let g = c.args in
    let s = viewed g.session in
    let d = discardable s g.image.now g.main (sym c.in_ok-discard_status.ensures) in
    let within = discarded_within s g.image.now g.main _ c.discarded_blocks-word.ensures d in
    let same = discard_ops_lem s g.image.now g.main _ c.discarded_blocks-word.ensures in
    let m = discarded_length s g.image.now g.main _ c.discarded_blocks-word.ensures d _ c.discard_length-ops.ensures.0 in
    let p = c.in_ok-trace_status.ensures _ g.trace.now (sym m) refl in
    record { main_lt_mains = (d.main, d.sizes, d.long, within); valid = d.valid; fits = fits_as (sym same) (fits_whole _ c.new-out.ensures.begun p) }

pub returns : goal.returns
unfolding discard_outcome discard_status
returns c = λ R.
    let g = c.args in
    let s = viewed g.session in
    let z = sym c.in_ok-discard_status.ensures in
    let same = discard_ops_lem s g.image.now g.main _ c.discarded_blocks-word.ensures in
    let m = discarded_length s g.image.now g.main _ c.discarded_blocks-word.ensures (discardable s g.image.now g.main z) _ c.discard_length-ops.ensures.0 in
    let p = c.in_ok-trace_status.ensures _ g.trace.now (sym m) refl in
    gives_served _ _ _ _ _ _ _ _ (after-served _ _ (omega arith) z ∙ sym p) refl m c.new-out.ensures.begun p (emitted_as c.put_discard.ensures same) (search rules)
