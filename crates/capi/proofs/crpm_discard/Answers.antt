use Rattle.capi.proofs.CallLaws.{discard_returned_lem}
use Rattle.capi.proofs.crpm_discard.Goals as goal

pub returns : goal.returns
returns c = λ R.
    let a = c.args in
    discard_returned_lem a.image.now a.session.now c.told-session _ c.view_in.ensures R a.trace.now _ _ _ a.main
    c.discard_parts-discarded.result c.status_code.ensures c.unwrap_or.ensures (c.discard_parts-discarded.ensures R)
