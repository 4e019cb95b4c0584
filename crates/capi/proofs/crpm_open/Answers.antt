use Rattle.std.proofs.Common.{◌≡◌, ap, ◌∙◌}
use Rattle.model.specs.Session.{zero_session, fresh_session, adr}
use Rattle.interface.specs.Interface.{words_of}
use Rattle.capi.proofs.crpm_open.Goals as goal

pub returns : goal.returns
unfolding zero_session
returns c =
    let kept : c.fresh-zeros.result ≡ zero_session = c.fresh-zeros.ensures ∙ ap (λ l. fresh_session l adr) c.new-2.ensures in
    let o = rw c.new.ensures at c.open_in-opened.ensures in
    let g = rw kept at c.give_answer.ensures in
    (g.value ∙ o.0, g.session_after ∙ ap words_of o.1, o.4, o.3, g.ops_after ∙ o.2)
