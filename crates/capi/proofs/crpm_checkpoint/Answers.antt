use Rattle.std.proofs.Common.{sym, ap, ◌∙◌}
use Rattle.model.specs.Session.{with_checkpoint}
use Rattle.model.proofs.Laws.Status.{refusal_refuses}
use Rattle.clients.specs.Words.{clients_in}
use Rattle.interface.specs.Interface.{words_of}
use Rattle.interface.proofs.WordsLaws.{words_session, segments_stored}
use Rattle.capi.proofs.crpm_checkpoint.Goals as goal

pub returns-in-Ok : goal.returns-in-Ok
unfolding with_checkpoint
returns-in-Ok c =
    let a = c.args in
    let R = clients_in a.clients.now in
    let g = rw c.view_in-view.ensures at (c.in-Ok.ensures R (c.judge-judged.ensures.result_value R c.run_in.ensures)) in
    (g.0, segments_stored a.session.now c.told-session _ c.view_in-view.ensures 0 ∙ ap words_of g.1, c.clear.ensures ∙ g.4, g.3, g.2)

pub returns-in-Err : goal.returns-in-Err
returns-in-Err c =
    let a = c.args in
    let R = clients_in a.clients.now in
    let g = rw (c.view_in-view.ensures, refusal_refuses) at (c.in-Err.ensures R (c.judge-judged.ensures.result_value R c.run_in.ensures)) in
    (c.from.ensures ∙ g.0, sym (words_session a.session.now c.told-session) ∙ ap words_of g.1, g.4, g.3, g.2)
