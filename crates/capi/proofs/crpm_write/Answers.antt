use Rattle.std.proofs.Common.{sym, ap, ◌∙◌}
use Rattle.std.proofs.Math.ListN.{set}
use Rattle.clients.specs.Words.{clients_in}
use Rattle.interface.specs.Interface.{words_of}
use Rattle.interface.proofs.WordsLaws.{words_session, write_stored}
use Rattle.capi.proofs.crpm_write.Goals as goal

pub returns-in-Ok : goal.returns-in-Ok
returns-in-Ok c =
    let a = c.args in
    let R = clients_in a.clients.now in
    let w = c.in-Ok.written in
    let g = rw c.view_in-view.ensures at (c.in-Ok.ensures.gives R c.run_in-run.ensures) in (
      g.0,
      write_stored a.session.now c.told-session _ c.view_in-view.ensures w.dirty_segments a.main w.word c.in-Ok.ensures.main_lt_most.0 ∙ ap words_of g.1,
      c.put.ensures ∙ ap (set R a.client) (c.record_of-record.ensures R c.run_in-run.ensures) ∙ g.4,
      g.3,
      g.2,
    )

pub returns-in-Err : goal.returns-in-Err
returns-in-Err c =
    let a = c.args in
    let g = rw c.view_in-view.ensures at (c.in-Err.ensures.gives (clients_in a.clients.now) c.run_in-run.ensures) in
    (c.from.ensures ∙ g.0, sym (words_session a.session.now c.told-session) ∙ ap words_of g.1, g.4, g.3, g.2)
