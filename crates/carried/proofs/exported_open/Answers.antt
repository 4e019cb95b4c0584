use Rattle.model.specs.Layout.{layout_of}
use Rattle.model.specs.Outcome.{lent}
use Rattle.clients.specs.Words.{clients_in}
use Rattle.carried.specs.Carried.{opens}
use Rattle.carried.proofs.exported_open.Goals as goal

pub returns : goal.returns
returns c =
    let e = c.crpm_open.ensures in
    let a = c.args in
    λ s. opens (layout_of a.mains a.backups a.blocks) a.domain (lent (clients_in a.clients.now) a.trace.now) _ _ _ _ _ e
