use mathlib.Core.Path.{refl}
use Rattle.model.specs.Outcome.{lent}
use Rattle.clients.specs.Words.{clients_in}
use Rattle.carried.specs.Carried.{checkpoints}
use Rattle.carried.proofs.exported_checkpoint.Goals as goal

pub returns : goal.returns
returns c =
    let e = c.crpm_checkpoint.ensures in
    let a = c.args in
    checkpoints a.session.now refl (lent (clients_in a.clients.now) a.trace.now) _ _ _ _ _ e
