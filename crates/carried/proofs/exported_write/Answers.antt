use mathlib.Core.Path.{refl}
use Rattle.model.specs.Write.{write_args_of}
use Rattle.model.specs.Outcome.{lent}
use Rattle.clients.specs.Words.{clients_in}
use Rattle.carried.specs.Carried.{writes}
use Rattle.carried.proofs.exported_write.Goals as goal

pub returns : goal.returns
returns c =
    let e = c.crpm_write.ensures in
    let a = c.args in
    writes a.session.now refl (write_args_of a.client a.main a.block a.offset a.bytes.now) (lent (clients_in a.clients.now) a.trace.now) _ _ _ _ _ (λ i. (c.type_inv.bytes i).fits) e
