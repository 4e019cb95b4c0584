use mathlib.Core.Path.{refl}
use Rattle.model.specs.Outcome.{lent}
use Rattle.carried.specs.Carried.{discards}
use Rattle.carried.proofs.exported_discard.Goals as goal

pub returns : goal.returns
returns c = λ R.
    let e = c.crpm_discard.ensures R in
    let a = c.args in
    discards a.session.now refl a.main (lent R a.trace.now) _ _ _ e
