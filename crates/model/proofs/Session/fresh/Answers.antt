use Rattle.std.proofs.Common.{refl}
use Rattle.model.specs.Session.{fresh_session}
use Rattle.model.proofs.Session.fresh.Goals as goal

pub returns : goal.returns
unfolding fresh_session
returns c = refl
