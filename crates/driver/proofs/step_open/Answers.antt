use Rattle.model.specs.History.{call_open}
use Rattle.driver.proofs.SteppedLaws.{told_fits, told_step}
use Rattle.driver.proofs.step_open.Goals as goal

pub play_reported-requires : goal.play_reported-requires
play_reported-requires g c = told_fits _ _ _ c.crpm_open-opened.result _ _ c.crpm_open-opened.ensures

pub returns : goal.returns
returns g c = λ s. told_step _ s _ (call_open c.args.layout c.args.domain _) c.crpm_open-opened.result _ _ _ (tt, c.crpm_open-opened.ensures) c.play_reported.ensures
