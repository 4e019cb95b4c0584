use Rattle.model.specs.History.{call_write}
use Rattle.driver.proofs.SteppedLaws.{told_fits, told_step}
use Rattle.driver.proofs.step_write.Goals as goal

pub play_reported-requires : goal.play_reported-requires
play_reported-requires g c = told_fits _ _ _ c.crpm_write-written.result _ _ c.crpm_write-written.ensures

pub returns : goal.returns
returns g c =
    told_step _ c.args.session _ (call_write _ _) c.crpm_write-written.result _ _ _ ((λ i. (c.type_inv.bytes i).fits), c.crpm_write-written.ensures) c.play_reported.ensures
