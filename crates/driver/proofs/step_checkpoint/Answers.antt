use Rattle.model.specs.History.{call_checkpoint}
use Rattle.driver.proofs.SteppedLaws.{told_fits, told_step}
use Rattle.driver.proofs.step_checkpoint.Goals as goal

pub play_reported-requires : goal.play_reported-requires
play_reported-requires g c = told_fits _ _ _ c.crpm_checkpoint-checkpointed.result _ _ c.crpm_checkpoint-checkpointed.ensures

pub returns : goal.returns
returns g c = told_step _ c.args.session _ (call_checkpoint _) c.crpm_checkpoint-checkpointed.result _ _ _ (tt, c.crpm_checkpoint-checkpointed.ensures) c.play_reported.ensures
