use Rattle.std.proofs.Common.{[]}
use Rattle.model.specs.History.{call_discard}
use Rattle.driver.proofs.SteppedLaws.{told_fits, told_step}
use Rattle.driver.proofs.step_discard.Goals as goal

pub play_reported-requires : goal.play_reported-requires
play_reported-requires c = told_fits _ _ _ c.crpm_discard-discarded.result [] _ (c.crpm_discard-discarded.ensures [])

pub returns : goal.returns
returns c = λ R. told_step _ c.args.session _ (call_discard c.args.main _) c.crpm_discard-discarded.result R _ _ (tt, c.crpm_discard-discarded.ensures R) c.play_reported.ensures
