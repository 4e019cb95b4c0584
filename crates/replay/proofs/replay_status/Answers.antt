use Rattle.model.specs.Status.{first_error}
use Rattle.model.specs.Replay.{replay_status}
use Rattle.replay.proofs.JudgeLaws.{judged_threes}
use Rattle.replay.proofs.replay_status.Goals as goal

pub returns-then-not-all_well_formed : goal.returns-then-not-all_well_formed
unfolding replay_status first_error
returns-then-not-all_well_formed c =
    let e = judged_threes _ c.args.trace.now _ c.all_well_formed.result c.first_ops.ensures c.all_well_formed.ensures c.if-not-all_well_formed.true in
    rw (c.if-image-ne0.false, c.if-trace-ne0.false, e)

pub returns : goal.returns
unfolding replay_status first_error
returns c =
    let e = judged_threes _ c.args.trace.now _ c.all_well_formed.result c.first_ops.ensures c.all_well_formed.ensures c.if-not-all_well_formed.false in
    rw (c.if-image-ne0.false, c.if-trace-ne0.false, e)
