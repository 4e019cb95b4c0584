use Rattle.std.proofs.lemmas.List.{drop_all}
use Rattle.model.specs.Ops.{replay}
use Rattle.replay.proofs.JudgeLaws.{length_threes, three_judged}
use Rattle.replay.proofs.ReplayLaws.{judged, played_more, all_played}
use Rattle.replay.proofs.crpm_replay.Goals as goal

pub play_op-requires : goal.play_op-requires
play_op-requires c =
    let j = judged c.args.image.now c.args.trace.now c.args.n c.in_ok-replay_status.ensures in
    record { line_size_len = rw c.loop-op.auto.image j.0; word_value = rw (c.first_ops-ops.ensures, c.loop-op.auto.image) (three_judged _ _ _ _ _ j.1 (rw (c.first_ops-ops.ensures, length_threes) at c.loop-op-test.true)) }

pub loop-op-preserved : goal.loop-op-preserved
loop-op-preserved c = played_more _ c.loop-op.op-index c.loop-op.image c.loop-op-test.true c.loop-op.invariant c.play_op.ensures

pub returns-clause-image_after : goal.returns-clause-image_after
unfolding replay
returns-clause-image_after c =
    let p = rw (drop_all c.loop-op.op-index c.first_ops-ops.result.now c.loop-op-test.false) at c.loop-op.invariant in
    all_played c.args.image.now c.args.trace.now c.args.n c.in_ok-replay_status.ensures (rw c.first_ops-ops.ensures at p)
