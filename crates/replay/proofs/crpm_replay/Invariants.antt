use mathlib.Core.Path.{◌≡◌}
use mathlib.Core.List.{map}
use lib.ListN.{drop}
use Rattle.model.specs.Ops.{replay}
use Rattle.replay.specs.Numbers.{op_given}
use Rattle.replay.proofs.crpm_replay.Given as goal

abbrev pub invariant-loop-op : goal.invariant-loop-op
invariant-loop-op l = replay (map op_given (drop l.op-index l.ops)) l.image ≡ replay (map op_given l.ops) l.initial.image
