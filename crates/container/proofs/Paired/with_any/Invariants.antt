use Rattle.std.proofs.Common.{◌≡◌, ◌+◌, ◌≤◌, take}
use Rattle.std.specs.List.{fold}
use Rattle.container.specs.Scan.{lay_pair}
use Rattle.container.proofs.Paired.with_any.Given as goal

abbrev pub invariant-loop-pair : goal.invariant-loop-pair
invariant-loop-pair l = (l.next ≡ fold lay_pair l.fn.self (take l.pair-index l.pair-items)) × (l.next.count ≤ 64 + l.pair-index)
