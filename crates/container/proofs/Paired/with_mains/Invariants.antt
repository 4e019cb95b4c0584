use Rattle.std.proofs.Common.{◌≡◌, ◌+◌, take}
use Rattle.std.specs.List.{fold}
use Rattle.container.specs.declared.Paired.{Paired}
use Rattle.container.specs.Scan.{lay_pair}
use Rattle.container.proofs.Paired.with_mains.Given as goal

abbrev pub invariant-loop-pair : goal.invariant-loop-pair
invariant-loop-pair l = ◌≡◌ {A = Paired} (record { set = l.set; count = l.self.count + l.pair-index }) (fold lay_pair l.self (take l.pair-index l.pair-items))
