use Rattle.std.proofs.Common.{◌≡◌, ◌*◌}
use Rattle.model.specs.Container.{backup_to_main}
use Rattle.container.specs.Scan.{lay_pairs}
use Rattle.container.proofs.Paired.of_words.Given as goal

abbrev pub invariant-loop-k : goal.invariant-loop-k
invariant-loop-k l = l.paired ≡ lay_pairs (backup_to_main l.image) (8 * l.k)
