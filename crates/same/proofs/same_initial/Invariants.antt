use mathlib.Core.Path.{◌≡◌}
use lib.ListN.{length}
use Rattle.model.specs.Words.{byte_at}
use Rattle.model.specs.Same.{same_initial}
use Rattle.same.proofs.same_initial.Given as goal

abbrev pub invariant-loop-x : goal.invariant-loop-x
invariant-loop-x l = l.same ≡ same_initial (length l.yielded) (byte_at l.a) (byte_at l.b)
