use Prim.Native.Nat.{◌≤◌}
use mathlib.Core.Bool.{◌&&◌}
use mathlib.Core.Path.{◌≡◌}
use lib.Dec.{eqb}
use lib.ListN.{get_or}
use Rattle.session.proofs.GroupLaws.{none_of}
use Rattle.session.proofs.none_in_main.Given as goal

abbrev pub invariant-loop-rest : goal.invariant-loop-rest
invariant-loop-rest l = (l.rest ≤ l.segments) × (none_of l.mains (λ i. get_or l.states i 0) l.segments ≡ (eqb l.seen 0 && none_of l.mains (λ i. get_or l.states i 0) l.rest))

abbrev pub decreases-loop-rest : goal.decreases-loop-rest
decreases-loop-rest l = l.rest
