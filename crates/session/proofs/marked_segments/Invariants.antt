use Prim.Native.Nat.{◌-◌, ◌≤◌}
use mathlib.Core.Path.{◌≡◌}
use Rattle.session.specs.Marked.{marked_segments}
use Rattle.session.proofs.marked_segments.Given as goal

abbrev pub invariant-loop-i : goal.invariant-loop-i
invariant-loop-i l = (l.i ≤ l.mains) × (l.set ≡ marked_segments l.words l.i)

abbrev pub decreases-loop-i : goal.decreases-loop-i
decreases-loop-i l = l.mains - l.i
