use Prim.Native.Nat.{ℕ, ◌*◌, ◌≤◌}
use mathlib.Core.Path.{◌≡◌}
use mathlib.Core.Bool.{cond}
use lib.Count.{ones}
use lib.ListN.{get_or}
use Rattle.model.specs.Range.{sum_to}
use Rattle.model.specs.Session.{is_dirty}
use Rattle.words.proofs.WalkLaws.{Walk}
use Rattle.session.proofs.dirty_total.Given as goal

abbrev pub invariant-loop-i : goal.invariant-loop-i
invariant-loop-i l = (k : ℕ) × (Walk l.marked 64 l.i-iterator.rest k × ((l.sum ≡ sum_to k (λ b. cond (is_dirty l.marked b) (ones (get_or l.words b 0)) 0)) × (l.sum ≤ 64 * k)))
