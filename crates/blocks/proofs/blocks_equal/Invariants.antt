use mathlib.Core.Path.{◌≡◌}
use lib.Dec.{eqb}
use lib.ListN.{length, get_or}
use Rattle.model.specs.Range.{all_b}
use Rattle.blocks.proofs.blocks_equal.Given as goal

abbrev pub invariant-loop-x : goal.invariant-loop-x
invariant-loop-x l = eqb l.unlike 0 ≡ all_b (length l.yielded) (λ j. eqb (get_or l.a j 0) (get_or l.b j 0))
