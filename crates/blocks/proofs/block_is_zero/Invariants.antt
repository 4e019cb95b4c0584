use mathlib.Core.Path.{◌≡◌}
use lib.Dec.{eqb}
use lib.ListN.{get_or}
use Rattle.model.specs.Range.{all_b}
use Rattle.blocks.proofs.block_is_zero.Given as goal

abbrev pub invariant-loop-byte : goal.invariant-loop-byte
invariant-loop-byte l = eqb l.seen 0 ≡ all_b l.byte-index (λ j. eqb (get_or l.block j 0) 0)
