use Rattle.std.proofs.Common.{◌≡◌, ◌+◌, ◌*◌, ◌||◌, eqb, ltb}
use Rattle.model.specs.Range.{all_b}
use Rattle.model.specs.Words.{byte_at}
use Rattle.container.proofs.half_is.Given as goal

abbrev pub invariant-loop-k : goal.invariant-loop-k
invariant-loop-k l = eqb l.seen 0 ≡ all_b (8 * l.k) (λ i. ltb i l.n || eqb (byte_at l.image (l.at + i)) l.value)
