use Rattle.std.proofs.Common.{◌≡◌, ◌+◌, ◌*◌, eqb}
use Rattle.model.specs.Range.{all_b}
use Rattle.model.specs.Words.{byte_at}
use Rattle.model.specs.Session.{bit}
use Rattle.container.specs.Scan.{state_fits}
use Rattle.container.proofs.states_fit.Given as goal

abbrev pub invariant-loop-k : goal.invariant-loop-k
invariant-loop-k l = eqb l.over 0 ≡ all_b (8 * l.k) (λ i. state_fits (bit l.set i) (byte_at l.image (l.line + i)))
