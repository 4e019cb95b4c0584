use Rattle.std.proofs.Common.{◌≡◌, ◌-◌, cond, eqb}
use Rattle.model.specs.Range.{sum_to}
use Rattle.model.specs.Clients.{client_at, unused}
use Rattle.clients.proofs.Run.all_reserved.Given as goal

abbrev pub invariant-loop-k : goal.invariant-loop-k
invariant-loop-k l = l.left ≡ l.free - sum_to l.k (λ j. cond (eqb j l.client) 0 (unused (client_at l.fn.self.clients j)))
