use Rattle.std.proofs.Common.{◌≡◌, ◌+◌, false}
use Rattle.model.specs.Range.{any_b, sum_to}
use Rattle.model.specs.Clients.{client_at, client_bad}
use Rattle.clients.proofs.Run.judge.Given as goal

abbrev pub invariant-loop-c : goal.invariant-loop-c
invariant-loop-c l =
    (any_b l.c-index (λ j. client_bad (client_at l.fn.self.clients j)) ≡ false)
    × (l.left + sum_to l.c-index (λ j. (client_at l.fn.self.clients j).reserved) ≡ l.initial.left)
