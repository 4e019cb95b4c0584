use Rattle.std.proofs.Common.{◌≡◌, ◌++◌, map, take, drop}
use Rattle.model.specs.Clients.{with_used}
use Rattle.clients.proofs.clear.Given as goal

abbrev pub invariant-loop-record : goal.invariant-loop-record
invariant-loop-record g l =
    let R = map g.R.Record.client_of l.initial.records in
    map g.R.Record.client_of l.records ≡ map (with_used 0) (take l.record-index R) ++ drop l.record-index R
