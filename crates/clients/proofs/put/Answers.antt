use Rattle.std.proofs.lemmas.List.{map-set}
use Rattle.clients.proofs.put.Goals as goal

pub returns-then-i-records : goal.returns-then-i-records
returns-then-i-records g c =
    let lent = map-set g.R.Record.client_of c.args.records.now c.args.i c.of.result in
    rw c.of.ensures at lent
