use Rattle.std.proofs.Common.{map, rules, sym}
use Rattle.std.proofs.lemmas.List.{length-map}
use Rattle.model.specs.Clients.{client_at, most_clients, no_client}
use Rattle.clients.proofs.RunLaws.{loaded_same, filled_at}
use Rattle.clients.proofs.Run.load.Goals as goal

pub returns : goal.returns
returns g c =
    let v = c.args.records.now in
    let R = map g.R.Record.client_of v in
    let made = c.from_fn.ensures.items in
    loaded_same _ _ R (sym (length-map v g.R.Record.client_of)) made.long
    (λ i h. filled_at _ (client_at R) _ (λ i y q call. search rules) _ 0 most_clients made.each i no_client (search rules) h)
