use Rattle.std.proofs.Common.{◌<◌, length, map, set, sym, ◌∙◌, ap, arith}
use Rattle.std.proofs.lemmas.List.{get_or-map, map-set, length-map}
use Rattle.std.proofs.lemmas.List.Edits.{map_over_more}
use Rattle.std.proofs.lemmas.Grind.{common_steps}
use Rattle.model.specs.Clients.{cleared, with_used}
use Rattle.clients.proofs.clear.Goals as goal

pub loop-record-preserved : goal.loop-record-preserved
loop-record-preserved g c =
    let f = g.R.Record.client_of in
    let v = c.args.records.now in
    let k = c.loop-record in
    let i = k.record-index in
    let h : i < length k.records = omega arith in
    map-set f k.records i c.of.result
    ∙ ap (set (map f k.records) i) c.of.ensures
    ∙ map_over_more (with_used 0) (map f v) (map f k.records) i c.client.result (omega (arith, length-map v f)) k.invariant
    (c.client.ensures ∙ sym (get_or-map f k.records i c.record-item.result c.client.result h))

pub returns : goal.returns
unfolding cleared
returns g c = grind (arith, common_steps)
