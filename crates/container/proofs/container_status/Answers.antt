use Rattle.std.proofs.Common.{sym, arith}
use Rattle.model.specs.Container.{header_errors}
use Rattle.model.proofs.Laws.Layout.{metadata_inside}
use Rattle.places.proofs.PlaceLaws.{sized}
use Rattle.container.proofs.container_status.Goals as goal

pub active_at-requires : goal.active_at-requires
active_at-requires c =
    let l = c.args.layout in
    let I = c.args.image.now in
    let s = sized l I (header_errors l I) (sym c.in_ok-layout_status.ensures) in
    omega (arith, metadata_inside l)

pub examine-requires : goal.examine-requires
examine-requires c =
    let l = c.args.layout in
    let I = c.args.image.now in
    let s = sized l I (header_errors l I) (sym c.in_ok-layout_status.ensures) in
    omega (arith, metadata_inside l)
