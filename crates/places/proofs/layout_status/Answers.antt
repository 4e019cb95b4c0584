use mathlib.Core.List.{[]}
use mathlib.Core.Path.{sym}
use native.Mathlib.Omega.{arith}
use Rattle.model.proofs.Laws.Layout.{metadata_inside}
use Rattle.places.proofs.PlaceLaws.{sized}
use Rattle.places.proofs.layout_status.Goals as goal

pub header_ok-requires : goal.header_ok-requires
header_ok-requires c =
    let s = sized c.args.layout c.args.image.now [] (sym c.in_ok-size_status.ensures) in
    omega (arith, metadata_inside c.args.layout)
