use Rattle.std.proofs.Common.{ℕ, arith, sym, ap, ◌∙◌, length-take-le}
use Rattle.calls.specs.Printed.{script_text}
use Rattle.printer.proofs.AppendedLaws.{appended_as}
use Rattle.parser.proofs.VerdictLaws.{good_sheet}
use Rattle.script.proofs.HeaderLaws.{image_least, header_small, small_size, small_ok, header_rest, header_room, header_script}
use Rattle.script.proofs.Story.{script_ran}
use Rattle.script.proofs.run_good.Goals as goal

pub slice_bounds-image-end : goal.slice_bounds-image-end
slice_bounds-image-end c =
    let m = header_small _ _ c.header-header.ensures.reads c.requires.good in
    omega (arith, (small_size _ _ m c.image_size-size.ensures.0).1)

pub slice_bounds-open-end : goal.slice_bounds-open-end
slice_bounds-open-end c =
    let m = header_small _ _ c.header-header.ensures.reads c.requires.good in
    sym (length-take-le _ _ (omega (arith, (small_size _ _ m c.image_size-size.ensures.0).1)))

pub open-sheet-requires-clause-image_len : goal.open-sheet-requires-clause-image_len
open-sheet-requires-clause-image_len c =
    let m = header_small _ _ c.header-header.ensures.reads c.requires.good in
    let z = small_size _ _ m c.image_size-size.ensures.0 in
    (length-take-le _ _ (omega (arith, z.1)) ∙ z.0, small_ok _ m)

pub run_groups-requires-clause-good : goal.run_groups-requires-clause-good
run_groups-requires-clause-good c = header_rest _ _ c.header-header.ensures.reads c.requires.good

pub run_groups-requires-clause-image : goal.run_groups-requires-clause-image
run_groups-requires-clause-image c =
    let m = header_small _ _ c.header-header.ensures.reads c.requires.good in
    let z = small_size _ _ m c.image_size-size.ensures.0 in
    omega (arith, c.open-sheet.ensures.size, z, image_least c.header-header.result.layout, length-take-le {A = ℕ})

pub run_groups-requires-clause-room : goal.run_groups-requires-clause-room
run_groups-requires-clause-room c =
    let o = c.open-sheet.ensures in
    record {
      room = omega (arith, o.grown.upper_bound, o.grown.size, c.requires.room.room, header_room _ _ c.header-header.ensures.reads c.requires.good, (good_sheet _ c.requires.good).0);
    }

pub returns : goal.returns
returns c =
    appended_as (ap script_text (header_script _ _ c.header-header.ensures.reads c.requires.good))
    (script_ran _ _ c.open-sheet.result c.args.page.now _ c.run_groups.new.page c.open-sheet.ensures.opened c.run_groups.ensures)
