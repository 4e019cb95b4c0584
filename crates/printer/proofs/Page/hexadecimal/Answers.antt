use Rattle.std.proofs.Common.{◌∙◌}
use Rattle.printer.proofs.NumberLaws.{digits_hexadecimal}
use Rattle.printer.proofs.AppendedLaws.{appended_as}
use Rattle.printer.proofs.Page.hexadecimal.Goals as goal

pub returns-clause-appended : goal.returns-clause-appended
returns-clause-appended c =
    let d = c.hex-count in
    appended_as (d.ensures.digits ∙ digits_hexadecimal c.args.n d.result d.ensures.len c.ranges.n.fits) c.text.ensures
