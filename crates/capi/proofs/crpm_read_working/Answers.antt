use Rattle.capi.proofs.CallLaws.{working_served}
use Rattle.capi.proofs.crpm_read_working.Goals as goal

pub part_code-requires : goal.part_code-requires
part_code-requires c =
    let a = c.args in
    working_served c.new-layout.result a.image.now a.main a.block c.working_part-working.result c.working_part-working.ensures
