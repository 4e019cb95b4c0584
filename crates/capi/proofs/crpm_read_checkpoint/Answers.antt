use Rattle.capi.proofs.CallLaws.{checkpoint-served}
use Rattle.capi.proofs.crpm_read_checkpoint.Goals as goal

pub part_code-requires : goal.part_code-requires
part_code-requires c =
    let a = c.args in
    checkpoint-served c.new-layout.result a.image.now a.main a.block c.checkpoint_part-kept.result c.checkpoint_part-kept.ensures
