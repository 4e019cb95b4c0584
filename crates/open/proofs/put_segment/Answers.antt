use native.Mathlib.Omega.{arith}
use Rattle.model.specs.Container.{seg_state}
use Rattle.open.proofs.ActionLaws.{takes_there, takes_own}
use Rattle.open.proofs.put_segment.Goals as goal

pub put_action-requires-clause-i_lt_mains : goal.put_action-requires-clause-i_lt_mains
put_action-requires-clause-i_lt_mains c =
    let g = c.args in
    let j = c.backup_of-j.ensures in
    let e = c.segment_action-action.ensures in
    let st = seg_state g.image.now g.line g.i in
    let valid = c.requires.i_lt_mains.1 in
    (omega arith, (λ h. omega (arith, takes_own g.layout g.image.now st g.i _ _ e j h, takes_there g.layout g.image.now st g.i _ e h)), valid.sizes, valid.long)
