use Rattle.copy.proofs.PlanLaws.{no_copy_lem, own_backup_lem, new_backup_lem, none_free_lem}
use Rattle.copy.proofs.plan_copy.Goals as goal

pub returns-then-dirty-state-clause-by_index : goal.returns-then-dirty-state-clause-by_index
returns-then-dirty-state-clause-by_index c =
    let a = c.args in
    let p = no_copy_lem a.layout a.segments a.image.now a.main _ _ c.active_at-active.ensures.0 c.has_bit-dirty.ensures c.if-dirty-state.true in
    p.0

pub returns-in-Some : goal.returns-in-Some
returns-in-Some c =
    let a = c.args in
    let p = own_backup_lem a.layout a.segments a.image.now a.main _ _ c.active_at-active.ensures.0 c.has_bit-dirty.ensures c.if-dirty-state.false _ c.in-Some.ensures in
    record { by_index = p.0; copies_to = p.1 }

pub returns-in-Some-find_new_backup : goal.returns-in-Some-find_new_backup
returns-in-Some-find_new_backup c =
    let a = c.args in
    let p = new_backup_lem a.layout a.segments a.image.now a.main _ _ c.active_at-active.ensures.0 c.has_bit-dirty.ensures c.if-dirty-state.false c.requires.valid
    c.in_default.ensures _ c.in-Some-find_new_backup.ensures in
    record { by_index = p.0; copies_to = p.1 }

pub returns-in-None-clause-by_index : goal.returns-in-None-clause-by_index
returns-in-None-clause-by_index c =
    let a = c.args in
    let p = none_free_lem a.layout a.segments a.image.now a.main _ _ c.active_at-active.ensures.0 c.has_bit-dirty.ensures c.if-dirty-state.false c.requires.valid
    c.in_default.ensures c.in-None.ensures in
    p.0
