use Rattle.metadata.proofs.FindLaws.{free_others}
use Rattle.metadata.proofs.free_backups.Goals as goal

pub overflow_sub-result : goal.overflow_sub-result
overflow_sub-result c = (free_others _ _ _ _ c.requires.0 c.requires.2 c.active_at.ensures.0 c.count_in_backup.ensures).0

pub returns : goal.returns
returns c = (free_others _ _ _ _ c.requires.0 c.requires.2 c.active_at.ensures.0 c.count_in_backup.ensures).1
