use Rattle.script.proofs.run_read.Goals as goal

pub returns-clause-group_ran : goal.returns-clause-group_ran
returns-clause-group_ran c = rw c.decode_bytes-count.ensures.bytes at c.run_group.ensures.group_ran
