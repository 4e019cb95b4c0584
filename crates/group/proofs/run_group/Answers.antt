use mathlib.Core.Path.{sym, ap, ◌∙◌}
use Rattle.model.specs.Range.{cat}
use Rattle.model.specs.Container.{committed_epoch}
use Rattle.text.specs.Text.{text}
use Rattle.printer.proofs.AppendedLaws.{appended_then, appended_as}
use Rattle.calls.specs.Printed.{board_step, write_of, after_group}
use Rattle.calls.specs.Ran.{group_of_parts}
use Rattle.group.proofs.GroupLaws.{group_text_lem}
use Rattle.group.proofs.run_group.Goals as goal

pub returns-clause-group_ran : goal.returns-clause-group_ran
unfolding after_group text cat
returns-clause-group_ran c = λ b «is».
    let a = c.args in
    let g = group_of_parts a.parts a.bytes.now in
    let w = c.write.ensures.call_ran b «is» in
    let k = c.checkpoint.ensures.checkpoint_ran (board_step b (write_of g)) w.1 in
    let epoch = c.epoch-epoch.ensures ∙ ap committed_epoch (sym k.1.0) in
    let line = appended_then (appended_then (appended_then c.number.ensures.appended w.0) k.0) c.number-2.ensures.appended in
    (appended_as (group_text_lem b a.n g c.epoch-epoch.result epoch) line, k.1)
