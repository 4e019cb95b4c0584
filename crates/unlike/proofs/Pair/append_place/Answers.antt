use native.Mathlib.Omega.{arith}
use borrow.Author.Tests.{lt-ltb, le-ltb}
use Rattle.model.specs.Range.{cat}
use Rattle.text.specs.Text.{text}
use Rattle.printer.proofs.AppendedLaws.{appended_then}
use Rattle.unlike.specs.SameText.{place_text}
use Rattle.unlike.proofs.Pair.append_place.Goals as goal

pub returns-then-block-self : goal.returns-then-block-self
unfolding place_text text cat
returns-then-block-self c =
    let block = c.first_block-block in
    let l = c.args.self.layout in
    rw (← block.ensures, lt-ltb block.result l.blocks (omega arith), ← c.crpm_read_checkpoint-x.ensures.result_value, ← c.crpm_read_checkpoint-y.ensures.result_value, ← c.first_byte.ensures)
    (appended_then c.keyed.ensures.appended c.number.ensures.appended)

pub returns-else-block-self : goal.returns-else-block-self
unfolding place_text text cat
returns-else-block-self c =
    let block = c.first_block-block in
    let l = c.args.self.layout in
    rw (← block.ensures, le-ltb block.result l.blocks (omega arith)) c.text.ensures
