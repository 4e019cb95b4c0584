use mathlib.Core.Path.{◌∙◌}
use native.Mathlib.Omega.{arith}
use borrow.Author.Rules.{rules}
use Rattle.model.specs.Words.{byte_at}
use Rattle.span.proofs.SpanLaws.{word_laid}
use Rattle.span.proofs.overlaid_word.Goals as goal

pub returns : goal.returns
returns c =
    let a = c.args in
    rw c.copy_from_slice.ensures.after at c.join.ensures
    ∙ word_laid (byte_at a.image.now) a.at a.bytes.now c.bytes_at-word.result a.place c.max-start.result c.min-end.result (search rules) c.max-start.ensures c.min-end.ensures (omega arith) c.bytes_at-word.ensures
