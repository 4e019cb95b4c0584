use mathlib.Core.Path.{ap, ◌∙◌}
use native.Mathlib.Nat.{zero-add}
use Rattle.model.specs.Words.{byte_at}
use Rattle.model.proofs.Laws.Words.{word_moved}
use Rattle.words.proofs.word_at.Goals as goal

pub returns : goal.returns
returns c =
    let a = c.args in
    let b = c.bytes_at in
    c.join.ensures ∙ word_moved (byte_at b.result) (byte_at a.image.now) 0 a.at (λ k l. ap (byte_at b.result) (zero-add k) ∙ b.ensures k l)
