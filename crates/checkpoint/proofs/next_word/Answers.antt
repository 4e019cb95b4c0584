use Prim.Native.Nat.{◌*◌}
use mathlib.Core.Path.{◌∙◌}
use Rattle.model.specs.Layout.{word_size}
use Rattle.model.specs.Words.{Bytes}
use Rattle.checkpoint.proofs.StateLaws.{overlaid_small, overlaid_word, next_word_lem}
use Rattle.checkpoint.proofs.next_word.Goals as goal

pub returns : goal.returns
returns c =
    let a = c.args in
    let p = word_size * a.k in
    let bytes : Bytes a.image.now = λ i. (c.type_inv.image i).fits in
    c.present.ensures _ (overlaid_small a.image.now a.line a.segments p bytes)
    (overlaid_word a.image.now a.line a.segments p bytes _ _ c.word_at-states.ensures c.spread.ensures)
    ∙ next_word_lem a.image.now a.line a.segments p bytes
