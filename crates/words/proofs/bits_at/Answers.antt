use mathlib.Core.Path.{◌∙◌}
use Rattle.words.proofs.ByteLaws.{bit_small, bits_as_bytes}
use Rattle.words.proofs.bits_at.Goals as goal

pub returns : goal.returns
returns c =
    let a = c.args in
    c.present.ensures _ (λ k l. bit_small a.set a.p k l) c.spread.ensures ∙ bits_as_bytes a.set a.p
