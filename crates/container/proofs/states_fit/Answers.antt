use Rattle.std.proofs.Common.{◌+◌, ◌-◌, ◌*◌, ◌%◌, ◌^◌, ap, ◌∙◌, arith}
use Rattle.model.specs.Words.{Bytes, byte_at}
use Rattle.model.proofs.Laws.Range.{all_none}
use Rattle.model.proofs.Laws.Words.{word_moved}
use Rattle.container.proofs.LineLaws.{fit_more}
use Rattle.container.proofs.states_fit.Goals as goal

pub loop-k-init : goal.loop-k-init
loop-k-init c = all_none _

pub loop-k-preserved : goal.loop-k-preserved
loop-k-preserved c =
    let a = c.args in
    let I = a.image.now in
    let k = c.loop-k.k in
    let bytes : Bytes I = λ i. (c.type_inv.image i).fits in
    let left = (c.word_at-states.result + (2 ^ 64 - c.bits_at.result)) % 2 ^ 64 in
    let word = c.word_at-states.ensures ∙ word_moved (byte_at I) (λ i. byte_at I (a.line + i)) (a.line + 8 * k) (8 * k) (λ k l. ap (byte_at I) (omega arith)) in
    fit_more (λ i. byte_at I (a.line + i)) a.set k c.loop-k.over left _ _ (λ i. bytes (a.line + i)) (omega arith) word c.bits_at.ensures (omega arith) c.loop-k.invariant
