use Rattle.std.proofs.Common.{ℕ, ◌+◌, ◌*◌, ◌/◌, ◌%◌, ◌^◌, ◌<◌, eqb, sym, refl, ap, ◌∙◌, arith, rules, lt-ltb}
use lib.Bits.{bit_or, bit_xor}
use Rattle.model.specs.Words.{Bytes, byte_at}
use Rattle.model.proofs.Laws.Range.{all_from, or_left}
use Rattle.model.proofs.Laws.Words.{word_moved}
use Rattle.container.proofs.LineLaws.{rest_first, rest_more}
use Rattle.container.proofs.half_is.Goals as goal

pub returns-then-n-eq-HALF_LINE : goal.returns-then-n-eq-HALF_LINE
returns-then-n-eq-HALF_LINE c =
    sym (all_from 32 _ (λ i l. or_left _ (lt-ltb i c.args.n (omega (arith, c.if-n-eq-HALF_LINE.true)))))

pub loop-k-init : goal.loop-k-init
loop-k-init c =
    let a = c.args in
    let I = a.image.now in
    let n = a.n in
    let q = n / 8 in
    let bytes : Bytes I = λ i. (c.type_inv.image i).fits in
    let value : a.value < 256 = search rules in
    let word = c.word_at-word.ensures ∙ word_moved (byte_at I) (λ i. byte_at I (a.at + i)) (a.at + 8 * q) (8 * q) (λ k l. ap (byte_at I) (omega arith)) in
    ap (λ (w : ℕ). eqb (bit_xor c.word_at-word.result w / 2 ^ (8 * (n % 8))) 0) c.each-pattern.ensures
    ∙ rest_first (λ i. byte_at I (a.at + i)) a.value n c.word_at-word.result q (λ i. bytes (a.at + i)) value word refl

pub loop-k-preserved : goal.loop-k-preserved
loop-k-preserved c =
    let a = c.args in
    let I = a.image.now in
    let k = c.loop-k.k in
    let bytes : Bytes I = λ i. (c.type_inv.image i).fits in
    let value : a.value < 256 = search rules in
    let word = c.word_at.ensures ∙ word_moved (byte_at I) (λ i. byte_at I (a.at + i)) (a.at + 8 * k) (8 * k) (λ k l. ap (byte_at I) (omega arith)) in
    ap (λ (w : ℕ). eqb (bit_or c.loop-k.seen (bit_xor c.word_at.result w)) 0) c.each-pattern.ensures
    ∙ rest_more (λ i. byte_at I (a.at + i)) a.value a.n c.word_at.result k c.loop-k.seen (λ i. bytes (a.at + i)) value (omega arith) word c.loop-k.invariant
