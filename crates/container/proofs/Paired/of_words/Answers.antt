use Rattle.std.proofs.Common.{◌+◌, ◌*◌, ap, ◌∙◌, arith}
use Rattle.model.specs.Words.{Bytes, byte_at}
use Rattle.model.specs.Container.{backup_to_main}
use Rattle.model.proofs.Laws.Words.{word_moved}
use Rattle.container.specs.declared.Paired.{Paired}
use Rattle.container.specs.Scan.{lay_pairs}
use Rattle.container.proofs.PairLaws.{lay_word, count_most}
use Rattle.container.proofs.Paired.of_words.Goals as goal

pub with_word-paired-requires : goal.with_word-paired-requires
with_word-paired-requires c =
    omega (arith, ap (λ (p : Paired). p.count) c.loop-k.invariant, count_most (backup_to_main c.args.image.now) (8 * c.loop-k.k))

pub loop-k-preserved : goal.loop-k-preserved
loop-k-preserved c =
    let I = c.args.image.now in
    let pr = backup_to_main I in
    let n = 8 * c.loop-k.k in
    let bytes : Bytes I = λ i. (c.type_inv.image i).fits in
    let word = c.word_at-word.ensures ∙ word_moved (byte_at I) pr (256 + n) n (λ k l. ap (byte_at I) (omega arith)) in
    c.with_word-paired.ensures ∙ lay_word pr n c.word_at-word.result c.loop-k.paired (λ i. bytes (256 + i)) c.loop-k.invariant word ∙ ap (lay_pairs pr) (omega arith)
