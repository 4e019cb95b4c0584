use Rattle.format.proofs.FormatLaws.{steps_format}
use Rattle.format.proofs.write_formatted.Goals as goal

pub returns : goal.returns
returns c =
    steps_format _ c.args.image.now c.requires (c.fill.ensures.after (λ y e. e)) c.store_word.ensures c.store_word-2.ensures c.store_word-3.ensures (c.fill-2.ensures.after (λ y e. e))
