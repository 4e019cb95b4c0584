use Rattle.model.specs.Ops.{put_block}
use Rattle.trace.proofs.EmitLaws.{fits_first, fits_then, fits_if, emitted_then, emitted_if, emitted_unless}
use Rattle.blocks.proofs.put_copy.Goals as goal

pub store_words-requires-clause-fits : goal.store_words-requires-clause-fits
unfolding put_block
store_words-requires-clause-fits c = rw c.requires.block_len (fits_first _ c.requires.fits)

pub put_clwbs-requires-clause-fits : goal.put_clwbs-requires-clause-fits
unfolding put_block
put_clwbs-requires-clause-fits c =
    fits_if c.args.flush c.if-flush.true (fits_then c.requires.fits (rw c.requires.block_len at c.store_words.ensures))

pub returns-then-flush : goal.returns-then-flush
unfolding put_block
returns-then-flush c =
    let words = rw c.requires.block_len at c.store_words.ensures in
    emitted_then words (emitted_if c.args.flush c.if-flush.true c.put_clwbs.ensures)

pub returns-else-flush : goal.returns-else-flush
unfolding put_block
returns-else-flush c =
    let words = rw c.requires.block_len at c.store_words.ensures in
    emitted_then words (emitted_unless c.args.flush _ c.if-flush.false)
