use mathlib.Core.Path.{sym}
use native.Mathlib.Omega.{arith}
use Rattle.trace.proofs.EmitLaws.{emitted_as, emitted_then, fits_as, fits_then}
use Rattle.span.proofs.SpanLaws.{words_fit, whole_words, words_and_rest}
use Rattle.span.proofs.put_aligned.Goals as goal

pub store_words-requires-clause-fits : goal.store_words-requires-clause-fits
store_words-requires-clause-fits c =
    let a = c.args in
    words_fit a.image.now a.at a.bytes.now c.requires.fits

pub put_overlaid-requires-clause-fits : goal.put_overlaid-requires-clause-fits
put_overlaid-requires-clause-fits c =
    let a = c.args in
    let e = words_and_rest a.image.now a.at a.bytes.now (omega arith) c.if-bytes-ne0.true in
    fits_then (fits_as (sym e) c.requires.fits) c.store_words.ensures

pub returns-then-bytes-ne0 : goal.returns-then-bytes-ne0
returns-then-bytes-ne0 c =
    let a = c.args in
    let e = words_and_rest a.image.now a.at a.bytes.now (omega arith) c.if-bytes-ne0.true in
    emitted_as (emitted_then c.store_words.ensures c.put_overlaid.ensures) e

pub returns-else-bytes-ne0 : goal.returns-else-bytes-ne0
returns-else-bytes-ne0 c =
    let a = c.args in
    emitted_as c.store_words.ensures (whole_words a.image.now a.at a.bytes.now (omega arith) (omega arith) (omega arith))
