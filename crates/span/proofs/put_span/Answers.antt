use Prim.Native.Nat.{◌-◌, ◌%◌}
use mathlib.Core.Path.{◌≡◌, refl, sym}
use native.Mathlib.Omega.{arith}
use lib.Dec.{eqb}
use lib.ListN.{length}
use borrow.Author.Tests.{eqb-true}
use Rattle.model.proofs.Laws.Range.{and_left, and_right}
use Rattle.trace.proofs.EmitLaws.{emitted_as, emitted_then, fits_as, fits_then}
use Rattle.span.specs.Steps.{first_stores}
use Rattle.span.proofs.SpanLaws.{words_fit, whole_words, first_fits, first_alone, first_and_later}
use Rattle.span.proofs.put_span.Goals as goal

pub store_words-requires-clause-fits : goal.store_words-requires-clause-fits
store_words-requires-clause-fits c =
    let a = c.args in
    words_fit a.image.now a.at a.bytes.now c.requires.fits

pub returns-then-at-bytes : goal.returns-then-at-bytes
returns-then-at-bytes c =
    let a = c.args in
    let t = c.if-at-bytes.true in
    let x : a.at % 8 ≡ 0 = eqb-true (a.at % 8) 0 (and_left (eqb (a.at % 8) 0) _ t) in
    let y : length a.bytes.now % 8 ≡ 0 = eqb-true (length a.bytes.now % 8) 0 (and_right (eqb (a.at % 8) 0) _ t) in
    emitted_as c.store_words.ensures (whole_words a.image.now a.at a.bytes.now (omega arith) x y)

pub put_first-requires-clause-fits : goal.put_first-requires-clause-fits
put_first-requires-clause-fits c =
    let a = c.args in
    first_fits a.image.now a.at a.bytes.now c.requires.fits

pub put_aligned-requires-clause-fits : goal.put_aligned-requires-clause-fits
put_aligned-requires-clause-fits c =
    let a = c.args in
    let e = first_and_later a.image.now a.at ((8 - a.at % 8) % 8) a.bytes.now refl (omega arith) in
    fits_then {A = first_stores a.image.now a.at a.bytes.now} (fits_as (sym e) c.requires.fits)
    c.put_first.ensures

pub returns-then-skip-bytes : goal.returns-then-skip-bytes
returns-then-skip-bytes c =
    let a = c.args in
    let e = first_and_later a.image.now a.at ((8 - a.at % 8) % 8) a.bytes.now refl (omega arith) in
    emitted_as
    (emitted_then {A = first_stores a.image.now a.at a.bytes.now}
    c.put_first.ensures c.put_aligned.ensures) e

pub returns-else-skip-bytes : goal.returns-else-skip-bytes
returns-else-skip-bytes c =
    let a = c.args in
    emitted_as {O = first_stores a.image.now a.at a.bytes.now} c.put_first.ensures
    (first_alone a.image.now a.at a.bytes.now (omega arith) (omega arith))
