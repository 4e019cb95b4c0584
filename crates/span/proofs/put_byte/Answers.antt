use Prim.Native.Nat.{◌%◌}
use mathlib.Core.Path.{◌≡◌, ◌∙◌}
use mathlib.Core.List.{[], ◌∷◌}
use lib.ListN.{length, set}
use borrow.Author.Rules.{rules}
use Rattle.model.specs.Words.{byte_at, word_of, word_at, overlay}
use Rattle.model.specs.Ops.{word_place, for_domain}
use Rattle.span.proofs.SpanLaws.{byte_laid}
use Rattle.span.proofs.put_byte.Goals as goal

pub store-requires : goal.store-requires
unfolding for_domain
store-requires c = record { room = c.requires.fits.room }

pub returns : goal.returns
returns c =
    let a = c.args in
    let b = c.bytes_at-word in
    let j = c.join in
    let n : length b.result ≡ 8 = search rules in
    let w : j.result ≡ word_at (set b.result (a.at % 8) a.byte) 0 = j.ensures in
    let e : j.result ≡ word_of (overlay (byte_at a.image.now) a.at (a.byte ∷ [])) (word_place a.at) = w ∙ byte_laid (byte_at a.image.now) b.result a.at a.byte n b.ensures in
    rw e at c.store.ensures
