use Prim.Native.Nat.{ℕ, ◌<◌}
use native.Mathlib.Omega.{arith}
use lib.ListN.{get_or}
use Rattle.session.proofs.GroupLaws.{tested, tested_small, tested_word, own_word}
use Rattle.session.proofs.own_dirty.Goals as goal

pub returns : goal.returns
returns c =
    let m = c.args.segments in
    let p = c.args.p in
    let st : ℕ → ℕ = λ i. get_or c.args.states.now i 0 in
    let small : (i : ℕ) → st i < 256 = λ i. (c.type_inv.states i).fits in
    let fits = c.ranges.segments.fits in
    let word = tested_word st m p small fits (omega arith) c.word_at-word.ensures c.each.ensures c.spread.ensures in
    own_word st m p small fits (omega arith) (c.present.ensures (tested st m p) (tested_small st m p small fits (omega arith)) word) c.each-2.ensures
