use Rattle.std.proofs.Common.{◌%◌, length, rules, tests, eq-eqb, refl}
use borrow.Author.Tests.{ne_eqb}
use Rattle.std.proofs.lemmas.Iterator.{YieldsList-from_slice}
use Rattle.std.proofs.lemmas.Iterator.Search.{all_from_yields_List}
use Rattle.text.specs.Text.{is_hex_digit}
use Rattle.text.proofs.HexLaws.{pairs_all}
use Rattle.text.proofs.hex_pairs.Goals as goal

pub returns-then-value-eq0 : goal.returns-then-value-eq0
returns-then-value-eq0 c =
    let v = c.args.value.now in
    rw (pairs_all v, eq-eqb (length v % 2) 0 c.if-value-eq0.true)
    (all_from_yields_List is_hex_digit _ _ _ c.all.ensures.ran (YieldsList-from_slice v cc) (λ x b q k. search (rules, tests)))

pub returns-else-value-eq0 : goal.returns-else-value-eq0
returns-else-value-eq0 c = let v = c.args.value.now in rw (pairs_all v, ne_eqb (length v % 2) 0 c.if-value-eq0.false) refl
