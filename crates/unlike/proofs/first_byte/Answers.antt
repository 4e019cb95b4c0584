use mathlib.Core.Path.{◌≡◌, ◌∙◌}
use Prim.Native.Nat.{ℕ}
use mathlib.Core.Bool.{true, false, not}
use lib.Dec.{eqb}
use lib.ListN.{get_or}
use Rattle.std.proofs.Common.{rules, tests}
use Rattle.std.proofs.lemmas.Iterator.{first_from_Range}
use Rattle.unlike.specs.SameText.{first_byte}
use Rattle.unlike.proofs.TextLaws.{found_first}
use Rattle.unlike.proofs.first_byte.Goals as goal

pub returns : goal.returns
unfolding first_byte
returns c =
    let p = λ (k : ℕ). not (eqb (get_or c.args.x.now k 0) (get_or c.args.y.now k 0)) in
    c.unwrap_or.ensures
    ∙ found_first 256 p c.find.result
    (first_from_Range _ _ _ c.find.result (λ (k : ℕ). p k ≡ true) (λ (k : ℕ). p k ≡ false) c.find.ensures.ran (λ x q k. search (rules, tests)) (λ x q k. search (rules, tests)))
