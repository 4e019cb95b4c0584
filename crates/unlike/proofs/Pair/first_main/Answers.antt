use mathlib.Core.Path.{◌≡◌, ◌∙◌}
use Prim.Native.Nat.{ℕ}
use mathlib.Core.Bool.{true, false}
use Rattle.std.proofs.Common.{rules, tests}
use Rattle.std.proofs.lemmas.Iterator.{first_from_Range}
use Rattle.unlike.specs.SameText.{main_unlike, first_main}
use Rattle.unlike.proofs.TextLaws.{found_first}
use Rattle.unlike.proofs.Pair.first_main.Goals as goal

pub returns : goal.returns
unfolding first_main
returns c =
    let a = c.args.self in
    let p = main_unlike a.layout a.a.now a.b.now in
    c.unwrap_or.ensures
    ∙ found_first a.layout.mains p c.find.result
    (first_from_Range _ _ _ c.find.result (λ (k : ℕ). p k ≡ true) (λ (k : ℕ). p k ≡ false) c.find.ensures.ran (λ x q k. search (rules, tests)) (λ x q k. search (rules, tests)))
