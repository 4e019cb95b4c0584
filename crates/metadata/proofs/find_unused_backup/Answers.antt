use Prim.Native.Nat.{ℕ}
use mathlib.Core.Path.{◌≡◌}
use mathlib.Core.Bool.{Bool, true, false}
use lib.Dec.{eqb}
use borrow.Author.Rules.{rules}
use borrow.Author.Tests.{tests}
use Rattle.std.proofs.lemmas.Iterator.{first_from_Range}
use Rattle.model.specs.Layout.{ss_main}
use Rattle.model.specs.Container.{backup_to_main, seg_state}
use Rattle.metadata.proofs.FindLaws.{found_first}
use Rattle.metadata.proofs.find_unused_backup.Goals as goal

pub returns : goal.returns
returns c =
    let a = c.args in
    let P : ℕ → Bool = λ j. eqb (seg_state a.image.now a.line (backup_to_main a.image.now j)) ss_main in
    found_first _ P _ (first_from_Range _ _ _ c.find.result (λ j. P j ≡ true) (λ j. P j ≡ false) c.find.ensures.ran (λ x q k. search (rules, tests)) (λ x q k. search (rules, tests)))
