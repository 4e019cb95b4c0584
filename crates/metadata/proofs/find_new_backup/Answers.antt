use Prim.Native.Nat.{ℕ}
use mathlib.Core.Path.{◌≡◌, ◌∙◌, sym, ap}
use native.Mathlib.Omega.{arith}
use native.Mathlib.Nat.{zero-add}
use lib.Dec.{eqb}
use Rattle.model.specs.Layout.{ss_main, state_line}
use Rattle.model.specs.Range.{first_b}
use Rattle.model.specs.Container.{active_line, active_state, backup_to_main, seg_state}
use Rattle.metadata.specs.Find.{found_below}
use Rattle.metadata.proofs.FindLaws.{found_backup, found_missing, none_alone, first_search, second_search}
use Rattle.metadata.proofs.find_new_backup.Goals as goal

pub find_unused_backup-requires-clause-by_index : goal.find_unused_backup-requires-clause-by_index
find_unused_backup-requires-clause-by_index c j h =
    let I = c.args.image.now in
    omega (arith, none_alone c.args.layout (active_state I) (backup_to_main I) c.requires.valid (found_missing _ _ c.in-None.ensures) j h)

pub returns-in-None : goal.returns-in-None
returns-in-None c =
    let l = c.args.layout in
    let I = c.args.image.now in
    let pr = backup_to_main I in
    let a : c.line_at.result ≡ active_line I = c.line_at.ensures.0 ∙ ap (λ (e : ℕ). state_line e) (zero-add _) in
    c.find_unused_backup.ensures ∙ ap (λ (n : ℕ). found_below l.backups (first_b l.backups (λ j. eqb (seg_state I n (pr j)) ss_main))) a
    ∙ ap (found_below l.backups) (sym (second_search l (active_state I) pr (found_missing _ _ c.in-None.ensures)))

pub returns-in-Some : goal.returns-in-Some
returns-in-Some c =
    let l = c.args.layout in
    let I = c.args.image.now in
    let h = c.in-Some.ensures in
    h ∙ ap (found_below l.backups) (sym (first_search l (active_state I) (backup_to_main I) (found_backup _ _ _ h).1))
