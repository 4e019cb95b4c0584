use Prim.Native.Nat.{ℕ, ◌+◌, ◌*◌}
use mathlib.Core.Path.{◌≡◌, ap, ◌∙◌}
use native.Mathlib.Omega.{arith}
use lib.Dec.{eqb}
use Rattle.model.proofs.Laws.Range.{first_none}
use Rattle.model.specs.Container.{backup_to_main, paired_backup}
use Rattle.model.specs.Range.{first_b}
use Rattle.metadata.specs.Find.{found_below}
use Rattle.metadata.proofs.FindLaws.{found_none, none_before, found_in_word, pairs_word}
use Rattle.metadata.proofs.find_paired_backup.Goals as goal
use Rattle.metadata.proofs.find_paired_backup.Goals.{After-first_byte-place}

-- where the search in a word ends
place : (c : After-first_byte-place) → c.first_byte-place.result ≡ first_b 8 (λ k. eqb (backup_to_main c.args.image.now (8 * c.loop-k.k + k)) c.args.main)
place c =
    let j = 8 * c.loop-k.k in
    c.first_byte-place.ensures (λ k. backup_to_main c.args.image.now (j + k)) (λ k h. (c.type_inv.image _).fits) (c.word_at-word.ensures ∙ pairs_word c.args.image.now j)

pub returns-then-place-lt-WORD_SIZE : goal.returns-then-place-lt-WORD_SIZE
unfolding paired_backup
returns-then-place-lt-WORD_SIZE c =
    let a = c.args in
    let j = 8 * c.loop-k.k in
    let e = place (goal.at.returns-then-place-lt-WORD_SIZE c).After-first_byte-place in
    c.found_below.ensures ∙ ap (λ (k : ℕ). found_below a.layout.backups (j + k)) e
    ∙ found_in_word (λ k. eqb (backup_to_main a.image.now k) a.main) j c.loop-k.invariant a.layout.backups (omega (arith, e))

pub loop-k-preserved : goal.loop-k-preserved
loop-k-preserved c j h =
    let a = c.args in
    none_before (λ k. eqb (backup_to_main a.image.now k) a.main) (8 * c.loop-k.k) c.loop-k.invariant j
    (omega (arith, place (goal.at.loop-k-preserved c).After-first_byte-place))

pub returns : goal.returns
unfolding paired_backup
returns c = found_none _ _ (omega (arith, first_none c.args.layout.backups _ (λ j h. c.loop-k.invariant j (omega (arith, c.div_ceil-k-end.ensures)))))
