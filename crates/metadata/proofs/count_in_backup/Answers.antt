use Prim.Native.Nat.{ℕ, zero, suc, ◌+◌, ◌≤◌}
use mathlib.Core.Path.{◌≡◌, ap, ◌∙◌}
use mathlib.Core.List.{◌∷◌, []}
use native.Mathlib.Omega.{arith}
use native.Mathlib.Nat.{add-zero}
use lib.Dec.{eqb}
use lib.ListN.{length, get_or}
use borrow.Author.Rules.{rules}
use Rattle.std.specs.List.{between, sum_by, count_by}
use Rattle.std.proofs.lemmas.List.Edits.{between_none, between_more}
use Rattle.std.proofs.lemmas.List.Sums.{sum_by-append}
use Rattle.model.specs.Range.{sum_to, one_if}
use Rattle.model.specs.Words.{Image}
use Rattle.model.specs.FreeBackups.{mains_in_backup}
use Rattle.metadata.proofs.count_in_backup.Goals as goal

-- a sum over a part of an image
sum_part : (I : Image) (from n : ℕ) (f : ℕ → ℕ) → from + n ≤ length I → sum_by f (between from (from + n) I) ≡ sum_to n (λ i. f (get_or I (from + i) 0))
unfolding sum_to
sum_part I from zero f h = rw (add-zero, between_none)
sum_part I from (suc n) f h =
    let e : from + suc n ≡ from + n + 1 = omega arith in
    ap (λ (m : ℕ). sum_by f (between from m I)) e ∙ ap (sum_by f) (between_more I from (from + n) 0 (omega arith) (omega arith))
    ∙ omega (arith, sum_by-append f (between from (from + n) I) (get_or I (from + n) 0 ∷ []), sum_part I from n f (omega arith))

pub returns : goal.returns
unfolding mains_in_backup
returns c =
    let a = c.args in
    let counted : c.count.result ≡ count_by (λ s. eqb s 2) (between a.line (a.line + a.layout.mains) a.image.now) = search rules in
    counted ∙ sum_part a.image.now a.line a.layout.mains (λ s. one_if (eqb s 2)) (omega arith)
