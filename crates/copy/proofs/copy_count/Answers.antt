use Prim.Native.Nat.{ℕ, ◌*◌, ◌≤◌}
use mathlib.Core.Path.{refl, sym, ◌∙◌}
use mathlib.Core.Logic.{⊎_elim}
use native.Mathlib.Omega.{arith}
use native.Mathlib.Nat.{mul-le-mul}
use Rattle.model.proofs.Laws.Counts.{dirty_ones}
use Rattle.model.proofs.Laws.Counts.Write.{count_copy}
use Rattle.copy.proofs.copy_count.Goals as goal

-- the operations of so many blocks, as many as a segment has at most
few : (ops blocks : ℕ) → ops ≤ 36 → blocks ≤ 64 → ops * blocks ≤ 2304
few ops blocks h k = mul-le-mul {n₂ = 36} {m₂ = 64} h k

pub returns-in-NoCopy : goal.returns-in-NoCopy
returns-in-NoCopy c = (λ I. rw count_copy (⊎_elim (λ e. rw e) (λ e. rw e) c.in-NoCopy.is), omega arith)

pub returns-in-OwnBackup : goal.returns-in-OwnBackup
returns-in-OwnBackup c =
    let s = c.args.segment in
    let ones = c.dirty_count.ensures.0 ∙ sym (dirty_ones s.word s.layout.blocks c.requires.1) in (
      λ I. rw (count_copy, c.in-OwnBackup.is, c.copied_ops-block.ensures.0, ones, c.flush_count.ensures.0) refl,
      omega (arith, few _ _ c.copied_ops-block.ensures.1 c.dirty_count.ensures.1),
    )

pub returns-in-NewBackup : goal.returns-in-NewBackup
returns-in-NewBackup c = (
  λ I. rw (count_copy, c.in-NewBackup.is, c.copied_ops-block.ensures.0, c.flush_count-in-NewBackup.ensures.0) refl,
  omega (arith, few _ c.args.segment.layout.blocks c.copied_ops-block.ensures.1 (omega arith)),
)
