-- How many operations a write has on the trace for a kind of module, by its plan.
use Prim.Native.Nat.{ℕ, ◌+◌, ◌*◌}
use mathlib.Core.Path.{◌≡◌, refl, ap, ◌∙◌, ap₂}
use mathlib.Core.Bool.{true}
use mathlib.Core.List.{◌++◌, [], ◌∷◌}
use native.Mathlib.Omega.{arith}
use lib.ListN.{length}
use Rattle.model.specs.declared.Layout.{Layout}
use Rattle.model.specs.declared.Session.{Session}
use Rattle.model.specs.declared.Plan.{Plan}
use Rattle.model.specs.declared.Plan.TheVariants.{NoCopy, OwnBackup, NewBackup, NoneFree}
use Rattle.model.specs.Words.{Image}
use Rattle.model.specs.Layout.{ss_backup, main_at, backup_at}
use Rattle.model.specs.Container.{active_line}
use Rattle.model.specs.Session.{dirty_word}
use Rattle.model.specs.Ops.{store, clwb, sfence, Ops, for_domain, persist_copy, copy_segment, store_byte}
use Rattle.model.specs.Write.{WriteArgs, copy_plan, copies, pair_ops, copy_dirty, backup_ops, copy_on_write_ops, span_at, span_words, span_ops, write_ops}
use Rattle.model.specs.Counts.{flushes, copied_ops, dirty_count}
use Rattle.model.proofs.Argument.Phases.{state_phase, copy_phases}
use Rattle.model.proofs.Laws.Domain.{domain_stores}
use Rattle.model.proofs.Laws.Counts.{length-stores, count_append, count_flush, count_fence, flushes_times, count_block, count_copy_segment, count_dirty}

-- ---- by the plan

-- a copy on write: nothing is copied; the dirty blocks to the backup segment that it has; all blocks to a new one
abbrev pub copy_count : ℕ → Layout → ℕ → Plan → ℕ
copy_count d l word NoCopy = 0
copy_count d l word (OwnBackup j) = copied_ops d * dirty_count word l.blocks + (3 + flushes d 1)
copy_count d l word (NewBackup j) = copied_ops d * l.blocks + (4 + flushes d 2)
copy_count d l word NoneFree = 0

module _ (d : ℕ) (l : Layout) (I : Image) (word i : ℕ) where
  -- a word stored and written back
  count_word : (p w q : ℕ) → length (for_domain d (store p w ∷ clwb q ∷ [])) ≡ 1 + flushes d 1
  unfolding for_domain
  count_word p w q = omega (arith, count_flush d q)

  count_pair : (j : ℕ) → length (for_domain d (pair_ops I i j)) ≡ 1 + flushes d 1
  unfolding pair_ops
  count_pair j = count_word _ _ _

  -- it is its backup's operations, two fences and a state
  count_copied : (p : Plan) (n : ℕ) → copies p ≡ true → length (for_domain d (backup_ops l I word i p)) ≡ n
      → length (for_domain d (copy_on_write_ops l I word i p)) ≡ n + (3 + flushes d 1)
  count_copied p n e h =
      let B : Ops = backup_ops l I word i p in
      let state : length (for_domain d (state_phase I i)) ≡ 1 + flushes d 1 + 1 =
      count_append d (store_byte I (active_line I + i) ss_backup ∷ clwb (active_line I) ∷ []) (sfence ∷ []) ∙ ap₂ ◌+◌ (count_word _ _ _) (count_fence d) in
      rw (copy_phases, e) (omega (arith, h, count_append d (B ++ sfence ∷ []) (state_phase I i), count_append d B (sfence ∷ []), state, count_fence d))

  pub count_copy : (p : Plan) → length (for_domain d (copy_on_write_ops l I word i p)) ≡ copy_count d l word p
  unfolding copy_on_write_ops backup_ops copy_dirty persist_copy for_domain
  count_copy NoCopy = refl
  count_copy (OwnBackup j) =
      count_copied (OwnBackup j) (copied_ops d * dirty_count word l.blocks) refl (count_dirty d word l.blocks (copied_ops d) _ (λ b. count_block d _ _))
  count_copy (NewBackup j) =
      count_copied (NewBackup j) (1 + flushes d 1 + copied_ops d * l.blocks) refl
      (count_append d (pair_ops I i j) (copy_segment l I (main_at l i) (backup_at l j)) ∙ ap₂ ◌+◌ (count_pair j) (count_copy_segment d l I (main_at l i) (backup_at l j)))
      ∙ omega (arith, flushes_times d 1 2)
  count_copy NoneFree = refl

-- ---- the whole write

-- how many words the span meets
abbrev pub span_count : Layout → WriteArgs → ℕ
span_count l w = span_words (span_at l w) (length w.bytes)

module _ (d : ℕ) (s : Session) (I : Image) (w : WriteArgs) where
  count_span : length (for_domain d (span_ops s.layout I w)) ≡ span_count s.layout w
  unfolding span_ops
  count_span = ap length (domain_stores d _ _ _) ∙ length-stores _ _ _

  pub count_write : length (for_domain d (write_ops s I w)) ≡ copy_count d s.layout (dirty_word s w.main) (copy_plan s I w.main) + span_count s.layout w
  unfolding write_ops
  count_write =
      count_append d (copy_on_write_ops s.layout I (dirty_word s w.main) w.main (copy_plan s I w.main)) (span_ops s.layout I w)
      ∙ ap₂ ◌+◌ (count_copy d s.layout I (dirty_word s w.main) w.main (copy_plan s I w.main)) count_span
