-- Laws of the comparison of two checkpoints (the trade: likeness): how long a checkpoint is, and what its two tests mean.
use Prim.Native.Nat.{ℕ, zero, suc, ◌+◌, ◌*◌, ◌<◌}
use mathlib.Core.Path.{◌≡◌, refl, sym, ap, ◌∙◌}
use mathlib.Core.Logic.{◌↔◌}
use mathlib.Core.Bool.{true, beq, false≢true}
use mathlib.Core.List.{List}
use native.Mathlib.Decide.{ℕ_discrete}
use native.Mathlib.Omega.{arith}
use native.Mathlib.Nat.{mul_comm}
use lib.Dec.{eqb}
use lib.ListN.{length, get_or, drop, length-replicate, length-drop}
use lib.Seq.{length-take-le, ext_get_or}
use borrow.Author.Tests.{eqb-true, eq-eqb, ne_eqb}
use Rattle.model.specs.declared.Layout.{Layout}
use Rattle.std.specs.Prelude.{None, Some}
use Rattle.model.specs.Words.{Image}
use Rattle.model.specs.Layout.{segment_size, segment_at, main_at, backup_at}
use Rattle.model.specs.Container.{active_line, active_state, seg_state, backup_to_main, paired_backup, by_state, segment_bytes, checkpoint_located, located_bytes, checkpoint_segment, checkpoint_bytes}
use Rattle.model.specs.Same.{same_initial, same_bytes}
use Rattle.model.specs.SameCheckpoint.{InitialAgree}
use Rattle.model.proofs.Laws.Range.{length-cat, all_at, all_from}
use Rattle.model.proofs.Laws.Layout.{segment_in_image}
use Rattle.model.proofs.Laws.Container.{ContainerOk, kept_at}

-- ---- how long a checkpoint is

module _ (l : Layout) (I : Image) (c : ContainerOk l I) where
  pub length_segment : (k : ℕ) → k < l.mains + l.backups → length (segment_bytes l I (segment_at l k)) ≡ segment_size l
  length_segment k h =
      length-take-le (segment_size l) (drop (segment_at l k) I) (omega (arith, length-drop (segment_at l k) I, c.long, segment_in_image l k h))

  pub length-checkpoint_segment : (i : ℕ) → i < l.mains → length (checkpoint_segment l I (active_line I) i) ≡ segment_size l
  unfolding checkpoint_segment checkpoint_located by_state
  length-checkpoint_segment i h = go (seg_state I (active_line I) i) refl
    where
      go : (st : ℕ) → seg_state I (active_line I) i ≡ st
          → length (located_bytes l I (by_state st None (Some (main_at l i)) (Some (backup_at l (paired_backup l (backup_to_main I) i))))) ≡ segment_size l
      go zero e = length-replicate (segment_size l) 0
      go (suc zero) e = length_segment i (omega arith)
      go (suc (suc n)) e =
          let p = kept_at l (backup_to_main I) i c.valid h (omega (arith, e, c.valid.states i h)) in
          length_segment (l.mains + paired_backup l (backup_to_main I) i) (omega (arith, p.0))

  pub length-checkpoint : length (checkpoint_bytes l I (active_line I)) ≡ segment_size l * l.mains
  unfolding checkpoint_bytes
  length-checkpoint = length-cat l.mains (segment_size l) _ length-checkpoint_segment ∙ mul_comm l.mains (segment_size l)

-- ---- equality of two checkpoints

-- two tests have the same answer exactly if they are of statements that are equivalent
beq_tests : (m n : ℕ) → (beq (eqb m 0) (eqb n 0) ≡ true) ↔ ((m ≡ 0) ↔ (n ≡ 0))
beq_tests m n = go (ℕ_discrete m 0) (ℕ_discrete n 0)
  where
    go : Dec (m ≡ 0) → Dec (n ≡ 0) → (beq (eqb m 0) (eqb n 0) ≡ true) ↔ ((m ≡ 0) ↔ (n ≡ 0))
    go (yes a) (yes b) = rw (eq-eqb m 0 a, eq-eqb n 0 b) (λ t. (λ x. b, λ x. a), λ e. refl)
    go (yes a) (no b) = rw (eq-eqb m 0 a, ne_eqb n 0 b) (λ t. absurd (false≢true t), λ e. absurd (b (e.0 a)))
    go (no a) (yes b) = rw (ne_eqb m 0 a, eq-eqb n 0 b) (λ t. absurd (false≢true t), λ e. absurd (a (e.1 b)))
    go (no a) (no b) = rw (ne_eqb m 0 a, ne_eqb n 0 b) (λ t. (λ x. absurd (a x), λ x. absurd (b x)), λ e. refl)

module _ (l : Layout) (I J : Image) where
  pub initial_agree : (same_initial l.mains (active_state I) (active_state J) ≡ true) ↔ InitialAgree l I J
  unfolding same_initial
  initial_agree = (
    λ t i h. (beq_tests (active_state I i) (active_state J i)).0 (all_at l.mains _ t i h),
    λ a. all_from l.mains _ (λ i h. (beq_tests (active_state I i) (active_state J i)).1 (a i h)),
  )

  pub bytes_agree : ContainerOk l I → ContainerOk l J
      → (same_bytes (segment_size l * l.mains) (checkpoint_bytes l I (active_line I)) (checkpoint_bytes l J (active_line J)) ≡ true)
      ↔ (checkpoint_bytes l I (active_line I) ≡ checkpoint_bytes l J (active_line J))
  unfolding same_bytes
  bytes_agree c d = (
    λ t. ext_get_or 0 _ _ (length-checkpoint l I c ∙ sym (length-checkpoint l J d))
        (λ i h. eqb-true _ _ (all_at (segment_size l * l.mains) _ t i (omega (arith, length-checkpoint l I c)))),
    λ e. all_from (segment_size l * l.mains) _ (λ i h. eq-eqb _ _ (ap (λ (x : List ℕ). get_or x i 0) e)),
  )
