-- Write answers the same on two images that agree on the named bytes.
use Prim.Native.Nat.{ℕ, ◌+◌, ◌<◌}
use mathlib.Core.Path.{◌≡◌, refl, ap, ap₂, ◌∙◌}
use mathlib.Core.Bool.{Bool, true, false, not, cond, ◌&&◌}
use mathlib.Core.List.{[], ◌∷◌, ◌++◌}
use native.Mathlib.Omega.{arith}
use borrow.Author.Tests.{leb-false}
use lib.Dec.{eqb}
use Rattle.model.specs.Outcome.{Lent}
use Rattle.model.specs.Clients.{quota_reached, all_reserved, charged}
use Rattle.model.specs.declared.Layout.{Layout}
use Rattle.model.specs.declared.Session.{Session}
use Rattle.model.specs.declared.Plan.{Plan}
use Rattle.model.specs.declared.Plan.TheVariants.{NoCopy, OwnBackup, NewBackup, NoneFree}
use Rattle.model.specs.Words.{Image, byte_at, word_of, overlay}
use Rattle.model.specs.Layout.{most, pairs_at, ss_main, ss_backup, SizesOk, state_line}
use Rattle.model.specs.Container.{committed_epoch, active_line, seg_state, backup_to_main, Valid, is_paired, paired_backup}
use Rattle.model.specs.Session.{is_dirty, dirty_segment, dirty_word, with_dirty}
use Rattle.model.specs.Ops.{store, clwb, sfence, Ops, trace_short, word_place, for_domain}
use Rattle.model.specs.Write.{WriteArgs, needs_copy, copy_plan, copies, none_free, pair_ops, copy_dirty, backup_ops, state_ops, copy_on_write_ops, span_at, span_blocks, span_ops, write_ops, write_session, write_clients, write_errors, write_status, write_outcome}
use Rattle.model.specs.Unread.{AgreeNamed}
use Rattle.model.proofs.Laws.Range.{cat_ext}
use Rattle.model.proofs.Laws.Words.{word_cong, overlay_cong}
use Rattle.model.proofs.Laws.Status.{served_condition}
use Rattle.model.proofs.Laws.Container.{ContainerOk, container_then}
use Rattle.model.proofs.Laws.Layout.{state_line_whole}
use Rattle.model.proofs.Laws.Write.{new_of, some_free}
use Rattle.model.proofs.Laws.NewBackup.{new_free}
use Rattle.model.proofs.Laws.Outcome.{outcome_same}
use Rattle.model.proofs.Laws.Unread.Metadata.{cond_cong, stores_ext, error_ext, epoch_same, active_byte, pair_byte, segment_byte, state_same, session_same, errors_same, paired_same, backup_same, any_free_same, count_free_same, new_same}
use Rattle.model.proofs.Laws.Unread.Open.{copy_same, copy_segment_same}

module _ {I J : Image} (same : AgreeNamed I J) where
  needs_copy_same : (s : Session) (i : ℕ) → i < most → needs_copy s I i ≡ needs_copy s J i
  unfolding needs_copy
  needs_copy_same s i h = ap (λ (n : ℕ). not (dirty_segment s i) && eqb n ss_main) (state_same same i h)

  pair_ops_same : (i j : ℕ) → j < most → pair_ops I i j ≡ pair_ops J i j
  unfolding pair_ops
  pair_ops_same i j h = ap (λ (v : ℕ). store (word_place (pairs_at + j)) v ∷ clwb pairs_at ∷ [])
      (word_cong _ _ (word_place (pairs_at + j)) (λ x a b. overlay_cong (byte_at I) (byte_at J) (pairs_at + j) (i ∷ []) x (pair_byte same x (omega arith) (omega arith))))

  state_ops_same : (i : ℕ) → i < most → state_ops I i ≡ state_ops J i
  unfolding state_ops
  state_ops_same i h =
      ap (λ (v : ℕ). store (word_place (active_line I + i)) v ∷ clwb (active_line I) ∷ [])
      (word_cong _ _ (word_place (active_line I + i)) (λ x a b. overlay_cong (byte_at I) (byte_at J) (active_line I + i) (ss_backup ∷ []) x
      (active_byte same x (omega (arith, state_line_whole (committed_epoch I))) (omega (arith, state_line_whole (committed_epoch I))))))
      ∙ ap (λ (e : ℕ). store (word_place (state_line e + i)) (word_of (overlay (byte_at J) (state_line e + i) (ss_backup ∷ [])) (word_place (state_line e + i))) ∷ clwb (state_line e) ∷ []) (epoch_same same)

  copy_dirty_same : (l : Layout) (word i j : ℕ) → copy_dirty l I word i j ≡ copy_dirty l J word i j
  unfolding copy_dirty
  copy_dirty_same l word i j = cat_ext l.blocks _ _ (λ b h. ap (λ (O : Ops). cond (is_dirty word b) O []) (copy_same same _ _ (omega arith)))

  -- a new backup segment that the plan names is one whose pair is read
  abbrev NewBelow : Plan → Type 0
  NewBelow NoCopy = Unit {0}
  NewBelow (OwnBackup j) = Unit {0}
  NewBelow (NewBackup j) = j < most
  NewBelow NoneFree = Unit {0}

  backup_ops_same : (l : Layout) (word i : ℕ) (p : Plan) → NewBelow p → backup_ops l I word i p ≡ backup_ops l J word i p
  unfolding backup_ops
  backup_ops_same l word i NoCopy h = refl
  backup_ops_same l word i (OwnBackup j) h = copy_dirty_same l word i j
  backup_ops_same l word i (NewBackup j) h = ap₂ (λ (O E : Ops). O ++ E) (pair_ops_same i j h) (copy_segment_same same l _ _ (omega arith))
  backup_ops_same l word i NoneFree h = refl

  plan_same : (s : Session) (i : ℕ) → SizesOk s.layout → Valid s.layout (seg_state I (active_line I)) (backup_to_main I) → i < most
      → copy_plan s I i ≡ copy_plan s J i
  unfolding copy_plan
  plan_same s i sizes v h = cond_cong _ _ (needs_copy_same s i h)
      (λ a. cond_cong _ _ (paired_same same s.layout sizes i) (λ b. ap OwnBackup (backup_same same s.layout sizes i))
      (λ b. cond_cong _ _ (any_free_same same s.layout sizes v) (λ c. ap NewBackup (new_same same s.layout sizes v)) (λ c. refl)))
      (λ a. refl)

  plan_below : (s : Session) (i : ℕ) → SizesOk s.layout → Valid s.layout (seg_state I (active_line I)) (backup_to_main I) → NewBelow (copy_plan s I i)
  unfolding copy_plan
  plan_below s i sizes v = go (needs_copy s I i) (is_paired s.layout (backup_to_main I) i) (some_free s I) refl
    where
      go : (a b c : Bool) → some_free s I ≡ c
          → NewBelow (cond a (cond b (OwnBackup (paired_backup s.layout (backup_to_main I) i)) (cond c (NewBackup (new_of s I)) NoneFree)) NoCopy)
      go false b c e = tt
      go true true c e = tt
      go true false true e = omega (arith, sizes.1.1, (new_free s.layout _ _ v e).0)
      go true false false e = tt

  span_same : (l : Layout) (w : WriteArgs) → span_ops l I w ≡ span_ops l J w
  unfolding span_ops
  span_same l w = stores_ext _ _ _ _ (λ k h. word_cong _ _ _ (λ x a b. overlay_cong (byte_at I) (byte_at J) (span_at l w) w.bytes x (segment_byte same x (omega arith))))

  write_ops_same : (s : Session) (w : WriteArgs) → SizesOk s.layout → Valid s.layout (seg_state I (active_line I)) (backup_to_main I)
      → w.main < s.layout.mains → write_ops s I w ≡ write_ops s J w
  unfolding write_ops copy_on_write_ops
  write_ops_same s w sizes v m = ap₂ (λ (O E : Ops). O ++ E)
      (ap₂ (λ (O E : Ops). cond (copies (copy_plan s I w.main)) (O ++ sfence ∷ E ++ sfence ∷ []) [])
      (backup_ops_same s.layout (dirty_word s w.main) w.main (copy_plan s I w.main) (plan_below s w.main sizes v)) (state_ops_same w.main (omega arith))
      ∙ ap (copy_on_write_ops s.layout J (dirty_word s w.main) w.main) (plan_same s w.main sizes v (omega arith)))
      (span_same s.layout w)

  pub write_status_unread : (s : Session) (w : WriteArgs) (t : Lent) → write_status s I w t ≡ write_status s J w t
  unfolding write_status
  write_status_unread s w t = errors_same same s.layout _ _ (λ sizes v.
      error_ext 5 _ _ _ _ (ap not (session_same same s sizes)) (λ a.
      error_ext 13 _ _ _ _ refl (λ x.
      error_ext 6 _ _ _ _ refl (λ b. let m : w.main < s.layout.mains = leb-false _ _ b in
      error_ext 7 _ _ _ _ refl (λ c.
      error_ext 8 _ _ _ _ refl (λ d.
      error_ext 9 _ _ _ _ (ap (λ (p : Plan). none_free p) (plan_same s w.main sizes v (omega arith))) (λ e.
      error_ext 14 _ _ _ _ (ap (λ (p : Plan). cond (copies p) (quota_reached t.clients w.client) false) (plan_same s w.main sizes v (omega arith))) (λ y.
      error_ext 15 _ _ _ _ (ap₂ (λ (p : Plan) (free : ℕ). cond (copies p) (all_reserved t.clients w.client free) false) (plan_same s w.main sizes v (omega arith)) (count_free_same same s.layout sizes v)) (λ z.
      error_ext 11 _ _ _ _ (ap (λ (O : Ops). trace_short (for_domain s.domain O) t.trace) (write_ops_same s w sizes v m)) (λ f. refl))))))))))

  pub write_unread : (s : Session) (w : WriteArgs) (t : Lent) → write_outcome s I w t ≡ write_outcome s J w t
  unfolding write_outcome write_session write_clients write_status
  write_unread s w t = outcome_same _ _ s _ s.domain (write_status_unread s w t)
      (λ z. ap (λ (b : Bool). with_dirty s w.main w.block (span_blocks w) (cond b 0 (dirty_word s w.main))) (needs_copy_same s w.main (omega (arith, (ok z).sizes, below z))))
      (λ z. ap (λ (b : Bool). cond b (charged t.clients w.client) t.clients) (needs_copy_same s w.main (omega (arith, (ok z).sizes, below z))))
      (λ z. write_ops_same s w (ok z).sizes (ok z).valid (below z))
    where
      ok : write_status s I w t ≡ 0 → ContainerOk s.layout I
      ok z = (container_then s.layout I _ z).0

      below : write_status s I w t ≡ 0 → w.main < s.layout.mains
      below z = leb-false _ _ (served_condition (write_errors s I w t) (omega arith) z 6)
