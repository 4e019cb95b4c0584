-- Which words a discard stores (specs/DiscardRestores.antt), proved.
use Prim.Native.Nat.{ℕ, zero, suc, ◌<◌}
use mathlib.Core.Path.{◌≡◌, refl, ap, ◌∙◌}
use mathlib.Core.Logic.{◌≢◌, ◌⊎◌, inl, inr, ⊎_elim}
use mathlib.Core.Bool.{true, false, cond}
use mathlib.Core.List.{[], append-nil}
use native.Mathlib.Omega.{arith}
use lib.ListN.{length}
use borrow.Author.Tests.{not-false}
use Rattle.model.specs.declared.Layout.{Layout}
use Rattle.model.specs.declared.Session.{Session}
use Rattle.std.specs.Prelude.{Option, None, Some}
use Rattle.model.specs.Words.{Image}
use Rattle.model.specs.Layout.{main_at, backup_at}
use Rattle.model.specs.Status.{first_error}
use Rattle.model.specs.Container.{active_state, active_line, backup_to_main, paired_backup, by_state, checkpoint_located}
use Rattle.model.specs.Session.{is_dirty, dirty_word, dirty_segment, session_errors, context_errors}
use Rattle.model.specs.Ops.{Ops, put_block}
use Rattle.model.specs.Outcome.{Lent}
use Rattle.model.specs.Discard.{located_word, restore_dirty, discard_ops, discard_errors, discard_status}
use Rattle.model.specs.DiscardRestores.{each_stored, DiscardStores}
use Rattle.model.proofs.Laws.Range.{cat_ext}
use Rattle.model.proofs.Laws.Container.{ContainerOk, container_then, kept_at}
use Rattle.model.proofs.Laws.Session.{dirty_means}
use Rattle.model.proofs.Laws.Status.{served_condition, given_condition}
use Rattle.model.proofs.Laws.TraceLength.{long_enough}

module _ (s : Session) (I : Image) (i : ℕ) where
  abbrev l : Layout
  l = s.layout

  abbrev from : Option ℕ
  from = checkpoint_located l I (active_line I) i

  -- where the checkpoint of a dirty main segment stands, if 1 to 5 do not refuse: nowhere, or in its backup segment
  located : first_error (context_errors s I) ≡ 0 → dirty_segment s i ≡ true
      → ((active_state I i ≡ 0) × (from ≡ None))
      ⊎ ((active_state I i ≡ 2) × ((j : ℕ) × (j < l.backups) × (backup_to_main I j ≡ i) × (from ≡ Some (backup_at l j))))
  unfolding checkpoint_located by_state
  located h d = go (active_state I i) refl
    where
      c : ContainerOk l I
      c = (container_then l I (session_errors s I) h).0

      dirty : (i < l.mains) × (active_state I i ≢ 1)
      dirty = dirty_means s (active_state I) (not-false _ (served_condition (context_errors s I) (omega arith) h 5)) i d

      at : ℕ → Option ℕ
      at n = by_state n None (Some (main_at l i)) (Some (backup_at l (paired_backup l (backup_to_main I) i)))

      go : (n : ℕ) → active_state I i ≡ n
          → ((active_state I i ≡ 0) × (at (active_state I i) ≡ None))
          ⊎ ((active_state I i ≡ 2) × ((j : ℕ) × (j < l.backups) × (backup_to_main I j ≡ i) × (at (active_state I i) ≡ Some (backup_at l j))))
      go zero e = inl (e, rw e refl)
      go (suc zero) e = absurd (dirty.1 e)
      go (suc (suc n)) e =
          let two : active_state I i ≡ 2 = omega (arith, c.valid.states i dirty.0) in
          let p = kept_at l (backup_to_main I) i c.valid dirty.0 two in
          inr (two, (paired_backup l (backup_to_main I) i, p.0, p.1, rw two refl))

  -- a block that is not written back is its stores
  only_stores : (x : Option ℕ) → restore_dirty l I (dirty_word s i) i x ≡ each_stored s i (located_word I x)
  unfolding restore_dirty put_block
  only_stores x = cat_ext l.blocks _ _ (λ b h. ap (λ (O : Ops). cond (is_dirty (dirty_word s i) b) O []) (append-nil _))

  dirty_stored : dirty_segment s i ≡ true → (x : Option ℕ) → from ≡ x → discard_ops s I i ≡ each_stored s i (located_word I x)
  unfolding discard_ops
  dirty_stored d x e = rw d (ap (restore_dirty l I (dirty_word s i) i) e ∙ only_stores x)

  clean_none : dirty_segment s i ≡ false → discard_ops s I i ≡ []
  unfolding discard_ops
  clean_none d = rw d refl

  clean_served : dirty_segment s i ≡ false → (k : Lent) → discard_status s I i k ≢ 11
  unfolding discard_status
  clean_served d k h =
      long_enough s.domain (discard_ops s I i) k.trace (omega (arith, ap length (clean_none d))) (given_condition 11 (discard_errors s I i k) (omega arith) h)

pub discard-stores : DiscardStores
discard-stores = record {
  dirty = λ s I i h d. ⊎_elim
      (λ e. inl (e.0, dirty_stored s I i d None e.1))
      (λ e. inr (e.0, (e.1.0, e.1.1, e.1.2, dirty_stored s I i d (Some (backup_at s.layout e.1.0)) e.1.3)))
      (located s I i h d);
  clean = λ s I i d. (clean_none s I i d, clean_served s I i d);
}
