-- Backup segments counted in one image: those that are not free are as many as the main segments in state 2, so refusal 9 can
-- be told by the states alone.
use Prim.Native.Nat.{ℕ, suc, ◌<◌}
use mathlib.Core.Path.{◌≡◌, refl, sym, ap, ◌∙◌}
use mathlib.Core.Logic.{◌≢◌, inr, ⊎_elim}
use mathlib.Core.Bool.{Bool, true, false, not, ◌&&◌, true≢false, and-false, not-not}
use native.Mathlib.Omega.{arith}
use native.Mathlib.Decide.{ℕ_discrete}
use lib.Dec.{eqb}
use borrow.Author.Tests.{eqb-true, eq-eqb, ne_eqb}
use Rattle.model.specs.declared.Layout.{Layout}
use Rattle.model.specs.declared.Session.{Session}
use Rattle.model.specs.Range.{sum_to, one_if}
use Rattle.model.specs.Words.{Image}
use Rattle.model.specs.Layout.{unpaired, ss_backup, SizesOk}
use Rattle.model.specs.Status.{first_error}
use Rattle.model.specs.Container.{active_state, backup_to_main, Valid, is_paired, paired_backup, is_free, any_free, free_backups}
use Rattle.model.specs.Clients.{Clients}
use Rattle.model.specs.Write.{WriteArgs, needs_copy, needs_backup, copy_plan, none_free, early_errors, write_errors, write_status}
use Rattle.model.specs.FreeBackups.{mains_in_backup, backups_in_use, InUseCounted, NineExactly}
use Rattle.model.proofs.Laws.Range.{both, and_left, and_right, sum_zero, sum_ext, sum_swap, sum_change, sum_single, sum_split, any_counted}
use Rattle.model.proofs.Laws.Status.{first_holds, given_condition, given_later, after-served}
use Rattle.model.proofs.Laws.Container.{ContainerOk, container_then, any_free_lem, paired_at}
use Rattle.model.proofs.Laws.Write.{copy_needed, plan_none_free}

-- ---- main segments in state 2

-- their number goes by the states alone
pub in_backup_same : (l : Layout) (st st' : ℕ → ℕ) → ((i : ℕ) → i < l.mains → st' i ≡ st i) → mains_in_backup l st' ≡ mains_in_backup l st
unfolding mains_in_backup
in_backup_same l st st' h = sum_ext l.mains _ _ (λ i b. ap (λ (n : ℕ). one_if (eqb n ss_backup)) (h i b))

-- one more is in state 2
pub in_backup_more : (l : Layout) (st st' : ℕ → ℕ) (i : ℕ) → i < l.mains → st i ≢ ss_backup → st' i ≡ ss_backup
    → ((k : ℕ) → k < l.mains → k ≢ i → st' k ≡ st k) → mains_in_backup l st' ≡ suc (mains_in_backup l st)
unfolding mains_in_backup
in_backup_more l st st' i b one two h =
    let c = sum_change l.mains i (λ k. one_if (eqb (st k) ss_backup)) (λ k. one_if (eqb (st' k) ss_backup)) b (λ k x y. ap (λ (n : ℕ). one_if (eqb n ss_backup)) (h k x y)) in
    let f : one_if (eqb (st i) ss_backup) ≡ 0 = ap one_if (ne_eqb (st i) ss_backup one) in
    let g : one_if (eqb (st' i) ss_backup) ≡ 1 = ap one_if (eq-eqb (st' i) ss_backup two) in
    omega (arith, c, f, g)

-- none is
pub in_backup_none : (l : Layout) (st : ℕ → ℕ) → ((i : ℕ) → i < l.mains → st i ≢ ss_backup) → mains_in_backup l st ≡ 0
unfolding mains_in_backup
in_backup_none l st h = sum_zero l.mains _ (λ i b. ap one_if (ne_eqb (st i) ss_backup (h i b)))

-- ---- backup segments in use: each is one of the pairs of a main segment in state 2 and its backup segment

module _ (l : Layout) (st pr : ℕ → ℕ) (sizes : SizesOk l) (v : Valid l st pr) where
  -- main segment i is in state 2, and backup segment j is its backup
  abbrev holds : ℕ → ℕ → Bool
  holds i j = eqb (pr j) i && eqb (st i) ss_backup

  other : (i j : ℕ) → pr j ≢ i → one_if (holds i j) ≡ 0
  other i j n = rw (ne_eqb (pr j) i n)

  -- by the main segment
  by_main : (i : ℕ) → i < l.mains → sum_to l.backups (λ j. one_if (holds i j)) ≡ one_if (eqb (st i) ss_backup)
  by_main i b = go (ℕ_discrete (st i) ss_backup)
    where
      go : Dec (st i ≡ ss_backup) → sum_to l.backups (λ j. one_if (holds i j)) ≡ one_if (eqb (st i) ss_backup)
      go (yes e) =
          let k = v.kept i b e in
          sum_single l.backups k.0 _ k.1 (λ j x n. other i j (λ q. n (v.once j k.0 x k.1 (omega arith) (q ∙ sym k.2))))
          ∙ rw (eq-eqb (pr k.0) i k.2)
      go (no e) = sum_zero l.backups _ (λ j x. rw (ne_eqb (st i) ss_backup e) (ap one_if (and-false (eqb (pr j) i)))) ∙ sym (rw (ne_eqb (st i) ss_backup e))

  -- by the backup segment
  by_backup : (j : ℕ) → j < l.backups → sum_to l.mains (λ i. one_if (holds i j)) ≡ one_if (not (is_free st pr j))
  unfolding is_free
  by_backup j b = ⊎_elim
      (λ e. sum_zero l.mains _ (λ i x. other i j (λ q. omega (arith, sizes.0))) ∙ sym (rw (eq-eqb (pr j) unpaired e)))
      (λ m. sum_single l.mains (pr j) _ m (λ i x n. other i j (λ q. n (sym q)))
      ∙ rw (eq-eqb (pr j) (pr j) refl, ne_eqb (pr j) unpaired (λ e. omega (arith, sizes.0))) (ap one_if (sym (not-not (eqb (st (pr j)) ss_backup)))))
      (v.pairs j b)

  counted : backups_in_use l st pr ≡ mains_in_backup l st
  unfolding backups_in_use mains_in_backup
  counted =
      sym (sum_ext l.backups _ _ by_backup) ∙ sum_swap l.backups l.mains (λ j i. one_if (holds i j)) ∙ sum_ext l.mains _ _ by_main

  -- some backup segment is free unless as many main segments are in state 2 as there are backup segments
  pub any_free_counted : any_free l st pr ≡ not (eqb (mains_in_backup l st) l.backups)
  unfolding any_free backups_in_use
  any_free_counted = any_counted l.backups (is_free st pr) ∙ ap (λ (n : ℕ). not (eqb n l.backups)) counted

pub in_use_counted : InUseCounted
unfolding free_backups backups_in_use
in_use_counted l st pr sizes v = let c = counted l st pr sizes v in (c, omega (arith, c, sum_split l.backups (is_free st pr)))

-- ---- refusal 9

module _ (s : Session) (I : Image) (R : Clients) (w : WriteArgs) (early : first_error (early_errors s I R w) ≡ 0) where
  abbrev l : Layout
  l = s.layout

  abbrev i : ℕ
  i = w.main

  abbrev full : Bool
  full = eqb (mains_in_backup l (active_state I)) l.backups

  ok : ContainerOk l I
  ok = (container_then l I _ early).0

  free_is : any_free l (active_state I) (backup_to_main I) ≡ not full
  free_is = any_free_counted l (active_state I) (backup_to_main I) ok.sizes ok.valid

  -- a main segment that must be copied, where as many as there are backup segments are in state 2, has no backup of its own
  none_own : needs_copy s I i ≡ true → full ≡ true → is_paired l (backup_to_main I) i ≡ false
  none_own c f = go (is_paired l (backup_to_main I) i) refl
    where
      go : (b : Bool) → is_paired l (backup_to_main I) i ≡ b → is_paired l (backup_to_main I) i ≡ false
      go false e = e
      go true e =
          let p = paired_at l (backup_to_main I) i e in
          let one : active_state I i ≡ 1 = (copy_needed s I i c).1 in
          let some : any_free l (active_state I) (backup_to_main I) ≡ true =
          (any_free_lem l _ _).1 (paired_backup l (backup_to_main I) i, (p.0, inr (λ two. let q = ap (active_state I) p.1 in omega (arith, one, q, two)))) in
          absurd (true≢false (sym some ∙ free_is ∙ ap not f))

  needs_free : none_free (copy_plan s I i) ≡ (needs_copy s I i && full)
  unfolding needs_backup
  needs_free = plan_none_free s I i ∙ go (needs_copy s I i) full refl refl
    where
      go : (c f : Bool) → needs_copy s I i ≡ c → full ≡ f
          → ((needs_copy s I i && not (is_paired l (backup_to_main I) i)) && not (any_free l (active_state I) (backup_to_main I))) ≡ (c && f)
      go false f p q = rw p
      go true true p q = rw (p, none_own p q, free_is, q)
      go true false p q = rw (p, free_is, q) (and-false (not (is_paired l (backup_to_main I) i)))

pub nine_exactly : NineExactly
unfolding write_status
nine_exactly s I w t = (given, gives)
  where
    given : first_error (write_errors s I w t) ≡ 9
        → (first_error (early_errors s I t.clients w) ≡ 0) × (needs_copy s I w.main ≡ true) × (mains_in_backup s.layout (active_state I) ≡ s.layout.backups)
    given h =
        let z = given_later 9 (early_errors s I t.clients w) _ (omega arith) refl h in
        let both : (needs_copy s I w.main && eqb (mains_in_backup s.layout (active_state I)) s.layout.backups) ≡ true =
        sym (needs_free s I t.clients w z) ∙ given_condition 9 _ (omega arith) h in
        (z, and_left _ _ both, eqb-true _ _ (and_right (needs_copy s I w.main) _ both))

    gives : (first_error (early_errors s I t.clients w) ≡ 0) × (needs_copy s I w.main ≡ true) × (mains_in_backup s.layout (active_state I) ≡ s.layout.backups)
        → first_error (write_errors s I w t) ≡ 9
    gives (z, c, f) = after-served (early_errors s I t.clients w) _ (omega arith) z
        ∙ sym (first_holds 9 _ _ (needs_free s I t.clients w z ∙ both c (eq-eqb _ _ f)))
