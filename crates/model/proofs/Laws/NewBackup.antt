-- Laws of the new backup segment: it is the one of the two sentences, in valid metadata it is free, and a write takes it.
use Prim.Native.Nat.{ℕ, ◌<◌}
use mathlib.Core.Path.{◌≡◌, refl, sym, ◌∙◌, subst}
use mathlib.Core.Logic.{◌↔◌, ◌≢◌, inl, inr, ⊎_elim}
use mathlib.Core.Bool.{Bool, true, false, true≢false}
use native.Mathlib.Omega.{arith}
use lib.Dec.{ltb, eqb}
use borrow.Author.Tests.{lt-ltb, ltb-true, eqb-true, eqb-false, eq-eqb}
use Rattle.model.specs.declared.Layout.{Layout}
use Rattle.model.specs.Range.{any_b, first_b}
use Rattle.model.specs.Layout.{unpaired, ss_main}
use Rattle.model.specs.Container.{Valid, Free, any_free, new_backup}
use Rattle.model.specs.Write.{backup_ops, copy_on_write_ops, write_ops, write_status}
use Rattle.model.specs.NewBackup.{Lowest, AllPaired, TakenNew, NewBackupExactly, FreeWhereValid, WriteTakesNew}
use Rattle.model.proofs.Laws.Range.{same_test, any_at, any_none, first_found, first_some, first_before, any_first}
use Rattle.model.proofs.Laws.Container.{any_free_lem, container_then}
use Rattle.model.proofs.Laws.Write.{backup_needed, plan_new, served_free}

-- ---- the lowest

-- the first number that passes a test is the lowest
first_lowest : (n : ℕ) (P : ℕ → Bool) → any_b n P ≡ true → Lowest n (λ k. P k ≡ true) (first_b n P)
first_lowest n P some =
    let s = first_some n P some in (s.0, s.1, λ k b p. true≢false (sym p ∙ first_before n P k b))

-- and the lowest is the first
lowest_first : (n : ℕ) (P : ℕ → Bool) (j : ℕ) → Lowest n (λ k. P k ≡ true) j → first_b n P ≡ j
lowest_first n P j (b, p, none) = first_found n P j b (λ k x. fails (P k) (none k x)) p
  where
    fails : (a : Bool) → (a ≡ true → ⊥) → a ≡ false
    fails true h = absurd (h refl)
    fails false h = refl

-- in the words of the statements
module _ (n : ℕ) (f : ℕ → ℕ) (v j : ℕ) where
  lowest_says : Lowest n (λ k. eqb (f k) v ≡ true) j → Lowest n (λ k. f k ≡ v) j
  lowest_says (b, p, none) = (b, eqb-true _ _ p, λ k x e. none k x (eq-eqb _ _ e))

  lowest_tests : Lowest n (λ k. f k ≡ v) j → Lowest n (λ k. eqb (f k) v ≡ true) j
  lowest_tests (b, p, none) = (b, eq-eqb _ _ p, λ k x e. none k x (eqb-true _ _ e))

-- ---- the new backup segment

module _ (l : Layout) (st pr : ℕ → ℕ) where
  -- a backup segment is unpaired; its main segment is in state 1
  abbrev alone : ℕ → Bool
  alone j = eqb (pr j) unpaired

  abbrev unused : ℕ → Bool
  unused j = eqb (st (pr j)) ss_main

  -- the definition in its two cases
  pub new_alone : any_b l.backups alone ≡ true → new_backup l st pr ≡ first_b l.backups alone
  unfolding new_backup
  new_alone e = rw e

  pub new_unused : any_b l.backups alone ≡ false → new_backup l st pr ≡ first_b l.backups unused
  unfolding new_backup
  new_unused e = rw e

  all_paired : any_b l.backups alone ≡ false → AllPaired l pr
  all_paired e k b = eqb-false _ _ (any_none l.backups alone e k b)

  not_all : any_b l.backups alone ≡ true → AllPaired l pr → ⊥
  not_all e all = let s = first_some l.backups alone e in all _ s.0 (eqb-true _ _ s.1)

  -- the lowest of its sort
  taken_alone : any_b l.backups alone ≡ true → TakenNew l st pr (new_backup l st pr)
  taken_alone e = rw (new_alone e) (inl (lowest_says l.backups pr unpaired _ (first_lowest l.backups alone e)))

  taken_unused : any_b l.backups alone ≡ false → any_b l.backups unused ≡ true → TakenNew l st pr (new_backup l st pr)
  taken_unused e f =
      rw (new_unused e) (inr (all_paired e, lowest_says l.backups (λ k. st (pr k)) ss_main _ (first_lowest l.backups unused f)))

  below : (j : ℕ) → TakenNew l st pr j → j < l.backups
  below j t = ⊎_elim (λ x. x.0) (λ x. x.1.0) t

  taken_is : (j : ℕ) → TakenNew l st pr j → new_backup l st pr ≡ j
  taken_is j t = go (any_b l.backups alone) refl
    where
      go : (a : Bool) → any_b l.backups alone ≡ a → new_backup l st pr ≡ j
      go true e = new_alone e
          ∙ ⊎_elim (λ x. lowest_first l.backups alone j (lowest_tests l.backups pr unpaired j x)) (λ x. absurd (not_all e x.0)) t
      go false e = new_unused e
          ∙ ⊎_elim (λ x. absurd (all_paired e j x.0 x.1))
          (λ x. lowest_first l.backups unused j (lowest_tests l.backups (λ k. st (pr k)) ss_main j x.1)) t

  new_taken : new_backup l st pr < l.backups → TakenNew l st pr (new_backup l st pr)
  new_taken b = go (any_b l.backups alone) refl
    where
      go : (a : Bool) → any_b l.backups alone ≡ a → TakenNew l st pr (new_backup l st pr)
      go true e = taken_alone e
      go false e = taken_unused e (any_first l.backups unused ∙ lt-ltb _ _ (subst (λ (n : ℕ). n < l.backups) (new_unused e) b))

  -- ---- in valid metadata

  module _ (v : Valid l st pr) where
    paired_free : (j : ℕ) → j < l.backups → pr j ≢ unpaired → Free l st pr j ↔ (st (pr j) ≡ ss_main)
    paired_free j b ne = (
      λ f. ⊎_elim (λ e. absurd (ne e)) (λ two. ⊎_elim (λ e. absurd (ne e)) (λ m. one m two) (v.pairs j b)) f.1,
      λ e. (b, inr (λ two. omega (arith, e, two))),
    )
      where
        one : pr j < l.mains → st (pr j) ≢ 2 → st (pr j) ≡ 1
        one m two =
            let zero : st (pr j) ≢ 0 = (λ z. v.bare (pr j) m z j b refl) in
            omega (arith, v.states (pr j) m, zero, two)

    taken_free : (j : ℕ) → TakenNew l st pr j → Free l st pr j
    taken_free j t = ⊎_elim (λ x. (x.0, inl x.1)) (λ x. (x.1.0, inr (λ two. omega (arith, x.1.1, two)))) t

    free_taken : (j : ℕ) → Free l st pr j → TakenNew l st pr (new_backup l st pr)
    free_taken j f = go (any_b l.backups alone) refl
      where
        go : (a : Bool) → any_b l.backups alone ≡ a → TakenNew l st pr (new_backup l st pr)
        go true e = taken_alone e
        go false e = taken_unused e (any_at l.backups unused j f.0 (eq-eqb _ _ ((paired_free j f.0 (all_paired e j f.0)).0 f)))

    -- where some backup segment is free, the new one is
    pub new_free : any_free l st pr ≡ true → Free l st pr (new_backup l st pr)
    new_free some = let f = (any_free_lem l st pr).0 some in taken_free _ (free_taken f.0 f.1)

    -- and there is a new one exactly then
    pub any_free_new : any_free l st pr ≡ ltb (new_backup l st pr) l.backups
    any_free_new = same_test _ _ (λ some. lt-ltb _ _ (new_free some).0) (λ b. (any_free_lem l st pr).1 (_, taken_free _ (new_taken (ltb-true _ _ b))))

pub new_backup_exactly : NewBackupExactly
new_backup_exactly l st pr j = (
  λ h. subst (TakenNew l st pr) h.0 (new_taken l st pr (subst (λ (n : ℕ). n < l.backups) (sym h.0) h.1)),
  λ t. (taken_is l st pr j t, below l st pr j t),
)

pub free_where_valid : FreeWhereValid
free_where_valid l st pr v = record {
  paired = paired_free l st pr v;
  free = taken_free l st pr v;
  exists = (λ x. (x.0, taken_free l st pr v x.0 x.1), λ x. (new_backup l st pr, free_taken l st pr v x.0 x.1));
}

pub write_takes_new : WriteTakesNew
unfolding write_ops copy_on_write_ops backup_ops write_status
write_takes_new s I w t h clean one bare =
    let n = backup_needed s I w.main clean one bare in
    let some = served_free s I w t h n in
    let f = (any_free_lem s.layout _ _).0 some in
    let v = (container_then s.layout I _ h).0.valid in
    (new_backup s.layout _ _, free_taken s.layout _ _ v f.0 f.1, new_free s.layout _ _ v some, rw (plan_new s I w.main n some) refl)
