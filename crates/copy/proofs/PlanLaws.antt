-- Laws of the plan of a copy: what the code finds is model's plan.
use Prim.Native.Nat.{ℕ, ◌+◌}
use mathlib.Core.Path.{◌≡◌, refl, ap, ◌∙◌}
use mathlib.Core.Bool.{Bool, true, false, not, ◌&&◌, ◌||◌}
use mathlib.Core.List.{List}
use native.Mathlib.Omega.{arith}
use lib.Dec.{ltb, eqb}
use borrow.Author.Tests.{lt-ltb, le-ltb}
use Rattle.model.specs.declared.Layout.{Layout}
use Rattle.model.specs.declared.Plan.{Plan}
use Rattle.model.specs.declared.Plan.TheVariants.{NoCopy, OwnBackup, NewBackup, NoneFree}
use Rattle.model.specs.Words.{Image, byte_at}
use Rattle.model.specs.Container.{active_line, active_state, backup_to_main, Valid, is_paired, paired_backup, any_free, new_backup}
use Rattle.model.specs.Session.{is_dirty, dirty_segment}
use Rattle.model.specs.Write.{needs_copy, copy_plan}
use Rattle.model.proofs.Laws.NewBackup.{any_free_new}
use Rattle.session.specs.Parts.{session_of}
use Rattle.std.specs.Prelude.{None, Some}
use Rattle.metadata.specs.Find.{found_below}
use Rattle.metadata.proofs.FindLaws.{is_paired_lem, found_backup, found_missing}
use Rattle.copy.specs.Steps.{CopiesTo}

module _ (l : Layout) (segments : ℕ) (I : Image) (i : ℕ) where
  -- a segment that is dirty or not in state 1 needs no copy
  copy_test : (line : ℕ) (dirty : Bool) → line ≡ active_line I → dirty ≡ is_dirty segments i
      → (words : List ℕ) (k : ℕ) → needs_copy (session_of l segments words k) I i ≡ not (dirty || not (eqb (byte_at I (line + i)) 1))
  unfolding needs_copy dirty_segment
  copy_test line dirty e d words k = rw (e, d) (go (is_dirty segments i) (eqb (active_state I i) 1))
    where
      go : (a b : Bool) → (not a && b) ≡ not (a || not b)
      go true b = refl
      go false true = refl
      go false false = refl

  -- the plan of a session with these parts
  abbrev pub PlanIs : Plan → Type 0
  PlanIs p = ((words : List ℕ) (k : ℕ) → p ≡ copy_plan (session_of l segments words k) I i) × CopiesTo l p

  module _ (line : ℕ) (dirty : Bool) (e : line ≡ active_line I) (d : dirty ≡ is_dirty segments i) where
    pub no_copy_lem : (dirty || not (eqb (byte_at I (line + i)) 1)) ≡ true → PlanIs NoCopy
    unfolding copy_plan
    no_copy_lem h = (λ words k. rw (copy_test line dirty e d words k, h), tt)

    module _ (h : (dirty || not (eqb (byte_at I (line + i)) 1)) ≡ false) where
      -- else it goes to its own backup segment, or to the new one, or none is free
      pub own_backup_lem : (j : ℕ) → Some j ≡ found_below l.backups (paired_backup l (backup_to_main I) i) → PlanIs (OwnBackup j)
      unfolding copy_plan
      own_backup_lem j p =
          let q = found_backup l.backups (paired_backup l (backup_to_main I) i) j p in
          let x : is_paired l (backup_to_main I) i ≡ true = is_paired_lem l (backup_to_main I) i ∙ lt-ltb _ _ q.1 in
          (λ words k. rw (copy_test line dirty e d words k, h, x) (ap OwnBackup q.0), omega (arith, q))

      module _ (v : Valid l (active_state I) (backup_to_main I)) (p : None ≡ found_below l.backups (paired_backup l (backup_to_main I) i)) where
        unpaired : is_paired l (backup_to_main I) i ≡ false
        unpaired = is_paired_lem l (backup_to_main I) i ∙ le-ltb _ _ (found_missing l.backups (paired_backup l (backup_to_main I) i) p)

        some_free_lem : any_free l (active_state I) (backup_to_main I) ≡ ltb (new_backup l (active_state I) (backup_to_main I)) l.backups
        some_free_lem = any_free_new l (active_state I) (backup_to_main I) v

        pub new_backup_lem : (j : ℕ) → Some j ≡ found_below l.backups (new_backup l (active_state I) (backup_to_main I)) → PlanIs (NewBackup j)
        unfolding copy_plan
        new_backup_lem j c =
            let q = found_backup l.backups (new_backup l (active_state I) (backup_to_main I)) j c in
            let x : any_free l (active_state I) (backup_to_main I) ≡ true = some_free_lem ∙ lt-ltb _ _ q.1 in
            (λ words k. rw (copy_test line dirty e d words k, h, unpaired, x) (ap NewBackup q.0), omega (arith, q))

        pub none_free_lem : None ≡ found_below l.backups (new_backup l (active_state I) (backup_to_main I)) → PlanIs NoneFree
        unfolding copy_plan
        none_free_lem c =
            let x : any_free l (active_state I) (backup_to_main I) ≡ false = some_free_lem ∙ le-ltb _ _ (found_missing l.backups _ c) in
            (λ words k. rw (copy_test line dirty e d words k, h, unpaired, x), tt)
