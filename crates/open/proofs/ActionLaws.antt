-- Laws of what recovery does to one main segment: the table of actions, and which backup segment an action takes.
use Prim.Native.Nat.{ℕ, zero, suc, ◌≤◌, ◌<◌}
use mathlib.Core.Path.{◌≡◌, refl, sym, ap, ◌∙◌}
use mathlib.Core.Bool.{Bool, true, false}
use mathlib.Core.List.{List, [], ◌∷◌}
use native.Mathlib.Omega.{arith}
use lib.ListN.{get_or}
use Rattle.model.specs.declared.Layout.{Layout}
use Rattle.model.specs.declared.Action.{Action}
use Rattle.model.specs.declared.Action.TheVariants.{Nothing, ZeroMain, CopyToBackup, CopyToMain}
use Rattle.model.specs.Words.{Image}
use Rattle.model.specs.Layout.{ss_backup}
use Rattle.model.specs.Container.{seg_state, backup_to_main, is_paired, paired_backup, by_state}
use Rattle.model.specs.Open.{recovery_action, action_ops, recover_segment}
use Rattle.model.proofs.Laws.Container.{paired_at}
use Rattle.open.specs.Recovery.{takes_backup}

-- ---- the table

abbrev pub table : List (List Action)
table = (ZeroMain ∷ Nothing ∷ []) ∷ (Nothing ∷ CopyToBackup ∷ []) ∷ (Nothing ∷ CopyToMain ∷ []) ∷ []

pub paired_cell : (st : ℕ) → st ≤ ss_backup → get_or (get_or table st []) 1 Nothing ≡ recovery_action st true
unfolding recovery_action by_state
paired_cell zero h = refl
paired_cell (suc zero) h = refl
paired_cell (suc (suc zero)) h = refl
paired_cell (suc (suc (suc st))) h = let z : ⊥ = omega arith in absurd z

pub unpaired_cell : (st : ℕ) → st ≤ ss_backup → get_or (get_or table st []) 0 Nothing ≡ recovery_action st false
unfolding recovery_action by_state
unpaired_cell zero h = refl
unpaired_cell (suc zero) h = refl
unpaired_cell (suc (suc zero)) h = refl
unpaired_cell (suc (suc (suc st))) h = let z : ⊥ = omega arith in absurd z

-- ---- one segment

takes_paired : (st : ℕ) (paired : Bool) → takes_backup (recovery_action st paired) ≡ true → paired ≡ true
unfolding recovery_action by_state
takes_paired st true h = refl
takes_paired zero false h = h
takes_paired (suc zero) false h = h
takes_paired (suc (suc st)) false h = h

-- an action that takes the backup segment of a main segment finds one
pub takes_there : (l : Layout) (I : Image) (st i : ℕ) (a : Action) → a ≡ recovery_action st (is_paired l (backup_to_main I) i) → takes_backup a ≡ true
    → paired_backup l (backup_to_main I) i < l.backups
takes_there l I st i a e h = (paired_at l (backup_to_main I) i (takes_paired st _ (ap takes_backup (sym e) ∙ h))).0

-- so what is its backup segment where it is paired is the one
pub takes_own : (l : Layout) (I : Image) (st i j : ℕ) (a : Action) → a ≡ recovery_action st (is_paired l (backup_to_main I) i)
    → (is_paired l (backup_to_main I) i ≡ true → j ≡ paired_backup l (backup_to_main I) i) → takes_backup a ≡ true → j ≡ paired_backup l (backup_to_main I) i
takes_own l I st i j a e k h = k (takes_paired st _ (ap takes_backup (sym e) ∙ h))

-- the operations of an action are those of the backup segment that it takes
same_ops : (l : Layout) (I : Image) (i j k : ℕ) (a : Action) → (takes_backup a ≡ true → j ≡ k) → action_ops l I i j a ≡ action_ops l I i k a
unfolding action_ops
same_ops l I i j k Nothing h = refl
same_ops l I i j k ZeroMain h = refl
same_ops l I i j k CopyToBackup h = rw (h refl)
same_ops l I i j k CopyToMain h = rw (h refl)

-- the operations of recovery of a main segment
pub own_ops : (l : Layout) (I : Image) (line i j : ℕ) (a : Action) → a ≡ recovery_action (seg_state I line i) (is_paired l (backup_to_main I) i)
    → (is_paired l (backup_to_main I) i ≡ true → j ≡ paired_backup l (backup_to_main I) i) → action_ops l I i j a ≡ recover_segment l I line i
unfolding recover_segment
own_ops l I line i j a e k =
    same_ops l I i j _ a (takes_own l I (seg_state I line i) i j a e k) ∙ ap (action_ops l I i (paired_backup l (backup_to_main I) i)) e
