-- Which backup segment a write takes where it needs a new one (SPECIFICATION 3.3, 3.4, 10.3), in plain words of states and pairs. The
-- contract of write cites `write_outcome`, which is made by `new_backup` (Container.antt) and `copy_plan` (Write.antt); here stands what these
-- say. Proved in proofs/Laws/NewBackup.antt. Assumes nothing.
use Rattle.std.specs.Prelude.{ℕ, ◌<◌, ◌≡◌, ◌↔◌, ◌≢◌, ◌⊎◌, false, [], ◌∷◌, ◌++◌}
use Rattle.model.specs.declared.Layout.{Layout}
use Rattle.model.specs.declared.Session.{Session}
use Rattle.model.specs.Words.{Image}
use Rattle.model.specs.Layout.{unpaired, ss_main, main_at, backup_at}
use Rattle.model.specs.Container.{active_state, backup_to_main, Valid, Free, new_backup}
use Rattle.model.specs.Session.{dirty_segment}
use Rattle.model.specs.Ops.{sfence, copy_segment}
use Rattle.model.specs.Outcome.{Lent}
use Rattle.model.specs.Write.{WriteArgs, pair_ops, state_ops, span_ops, write_ops, write_status}

-- j is the lowest number below n of which P holds
abbrev pub Lowest : ℕ → (ℕ → Type 0) → ℕ → Type 0
Lowest n P j = (j < n) × P j × ((k : ℕ) → k < j → P k → ⊥)

-- every backup segment is paired
abbrev pub AllPaired : Layout → (ℕ → ℕ) → Type 0
AllPaired l pr = (k : ℕ) → k < l.backups → pr k ≢ unpaired

-- In the customer's words: "A new spare is now the lowest unpaired one. If all are paired it is the lowest whose level is in state 1."
abbrev pub TakenNew : Layout → (ℕ → ℕ) → (ℕ → ℕ) → ℕ → Type 0
TakenNew l st pr j =
    Lowest l.backups (λ k. pr k ≡ unpaired) j
    ⊎ (AllPaired l pr × Lowest l.backups (λ k. st (pr k) ≡ ss_main) j)

-- the definition is these two sentences, whatever the states and pairs; where they name none, it is no backup segment
abbrev pub NewBackupExactly : Type 0
NewBackupExactly =
    (l : Layout) (st pr : ℕ → ℕ) (j : ℕ) → ((new_backup l st pr ≡ j) × (j < l.backups)) ↔ TakenNew l st pr j

-- in valid metadata a backup segment that is paired is free exactly if its main segment is in state 1; the new one is free, and there is
-- one exactly if some backup segment is free
pub record NewBackupFree (l : Layout) (st pr : ℕ → ℕ) : Type 0 where
  pub paired : (j : ℕ) → j < l.backups → pr j ≢ unpaired → Free l st pr j ↔ (st (pr j) ≡ ss_main)
  pub free : (j : ℕ) → TakenNew l st pr j → Free l st pr j
  pub exists : ((j : ℕ) × TakenNew l st pr j) ↔ ((j : ℕ) × Free l st pr j)

abbrev pub FreeWhereValid : Type 0
FreeWhereValid = (l : Layout) (st pr : ℕ → ℕ) → Valid l st pr → NewBackupFree l st pr

-- a served write to a main segment that is not dirty, in state 1 and without a backup segment takes the new one, which is free: its
-- operations are the pair byte stored and written back, all blocks copied there, a fence, state 2, a fence, and the span
abbrev pub WriteTakesNew : Type 0
WriteTakesNew =
    (s : Session) (I : Image) (w : WriteArgs) (k : Lent) → write_status s I w k ≡ 0
    → dirty_segment s w.main ≡ false → active_state I w.main ≡ ss_main
    → ((n : ℕ) → n < s.layout.backups → backup_to_main I n ≢ w.main)
    → (j : ℕ) × TakenNew s.layout (active_state I) (backup_to_main I) j × Free s.layout (active_state I) (backup_to_main I) j
    × (write_ops s I w
    ≡ (pair_ops I w.main j ++ copy_segment s.layout I (main_at s.layout w.main) (backup_at s.layout j)
    ++ sfence ∷ state_ops I w.main ++ sfence ∷ []) ++ span_ops s.layout I w)
