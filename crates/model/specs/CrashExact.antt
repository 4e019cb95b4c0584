-- That the crash relation (specs/Crash.antt) is the sentence of SPECIFICATION 7.2, no more and no less: a stage of a line is a
-- first part of the stores to that line, from its floor on; lines are independent; n waiting stores on n lines give exactly
-- 2 ^ n images. Demand 3 does not need this file. Proved in proofs/Laws/Crash/. Assumes nothing.
use Rattle.std.specs.Prelude.{ℕ, suc, ◌^◌, ◌/◌, ◌%◌, ◌≤◌, ◌<◌, max, ◌≡◌, ◌↔◌, ◌≢◌, Bool, true, false, cond, ◌&&◌, List, [], ◌∷◌, ◌++◌, eqb, length, take, get_or}
use Rattle.model.specs.Words.{Image}
use Rattle.model.specs.Layout.{word_size, line_size}
use Rattle.model.specs.Ops.{Ops, store, clwb, sfence, apply, replay}
use Rattle.model.specs.Crash.{KeepsDurable, AgreeOn, Stage, CrashImage}

-- ---- the sentence: each line holds its bytes after some first part of the stores to it

-- every store of the operations is at a place of which Q holds
abbrev pub Each : (ℕ → Type 0) → Ops → Type 0
Each Q [] = Unit {0}
Each Q (store p w ∷ O) = Q p × Each Q O
Each Q (clwb p ∷ O) = Each Q O
Each Q (sfence ∷ O) = Each Q O

-- the stores to line ℓ
unfoldable pub stores_to : ℕ → Ops → Ops
stores_to ℓ [] = []
stores_to ℓ (store p w ∷ O) = cond (eqb (p / line_size) ℓ) (store p w ∷ stores_to ℓ O) (stores_to ℓ O)
stores_to ℓ (clwb p ∷ O) = stores_to ℓ O
stores_to ℓ (sfence ∷ O) = stores_to ℓ O

-- line ℓ of H holds its bytes after some first part of the stores to it, containing at least every store before a clwb of
-- that line that a later sfence followed
pub record StageOfStores (ℓ : ℕ) (I : Image) (O : Ops) (H : Image) : Type 0 where
  pub m : ℕ
  pub within : m ≤ length (stores_to ℓ O)
  pub durable : (A C D : Ops) (p : ℕ) → p / line_size ≡ ℓ → O ≡ A ++ clwb p ∷ C ++ sfence ∷ D → length (stores_to ℓ A) ≤ m
  pub agree : AgreeOn ℓ H (replay (take m (stores_to ℓ O)) I)

abbrev pub StageStores : Type 0
StageStores = (ℓ : ℕ) (I H : Image) (O : Ops) → Each (λ p. p % word_size ≡ 0) O → Stage ℓ I O H ↔ StageOfStores ℓ I O H

-- ---- what a crash may leave

-- all that was played
abbrev pub Newest : Type 0
Newest = (I : Image) (O : Ops) → CrashImage I O (replay O I)

-- any stage of each line, together: lines are independent
abbrev pub EveryCombination : Type 0
EveryCombination =
    (I : Image) (O : Ops) (k : ℕ → ℕ) → ((ℓ : ℕ) → k ℓ ≤ length O) → ((ℓ : ℕ) → KeepsDurable ℓ O (k ℓ))
    → (H : Image) × CrashImage I O H × ((ℓ : ℕ) → AgreeOn ℓ H (replay (take (k ℓ) O) I))

-- an sfence is among the operations
unfoldable pub has_fence : Ops → Bool
has_fence [] = false
has_fence (store p w ∷ O) = has_fence O
has_fence (clwb p ∷ O) = has_fence O
has_fence (sfence ∷ O) = true

-- with no sfence at all, nothing of it
abbrev pub UnfencedLost : Type 0
UnfencedLost = (I : Image) (O : Ops) → has_fence O ≡ false → CrashImage I O I

-- ---- what it must keep

-- the floor of line ℓ in O, where n operations come before O
unfoldable pub floor_from : ℕ → ℕ → Ops → ℕ
floor_from n ℓ [] = 0
floor_from n ℓ (store p w ∷ O) = floor_from (suc n) ℓ O
floor_from n ℓ (clwb p ∷ O) = max (cond (eqb (p / line_size) ℓ && has_fence O) n 0) (floor_from (suc n) ℓ O)
floor_from n ℓ (sfence ∷ O) = floor_from (suc n) ℓ O

-- how many operations come before the last clwb of line ℓ that a later sfence followed; 0 where there is none
abbrev pub floor : ℕ → Ops → ℕ
floor ℓ O = floor_from 0 ℓ O

-- the stages of a line are those from its floor on
abbrev pub FloorExact : Type 0
FloorExact = (ℓ : ℕ) (O : Ops) (k : ℕ) → KeepsDurable ℓ O k ↔ (floor ℓ O ≤ k)

abbrev pub CrashByFloor : Type 0
CrashByFloor =
    (I H : Image) (O : Ops) → CrashImage I O H
    ↔ ((length H ≡ length I) × ((ℓ : ℕ) → (k : ℕ) × (floor ℓ O ≤ k) × (k ≤ length O) × AgreeOn ℓ H (replay (take k O) I)))

-- ---- how many images

-- exactly n images have the property P: a list of n images, all different, of those that have it
pub record Exactly (n : ℕ) (P : Image → Type 0) : Type 0 where
  pub images : List Image
  pub count : length images ≡ n
  pub each : (k : ℕ) → k < n → P (get_or images k [])
  pub found : (H : Image) → P H → (k : ℕ) × (k < n) × (get_or images k [] ≡ H)
  pub distinct : (j k : ℕ) → j < n → k < n → get_or images j [] ≡ get_or images k [] → j ≡ k

-- waiting stores: each at a place divisible by 8, alone on its line, and changing it
abbrev pub Waiting : Image → Ops → Type 0
Waiting I [] = Unit {0}
Waiting I (store p w ∷ O) =
    (p % word_size ≡ 0) × (AgreeOn (p / line_size) (apply (store p w) I) I → ⊥) × Each (λ q. q / line_size ≢ p / line_size) O × Waiting I O
Waiting I (clwb p ∷ O) = ⊥
Waiting I (sfence ∷ O) = ⊥

-- n waiting stores on n lines, each line old or new; ten of them (SPECIFICATION 7.3: 1,024)
abbrev pub CrashCount : Type 0
CrashCount = (I : Image) (O : Ops) → Waiting I O → Exactly (2 ^ length O) (CrashImage I O)

abbrev pub TenLines : Type 0
TenLines = (I : Image) (O : Ops) → Waiting I O → length O ≡ 10 → Exactly 1024 (CrashImage I O)
