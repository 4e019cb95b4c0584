-- The metadata of an image: committed epoch, segment states, pairs; when it is valid; which bytes are the checkpoint.
-- States and pairs are taken as functions, or the line of states as an argument, so that each rule can be read for either
-- line. Assumes nothing.
use Rattle.std.specs.Prelude.{ℕ, zero, suc, ◌+◌, ◌≤◌, ◌<◌, ◌≡◌, ◌≢◌, ◌⊎◌, Bool, not, cond, ◌&&◌, ◌||◌, List, [], ◌∷◌, ◌++◌, leb, ltb, eqb, length, take, drop, replicate}
use Rattle.model.specs.declared.Layout.{Layout}
use Rattle.std.specs.Prelude.{Option, None, Some}
use Rattle.model.specs.Range.{cat, all_b, any_b, first_b, sum_to, one_if}
use Rattle.model.specs.Words.{Image, byte_at, word_at}
use Rattle.model.specs.Layout.{most, epoch_at, mains_at, backups_at, blocks_at, pairs_at, unpaired, ss_initial, ss_main, ss_backup, state_line, segment_size, main_at, backup_at, sizes_ok, image_size}
use Rattle.model.specs.Status.{Errors}

-- the number of checkpoints (the trade: epoch)
abbrev pub committed_epoch : Image → ℕ
committed_epoch I = word_at I epoch_at

-- the line of states that the epoch's parity picks, and the other (the trade: active and idle line); a line of states is named
-- by the place of its first byte
abbrev pub active_line : Image → ℕ
active_line I = state_line (committed_epoch I)

abbrev pub inactive_line : Image → ℕ
inactive_line I = state_line (suc (committed_epoch I))

-- the state of main segment i on a line of states
abbrev pub seg_state : Image → ℕ → ℕ → ℕ
seg_state I line i = byte_at I (line + i)

-- the same on the active line
abbrev pub active_state : Image → ℕ → ℕ
active_state I = seg_state I (active_line I)

-- the main segment of backup segment j, or `unpaired` (SPECIFICATION 2.2)
abbrev pub backup_to_main : Image → ℕ → ℕ
backup_to_main I j = byte_at I (pairs_at + j)

-- ---- valid metadata (SPECIFICATION 3.1; the trade: sound); st gives the states, pr the pairs

pub record Valid (l : Layout) (st pr : ℕ → ℕ) : Type 0 where
  -- states of main segments are 0, 1 or 2, and the rest of the line is 0
  pub states : (i : ℕ) → i < l.mains → st i ≤ ss_backup
  pub states_rest : (i : ℕ) → l.mains ≤ i → i < most → st i ≡ ss_initial
  -- pairs of backup segments are 255 or a main segment, and the rest of the line is 255
  pub pairs : (j : ℕ) → j < l.backups → (pr j ≡ unpaired) ⊎ (pr j < l.mains)
  pub pairs_rest : (j : ℕ) → l.backups ≤ j → j < most → pr j ≡ unpaired
  -- no main segment is paired twice
  pub once : (j k : ℕ) → j < l.backups → k < l.backups → pr j < l.mains → pr j ≡ pr k → j ≡ k
  -- each main segment in state 2 has a backup, and none in state 0 has one
  pub kept : (i : ℕ) → i < l.mains → st i ≡ ss_backup → (j : ℕ) × (j < l.backups) × (pr j ≡ i)
  pub bare : (i : ℕ) → i < l.mains → st i ≡ ss_initial → (j : ℕ) → j < l.backups → pr j ≢ i

-- some backup segment is paired with main segment i
unfoldable pub is_paired : Layout → (ℕ → ℕ) → ℕ → Bool
is_paired l pr i = any_b l.backups (λ j. eqb (pr j) i)

-- Valid as a test
unfoldable pub valid_metadata : Layout → (ℕ → ℕ) → (ℕ → ℕ) → Bool
valid_metadata l st pr =
    all_b l.mains (λ i. leb (st i) ss_backup)
    && all_b most (λ i. ltb i l.mains || eqb (st i) ss_initial)
    && all_b l.backups (λ j. eqb (pr j) unpaired || ltb (pr j) l.mains)
    && all_b most (λ j. ltb j l.backups || eqb (pr j) unpaired)
    && all_b l.backups (λ j. all_b l.backups (λ k. not (ltb (pr j) l.mains) || not (eqb (pr j) (pr k)) || eqb j k))
    && all_b l.mains (λ i. not (eqb (st i) ss_backup) || is_paired l pr i)
    && all_b l.mains (λ i. not (eqb (st i) ss_initial) || not (is_paired l pr i))

-- ---- backup segments

-- the backup segment of main segment i, or the number of backups where it has none (the trade: its spare)
unfoldable pub paired_backup : Layout → (ℕ → ℕ) → ℕ → ℕ
paired_backup l pr i = first_b l.backups (λ j. eqb (pr j) i)

-- a backup segment that may be given to another main segment: it is unpaired, or its main segment is not in state 2
-- (SPECIFICATION 3.2; the trade: a free spare)
abbrev pub Free : Layout → (ℕ → ℕ) → (ℕ → ℕ) → ℕ → Type 0
Free l st pr j = (j < l.backups) × ((pr j ≡ unpaired) ⊎ (st (pr j) ≢ ss_backup))

-- Free as a test, for a backup segment of the layout; and whether there is one
unfoldable pub is_free : (ℕ → ℕ) → (ℕ → ℕ) → ℕ → Bool
is_free st pr j = eqb (pr j) unpaired || not (eqb (st (pr j)) ss_backup)

unfoldable pub any_free : Layout → (ℕ → ℕ) → (ℕ → ℕ) → Bool
any_free l st pr = any_b l.backups (is_free st pr)

-- how many are free
unfoldable pub free_backups : Layout → (ℕ → ℕ) → (ℕ → ℕ) → ℕ
free_backups l st pr = sum_to l.backups (λ j. one_if (is_free st pr j))

-- the new backup segment, for a main segment that needs one (SPECIFICATION 3.4; the trade: a new spare): the lowest that is unpaired; if
-- all are paired, the lowest whose main segment is in state 1; their number where there is none. NewBackup.antt says it in plain words
unfoldable pub new_backup : Layout → (ℕ → ℕ) → (ℕ → ℕ) → ℕ
new_backup l st pr =
    cond (any_b l.backups (λ j. eqb (pr j) unpaired))
    (first_b l.backups (λ j. eqb (pr j) unpaired))
    (first_b l.backups (λ j. eqb (st (pr j)) ss_main))

-- ---- the checkpoint state (SPECIFICATION 2.6; the trade: saved bytes)

-- a choice by the state of a main segment: initial, main, backup; any other number counts as backup, and refusal 4 comes
-- before that could be seen
unfoldable pub by_state : {A : Type 0} → ℕ → A → A → A → A
by_state zero a b c = a
by_state (suc zero) a b c = b
by_state (suc (suc n)) a b c = c

-- where the checkpoint of main segment i stands, by a line of states: nowhere, in itself, or in its backup
unfoldable pub checkpoint_located : Layout → Image → ℕ → ℕ → Option ℕ
checkpoint_located l I line i =
    by_state (seg_state I line i) None (Some (main_at l i)) (Some (backup_at l (paired_backup l (backup_to_main I) i)))

-- the bytes of a segment that starts at a place
abbrev pub segment_bytes : Layout → Image → ℕ → List ℕ
segment_bytes l I at = take (segment_size l) (drop at I)

-- and of one that stands nowhere: zeros
abbrev pub located_bytes : Layout → Image → Option ℕ → List ℕ
located_bytes l I None = replicate (segment_size l) 0
located_bytes l I (Some p) = segment_bytes l I p

-- the checkpoint of main segment i, by a line of states
unfoldable pub checkpoint_segment : Layout → Image → ℕ → ℕ → List ℕ
checkpoint_segment l I line i = located_bytes l I (checkpoint_located l I line i)

-- the checkpoint of all main segments, one after the other
unfoldable pub checkpoint_bytes : Layout → Image → ℕ → List ℕ
checkpoint_bytes l I line = cat l.mains (checkpoint_segment l I line)

-- ---- refusals 1 and 2, all that format knows; 1 to 3; 4, by a line of states; and 1 to 4, which every other call but
-- replay knows; 6 and 7, for a call that names a main segment and a block

-- the image carries the sizes of the layout
abbrev pub HeaderOk : Layout → Image → Type 0
HeaderOk l I = (word_at I mains_at ≡ l.mains) × (word_at I backups_at ≡ l.backups) × (word_at I blocks_at ≡ l.blocks)

unfoldable pub header_ok : Layout → Image → Bool
header_ok l I = eqb (word_at I mains_at) l.mains && eqb (word_at I backups_at) l.backups && eqb (word_at I blocks_at) l.blocks

abbrev pub size_errors : Layout → Image → Errors
size_errors l I = (1, not (sizes_ok l)) ∷ (2, not (eqb (length I) (image_size l))) ∷ []

abbrev pub header_errors : Layout → Image → Errors
header_errors l I = (3, not (header_ok l I)) ∷ []

abbrev pub layout_errors : Layout → Image → Errors
layout_errors l I = size_errors l I ++ header_errors l I

abbrev pub valid_errors : Layout → Image → ℕ → Errors
valid_errors l I line = (4, not (valid_metadata l (seg_state I line) (backup_to_main I))) ∷ []

abbrev pub container_errors : Layout → Image → Errors
container_errors l I = layout_errors l I ++ valid_errors l I (active_line I)

abbrev pub main_errors : Layout → ℕ → Errors
main_errors l i = (6, leb l.mains i) ∷ []

abbrev pub block_errors : Layout → ℕ → Errors
block_errors l b = (7, leb l.blocks b) ∷ []
