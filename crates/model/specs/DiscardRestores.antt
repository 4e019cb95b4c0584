-- What a discard does, in plain words (SPECIFICATION 10.12, 10.14): which words it stores, and that in a history it puts the main segment
-- back as the last checkpoint has it and leaves every other byte. `DiscardStores` is proved in proofs/Laws/Discard.antt, `DiscardRestores` in
-- proofs/DiscardRestores.antt. Assumes nothing.
use Rattle.std.specs.Prelude.{ℕ, ◌+◌, ◌*◌, ◌≤◌, ◌<◌, ◌≡◌, ◌≢◌, ◌⊎◌, true, false, [], replicate}
use Rattle.model.specs.declared.Session.{Session}
use Rattle.model.specs.Words.{Image, byte_at, word_at}
use Rattle.model.specs.Layout.{word_size, block_size, block_words, segment_size, ss_initial, ss_backup, main_at, backup_at}
use Rattle.model.specs.Status.{first_error}
use Rattle.model.specs.Container.{active_state, backup_to_main}
use Rattle.model.specs.Session.{dirty_word, dirty_segment, context_errors}
use Rattle.model.specs.Ops.{Ops, stores, each_dirty}
use Rattle.model.specs.Outcome.{Lent}
use Rattle.model.specs.Discard.{discard_ops, discard_status}
use Rattle.model.specs.Reads.{working_block, checkpoint_block}
use Rattle.model.specs.History.{call_discard, State, outcome, step}
use Rattle.model.specs.CrashSafety.{InEveryHistory}

-- ---- one image and session, which 1 to 5 do not refuse

-- each dirty block of main segment i, upward, with the words w of the block: 32 stores, and nothing else
abbrev pub each_stored : Session → ℕ → (ℕ → ℕ → ℕ) → Ops
each_stored s i w = each_dirty (dirty_word s i) s.layout.blocks (λ b. stores block_words (main_at s.layout i + block_size * b) (w b))

pub record DiscardStores : Type 0 where
  -- a dirty main segment is in state 0, and then zeros are stored, or in state 2, and then the words of its backup segment
  pub dirty : (s : Session) (I : Image) (i : ℕ) → first_error (context_errors s I) ≡ 0 → dirty_segment s i ≡ true
      → ((active_state I i ≡ ss_initial) × (discard_ops s I i ≡ each_stored s i (λ b k. 0)))
      ⊎ ((active_state I i ≡ ss_backup)
      × ((j : ℕ) × (j < s.layout.backups) × (backup_to_main I j ≡ i)
      × (discard_ops s I i ≡ each_stored s i (λ b k. word_at I (backup_at s.layout j + block_size * b + word_size * k)))))
  -- for one that is not dirty nothing is stored, and no trace is too short
  pub clean : (s : Session) (I : Image) (i : ℕ) → dirty_segment s i ≡ false
      → (discard_ops s I i ≡ []) × ((k : Lent) → discard_status s I i k ≢ 11)

-- ---- a history

-- after a served discard of main segment i
pub record Restores (s : State) (i : ℕ) (k : Lent) : Type 0 where
  -- its working read gives what its checkpoint read gives, and zeros where that gives nothing
  pub restored : (b : ℕ) → b < s.device.layout.blocks
      → (working_block s.device.layout (step s (call_discard i k)).device.image i b ≡ checkpoint_block s.device.layout s.device.image i b)
      ⊎ ((active_state s.device.image i ≡ ss_initial)
      × (working_block s.device.layout (step s (call_discard i k)).device.image i b ≡ replicate block_size 0))
  -- every byte outside it is as it was: metadata, other main segments, backup segments
  pub others : (n : ℕ) → (n < main_at s.device.layout i) ⊎ (main_at s.device.layout i + segment_size s.device.layout ≤ n)
      → byte_at (step s (call_discard i k)).device.image n ≡ byte_at s.device.image n
  -- and the session stays: what was dirty is dirty
  pub session : (step s (call_discard i k)).device.session ≡ s.device.session

abbrev pub DiscardRestores : Type 0
DiscardRestores = InEveryHistory (λ s. (i : ℕ) (k : Lent) → (outcome s.device (call_discard i k)).status ≡ 0 → Restores s i k)
