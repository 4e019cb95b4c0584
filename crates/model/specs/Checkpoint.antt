-- Checkpoint (SPECIFICATION 11; the trade: save). Assumes nothing.
use Rattle.std.specs.Prelude.{ℕ, suc, ◌+◌, ◌-◌, ◌*◌, ◌^◌, Bool, cond, List, [], ◌∷◌, ◌++◌, eqb, get_or}
use Rattle.model.specs.declared.Layout.{Layout}
use Rattle.model.specs.declared.Session.{Session}
use Rattle.model.specs.Range.{cat}
use Rattle.model.specs.Words.{Image, word_of}
use Rattle.model.specs.Layout.{word_size, block_size, block_lines, line_words, epoch_at, ss_initial, ss_main, main_at}
use Rattle.model.specs.Status.{Errors, first_error}
use Rattle.model.specs.Container.{active_state, committed_epoch, inactive_line, by_state}
use Rattle.model.specs.Session.{is_dirty, with_checkpoint, context_errors}
use Rattle.model.specs.Ops.{store, clwb, sfence, Ops, trace_errors, for_domain, stores, clwbs, each_dirty}
use Rattle.model.specs.Clients.{Clients, clients_errors, cleared}
use Rattle.model.specs.Outcome.{Lent, Outcome, outcome_of}

-- every dirty block of every main segment, dirty or not, written back, upward, by the words of dirty blocks
unfoldable pub flush_dirty : Layout → List ℕ → Ops
flush_dirty l words = cat l.mains (λ i. each_dirty (get_or words i 0) l.blocks (λ b. clwbs block_lines (main_at l i + block_size * b)))

-- the state after the checkpoint (SPECIFICATION 11.2): a segment that had a checkpoint, or is dirty, holds its checkpoint
-- itself; one that is neither stays without
unfoldable pub next_state : ℕ → Bool → ℕ
next_state st dirty = by_state st (cond dirty ss_main ss_initial) ss_main ss_main

-- the states after it, by the word of dirty segments
abbrev pub next_states : ℕ → (ℕ → ℕ) → ℕ → ℕ
next_states segments st i = next_state (st i) (is_dirty segments i)

-- the inactive line stored, upward, and written back
unfoldable pub states_ops : Image → ℕ → Ops
states_ops I segments =
    stores line_words (inactive_line I) (λ k. word_of (next_states segments (active_state I)) (word_size * k)) ++ clwb (inactive_line I) ∷ []

-- the epoch raised by 1 and written back
unfoldable pub epoch_ops : Image → Ops
epoch_ops I = store epoch_at (suc (committed_epoch I)) ∷ clwb epoch_at ∷ []

-- the dirty blocks, a fence, the states, a fence, the epoch, a fence
unfoldable pub checkpoint_ops : Session → Image → Ops
checkpoint_ops s I =
    flush_dirty s.layout s.dirty_blocks ++ sfence ∷ states_ops I s.dirty_segments ++ sfence ∷ epoch_ops I ++ sfence ∷ []

-- the epoch cannot be raised
abbrev pub epoch_errors : Image → Errors
epoch_errors I = (10, eqb (committed_epoch I) (2 ^ 64 - 1)) ∷ []

-- 1 to 5 and 13; 10 and 11
abbrev pub lent_errors : Session → Image → Clients → Errors
lent_errors s I R = context_errors s I ++ clients_errors s.layout R

abbrev pub checkpoint_errors : Session → Image → Lent → Errors
checkpoint_errors s I k = lent_errors s I k.clients ++ epoch_errors I ++ trace_errors (for_domain s.domain (checkpoint_ops s I)) k.trace

unfoldable pub checkpoint_status : Session → Image → Lent → ℕ
checkpoint_status s I k = first_error (checkpoint_errors s I k)

-- served, it sets what the clients have taken to 0
unfoldable pub checkpoint_outcome : Session → Image → Lent → Outcome
checkpoint_outcome s I k =
    outcome_of (checkpoint_status s I k) s (with_checkpoint s) k.clients (cleared k.clients) s.domain (checkpoint_ops s I)
