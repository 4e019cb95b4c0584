-- A checkpoint before its epoch store: the dirty blocks are written back, and the next states come to stand on the inactive
-- line; nothing else is stored to.
use Prim.Native.Nat.{ℕ, suc, ◌+◌, ◌-◌, ◌*◌, ◌/◌, ◌%◌, ◌≤◌, ◌<◌}
use mathlib.Core.Path.{◌≡◌, refl, ap, ◌∙◌}
use mathlib.Core.Logic.{◌≢◌, ◌⊎◌, inl, inr}
use mathlib.Core.Bool.{Bool, true, false, cond}
use mathlib.Core.List.{[], ◌∷◌, ◌++◌}
use native.Mathlib.Decide.{dec_lt}
use native.Mathlib.Omega.{arith}
use lib.ListN.{length}
use Rattle.model.specs.declared.Layout.{Layout}
use Rattle.model.specs.declared.Session.{Session}
use Rattle.model.specs.Range.{cat}
use Rattle.model.specs.Words.{Image, byte_at, word_of}
use Rattle.model.specs.Layout.{segment_size, main_at}
use Rattle.model.specs.Container.{active_state, committed_epoch, active_line, inactive_line}
use Rattle.model.specs.Session.{is_dirty, dirty_word, dirty_block}
use Rattle.model.specs.Ops.{clwb, sfence, Ops, replay, stores, clwbs}
use Rattle.model.specs.Checkpoint.{flush_dirty, next_states, states_ops}
use Rattle.model.specs.CrashExact.{Each}
use Rattle.model.proofs.Laws.Words.{byte_of_word}
use Rattle.model.proofs.Laws.Checkpoint.{next_most}
use Rattle.model.proofs.Argument.Persist.{Misses, Clear, each_append, length-replay, replay_clear, replay_append}
use Rattle.model.proofs.Argument.Settled.{Off, Flushed, keeps_off, Settles, settles_then, settles_after, settles_fence}
use Rattle.model.proofs.Argument.Runs.{Puts, puts_clear, puts_then, puts_stores, each_cat, clwbs_none, neat_none, flushed_cat, flushed_clwbs}
use Rattle.model.proofs.Laws.Layout.{state_line_low, state_line_high, state_line_whole, state_line_next}
use Rattle.model.proofs.Argument.Phases.{blocks_phase, states_phase, before_epoch}

-- ---- the dirty blocks: nothing is stored, and their lines are written back

module _ (s : Session) where
  abbrev l : Layout
  l = s.layout

  abbrev dirty_ops : Ops
  dirty_ops = flush_dirty s.layout s.dirty_blocks

  abbrev next : (ℕ → ℕ) → ℕ → ℕ
  next st = next_states s.dirty_segments st

  block_ops_lem : ℕ → ℕ → Ops
  block_ops_lem i b = cond (is_dirty (dirty_word s i) b) (clwbs 4 (main_at l i + 256 * b)) []

  block_none : (Q : ℕ → Type 0) (i b : ℕ) → Each Q (block_ops_lem i b)
  unfolding block_ops_lem
  block_none Q i b = go (is_dirty (dirty_word s i) b)
    where
      go : (d : Bool) → Each Q (cond d (clwbs 4 (main_at l i + 256 * b)) [])
      go true = clwbs_none Q 4 (main_at l i + 256 * b)
      go false = tt

  segment_none : (Q : ℕ → Type 0) (i : ℕ) → Each Q (cat l.blocks (block_ops_lem i))
  segment_none Q i = each_cat Q l.blocks (block_ops_lem i) (λ b h. block_none Q i b)

  dirty_none : (Q : ℕ → Type 0) → Each Q dirty_ops
  unfolding flush_dirty block_ops_lem
  dirty_none Q = each_cat Q l.mains (λ i. cat l.blocks (block_ops_lem i)) (λ i h. segment_none Q i)

  dirty_flushed : (i b ℓ : ℕ) → i < l.mains → b < l.blocks → dirty_block s i b ≡ true → main_at l i + 256 * b ≤ 64 * ℓ → 64 * ℓ < main_at l i + 256 * b + 256
      → Flushed ℓ dirty_ops
  unfolding flush_dirty block_ops_lem dirty_block
  dirty_flushed i b ℓ h k d x y =
      flushed_cat ℓ l.mains (λ i. cat l.blocks (block_ops_lem i)) (λ m z. neat_none _ (λ Q. segment_none Q m)) i h
      (flushed_cat ℓ l.blocks (block_ops_lem i) (λ m z. neat_none _ (λ Q. block_none Q i m)) b k
      (rw d (flushed_clwbs ℓ 4 (main_at l i + 256 * b) (omega arith) x (omega arith))))

  blocks_none : (Q : ℕ → Type 0) → Each Q (blocks_phase s)
  blocks_none Q = each_append Q dirty_ops (sfence ∷ []) (dirty_none Q) tt

  -- ---- the inactive line

  module _ (I : Image) where
    abbrev inactive : ℕ
    inactive = inactive_line I

    next_small : (i : ℕ) → next (active_state I) i < 256
    next_small i = omega (arith, next_most (active_state I i) (is_dirty s.dirty_segments i))

    -- the states' phase leaves the next states on the inactive line
    states_put : Puts (states_phase s I) inactive 64 (λ k. next (active_state I) (k - inactive))
    unfolding states_ops
    states_put =
        puts_then (stores 8 inactive w ++ clwb inactive ∷ []) (sfence ∷ []) inactive 64 g
        (puts_then (stores 8 inactive w) (clwb inactive ∷ []) inactive 64 g
        (puts_stores 8 inactive w g (λ k b x y. byte_of_word (next (active_state I)) (8 * k) b next_small y ∙ ap (next (active_state I)) (omega arith))) tt) tt
      where
        g : ℕ → ℕ
        g k = next (active_state I) (k - inactive)

        w : ℕ → ℕ
        w k = word_of (next (active_state I)) (8 * k)

    -- where the two lines of states stand
    pub lines : (inactive % 64 ≡ 0) × (active_line I % 64 ≡ 0) × (active_line I + inactive ≡ 320) × (128 ≤ inactive) × (inactive ≤ 192)
    lines = (
      state_line_whole (suc (committed_epoch I)),
      state_line_whole (committed_epoch I),
      state_line_next (committed_epoch I),
      state_line_low (suc (committed_epoch I)),
      state_line_high (suc (committed_epoch I)),
    )

    abbrev X : Ops
    X = before_epoch s I

    pub before_clear : (k : ℕ) → (k < inactive) ⊎ (inactive + 64 ≤ k) → Clear k X
    before_clear k h = each_append (Misses k) (blocks_phase s) (states_phase s I) (blocks_none (Misses k)) (puts_clear states_put k h)

    pub before_off : (ℓ : ℕ) → ℓ ≢ inactive / 64 → Off ℓ X
    before_off ℓ h k e = before_clear k (go (dec_lt k inactive))
      where
        go : Dec (k < inactive) → (k < inactive) ⊎ (inactive + 64 ≤ k)
        go (yes d) = inl d
        go (no d) = inr (let p : inactive % 64 ≡ 0 = lines.0 in omega arith)

    pub inactive_settles : Settles (inactive / 64) X
    unfolding states_ops
    inactive_settles = settles_after (inactive / 64) (blocks_phase s) _
        (settles_fence (inactive / 64) (stores 8 inactive w ++ clwb inactive ∷ [])
        (record { A = stores 8 inactive w; C = []; p = inactive; place = refl; off = λ i e. tt; is = refl }))
      where
        w : ℕ → ℕ
        w k = word_of (next (active_state I)) (8 * k)

    pub dirty_settles : (i x : ℕ) → i < l.mains → x < segment_size l → dirty_block s i (x / 256) ≡ true → Settles ((main_at l i + x) / 64) X
    dirty_settles i x h k d =
        let ℓ : ℕ = (main_at l i + x) / 64 in
        settles_then ℓ (blocks_phase s) (states_phase s I)
        (settles_fence ℓ dirty_ops (dirty_flushed i (x / 256) ℓ h (omega arith) d (omega arith) (omega arith)))
        (keeps_off ℓ (states_phase s I) (λ m e. puts_clear states_put m (inr (omega (arith, lines)))))

    -- the image after the first two phases
    pub before_same : (k : ℕ) → (k < inactive) ⊎ (inactive + 64 ≤ k) → byte_at (replay X I) k ≡ byte_at I k
    before_same k h = replay_clear X I k (before_clear k h)

    pub before_states : (i : ℕ) → 512 ≤ length I → i < 64 → byte_at (replay X I) (inactive + i) ≡ next (active_state I) i
    before_states i n h = ap (λ (J : Image). byte_at J (inactive + i)) (replay_append (blocks_phase s) (states_phase s I) I)
        ∙ states_put.leaves (replay (blocks_phase s) I) (inactive + i) (omega (arith, length-replay (blocks_phase s) I, lines)) (omega arith) (omega arith)
        ∙ ap (next (active_state I)) (omega arith)
