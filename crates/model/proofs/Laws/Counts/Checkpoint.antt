-- How many operations a checkpoint has on the trace for a kind of module, and where among them the epoch is stored: the window in numbers.
use Prim.Native.Nat.{ℕ, zero, suc, ◌+◌, ◌*◌, ◌<◌, ◌-◌, ◌%◌, ◌≤◌}
use mathlib.Core.Path.{◌≡◌, refl, sym, ap₂, ◌∙◌, subst, ap}
use mathlib.Core.Bool.{Bool, true, false, cond}
use mathlib.Core.List.{◌++◌, [], ◌∷◌}
use native.Mathlib.Omega.{arith}
use native.Mathlib.Decide.{dec_le}
use lib.ListN.{length, length-append, take}
use mathlib.Core.Logic.{◌↔◌}
use lib.Seq.{take-append-le, take-append-add, take-nil, take-length}
use lib.Dec.{eqb}
use Rattle.model.specs.declared.Session.{Session}
use Rattle.model.specs.Words.{Image, word_of}
use Rattle.model.specs.Layout.{word_size, line_size, block_lines, line_words, epoch_at}
use Rattle.model.specs.Container.{committed_epoch, active_state, inactive_line}
use Rattle.model.specs.Session.{adr, is_dirty, dirty_word}
use Rattle.model.specs.Ops.{Op, store, clwb, sfence, Ops, for_domain, apply, replay, stores, clwbs}
use Rattle.model.specs.Outcome.{Lent}
use Rattle.model.specs.Checkpoint.{flush_dirty, next_states, states_ops, checkpoint_ops, checkpoint_status, checkpoint_outcome}
use Rattle.model.specs.History.{call_checkpoint, Device, called_ops}
use Rattle.model.specs.Counts.{flushes, dirty_total}
use Rattle.model.specs.CrashSafety.{EpochStored, Window}
use Rattle.model.proofs.Laws.Layout.{image_lines_lem, state_line_low}
use Rattle.model.proofs.Laws.Ops.{All, all_append, all_take, all_cat, all_when, all_amid, played_ops_lem}
use Rattle.model.proofs.Laws.Container.{container_then}
use Rattle.model.proofs.Argument.Persist.{replay_append}
use Rattle.model.proofs.Argument.Phases.{blocks_phase, states_phase, epoch_phase, before_epoch, checkpoint_phases}
use Rattle.model.proofs.Laws.Outcome.{outcome-served}
use Rattle.model.proofs.Laws.Replay.{checkpoint_outcome_ok}
use Rattle.model.proofs.Laws.Domain.{domain_append, domain_stores, domain_all}
use Rattle.model.proofs.Laws.Counts.{count_append, count_cat_sum, count_flush, count_fence, flushes_times, length-stores, count_clwbs, count_dirty}

-- not a store to the epoch
abbrev OffEpoch : Op → Type 0
OffEpoch (store p w) = epoch_at < p
OffEpoch (clwb p) = Unit {0}
OffEpoch sfence = Unit {0}

module _ (s : Session) (I : Image) where
  count_flush_dirty : (d : ℕ) → length (for_domain d (flush_dirty s.layout s.dirty_blocks)) ≡ flushes d (4 * dirty_total s.layout s.dirty_blocks)
  unfolding flush_dirty dirty_total
  count_flush_dirty d =
      count_cat_sum d s.layout.mains (flushes d 4) _ _ (λ i h. count_dirty d (dirty_word s i) s.layout.blocks (flushes d 4) _ (λ b. count_clwbs d block_lines _))
      ∙ flushes_times d 4 (dirty_total s.layout s.dirty_blocks)

  abbrev before : Ops
  before = before_epoch s I

  abbrev words : ℕ → ℕ
  words k = word_of (next_states s.dirty_segments (active_state I)) (word_size * k)

  pub count_before : (d : ℕ) → length (for_domain d (before_epoch s I)) ≡ flushes d (4 * dirty_total s.layout s.dirty_blocks) + (10 + flushes d 1)
  unfolding states_ops
  count_before d =
      omega (
        arith,
        count_flush_dirty d,
        count_append d (blocks_phase s) (states_phase s I),
        count_append d (flush_dirty s.layout s.dirty_blocks) (sfence ∷ []),
        count_append d (states_ops I s.dirty_segments) (sfence ∷ []),
        count_append d (stores line_words (inactive_line I) words) (clwb (inactive_line I) ∷ []),
        ap length (domain_stores d line_words (inactive_line I) words),
        length-stores line_words (inactive_line I) words,
        count_flush d (inactive_line I),
        count_fence d,
      )

  -- the store of the epoch, and then perhaps its write-back, and the last fence
  after_store : (d : ℕ) → for_domain d (checkpoint_ops s I) ≡ for_domain d (before_epoch s I) ++ store epoch_at (suc (committed_epoch I)) ∷ for_domain d (clwb epoch_at ∷ sfence ∷ [])
  unfolding for_domain
  after_store d = ap (for_domain d) (checkpoint_phases s I) ∙ domain_append d before (epoch_phase I)

  count_last : (d : ℕ) → length (for_domain d (clwb epoch_at ∷ sfence ∷ [])) ≡ 1 + flushes d 1
  count_last d = count_append d (clwb epoch_at ∷ []) (sfence ∷ []) ∙ omega (arith, count_flush d epoch_at, count_fence d)

  pub count_checkpoint : (d : ℕ) → length (for_domain d (checkpoint_ops s I)) ≡ flushes d (4 * dirty_total s.layout s.dirty_blocks) + (12 + flushes d 2)
  count_checkpoint d =
      ap length (after_store d) ∙ length-append (for_domain d before) _ ∙ omega (arith, count_before d, count_last d, flushes_times d 1 2)

  off_before : All OffEpoch before
  unfolding flush_dirty clwbs states_ops stores
  off_before =
      all_append OffEpoch (blocks_phase s) (states_phase s I)
      (all_append OffEpoch (flush_dirty s.layout s.dirty_blocks) (sfence ∷ [])
      (all_cat OffEpoch s.layout.mains _ (λ i h. all_cat OffEpoch s.layout.blocks _
      (λ b k. all_when OffEpoch (is_dirty (dirty_word s i) b) _ (λ e. all_cat OffEpoch block_lines _ (λ n m. (tt, tt)))))) (tt, tt))
      (all_append OffEpoch (states_ops I s.dirty_segments) (sfence ∷ [])
      (all_append OffEpoch (stores line_words (inactive_line I) words) (clwb (inactive_line I) ∷ [])
      (all_cat OffEpoch line_words _ (λ n m. (omega (arith, state_line_low (suc (committed_epoch I))), tt))) (tt, tt)) (tt, tt))

  -- the epoch is stored once all before it, and one more, is played
  pub epoch_stored : (d p : ℕ) → length (for_domain d (before_epoch s I)) + 1 ≤ p → EpochStored (take p (for_domain d (checkpoint_ops s I)))
  epoch_stored d p h =
      let n : ℕ = p - (length (for_domain d before) + 1) in
      let e : p ≡ length (for_domain d before) + suc n = omega arith in (
        for_domain d before,
        take n (for_domain d (clwb epoch_at ∷ sfence ∷ [])),
        suc (committed_epoch I),
        ap₂ take e (after_store d) ∙ take-append-add (for_domain d before) _ (suc n),
      )

  -- and not before
  pub epoch_stored_late : (d p : ℕ) → EpochStored (take p (for_domain d (checkpoint_ops s I))) → length (for_domain d (before_epoch s I)) + 1 ≤ p
  epoch_stored_late d p x = go (dec_le (length (for_domain d before) + 1) p)
    where
      go : Dec (length (for_domain d before) + 1 ≤ p) → length (for_domain d before) + 1 ≤ p
      go (yes h) = h
      go (no h) =
          let e : take p (for_domain d before) ≡ x.0 ++ store epoch_at x.2 ∷ x.1 =
          sym (ap (take p) (after_store d) ∙ take-append-le p (for_domain d before) _ (omega arith)) ∙ x.3 in
          let off : epoch_at < epoch_at = all_amid OffEpoch x.0 (store epoch_at x.2) x.1
          (subst (All OffEpoch) e (all_take OffEpoch p (for_domain d before) (domain_all OffEpoch d before off_before))) in
          omega arith

  -- from there on nothing more is stored
  epoch_last : (d n : ℕ) (J : Image) → replay (take n (for_domain d (clwb epoch_at ∷ sfence ∷ []))) J ≡ J
  unfolding for_domain replay apply
  epoch_last d n J = go (eqb d adr) n
    where
      go : (b : Bool) (n : ℕ) → replay (take n (cond b (clwb epoch_at ∷ sfence ∷ []) (sfence ∷ []))) J ≡ J
      go true zero = refl
      go true (suc zero) = refl
      go true (suc (suc n)) = ap (λ (X : Ops). replay X J) (take-nil n)
      go false zero = refl
      go false (suc n) = ap (λ (X : Ops). replay X J) (take-nil n)

  -- so what was played then leaves what the whole checkpoint leaves
  pub epoch_played : (d p : ℕ) (J : Image) → length (for_domain d (before_epoch s I)) + 1 ≤ p → replay (take p (for_domain d (checkpoint_ops s I))) J ≡ replay (for_domain d (checkpoint_ops s I)) J
  unfolding replay
  epoch_played d p J h =
      let B : Ops = for_domain d before in
      let R : Ops = for_domain d (clwb epoch_at ∷ sfence ∷ []) in
      let o : Op = store epoch_at (suc (committed_epoch I)) in
      let n : ℕ = p - (length B + 1) in
      let e : p ≡ length B + suc n = omega arith in
      let K : Image = apply o (replay B J) in
      ap (λ (X : Ops). replay X J) (ap₂ take e (after_store d) ∙ take-append-add B _ (suc n)) ∙ replay_append B (o ∷ take n R) J ∙ epoch_last d n K
      ∙ sym (ap (λ (X : Ops). replay X J) (after_store d) ∙ replay_append B (o ∷ R) J ∙ ap (λ (X : Ops). replay X K) (sym (take-length R)) ∙ epoch_last d (length R) K)

module _ (d : Device) (t : Lent) (p : ℕ) (h : checkpoint_status d.session d.image t ≡ 0) where
  abbrev k : ℕ
  k = d.session.domain

  abbrev m : ℕ
  m = flushes k (4 * dirty_total d.session.layout d.session.dirty_blocks)

  ops : (checkpoint_outcome d.session d.image t).ops ≡ for_domain k (checkpoint_ops d.session d.image)
  unfolding checkpoint_outcome
  ops = (outcome-served _ _ _ _ _ _ _ h).ops

  count : length (checkpoint_outcome d.session d.image t).ops ≡ m + (12 + flushes k 2)
  count = ap length ops ∙ count_checkpoint d.session d.image k

  whole : length d.image % line_size ≡ 0
  unfolding checkpoint_status
  whole = omega (arith, image_lines_lem d.session.layout, (container_then d.session.layout d.image _ h).0.long)

  -- what is played of a served checkpoint that is cut after p operations
  pub checkpoint_called : called_ops d (call_checkpoint t) p ≡ take p (for_domain d.session.domain (checkpoint_ops d.session d.image))
  checkpoint_called = played_ops_lem d.image _ t.trace p whole (checkpoint_outcome_ok d.session d.image t) ∙ ap (take p) ops

  -- THE WINDOW of a served checkpoint on a module of kind k: with m dirty blocks, its first 4 * m + 12 or 4 * m + 13 operations are played
  -- on kind 0, its first 11 on kind 1
  pub window_is : Window d (call_checkpoint t) p ↔ ((m + (11 + flushes k 1) ≤ p) × (p < m + (12 + flushes k 2)))
  window_is = (
    λ x. (omega (arith, epoch_stored_late d.session d.image k p (subst EpochStored checkpoint_called x.1), count_before d.session d.image k), omega (arith, x.2, count)),
    λ x. (
      refl,
      subst EpochStored (sym checkpoint_called) (epoch_stored d.session d.image k p (omega (arith, x.0, count_before d.session d.image k))),
      omega (arith, x.1, count),
    ),
  )
