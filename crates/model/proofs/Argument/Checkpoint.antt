-- Checkpoint: crashed before its epoch store it leaves what recovers to the old contents, crashed later to the old or the
-- new ones, and played whole to the new ones.
pub mod BeforeEpoch
use Prim.Native.Nat.{ℕ, zero, suc, ◌+◌, ◌-◌, ◌^◌, ◌/◌, ◌≤◌, ◌<◌}
use mathlib.Core.Path.{◌≡◌, refl, sym, ap, ◌∙◌, subst}
use mathlib.Core.Logic.{◌≢◌, ◌⊎◌, inl, inr, ⊎_elim}
use mathlib.Core.Bool.{Bool, true, false, true≢false}
use mathlib.Core.List.{[], ◌∷◌, ◌++◌, append_assoc}
use native.Mathlib.Decide.{dec_le, dec_lt, ℕ_discrete}
use native.Mathlib.Omega.{arith}
use lib.ListN.{length, take}
use lib.Seq.{take-append-le}
use Rattle.model.specs.declared.Layout.{Layout}
use Rattle.model.specs.declared.Session.{Session}
use Rattle.model.specs.Words.{Image, byte_at, Bytes}
use Rattle.model.specs.Layout.{state_line, segment_size, main_at, backup_at}
use Rattle.model.specs.Container.{active_state, committed_epoch, active_line, inactive_line, backup_to_main}
use Rattle.model.specs.Session.{dirty_segment, dirty_block, with_checkpoint}
use Rattle.model.specs.Ops.{store, clwb, sfence, Ops, apply, replay}
use Rattle.model.specs.Checkpoint.{next_state, next_states, checkpoint_ops}
use Rattle.model.specs.Crash.{AgreeOn, CrashImage}
use Rattle.model.proofs.Laws.Words.{word_cong, word_stored}
use Rattle.model.proofs.Argument.Persist.{Misses, Clear, each_take, length-replay, replay_clear, replay_append, replay_small}
use Rattle.model.proofs.Argument.Settled.{Settled, crash_byte, crash_bytes, local_crash, stage_one, settled_more, settles_after, settles_fence, take_past}
use Rattle.model.proofs.Laws.Layout.{metadata_inside}
use Rattle.model.proofs.Laws.Checkpoint.{next_initial}
use Rattle.model.proofs.Laws.Session.{checkpoint_segment_lem, checkpoint_block_lem}
use Rattle.model.proofs.Argument.Phases.{epoch_phase, before_epoch, checkpoint_phases}
use Rattle.model.proofs.Argument.View.{Recoverable, recoverable_alike, recovers_at, fit_cong}
use Rattle.model.proofs.Argument.Holds.{Contents, holds_next}
use Rattle.model.proofs.Argument.Invariant.{Invariant, firm_own}
use Rattle.model.proofs.Argument.Checkpoint.BeforeEpoch.{lines, before_clear, before_off, inactive_settles, dirty_settles, before_same, before_states}

module _ (O : Ops) (I₀ : Image) (s : Session) (P W : Contents) (held : Bytes I₀) (inv : Invariant s.layout O (replay O I₀) s P W) where
  abbrev lay : Layout
  lay = s.layout

  abbrev I : Image
  I = replay O I₀

  abbrev F : Ops
  F = before_epoch s I

  big : 512 ≤ length I
  big = omega (arith, inv.recovers.fit.long, metadata_inside lay)

  -- settled after the first two phases: the metadata, the backups, every main segment
  settled_meta : (k : ℕ) → k < 512 → Settled (k / 64) (O ++ F)
  settled_meta k h = go (ℕ_discrete (k / 64) (inactive_line I / 64))
    where
      go : Dec (k / 64 ≡ inactive_line I / 64) → Settled (k / 64) (O ++ F)
      go (yes e) = rw e (inactive_settles s I O)
      go (no e) = settled_more (k / 64) O F (inv.firm_meta k h) (before_off s I (k / 64) e)

  settled_backup : (j x : ℕ) → j < lay.backups → x < segment_size lay → Settled ((backup_at lay j + x) / 64) (O ++ F)
  settled_backup j x h k = settled_more _ O F (inv.firm_backup j x h k) (before_off s I _ (omega (arith, lines s I)))

  settled_main : (i x : ℕ) → i < lay.mains → x < segment_size lay → Settled ((main_at lay i + x) / 64) (O ++ F)
  settled_main i x h k = go (dirty_block s i (x / 256)) refl
    where
      go : (b : Bool) → dirty_block s i (x / 256) ≡ b → Settled ((main_at lay i + x) / 64) (O ++ F)
      go true d = dirty_settles s I i x h k d O
      go false d = settled_more _ O F (inv.firm_clean i x h k d) (before_off s I _ (omega (arith, lines s I)))

  -- an image that has all of I but the inactive line recovers to P
  old : (H : Image) → length H ≡ length I₀ → Bytes H
      → ((k : ℕ) → k < 512 → (k < inactive_line I) ⊎ (inactive_line I + 64 ≤ k) → byte_at H k ≡ byte_at I k)
      → ((i x : ℕ) → i < lay.mains → x < segment_size lay → active_state I i ≡ 1 → byte_at H (main_at lay i + x) ≡ byte_at I (main_at lay i + x))
      → ((j x : ℕ) → j < lay.backups → x < segment_size lay → byte_at H (backup_at lay j + x) ≡ byte_at I (backup_at lay j + x))
      → Recoverable lay H P
  old H long small low own backup =
      let q = lines s I in
      recoverable_alike lay I H P (record {
        long = long ∙ sym (length-replay O I₀);
        bytes = small;
        epochs = λ k h. low k (omega arith) (inl (omega arith));
        header = λ k h x. low k (omega arith) (inl (omega arith));
        states = λ i h. low (active_line I + i) (omega arith) (go i h (dec_lt (active_line I) (inactive_line I)));
        pairs = λ j h. low (256 + j) (omega arith) (inr (omega arith));
        owns = own;
        backups = λ i j x h k m e d. backup j x k m;
      }) inv.recovers
    where
      go : (i : ℕ) → i < 64 → Dec (active_line I < inactive_line I) → (active_line I + i < inactive_line I) ⊎ (inactive_line I + 64 ≤ active_line I + i)
      go i h (yes d) = inl (omega (arith, lines s I))
      go i h (no d) = inr (omega (arith, lines s I))

  -- an image with the new epoch and states, all main segments and backups recovers to W
  new : (H : Image) → length H ≡ length I → Bytes H → committed_epoch H ≡ suc (committed_epoch I)
      → ((k : ℕ) → 64 ≤ k → k < 88 → byte_at H k ≡ byte_at I k)
      → ((i : ℕ) → i < 64 → byte_at H (inactive_line I + i) ≡ next_states s.dirty_segments (active_state I) i)
      → ((j : ℕ) → j < 64 → backup_to_main H j ≡ backup_to_main I j)
      → ((i x : ℕ) → i < lay.mains → x < segment_size lay → byte_at H (main_at lay i + x) ≡ W i x)
      → Recoverable lay H W
  unfolding dirty_segment
  new H long small epoch header states pairs mains =
      recovers_at lay H W (suc (committed_epoch I)) epoch (fit_cong lay I H long small header inv.recovers.fit)
      (holds_next lay inv.recovers.fit.sizes (active_state I) (backup_to_main I) (byte_at I) _ _ _ P inv.recovers.holds
      (dirty_segment s) W inv.low states pairs mains inv.clean)

  -- a crash in the first two phases
  crash_before : (p : ℕ) (H : Image) → CrashImage I₀ (O ++ take p F) H → Recoverable lay H P
  crash_before p H c = old H c.long (crash_bytes c held)
      (λ k h x. same k (inv.firm_meta k h) (before_clear s I k x))
      (λ i x h k e. same (main_at lay i + x) (firm_own inv i x h k e) (before_clear s I _ (inr (omega (arith, lines s I)))))
      (λ j x h k. same _ (inv.firm_backup j x h k) (before_clear s I _ (inr (omega (arith, lines s I)))))
    where
      same : (k : ℕ) → Settled (k / 64) O → Clear k F → byte_at H k ≡ byte_at I k
      same k g x = crash_byte I₀ H O (take p F) k g (each_take (Misses k) p F x) (c.lines (k / 64))

  -- a crash after the epoch store
  crash_after : (m : ℕ) (H : Image) → suc (committed_epoch I) < 2 ^ 64 → CrashImage I₀ ((O ++ F) ++ take (suc m) (epoch_phase I)) H
      → Recoverable lay H P ⊎ Recoverable lay H W
  unfolding apply
  crash_after m H fits c = ⊎_elim
      (λ o. inl (old H c.long (crash_bytes c held)
      (λ k h x. low o k h (dec_lt k 64) ∙ before_same s I k x)
      (λ i x h k e. main i x h k)
      (λ j x h k. backup j x h k)))
      (λ n. inr (new H (c.long ∙ sym (length-replay O I₀)) (crash_bytes c held)
      (epoch_new n)
      (λ k h x. past k (settled_meta k (omega arith)) h ∙ before_same s I k (inl (omega (arith, lines s I))))
      (λ i h. past (inactive_line I + i) (settled_meta (inactive_line I + i) (omega (arith, lines s I))) (omega (arith, lines s I)) ∙ before_states s I i big h)
      (λ j h. past (256 + j) (settled_meta (256 + j) (omega arith)) (omega arith) ∙ before_same s I (256 + j) (inr (omega (arith, lines s I))))
      (λ i x h k. main i x h k ∙ inv.working i x h k)))
      (stage_one 0 (replay (O ++ F) I₀) H [] (take m (clwb 0 ∷ sfence ∷ [])) 0 (suc (committed_epoch I)) (λ i e. tt)
      (λ i e. each_take (Misses i) m (clwb 0 ∷ sfence ∷ []) tt)
      (local_crash 0 I₀ H (O ++ F) (take (suc m) (epoch_phase I)) (settled_meta 0 (omega arith)) (c.lines 0)))
    where
      glue : (k : ℕ) → byte_at (replay (O ++ F) I₀) k ≡ byte_at (replay F I) k
      glue k = ap (λ (J : Image). byte_at J k) (replay_append O F I₀)

      past : (k : ℕ) → Settled (k / 64) (O ++ F) → 64 ≤ k → byte_at H k ≡ byte_at (replay F I) k
      past k g h = crash_byte I₀ H (O ++ F) (take (suc m) (epoch_phase I)) k g
          (each_take (Misses k) (suc m) (epoch_phase I) (omega arith, tt)) (c.lines (k / 64)) ∙ glue k

      low : AgreeOn 0 H (replay (O ++ F) I₀) → (k : ℕ) → k < 512 → Dec (k < 64) → byte_at H k ≡ byte_at (replay F I) k
      low o k h (yes d) = o k (omega arith) ∙ glue k
      low o k h (no d) = past k (settled_meta k h) (omega arith)

      main : (i x : ℕ) → i < lay.mains → x < segment_size lay → byte_at H (main_at lay i + x) ≡ byte_at I (main_at lay i + x)
      main i x h k = past (main_at lay i + x) (settled_main i x h k) (omega arith) ∙ before_same s I _ (inr (omega (arith, lines s I)))

      backup : (j x : ℕ) → j < lay.backups → x < segment_size lay → byte_at H (backup_at lay j + x) ≡ byte_at I (backup_at lay j + x)
      backup j x h k = past _ (settled_backup j x h k) (omega arith) ∙ before_same s I _ (inr (omega (arith, lines s I)))

      epoch_new : AgreeOn 0 H (apply (store 0 (suc (committed_epoch I))) (replay (O ++ F) I₀)) → committed_epoch H ≡ suc (committed_epoch I)
      epoch_new n = word_cong _ _ 0 (λ i x y. n i (omega arith))
          ∙ word_stored (replay (O ++ F) I₀) 0 (suc (committed_epoch I)) (omega (arith, length-replay (O ++ F) I₀, length-replay O I₀, big)) fits

  abbrev C : Ops
  C = checkpoint_ops s I

  -- CRASHED: the old contents; or, after the epoch store, the new ones
  pub checkpoint_crash : (p : ℕ) (H : Image) → suc (committed_epoch I) < 2 ^ 64 → CrashImage I₀ (O ++ take p C) H
      → Recoverable lay H P ⊎ ((length F < p) × Recoverable lay H W)
  checkpoint_crash p H fits c = go (dec_le p (length F)) (p - length F) refl (subst (λ (Y : Ops). CrashImage I₀ (O ++ take p Y) H) (checkpoint_phases s I) c)
    where
      go : Dec (p ≤ length F) → (m : ℕ) → p - length F ≡ m → CrashImage I₀ (O ++ take p (F ++ epoch_phase I)) H → Recoverable lay H P ⊎ ((length F < p) × Recoverable lay H W)
      go (yes d) m e x = inl (crash_before p H (subst (λ (Y : Ops). CrashImage I₀ (O ++ Y) H) (take-append-le p F (epoch_phase I) d) x))
      go (no d) zero e x = absurd (omega arith)
      go (no d) (suc m) e x = ⊎_elim inl (λ r. inr (omega arith, r))
          (crash_after m H fits
          (subst (λ (Y : Ops). CrashImage I₀ Y H) (ap (λ (Y : Ops). O ++ Y) (take_past p F (epoch_phase I) (omega arith) ∙ ap (λ (k : ℕ). F ++ take k (epoch_phase I)) e) ∙ sym (append_assoc O F _)) x))

  -- ---- played whole

  abbrev K : Image
  K = replay (O ++ (F ++ epoch_phase I)) I₀

  after : (k : ℕ) → 64 ≤ k → byte_at K k ≡ byte_at (replay F I) k
  after k h = ap (λ (J : Image). byte_at J k) (replay_append O (F ++ epoch_phase I) I₀ ∙ replay_append F (epoch_phase I) I)
      ∙ replay_clear (epoch_phase I) (replay F I) k (omega arith, tt)

  epoch_after : suc (committed_epoch I) < 2 ^ 64 → committed_epoch K ≡ suc (committed_epoch I)
  unfolding replay apply
  epoch_after fits = ap (λ (J : Image). committed_epoch J) (replay_append O (F ++ epoch_phase I) I₀ ∙ replay_append F (epoch_phase I) I)
      ∙ word_stored (replay F I) 0 (suc (committed_epoch I)) (omega (arith, length-replay F I, big)) fits

  settle : (ℓ : ℕ) → ℓ ≢ 0 → Settled ℓ (O ++ F) → Settled ℓ (O ++ (F ++ epoch_phase I))
  settle ℓ h g = subst (λ (Y : Ops). Settled ℓ Y) (append_assoc O F (epoch_phase I))
      (settled_more ℓ (O ++ F) (epoch_phase I) g (λ i e. (omega arith, tt)))

  settle_0 : Settled 0 (O ++ (F ++ epoch_phase I))
  settle_0 = settles_after 0 F (epoch_phase I) (settles_fence 0 (store 0 (suc (committed_epoch I)) ∷ clwb 0 ∷ [])
      (record { A = store 0 (suc (committed_epoch I)) ∷ []; C = []; p = 0; place = refl; off = λ i e. tt; is = refl })) O

  settled_all : (k : ℕ) → k < 512 → Settled (k / 64) (O ++ (F ++ epoch_phase I))
  settled_all k h = go (ℕ_discrete (k / 64) 0)
    where
      go : Dec (k / 64 ≡ 0) → Settled (k / 64) (O ++ (F ++ epoch_phase I))
      go (yes e) = rw e settle_0
      go (no e) = settle (k / 64) e (settled_meta k h)

  main_after : (i x : ℕ) → i < lay.mains → x < segment_size lay → byte_at K (main_at lay i + x) ≡ byte_at I (main_at lay i + x)
  main_after i x h k = after _ (omega arith) ∙ before_same s I _ (inr (omega (arith, lines s I)))

  backup_after : (j x : ℕ) → j < lay.backups → x < segment_size lay → byte_at K (backup_at lay j + x) ≡ byte_at I (backup_at lay j + x)
  backup_after j x h k = after _ (omega arith) ∙ before_same s I _ (inr (omega (arith, lines s I)))

  pairs_after : (j : ℕ) → j < 64 → backup_to_main K j ≡ backup_to_main I j
  pairs_after j h = after (256 + j) (omega arith) ∙ before_same s I (256 + j) (inr (omega (arith, lines s I)))

  -- the active states after it are the next states
  next_state_lem : suc (committed_epoch I) < 2 ^ 64 → (i : ℕ) → i < 64 → active_state K i ≡ next_states s.dirty_segments (active_state I) i
  next_state_lem fits i h = ap (λ (e : ℕ). byte_at K (state_line e + i)) (epoch_after fits)
      ∙ after (inactive_line I + i) (omega (arith, lines s I)) ∙ before_states s I i big h

  done : suc (committed_epoch I) < 2 ^ 64 → Invariant lay (O ++ (F ++ epoch_phase I)) K (with_checkpoint s) W W
  done fits =
      let q = lines s I in
      record {
        recovers = new K (length-replay (O ++ (F ++ epoch_phase I)) I₀ ∙ sym (length-replay O I₀)) (replay_small (O ++ (F ++ epoch_phase I)) I₀ held) (epoch_after fits)
            (λ k h x. after k h ∙ before_same s I k (inl (omega arith)))
            (λ i h. after (inactive_line I + i) (omega arith) ∙ before_states s I i big h)
            pairs_after
            (λ i x h k. main_after i x h k ∙ inv.working i x h k);
        working = λ i x h k. main_after i x h k ∙ inv.working i x h k;
        low = λ i e. absurd (true≢false (sym e ∙ checkpoint_segment_lem s i));
        moved = λ i e. absurd (true≢false (sym e ∙ checkpoint_segment_lem s i));
        clean = λ i x h k e. refl;
        twin = λ i j x h m k e d. backup_after j x m k
            ∙ inv.twin i j x h m k (sym (pairs_after j (omega (arith, inv.recovers.fit.sizes.1))) ∙ e) (sym (checkpoint_block_lem s i (x / 256)) ∙ d) ∙ sym (main_after i x h k);
        blank = λ i x h k e d. main_after i x h k
            ∙ inv.blank i x h k (next_initial (active_state I i) _ (sym (next_state_lem fits i (omega (arith, inv.recovers.fit.sizes.0))) ∙ e)).0 (sym (checkpoint_block_lem s i (x / 256)) ∙ d);
        firm_meta = settled_all;
        firm_segment = λ i x h k e. settle _ (omega arith) (settled_main i x h k);
        firm_clean = λ i x h k d. settle _ (omega arith) (settled_main i x h k);
        firm_backup = λ j x h k. settle _ (omega arith) (settled_backup j x h k);
      }

  -- the epoch is raised by 1
  pub checkpoint_epoch : suc (committed_epoch I) < 2 ^ 64 → committed_epoch (replay (O ++ C) I₀) ≡ suc (committed_epoch I)
  checkpoint_epoch fits = subst (λ (Y : Ops). committed_epoch (replay (O ++ Y) I₀) ≡ suc (committed_epoch I)) (sym (checkpoint_phases s I)) (epoch_after fits)

  -- the states are the next ones
  pub checkpoint_states : suc (committed_epoch I) < 2 ^ 64 → (i : ℕ) → i < 64 → active_state (replay (O ++ C) I₀) i ≡ next_state (active_state I i) (dirty_segment s i)
  unfolding dirty_segment
  checkpoint_states fits i h = subst (λ (Y : Ops). active_state (replay (O ++ Y) I₀) i ≡ next_states s.dirty_segments (active_state I) i) (sym (checkpoint_phases s I)) (next_state_lem fits i h)

  -- the pairs stay
  pub checkpoint_pairs : (j : ℕ) → j < 64 → backup_to_main (replay (O ++ C) I₀) j ≡ backup_to_main I j
  checkpoint_pairs j h = subst (λ (Y : Ops). backup_to_main (replay (O ++ Y) I₀) j ≡ backup_to_main I j) (sym (checkpoint_phases s I)) (pairs_after j h)

  -- PLAYED WHOLE: the invariant, with the working contents as the checkpoint
  pub checkpoint_done : suc (committed_epoch I) < 2 ^ 64 → Invariant lay (O ++ C) (replay (O ++ C) I₀) (with_checkpoint s) W W
  checkpoint_done fits = subst (λ (Y : Ops). Invariant lay (O ++ Y) (replay (O ++ Y) I₀) (with_checkpoint s) W W) (sym (checkpoint_phases s I)) (done fits)
