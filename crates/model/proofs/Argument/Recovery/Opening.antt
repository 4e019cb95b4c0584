-- An opening is recovery by the active line: crashed it leaves what recovers to the same contents, played whole it leaves the
-- invariant, at the start of a history and in its course.
use Prim.Native.Nat.{ℕ, ◌+◌, ◌-◌, ◌/◌, ◌<◌}
use mathlib.Core.Path.{◌≡◌, refl, sym, ◌∙◌, subst}
use mathlib.Core.Bool.{true≢false}
use mathlib.Core.List.{[], ◌++◌}
use native.Mathlib.Decide.{ℕ_discrete}
use native.Mathlib.Omega.{arith}
use lib.ListN.{take}
use Rattle.model.specs.declared.Layout.{Layout}
use Rattle.model.specs.declared.Session.{Session}
use Rattle.model.specs.Range.{cat}
use Rattle.model.specs.Words.{Image, byte_at, Bytes}
use Rattle.model.specs.Layout.{segment_size, main_at, backup_at}
use Rattle.model.specs.Container.{active_state, committed_epoch, active_line}
use Rattle.model.specs.Session.{fresh_session}
use Rattle.model.specs.Ops.{Ops, replay}
use Rattle.model.specs.Open.{recovery_ops}
use Rattle.model.specs.Crash.{CrashImage}
use Rattle.model.proofs.Argument.Persist.{Clear, replay_append}
use Rattle.model.proofs.Argument.Settled.{Settled, settles_fence}
use Rattle.model.proofs.Laws.Session.{fresh_segment}
use Rattle.model.proofs.Argument.View.{Recoverable, Alike, recoverable_alike, alike_state}
use Rattle.model.proofs.Argument.Holds.{Contents}
use Rattle.model.proofs.Argument.Invariant.{Invariant, firm_own}
use Rattle.model.proofs.Argument.Recovery.Segment.{turn}
use Rattle.model.proofs.Argument.Recovery.{settled_nil, StatesLine, Needed, recovery_clear, recovery_shows, recovery_alike, crash_alike, crash_alone, backup_shows, turns_flushed, recovery_keeps, meta, own, kept}

-- ---- an opening: recovery by the active line

module _ (l : Layout) (I : Image) (P : Contents) (r : Recoverable l I P) where
  abbrev line : ℕ
  line = active_line I

  abbrev whole : StatesLine (active_line I)
  whole = (committed_epoch I, refl)

  -- what no opening stores to
  abbrev pub OpenNeeds : ℕ → Type 0
  OpenNeeds k = Needed l line whole I P r k

  abbrev K : Image
  K = replay (recovery_ops l I line) I

  pub open_clear : (k : ℕ) → OpenNeeds k → Clear k (recovery_ops l I (active_line I))
  open_clear = recovery_clear l line whole I P r

  -- CRASHED: what stands recovers to the same contents
  pub open_crash : (p : ℕ) (H : Image) → CrashImage I (take p (recovery_ops l I (active_line I))) H → Recoverable l H P
  open_crash p H c = recoverable_alike l I H P (crash_alone l line whole I P r p H c) r

  alike : Alike l I K
  alike = recovery_alike l line whole I P r

  shows : (i x : ℕ) → i < l.mains → x < segment_size l → byte_at K (main_at l i + x) ≡ P i x
  shows = recovery_shows l line whole I P r

  -- the invariant after an opening whose lines are settled
  pub opened : (d : ℕ) (O : Ops) → ((i : ℕ) → i < 512 → Settled (i / 64) O)
      → ((i x : ℕ) → i < l.mains → x < segment_size l → Settled ((main_at l i + x) / 64) O)
      → ((j x : ℕ) → j < l.backups → x < segment_size l → Settled ((backup_at l j + x) / 64) O)
      → Invariant l O (replay (recovery_ops l I (active_line I)) I) (fresh_session l d) P P
  opened d O firm-meta firm-segment firm-backup = record {
    recovers = recoverable_alike l I K P alike r;
    working = shows;
    low = λ i e. absurd (true≢false (sym e ∙ fresh_segment l d i));
    moved = λ i e. absurd (true≢false (sym e ∙ fresh_segment l d i));
    clean = λ i x h k e. refl;
    twin = λ i j x h m k e d. backup_shows l line whole I P r i j x h m k (sym (alike.pairs j (omega (arith, r.fit.sizes.1))) ∙ e) ∙ sym (shows i x h k);
    blank = λ i x h k e d. shows i x h k ∙ r.holds.initial i x h k (sym (alike_state l I K alike i (omega (arith, r.fit.sizes.0))) ∙ e);
    firm_meta = firm-meta;
    firm_segment = λ i x h k e. firm-segment i x h k;
    firm_clean = λ i x h k m. firm-segment i x h k;
    firm_backup = firm-backup;
  }

  -- the start of a history: all is durable
  pub opened_durable : (d : ℕ) → Invariant l [] (replay (recovery_ops l I (active_line I)) I) (fresh_session l d) P P
  opened_durable d = opened d [] (λ i h. settled_nil (i / 64)) (λ i x h k. settled_nil _) (λ j x h k. settled_nil _)

-- ---- an opening in the course of a history

module _ (l : Layout) (O : Ops) (I₀ : Image) (s : Session) (P W : Contents) (held : Bytes I₀) (inv : Invariant l O (replay O I₀) s P W) where
  abbrev I : Image
  I = replay O I₀

  abbrev G : Ops
  G = recovery_ops l I (active_line I)

  abbrev rec : Recoverable l I P
  rec = inv.recovers

  firm_needed : (k : ℕ) → OpenNeeds l I P rec k → Settled (k / 64) O
  firm_needed k (meta h) = inv.firm_meta k h
  firm_needed k (own i h e x y) = let q : main_at l i + (k - main_at l i) ≡ k = omega arith in
      subst (λ (m : ℕ). Settled (m / 64) O) q (firm_own inv i (k - main_at l i) h (omega arith) e)
  firm_needed k (kept i j h b e d x y) = let q : backup_at l j + (k - backup_at l j) ≡ k = omega arith in
      subst (λ (m : ℕ). Settled (m / 64) O) q (inv.firm_backup j (k - backup_at l j) b (omega arith))

  pub reopen_crash : (p : ℕ) (H : Image) → CrashImage I₀ (O ++ take p G) H → Recoverable l H P
  reopen_crash p H c = recoverable_alike l I H P
      (crash_alike l (active_line I) (committed_epoch I, refl) I P rec I₀ O refl held firm_needed p H c) rec

  firm_main : (i x : ℕ) → i < l.mains → x < segment_size l → Settled ((main_at l i + x) / 64) (O ++ G)
  firm_main i x h k = go (ℕ_discrete (active_state I i) 1)
    where
      ℓ : ℕ
      ℓ = (main_at l i + x) / 64

      go : Dec (active_state I i ≡ 1) → Settled ((main_at l i + x) / 64) (O ++ G)
      go (yes e) = recovery_keeps l (active_line I) I ℓ O (firm_own inv i x h k e)
      go (no e) = unfold recovery_ops in (settles_fence ℓ (cat l.mains (turn l (active_line I) I))
          (turns_flushed l (active_line I) (committed_epoch I, refl) I P rec i ℓ h e (omega arith) (omega arith)) O)

  pub reopen_done : (d : ℕ) → Invariant l (O ++ G) (replay (O ++ G) I₀) (fresh_session l d) P P
  reopen_done d = subst (λ (X : Image). Invariant l (O ++ G) X (fresh_session l d) P P) (sym (replay_append O G I₀))
      (opened l I P rec d (O ++ G) (λ i h. recovery_keeps l (active_line I) I (i / 64) O (inv.firm_meta i h)) firm_main
      (λ j x h k. recovery_keeps l (active_line I) I _ O (inv.firm_backup j x h k)))
