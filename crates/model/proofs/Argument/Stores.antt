-- Stores into one main segment, of which recovery needs nothing: no stage of them matters to it (`stores_crash`), and played whole they
-- leave the invariant for every session that knows of them (`stores_done`). A write's span and a discard are such stores.
use Prim.Native.Nat.{ℕ, ◌+◌, ◌-◌, ◌/◌, ◌≤◌, ◌<◌}
use mathlib.Core.Path.{◌≡◌, refl, sym, ap, ◌∙◌, subst}
use mathlib.Core.Logic.{◌≢◌, ◌⊎◌, inl, inr}
use mathlib.Core.Bool.{true, false}
use mathlib.Core.List.{◌++◌}
use native.Mathlib.Decide.{ℕ_discrete}
use native.Mathlib.Omega.{arith}
use lib.ListN.{length, take}
use Rattle.model.specs.declared.Layout.{Layout}
use Rattle.model.specs.declared.Session.{Session}
use Rattle.model.specs.Words.{Image, byte_at, Bytes}
use Rattle.model.specs.Layout.{segment_size, main_at, backup_at}
use Rattle.model.specs.Container.{active_state, committed_epoch, active_line}
use Rattle.model.specs.Session.{dirty_segment, dirty_block}
use Rattle.model.specs.Ops.{Ops, replay}
use Rattle.model.specs.Crash.{CrashImage}
use Rattle.model.proofs.Laws.Layout.{apart, state_line_high}
use Rattle.model.proofs.Argument.Persist.{Misses, Clear, each_take, length-replay, replay_clear, replay_append, replay_small}
use Rattle.model.proofs.Argument.Settled.{Settled, Off, crash_byte, crash_bytes, settled_more}
use Rattle.model.proofs.Argument.View.{Recoverable, Alike, recoverable_alike, alike_state}
use Rattle.model.proofs.Argument.Holds.{Contents}
use Rattle.model.proofs.Argument.Invariant.{Invariant, firm_own}

-- outside main segment i
abbrev pub Outside : Layout → ℕ → ℕ → Type 0
Outside l i k = (k < main_at l i) ⊎ (main_at l i + segment_size l ≤ k)

-- ---- stores E into main segment i, and none into it if it holds its checkpoint

module _ (l : Layout) (O : Ops) (I₀ : Image) (s : Session) (P W : Contents) (held : Bytes I₀) (inv : Invariant l O (replay O I₀) s P W)
    (i : ℕ) (hi : i < l.mains) (E : Ops) (within : (k : ℕ) → Outside l i k → Clear k E)
    (own : active_state (replay O I₀) i ≡ 1 → (x : ℕ) → Clear (main_at l i + x) E) where
  abbrev I : Image
  I = replay O I₀

  -- the lines that E leaves alone: those outside the segment,
  outside_off : (m : ℕ) → Outside l i m → Off (m / 64) E
  outside_off m (inl h) k e = within k (inl (omega arith))
  outside_off m (inr h) k e = within k (inr (omega arith))

  -- of other segments,
  other_off : (u x : ℕ) → x < segment_size l → u ≢ i → Off ((main_at l u + x) / 64) E
  other_off u x h q = outside_off (main_at l u + x) (apart l i u (main_at l u + x) (λ e. q (sym e)) (omega arith) (omega arith))

  -- of the metadata,
  meta_off : (k : ℕ) → k < 512 → Off (k / 64) E
  meta_off k h = outside_off k (inl (omega arith))

  -- of backup segments,
  backup_off : (j x : ℕ) → x < segment_size l → Off ((backup_at l j + x) / 64) E
  backup_off j x h = other_off (l.mains + j) x h (omega arith)

  -- and in it those of a block that is left alone
  block_off : (x : ℕ) → ((y : ℕ) → y / 256 ≡ x / 256 → Clear (main_at l i + y) E) → Off ((main_at l i + x) / 64) E
  block_off x h k e =
      let n : main_at l i + (k - main_at l i) ≡ k = omega arith in
      subst (λ (m : ℕ). Clear m E) n (h (k - main_at l i) (omega arith))

  -- both, for any main segment
  main_off : (u x : ℕ) → x < segment_size l → (u ≡ i → (y : ℕ) → y / 256 ≡ x / 256 → Clear (main_at l i + y) E) → Off ((main_at l u + x) / 64) E
  main_off u x h q = go (ℕ_discrete u i)
    where
      go : Dec (u ≡ i) → Off ((main_at l u + x) / 64) E
      go (yes e) = subst (λ (w : ℕ). Off ((main_at l w + x) / 64) E) (sym e) (block_off x (q e))
      go (no e) = other_off u x h e

  -- an image that keeps what E leaves alone is recoverable to the same
  stores_alike : (H : Image) → length H ≡ length I → Bytes H → ((k : ℕ) → Clear k E → Settled (k / 64) O → byte_at H k ≡ byte_at I k) → Alike l I H
  stores_alike H long small same = record {
    long = long;
    bytes = small;
    epochs = λ k h. low k (omega arith);
    header = λ k h x. low k (omega arith);
    states = λ u h. low (active_line I + u) (omega (arith, state_line_high (committed_epoch I)));
    pairs = λ j h. low (256 + j) (omega arith);
    owns = λ u x h k e. same _ (main_off u x k (λ q y z. own (subst (λ (w : ℕ). active_state I w ≡ 1) q e) y) _ refl) (firm_own inv u x h k e);
    backups = λ u j x h m k e d. same _ (backup_off j x k _ refl) (inv.firm_backup j x m k);
  }
    where
      low : (k : ℕ) → k < 512 → byte_at H k ≡ byte_at I k
      low k h = same k (meta_off k h k refl) (inv.firm_meta k h)

  -- CRASHED: the same contents
  pub stores_crash : (p : ℕ) (H : Image) → CrashImage I₀ (O ++ take p E) H → Recoverable l H P
  stores_crash p H x = recoverable_alike l I H P
      (stores_alike H (x.long ∙ sym (length-replay O I₀)) (crash_bytes x held)
      (λ k q t. crash_byte I₀ H O (take p E) k t (each_take (Misses k) p E q) (x.lines (k / 64))))
      inv.recovers

  -- the session s' afterwards: what it has as clean was clean, and E leaves it alone; and the working contents W'
  module _ (s' : Session) (low : (u : ℕ) → dirty_segment s' u ≡ true → u < l.mains)
      (moved : (u : ℕ) → dirty_segment s' u ≡ true → active_state (replay O I₀) u ≢ 1)
      (segments : (u : ℕ) → dirty_segment s' u ≡ false → (dirty_segment s u ≡ false) × (u ≡ i → (x : ℕ) → Clear (main_at l i + x) E))
      (blocks : (u b : ℕ) → dirty_block s' u b ≡ false
      → (dirty_block s u b ≡ false) × (u ≡ i → (x : ℕ) → x / 256 ≡ b → Clear (main_at l i + x) E))
      (W' : Contents)
      (worked : (u x : ℕ) → u < l.mains → x < segment_size l → byte_at (replay E (replay O I₀)) (main_at l u + x) ≡ W' u x) where
    abbrev K : Image
    K = replay (O ++ E) I₀

    -- what E makes of the image
    joined : (k : ℕ) → byte_at K k ≡ byte_at (replay E I) k
    joined k = ap (λ (J : Image). byte_at J k) (replay_append O E I₀)

    -- a byte that is not stored to, and so the states
    kept : (k : ℕ) → Clear k E → byte_at K k ≡ byte_at I k
    kept k h = joined k ∙ replay_clear E I k h

    alike : Alike l I K
    alike = stores_alike K (length-replay (O ++ E) I₀ ∙ sym (length-replay O I₀)) (replay_small (O ++ E) I₀ held) (λ k q t. kept k q)

    st : (u : ℕ) → u < l.mains → active_state K u ≡ active_state I u
    st u h = alike_state l I K alike u (omega (arith, inv.recovers.fit.sizes.0))

    -- what is clean afterwards is left alone, and settled lines that are stay settled
    segment_off : (u x : ℕ) → x < segment_size l → dirty_segment s' u ≡ false → Off ((main_at l u + x) / 64) E
    segment_off u x k e = main_off u x k (λ q y z. (segments u e).1 q y)

    clean_off : (u x : ℕ) → x < segment_size l → dirty_block s' u (x / 256) ≡ false → Off ((main_at l u + x) / 64) E
    clean_off u x k e = main_off u x k (blocks u (x / 256) e).1

    settle : (m : ℕ) → Off (m / 64) E → Settled (m / 64) O → Settled (m / 64) (O ++ E)
    settle m q t = settled_more (m / 64) O E t q

    -- PLAYED WHOLE: the working contents become W'
    pub stores_done : Invariant l (O ++ E) (replay (O ++ E) I₀) s' P W'
    stores_done = record {
      recovers = recoverable_alike l I K P alike inv.recovers;
      working = λ u x h k. joined _ ∙ worked u x h k;
      low = low;
      moved = λ u e q. moved u e (sym (st u (low u e)) ∙ q);
      clean = λ u x h k e. sym (worked u x h k) ∙ replay_clear E I _ (segment_off u x k e _ refl) ∙ inv.working u x h k ∙ inv.clean u x h k (segments u e).0;
      twin = λ u j x h m k e d.
          kept _ (backup_off j x k _ refl)
          ∙ inv.twin u j x h m k (sym (alike.pairs j (omega (arith, inv.recovers.fit.sizes.1))) ∙ e) (blocks u (x / 256) d).0
          ∙ sym (kept _ (clean_off u x k d _ refl));
      blank = λ u x h k e d. kept _ (clean_off u x k d _ refl) ∙ inv.blank u x h k (sym (st u h) ∙ e) (blocks u (x / 256) d).0;
      firm_meta = λ k h. settle k (meta_off k h) (inv.firm_meta k h);
      firm_segment = λ u x h k e. settle _ (segment_off u x k e) (inv.firm_segment u x h k (segments u e).0);
      firm_clean = λ u x h k d. settle _ (clean_off u x k d) (inv.firm_clean u x h k (blocks u (x / 256) d).0);
      firm_backup = λ j x h k. settle _ (backup_off j x k) (inv.firm_backup j x h k);
    }
