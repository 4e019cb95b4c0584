-- Copy on write, crashed: in its first part and while the state becomes 2 it leaves what recovers to the same contents.
use Prim.Native.Nat.{ℕ, zero, suc, ◌+◌, ◌/◌, ◌%◌, ◌≤◌, ◌<◌}
use mathlib.Core.Path.{◌≡◌, sym, ap, ◌∙◌, subst}
use mathlib.Core.Logic.{◌≢◌, ◌⊎◌, inl, inr, ⊎_elim}
use mathlib.Core.List.{[], ◌∷◌, ◌++◌}
use native.Mathlib.Omega.{arith}
use lib.ListN.{length, take}
use Rattle.model.specs.declared.Layout.{Layout}
use Rattle.model.specs.declared.Session.{Session}
use Rattle.model.specs.Words.{Image, byte_at, Bytes}
use Rattle.model.specs.Layout.{segment_size, main_at, backup_at}
use Rattle.model.specs.Container.{active_state, committed_epoch, active_line, backup_to_main}
use Rattle.model.specs.Ops.{clwb, sfence, Ops, apply, replay, word_place, store_byte}
use Rattle.model.specs.Crash.{AgreeOn, CrashImage}
use Rattle.model.proofs.Laws.Words.{overlay_same, overlay_other}
use Rattle.model.proofs.Argument.Persist.{Misses, Clear, each_take, length-replay, replay_clear, replay_append}
use Rattle.model.proofs.Argument.Phases.{state_phase}
use Rattle.model.proofs.Argument.Settled.{Settled, stage_held, crash_byte, crash_bytes, local_crash, stage_one}
use Rattle.model.proofs.Laws.Layout.{metadata_inside, apart, state_line_low, state_line_high, state_line_whole}
use Rattle.model.proofs.Argument.View.{Recoverable, recoverable_alike, recovers_at, fit_cong, epoch_cong}
use Rattle.model.proofs.Argument.GivenBackup.{holds_given}
use Rattle.model.proofs.Argument.Holds.{Contents}
use Rattle.model.proofs.Argument.Invariant.{firm_own}
use Rattle.model.proofs.Argument.Copy.Byte.{with_byte, byte_stored}
use Rattle.model.proofs.Argument.Copy.FirstPart.{Given, Copying}

module _ {l : Layout} {O : Ops} {I₀ : Image} {s : Session} {P W : Contents} {i j : ℕ} {A : Ops} (cow : Copying l O I₀ s P W i j A) where
  abbrev I : Image
  I = replay O I₀

  abbrev Z : Ops
  Z = state_phase I i

  abbrev active : ℕ
  active = active_line I

  -- where the active line stands
  pub line : (128 ≤ active) × (active ≤ 192) × (active % 64 ≡ 0)
  line = (state_line_low (committed_epoch I), state_line_high (committed_epoch I), state_line_whole (committed_epoch I))

  small : Bytes I
  small = cow.inv.recovers.fit.bytes

  pub i64 : i < 64
  i64 = omega (arith, cow.givable.main, cow.inv.recovers.fit.sizes.0)

  big : 512 ≤ length I
  big = omega (arith, cow.inv.recovers.fit.long, metadata_inside l)

  pub state_clear : (k : ℕ) → (k < 128) ⊎ (256 ≤ k) → Clear k Z
  state_clear k (inl h) = ((λ x y. omega (arith, line)), tt)
  state_clear k (inr h) = ((λ x y. omega (arith, i64, line)), tt)

  pub main_clear : (u x : ℕ) → u < l.mains → x < segment_size l → Clear (main_at l u + x) A
  main_clear u x h k = cow.ready.clear _ (inr (omega arith, apart l (l.mains + j) u (main_at l u + x) (omega arith) (omega arith) (omega arith)))

  pub backup_clear : (t x : ℕ) → x < segment_size l → t ≢ j → Clear (backup_at l t + x) A
  backup_clear t x k e = cow.ready.clear _ (inr (omega arith, apart l (l.mains + j) (l.mains + t) _ (λ q. e (omega arith)) (omega arith) (omega arith)))

  pub own_page : (x : ℕ) → x < segment_size l → byte_at I (main_at l i + x) ≡ P i x
  own_page x k = cow.inv.recovers.holds.own i x cow.givable.main k cow.givable.holds

  -- an image with the pair given, and main segment i in state 1 with its bytes or in state 2 with the backup's
  pub given : (H : Image) → length H ≡ length I → Bytes H
      → ((k : ℕ) → Settled (k / 64) O → (k < 128) ⊎ (320 ≤ k) → Clear k A → byte_at H k ≡ byte_at I k)
      → ((u : ℕ) → u < 64 → u ≢ i → byte_at H (active + u) ≡ active_state I u)
      → Given I i j H
      → ((byte_at H (active + i) ≡ 1) × ((x : ℕ) → x < segment_size l → byte_at H (main_at l i + x) ≡ P i x))
      ⊎ ((byte_at H (active + i) ≡ 2) × ((x : ℕ) → x < segment_size l → byte_at H (backup_at l j + x) ≡ P i x))
      → Recoverable l H P
  given H long bytes same states pairs turn =
      recovers_at l H P (committed_epoch I) (epoch_cong I H (λ k h. same k (cow.inv.firm_meta k (omega arith)) (inl (omega arith)) (cow.ready.clear k (inl (omega arith)))))
      (fit_cong l I H long bytes (λ k h x. same k (cow.inv.firm_meta k (omega arith)) (inl (omega arith)) (cow.ready.clear k (inl (omega arith)))) cow.inv.recovers.fit)
      (holds_given l cow.inv.recovers.fit.sizes (active_state I) (backup_to_main I) (byte_at I) _ _ _ P i j cow.givable cow.inv.recovers.holds states pairs.0 pairs.1
      (λ u x h k ne e. same _ (firm_own cow.inv u x h k e) (inr (omega arith)) (main_clear u x h k))
      (λ u t x h m k ne e d. same _ (cow.inv.firm_backup t x m k) (inr (omega arith)) (backup_clear t x k ne))
      turn)

  -- CRASHED in the first part
  pub copy_crash : (p : ℕ) (H : Image) → CrashImage I₀ (O ++ take p A) H → Recoverable l H P
  copy_crash p H c = ⊎_elim
      (λ old. recoverable_alike l I H P (record {
        long = long;
        bytes = crash_bytes c cow.held;
        epochs = λ k h. low k (omega arith);
        header = λ k h x. low k (omega arith);
        states = λ u h. low (active + u) (omega (arith, line));
        pairs = old;
        owns = λ u x h k e. same _ (firm_own cow.inv u x h k e) (main_clear u x h k);
        backups = λ u t x h m k e d. same _ (cow.inv.firm_backup t x m k) (backup_clear t x k (λ q. cow.givable.free u h (subst (λ (w : ℕ). backup_to_main I w ≡ u) q d) e));
      }) cow.inv.recovers)
      (λ new. given H long (crash_bytes c cow.held) (λ k g w x. same k g x)
      (λ u h ne. low (active + u) (omega (arith, line))) new
      (inl (
        low (active + i) (omega (arith, i64, line)) ∙ cow.givable.holds,
        λ x k. same _ (firm_own cow.inv i x cow.givable.main k cow.givable.holds) (main_clear i x cow.givable.main k) ∙ own_page x k,
      )))
      (cow.ready.part p H (local_crash 4 I₀ H O (take p A) (cow.inv.firm_meta 256 (omega arith)) (c.lines 4)))
    where
      long : length H ≡ length I
      long = c.long ∙ sym (length-replay O I₀)

      same : (k : ℕ) → Settled (k / 64) O → Clear k A → byte_at H k ≡ byte_at I k
      same k g x = crash_byte I₀ H O (take p A) k g (each_take (Misses k) p A x) (c.lines (k / 64))

      low : (k : ℕ) → k < 256 → byte_at H k ≡ byte_at I k
      low k h = same k (cow.inv.firm_meta k (omega arith)) (cow.ready.clear k (inl h))

  -- the image after the first part
  abbrev B : Image
  B = replay A I

  glue : (k : ℕ) → byte_at (replay (O ++ A) I₀) k ≡ byte_at B k
  glue k = ap (λ (X : Image). byte_at X k) (replay_append O A I₀)

  pub low_B : (k : ℕ) → k < 256 → byte_at B k ≡ byte_at I k
  low_B k h = replay_clear A I k (cow.ready.clear k (inl h))

  pub stored : (k : ℕ) → byte_at (apply (store_byte I (active + i) 2) B) k ≡ with_byte B (active + i) 2 k
  stored k = byte_stored I B (active + i) 2 k small (omega arith)
      (omega (arith, length-replay A I, big, i64, line))
      (λ m x y. low_B m (omega (arith, i64, line)))

  line_of : (u : ℕ) → u < 64 → (active + u) / 64 ≡ active / 64
  line_of u h = omega (arith, line)

  -- CRASHED in the second part
  pub state_crash : (m : ℕ) (H : Image) → CrashImage I₀ ((O ++ A) ++ take m Z) H → Recoverable l H P
  state_crash m H c = go m c
    where
      long : length H ≡ length I
      long = c.long ∙ sym (length-replay O I₀)

      after : (k : ℕ) → Settled (k / 64) O → (k < 128) ⊎ (256 ≤ k) → byte_at H k ≡ byte_at B k
      after k g w = crash_byte I₀ H (O ++ A) (take m Z) k (cow.ready.keeps (k / 64) O g) (each_take (Misses k) m Z (state_clear k w)) (c.lines (k / 64)) ∙ glue k

      same : (k : ℕ) → Settled (k / 64) O → (k < 128) ⊎ (320 ≤ k) → Clear k A → byte_at H k ≡ byte_at I k
      same k g w x = after k g (⊎_elim inl (λ h. inr (omega arith)) w) ∙ replay_clear A I k x

      pair : (t : ℕ) → t < 64 → backup_to_main H t ≡ backup_to_main B t
      pair t h = after (256 + t) (cow.inv.firm_meta (256 + t) (omega arith)) (inr (omega arith))

      pairs : Given I i j H
      pairs = (pair j (omega (arith, cow.givable.below, cow.inv.recovers.fit.sizes.1)) ∙ cow.ready.paired.0, λ t h ne. pair t h ∙ cow.ready.paired.1 t h ne)

      own : (x : ℕ) → x < segment_size l → byte_at H (main_at l i + x) ≡ P i x
      own x k = same _ (firm_own cow.inv i x cow.givable.main k cow.givable.holds) (inr (omega arith)) (main_clear i x cow.givable.main k) ∙ own_page x k

      copied : (x : ℕ) → x < segment_size l → byte_at H (backup_at l j + x) ≡ P i x
      copied x k = after _ (cow.inv.firm_backup j x cow.givable.below k) (inr (omega arith)) ∙ cow.ready.copy x k ∙ own_page x k

      old : AgreeOn (active / 64) H (replay (O ++ A) I₀) → Recoverable l H P
      old eq = given H long (crash_bytes c cow.held) same
          (λ u h ne. eq (active + u) (line_of u h) ∙ glue (active + u) ∙ low_B (active + u) (omega (arith, line))) pairs
          (inl (eq (active + i) (line_of i i64) ∙ glue (active + i) ∙ low_B (active + i) (omega (arith, i64, line)) ∙ cow.givable.holds, own))

      new : AgreeOn (active / 64) H (apply (store_byte I (active + i) 2) B) → Recoverable l H P
      new eq = given H long (crash_bytes c cow.held) same
          (λ u h ne. eq (active + u) (line_of u h) ∙ stored (active + u) ∙ overlay_other (byte_at B) (active + i) 2 (active + u) (omega arith) ∙ low_B (active + u) (omega (arith, line))) pairs
          (inr (eq (active + i) (line_of i i64) ∙ stored (active + i) ∙ overlay_same (byte_at B) (active + i) 2, copied))

      firm : Settled (active / 64) (O ++ A)
      firm = cow.ready.keeps (active / 64) O (cow.inv.firm_meta active (omega (arith, line)))

      go : (m : ℕ) → CrashImage I₀ ((O ++ A) ++ take m Z) H → Recoverable l H P
      go zero c = old (stage_held (local_crash (active / 64) I₀ H (O ++ A) [] firm (c.lines (active / 64))))
      go (suc m) c = ⊎_elim old (λ eq. new (λ k e. eq k e ∙ ap (λ (X : Image). byte_at (apply (store_byte I (active + i) 2) X) k) (replay_append O A I₀)))
          (stage_one (active / 64) (replay (O ++ A) I₀) H [] (take m (clwb active ∷ sfence ∷ [])) (word_place (active + i)) _ (λ k e. tt)
          (λ k e. each_take (Misses k) m (clwb active ∷ sfence ∷ []) tt)
          (local_crash (active / 64) I₀ H (O ++ A) (take (suc m) Z) firm (c.lines (active / 64))))
