-- Copy on write, played whole: the checkpoint of a main segment in state 1 comes to stand in a backup segment too, then its
-- state becomes 2, and the invariant holds with none of its blocks dirty.
pub mod Byte
pub mod FirstPart
pub mod NewBackup
pub mod OwnBackup
pub mod Crash
use Prim.Native.Nat.{ℕ, ◌+◌, ◌/◌, ◌≤◌, ◌<◌}
use mathlib.Core.Path.{◌≡◌, refl, sym, ap, ◌∙◌, subst}
use mathlib.Core.Logic.{◌≢◌, ◌⊎◌, inl, inr, ⊎_elim}
use mathlib.Core.Bool.{true, false}
use mathlib.Core.List.{[], ◌∷◌, ◌++◌}
use native.Mathlib.Decide.{ℕ_discrete}
use native.Mathlib.Omega.{arith}
use lib.ListN.{set}
use lib.Seq.{get_or-set_other}
use Rattle.model.specs.declared.Layout.{Layout}
use Rattle.model.specs.declared.Session.{Session}
use Rattle.model.specs.Words.{Image, byte_at}
use Rattle.model.specs.Layout.{state_line, segment_size, main_at, backup_at}
use Rattle.model.specs.Container.{active_state, committed_epoch, active_line, backup_to_main}
use Rattle.model.specs.Session.{dirty_segment, dirty_block}
use Rattle.model.specs.Ops.{clwb, Ops, apply, replay, store_byte}
use Rattle.model.proofs.Laws.Words.{overlay_same, overlay_other}
use Rattle.model.proofs.Argument.Persist.{length-replay, replay_clear, replay_append, replay_small}
use Rattle.model.proofs.Argument.Phases.{state_phase}
use Rattle.model.proofs.Argument.Settled.{Settled, Keeps, keeps_off, keeps_append, settles_fence}
use Rattle.model.proofs.Argument.View.{epoch_cong}
use Rattle.model.proofs.Argument.Holds.{Contents}
use Rattle.model.proofs.Argument.Invariant.{Invariant, firm_own}
use Rattle.model.proofs.Argument.Copy.Byte.{with_byte}
use Rattle.model.proofs.Argument.Copy.FirstPart.{Given, Copying}
use Rattle.model.proofs.Argument.Copy.Crash.{line, i64, main_clear, backup_clear, own_page, given, low_B, stored}

-- ---- the session with no dirty block in main segment i

abbrev pub unmarked : Session → ℕ → Session
unmarked s i = record { layout = s.layout; dirty_segments = s.dirty_segments; dirty_blocks = set s.dirty_blocks i 0; domain = s.domain }

-- a block that is not dirty then was not dirty before, or is of main segment i
unmarked_block : (s : Session) (i u f : ℕ) → dirty_block (unmarked s i) u f ≡ false → (u ≡ i) ⊎ (dirty_block s u f ≡ false)
unfolding dirty_block
unmarked_block s i u f e = go (ℕ_discrete u i)
  where
    go : Dec (u ≡ i) → (u ≡ i) ⊎ (dirty_block s u f ≡ false)
    go (yes q) = inl q
    go (no q) = inr (rw (sym (get_or-set_other s.dirty_blocks i u 0 0 q)) e)

-- ---- played whole

module _ {l : Layout} {O : Ops} {I₀ : Image} {s : Session} {P W : Contents} {i j : ℕ} {A : Ops} (cow : Copying l O I₀ s P W i j A) where
  abbrev I : Image
  I = replay O I₀

  abbrev Z : Ops
  Z = state_phase I i

  abbrev active : ℕ
  active = active_line I

  abbrev B : Image
  B = replay A I

  abbrev K : Image
  K = replay (O ++ (A ++ Z)) I₀

  K_is : (k : ℕ) → byte_at K k ≡ with_byte B (active + i) 2 k
  unfolding replay apply
  K_is k = ap (λ (X : Image). byte_at X k) (replay_append O (A ++ Z) I₀ ∙ replay_append A Z I) ∙ stored cow k

  K_same : (k : ℕ) → (k < 128) ⊎ (256 ≤ k) → byte_at K k ≡ byte_at B k
  K_same k (inl h) = K_is k ∙ overlay_other (byte_at B) (active + i) 2 k (omega (arith, line cow))
  K_same k (inr h) = K_is k ∙ overlay_other (byte_at B) (active + i) 2 k (omega (arith, i64 cow, line cow))

  pub pairs_given : Given I i j K
  pairs_given = (K_same (256 + j) (inr (omega arith)) ∙ cow.ready.paired.0, λ t h ne. K_same (256 + t) (inr (omega arith)) ∙ cow.ready.paired.1 t h ne)

  states_K : (u : ℕ) → u < 64 → u ≢ i → byte_at K (active + u) ≡ active_state I u
  states_K u h ne = K_is (active + u) ∙ overlay_other (byte_at B) (active + i) 2 (active + u) (omega arith) ∙ low_B cow (active + u) (omega (arith, line cow))

  main_K : (u x : ℕ) → u < l.mains → x < segment_size l → byte_at K (main_at l u + x) ≡ byte_at I (main_at l u + x)
  main_K u x h k = K_same _ (inr (omega arith)) ∙ replay_clear A I _ (main_clear cow u x h k)

  epoch_K : committed_epoch K ≡ committed_epoch I
  epoch_K = epoch_cong I K (λ k h. K_same k (inl (omega arith)) ∙ low_B cow k (omega arith))

  pub state_kept : (u : ℕ) → u < 64 → u ≢ i → active_state K u ≡ active_state I u
  state_kept u h ne = ap (λ (e : ℕ). byte_at K (state_line e + u)) epoch_K ∙ states_K u h ne

  pub state_two : active_state K i ≡ 2
  state_two = ap (λ (e : ℕ). byte_at K (state_line e + i)) epoch_K ∙ K_is (active + i) ∙ overlay_same (byte_at B) (active + i) 2

  -- every line cow that was settled still is
  firm_K : (ℓ : ℕ) → Settled ℓ O → Settled ℓ (O ++ (A ++ Z))
  firm_K ℓ g = keeps_append ℓ A Z (cow.ready.keeps ℓ) (go (ℕ_discrete ℓ (active / 64))) O g
    where
      go : Dec (ℓ ≡ active / 64) → Keeps ℓ Z
      go (yes e) = λ X gX. rw e (settles_fence (active / 64) (store_byte I (active + i) 2 ∷ clwb active ∷ [])
          (record { A = store_byte I (active + i) 2 ∷ []; C = []; p = active; place = refl; off = λ k e. tt; is = refl }) X)
      go (no e) = keeps_off ℓ Z (λ k q. ((λ x y. e (omega (arith, i64 cow, line cow))), tt))

  -- PLAYED WHOLE: the invariant, with main segment i in state 2 and none of its blocks dirty
  pub copy_done : Invariant l (O ++ (A ++ Z)) K (unmarked s i) P W
  copy_done = record {
    recovers = given cow K (length-replay (O ++ (A ++ Z)) I₀ ∙ sym (length-replay O I₀)) (replay_small (O ++ (A ++ Z)) I₀ cow.held)
        (λ k g w x. K_same k (⊎_elim inl (λ h. inr (omega arith)) w) ∙ replay_clear A I k x) states_K pairs_given
        (inr (K_is (active + i) ∙ overlay_same (byte_at B) (active + i) 2, λ x k. K_same _ (inr (omega arith)) ∙ cow.ready.copy x k ∙ own_page cow x k));
    working = λ u x h k. main_K u x h k ∙ cow.inv.working u x h k;
    low = low;
    moved = λ u e q. not_main u e q (ℕ_discrete u i);
    clean = λ u x h k e. cow.inv.clean u x h k (unfold dirty_segment in e);
    twin = λ u t x h m k e d. twin u t x h m k e d (ℕ_discrete t j);
    blank = λ u x h k e d. blank u x h k e d (ℕ_discrete u i);
    firm_meta = λ k h. firm_K _ (cow.inv.firm_meta k h);
    firm_segment = λ u x h k e. firm_K _ (cow.inv.firm_segment u x h k (unfold dirty_segment in e));
    firm_clean = λ u x h k d. firm_K _ (⊎_elim (λ e. subst (λ (w : ℕ). Settled ((main_at l w + x) / 64) O) (sym e) (firm_own cow.inv i x cow.givable.main k cow.givable.holds))
        (λ e. cow.inv.firm_clean u x h k e) (unmarked_block s i u (x / 256) d));
    firm_backup = λ t x h k. firm_K _ (cow.inv.firm_backup t x h k);
  }
    where
      m64 : l.mains ≤ 64
      m64 = cow.inv.recovers.fit.sizes.0.1

      b64 : l.backups ≤ 64
      b64 = cow.inv.recovers.fit.sizes.1.1

      same_dirty : (u : ℕ) → dirty_segment (unmarked s i) u ≡ true → dirty_segment s u ≡ true
      same_dirty u e = unfold dirty_segment in e

      low : (u : ℕ) → dirty_segment (unmarked s i) u ≡ true → u < l.mains
      low u e = cow.inv.low u (same_dirty u e)

      not_main : (u : ℕ) → dirty_segment (unmarked s i) u ≡ true → active_state K u ≡ 1 → Dec (u ≡ i) → ⊥
      not_main u e q (yes y) = cow.inv.moved u (same_dirty u e) (subst (λ (w : ℕ). active_state I w ≡ 1) (sym y) cow.givable.holds)
      not_main u e q (no y) = cow.inv.moved u (same_dirty u e) (sym (state_kept u (omega (arith, low u e, m64)) y) ∙ q)

      twin : (u t x : ℕ) → u < l.mains → t < l.backups → x < segment_size l → backup_to_main K t ≡ u → dirty_block (unmarked s i) u (x / 256) ≡ false → Dec (t ≡ j)
          → byte_at K (backup_at l t + x) ≡ byte_at K (main_at l u + x)
      twin u t x h m k e d (yes y) =
          let ui : u ≡ i = sym e ∙ subst (λ (w : ℕ). backup_to_main K w ≡ i) (sym y) pairs_given.0 in
          subst (λ (w : ℕ). byte_at K (backup_at l w + x) ≡ byte_at K (main_at l u + x)) (sym y)
          (subst (λ (w : ℕ). byte_at K (backup_at l j + x) ≡ byte_at K (main_at l w + x)) (sym ui)
          (K_same _ (inr (omega arith)) ∙ cow.ready.copy x k ∙ sym (main_K i x cow.givable.main k)))
      twin u t x h m k e d (no y) =
          let e' : backup_to_main I t ≡ u = sym (pairs_given.1 t (omega (arith, b64)) y) ∙ e in
          let d' : dirty_block s u (x / 256) ≡ false = ⊎_elim (λ q. absurd (cow.givable.sole t m y (e' ∙ q))) (λ q. q) (unmarked_block s i u (x / 256) d) in
          K_same _ (inr (omega arith)) ∙ replay_clear A I _ (backup_clear cow t x k y) ∙ cow.inv.twin u t x h m k e' d' ∙ sym (main_K u x h k)

      blank : (u x : ℕ) → u < l.mains → x < segment_size l → active_state K u ≡ 0 → dirty_block (unmarked s i) u (x / 256) ≡ false → Dec (u ≡ i) → byte_at K (main_at l u + x) ≡ 0
      blank u x h k e d (yes y) =
          let z : active_state K i ≡ 0 = subst (λ (w : ℕ). active_state K w ≡ 0) y e in
          let never : ⊥ = omega (arith, state_two) in absurd never
      blank u x h k e d (no y) = main_K u x h k
          ∙ cow.inv.blank u x h k (sym (state_kept u (omega (arith, m64)) y) ∙ e) (⊎_elim (λ q. absurd (y q)) (λ q. q) (unmarked_block s i u (x / 256) d))
