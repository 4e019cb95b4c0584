-- A flush that is left out: on every other line a crash may leave the same (`stage_less`), and where a line is settled and not stored to, no
-- flush of it counts. So flushes of settled lines may be left out (`crash_left_out`).
use Prim.Native.Nat.{ℕ, suc, ◌+◌, ◌-◌, ◌/◌, ◌≤◌, ◌<◌, max}
use mathlib.Core.Path.{◌≡◌, refl, sym, ap, ◌∙◌, subst, subst₂}
use mathlib.Core.Logic.{◌≢◌, ◌↔◌, ◌⊎◌, inl, inr, ⊎_elim}
use mathlib.Core.Bool.{Bool, true, false, true≢false, cond, ◌&&◌}
use mathlib.Core.List.{[], ◌∷◌, ◌++◌, append_assoc}
use native.Mathlib.Decide.{dec_le, dec_lt}
use native.Mathlib.Omega.{arith}
use borrow.Author.Tests.{ne_eqb}
use lib.Dec.{eqb}
use lib.ListN.{length, take, length-append}
use lib.Seq.{take-append-le, take-append-add}
use Rattle.model.specs.Words.{Image, byte_at}
use Rattle.model.specs.Layout.{line_size}
use Rattle.model.specs.Ops.{Op, store, clwb, sfence, Ops, apply, replay}
use Rattle.model.specs.Crash.{Stage, CrashImage}
use Rattle.model.specs.CrashExact.{has_fence, floor_from, floor}
use Rattle.model.specs.CleanSegments.{leave_out}
use Rattle.model.proofs.Argument.Persist.{replay_append}
use Rattle.model.proofs.Argument.Settled.{Settled, Off, local_crash, settled_more}
use Rattle.model.proofs.Laws.Crash.Floor.{floor_durable, durable_floor}
use Rattle.model.proofs.Laws.Crash.Images.{stage_after}
use Rattle.model.proofs.Laws.CleanSegments.{leave_out-replay, each_leave_out}

-- ---- one flush of another line

-- where one more operation comes before, a floor stays 0 or grows by 1
abbrev Later : ℕ → ℕ → ℕ → Type 0
Later n f g = ((f ≡ 0) × (g ≡ 0)) ⊎ ((n ≤ f) × (g ≡ suc f))

later_max : (b : Bool) (n f g : ℕ) → Later (suc n) f g → Later n (max (cond b n 0) f) (max (cond b (suc n) 0) g)
later_max true n f g (inl h) = inr (omega arith)
later_max true n f g (inr h) = inr (omega arith)
later_max false n f g (inl h) = inl (omega arith)
later_max false n f g (inr h) = inr (omega arith)

-- where it comes after a of them, the floor stays if it is not above a, and grows by 1 if it is not below
abbrev Moved : ℕ → ℕ → ℕ → Type 0
Moved a f g = ((g ≡ f) × (f ≤ a)) ⊎ ((g ≡ suc f) × (a ≤ f))

cond_most : (b : Bool) (n : ℕ) → cond b n 0 ≤ n
cond_most true n = omega arith
cond_most false n = omega arith

module _ (ℓ : ℕ) where
  floor_later : (n : ℕ) (O : Ops) → Later n (floor_from n ℓ O) (floor_from (suc n) ℓ O)
  unfolding floor_from
  floor_later n [] = inl (refl, refl)
  floor_later n (store q w ∷ O) = ⊎_elim inl (λ h. inr (omega arith)) (floor_later (suc n) O)
  floor_later n (sfence ∷ O) = ⊎_elim inl (λ h. inr (omega arith)) (floor_later (suc n) O)
  floor_later n (clwb q ∷ O) = later_max (eqb (q / line_size) ℓ && has_fence O) n _ _ (floor_later (suc n) O)

  module _ (p : ℕ) (other : p / line_size ≢ ℓ) where
    has_fence_less : (A B : Ops) → has_fence (A ++ clwb p ∷ B) ≡ has_fence (A ++ B)
    unfolding has_fence
    has_fence_less [] B = refl
    has_fence_less (store q w ∷ A) B = has_fence_less A B
    has_fence_less (clwb q ∷ A) B = has_fence_less A B
    has_fence_less (sfence ∷ A) B = refl

    -- the floor without the flush, and with it
    floor_less : (n : ℕ) (A B : Ops) → Moved (n + length A) (floor_from n ℓ (A ++ B)) (floor_from n ℓ (A ++ clwb p ∷ B))
    unfolding floor_from
    floor_less n [] B = rw (ne_eqb (p / line_size) ℓ other) (⊎_elim (λ h. inl (omega arith)) (λ h. inr (omega arith)) (floor_later n B))
    floor_less n (store q w ∷ A) B = ⊎_elim (λ h. inl (omega arith)) (λ h. inr (omega arith)) (floor_less (suc n) A B)
    floor_less n (sfence ∷ A) B = ⊎_elim (λ h. inl (omega arith)) (λ h. inr (omega arith)) (floor_less (suc n) A B)
    floor_less n (clwb q ∷ A) B =
        rw (has_fence_less A B)
        (let h = cond_most (eqb (q / line_size) ℓ && has_fence (A ++ B)) n in
        ⊎_elim (λ m. inl (omega arith)) (λ m. inr (omega arith)) (floor_less (suc n) A B))

    -- what is played is the same
    replay_less : (I : Image) (A B : Ops) (m : ℕ) → replay (take (length A + suc m) (A ++ clwb p ∷ B)) I ≡ replay (take (length A + m) (A ++ B)) I
    unfolding replay apply
    replay_less I A B m =
        ap (λ (X : Ops). replay X I) (take-append-add A (clwb p ∷ B) (suc m)) ∙ replay_append A (clwb p ∷ take m B) I
        ∙ sym (ap (λ (X : Ops). replay X I) (take-append-add A B m) ∙ replay_append A (take m B) I)

    replay_front : (I : Image) (A B : Ops) (k : ℕ) → k ≤ length A → replay (take k (A ++ clwb p ∷ B)) I ≡ replay (take k (A ++ B)) I
    replay_front I A B k h = ap (λ (X : Ops). replay X I) (take-append-le k A (clwb p ∷ B) h ∙ sym (take-append-le k A B h))

    -- so every stage of the line is one of both
    stage_less : (I H : Image) (A B : Ops) → Stage ℓ I (A ++ clwb p ∷ B) H → Stage ℓ I (A ++ B) H
    stage_less I H A B s = go (dec_le s.k (length A))
      where
        least : floor ℓ (A ++ clwb p ∷ B) ≤ s.k
        least = durable_floor ℓ (A ++ clwb p ∷ B) s.k s.durable

        go : Dec (s.k ≤ length A) → Stage ℓ I (A ++ B) H
        go (yes d) = record {
          k = s.k;
          within = omega (arith, length-append A B);
          durable = floor_durable ℓ (A ++ B) s.k (⊎_elim (λ h. omega (arith, least)) (λ h. omega (arith, least)) (floor_less 0 A B));
          agree = λ i e. s.agree i e ∙ ap (λ (J : Image). byte_at J i) (replay_front I A B s.k d);
        }
        go (no d) =
            let m : ℕ = s.k - suc (length A) in
            let e : s.k ≡ length A + suc m = omega arith in
            record {
              k = length A + m;
              within = omega (arith, s.within, length-append A (clwb p ∷ B), length-append A B);
              durable = floor_durable ℓ (A ++ B) (length A + m) (⊎_elim (λ h. omega (arith, least)) (λ h. omega (arith, least)) (floor_less 0 A B));
              agree = λ i q. s.agree i q ∙ ap (λ (n : ℕ). byte_at (replay (take n (A ++ clwb p ∷ B)) I) i) e ∙ ap (λ (J : Image). byte_at J i) (replay_less I A B m);
            }

    stage_more : (I H : Image) (A B : Ops) → Stage ℓ I (A ++ B) H → Stage ℓ I (A ++ clwb p ∷ B) H
    stage_more I H A B s = go (dec_lt s.k (length A))
      where
        least : floor ℓ (A ++ B) ≤ s.k
        least = durable_floor ℓ (A ++ B) s.k s.durable

        go : Dec (s.k < length A) → Stage ℓ I (A ++ clwb p ∷ B) H
        go (yes d) = record {
          k = s.k;
          within = omega (arith, length-append A (clwb p ∷ B));
          durable = floor_durable ℓ (A ++ clwb p ∷ B) s.k (⊎_elim (λ h. omega (arith, least)) (λ h. omega (arith, least)) (floor_less 0 A B));
          agree = λ i e. s.agree i e ∙ sym (ap (λ (J : Image). byte_at J i) (replay_front I A B s.k (omega arith)));
        }
        go (no d) =
            let m : ℕ = s.k - length A in
            let e : s.k ≡ length A + m = omega arith in
            record {
              k = length A + suc m;
              within = omega (arith, s.within, length-append A (clwb p ∷ B), length-append A B);
              durable = floor_durable ℓ (A ++ clwb p ∷ B) (length A + suc m) (⊎_elim (λ h. omega (arith, least)) (λ h. omega (arith, least)) (floor_less 0 A B));
              agree = λ i q. s.agree i q ∙ ap (λ (n : ℕ). byte_at (replay (take n (A ++ B)) I) i) e ∙ sym (ap (λ (J : Image). byte_at J i) (replay_less I A B m));
            }

-- ---- flushes of given places

module _ (out : ℕ → Bool) where
  -- on a line of which no flush is left out
  module _ (ℓ : ℕ) (none : (p : ℕ) → p / line_size ≡ ℓ → out p ≡ false) (I H : Image) where
    abbrev Alike : Ops → Ops → Type 0
    Alike O E = Stage ℓ I O H ↔ Stage ℓ I E H

    alike_kept : (o : Op) (O F L E : Ops) → Alike ((O ++ o ∷ []) ++ F ++ E) ((O ++ o ∷ []) ++ L ++ E) → Alike (O ++ o ∷ F ++ E) (O ++ o ∷ L ++ E)
    alike_kept o O F L E =
        subst₂ (λ (X Y : Ops). Alike (X ++ E) (Y ++ E)) (append_assoc O (o ∷ []) F) (append_assoc O (o ∷ []) L)

    stage_left_out : (O F E : Ops) → Alike (O ++ F ++ E) (O ++ leave_out out F ++ E)
    unfolding leave_out
    stage_left_out O [] E = (λ s. s, λ s. s)
    stage_left_out O (store p w ∷ F) E = alike_kept (store p w) O F (leave_out out F) E (stage_left_out (O ++ store p w ∷ []) F E)
    stage_left_out O (sfence ∷ F) E = alike_kept sfence O F (leave_out out F) E (stage_left_out (O ++ sfence ∷ []) F E)
    stage_left_out O (clwb p ∷ F) E = go (out p) refl (stage_left_out O F E) (stage_left_out (O ++ clwb p ∷ []) F E)
      where
        go : (b : Bool) → out p ≡ b → Alike (O ++ F ++ E) (O ++ leave_out out F ++ E) → Alike ((O ++ clwb p ∷ []) ++ F ++ E) ((O ++ clwb p ∷ []) ++ leave_out out F ++ E)
            → Alike (O ++ clwb p ∷ F ++ E) (O ++ cond b (leave_out out F) (clwb p ∷ leave_out out F) ++ E)
        go false q left kept = alike_kept (clwb p) O F (leave_out out F) E kept
        go true q left kept =
            let other : p / line_size ≢ ℓ = λ e. true≢false (sym q ∙ none p e) in
            let a = append_assoc O (clwb p ∷ F) E in
            let b = append_assoc O F E in (
              λ s. left.0 (subst (λ (X : Ops). Stage ℓ I X H) (sym b) (stage_less ℓ p other I H O (F ++ E) (subst (λ (X : Ops). Stage ℓ I X H) a s))),
              λ s. subst (λ (X : Ops). Stage ℓ I X H) (sym a) (stage_more ℓ p other I H O (F ++ E) (subst (λ (X : Ops). Stage ℓ I X H) b (left.1 s))),
            )

  -- FLUSHES LEFT OUT: a crash may leave the same, whatever is played later, if on every line none is left out, or the line was settled and
  -- is not stored to
  pub crash_left_out : (I H : Image) (O F E : Ops) → ((ℓ : ℕ) → ((p : ℕ) → p / line_size ≡ ℓ → out p ≡ false) ⊎ (Settled ℓ O × Off ℓ F))
      → CrashImage I (O ++ F ++ E) H ↔ CrashImage I (O ++ leave_out out F ++ E) H
  crash_left_out I H O F E lines = (
    λ c. record { long = c.long; lines = λ ℓ. ⊎_elim (λ none. (stage_left_out ℓ none I H O F E).0 (c.lines ℓ)) (λ h. settled ℓ F L same h.0 h.1 (c.lines ℓ)) (lines ℓ) },
    λ c. record { long = c.long; lines = λ ℓ. ⊎_elim (λ none. (stage_left_out ℓ none I H O F E).1 (c.lines ℓ)) (λ h. settled ℓ L F (sym same) h.0 (λ i e. each_leave_out out _ F (h.1 i e)) (c.lines ℓ)) (lines ℓ) },
  )
    where
      L : Ops
      L = leave_out out F

      same : replay (O ++ F) I ≡ replay (O ++ L) I
      same = replay_append O F I ∙ sym (replay_append O L I ∙ leave_out-replay out F (replay O I))

      settled : (ℓ : ℕ) (X Y : Ops) → replay (O ++ X) I ≡ replay (O ++ Y) I → Settled ℓ O → Off ℓ X → Stage ℓ I (O ++ X ++ E) H → Stage ℓ I (O ++ Y ++ E) H
      settled ℓ X Y e s off g =
          stage_after ℓ I H (O ++ Y) E (subst (λ (J : Image). Stage ℓ J E H) e (local_crash ℓ I H (O ++ X) E (settled_more ℓ O X s off) g))
