-- What came last may arrive alone, where no line that came before must have arrived; and a test for the lines that operations store to.
use Prim.Native.Nat.{ℕ, ◌/◌, ◌%◌}
use mathlib.Core.Path.{◌≡◌, sym, ap, ◌∙◌}
use mathlib.Core.Logic.{◌≢◌, ◌⊎◌, inl, inr}
use mathlib.Core.Bool.{Bool, true, not, ◌&&◌}
use mathlib.Core.List.{[], ◌∷◌, ◌++◌}
use native.Mathlib.Omega.{arith}
use native.Mathlib.Decide.{ℕ_discrete}
use lib.Dec.{eqb}
use lib.ListN.{length}
use lib.Seq.{take-length}
use borrow.Author.Tests.{eqb-true, eqb-false, not-true}
use Rattle.model.specs.Words.{Image, byte_at}
use Rattle.model.specs.Layout.{word_size, line_size}
use Rattle.model.specs.Ops.{Ops, store, clwb, sfence, replay}
use Rattle.model.specs.Crash.{KeepsDurable, CrashImage, Stage}
use Rattle.model.specs.CrashExact.{floor}
use Rattle.model.proofs.Laws.Range.{and_left, and_right}
use Rattle.model.proofs.Argument.Persist.{Misses, length-replay, replay_clear, replay_append, replay_cong}
use Rattle.model.proofs.Argument.Settled.{Off}
use Rattle.model.proofs.Laws.Crash.Floor.{floor_durable, durable_all}

-- B may arrive without A, if no line is stored to by both and none of A's must have arrived
pub arrives_alone : (I : Image) (A B : Ops) → ((ℓ : ℕ) → Off ℓ A ⊎ (Off ℓ B × KeepsDurable ℓ (A ++ B) 0)) → CrashImage I (A ++ B) (replay B I)
unfolding replay
arrives_alone I A B apart = record { long = length-replay B I; lines = λ ℓ. stage ℓ (apart ℓ) }
  where
    stage : (ℓ : ℕ) → Off ℓ A ⊎ (Off ℓ B × KeepsDurable ℓ (A ++ B) 0) → Stage ℓ I (A ++ B) (replay B I)
    stage ℓ (inl off) = record {
      k = length (A ++ B);
      within = omega arith;
      durable = durable_all ℓ (A ++ B);
      agree = λ i e. sym (
          ap (λ (X : Ops). byte_at (replay X I) i) (take-length (A ++ B))
          ∙ ap (λ (J : Image). byte_at J i) (replay_append A B I)
          ∙ replay_cong B (replay A I) I i (length-replay A I) (replay_clear A I i (off i e)));
    }
    stage ℓ (inr lost) = record { k = 0; within = omega arith; durable = lost.1; agree = λ i e. replay_clear B I i (lost.0 i e) }

-- every store of O is of a word in another line than ℓ
unfoldable pub elsewhere : ℕ → ℕ → Bool
elsewhere ℓ p = not (eqb (p / line_size) ℓ) && eqb (p % word_size) 0

unfoldable pub avoids : ℕ → Ops → Bool
avoids ℓ [] = true
avoids ℓ (store p w ∷ O) = elsewhere ℓ p && avoids ℓ O
avoids ℓ (clwb p ∷ O) = avoids ℓ O
avoids ℓ (sfence ∷ O) = avoids ℓ O

elsewhere_misses : (ℓ p i : ℕ) → elsewhere ℓ p ≡ true → i / line_size ≡ ℓ → Misses i p
unfolding elsewhere
elsewhere_misses ℓ p i h e =
    let other : p / line_size ≢ ℓ = eqb-false _ _ (not-true _ (and_left (not (eqb (p / line_size) ℓ)) (eqb (p % word_size) 0) h)) in
    let whole : p % word_size ≡ 0 = eqb-true _ _ (and_right (not (eqb (p / line_size) ℓ)) (eqb (p % word_size) 0) h) in
    omega arith

pub avoids_off : (ℓ : ℕ) (O : Ops) → avoids ℓ O ≡ true → Off ℓ O
unfolding avoids
avoids_off ℓ [] h i e = tt
avoids_off ℓ (store p w ∷ O) h i e =
    (elsewhere_misses ℓ p i (and_left (elsewhere ℓ p) (avoids ℓ O) h) e, avoids_off ℓ O (and_right (elsewhere ℓ p) (avoids ℓ O) h) i e)
avoids_off ℓ (clwb p ∷ O) h i e = avoids_off ℓ O h i e
avoids_off ℓ (sfence ∷ O) h i e = avoids_off ℓ O h i e

-- the first store need not arrive, if its line is stored to by no other and need not have arrived
pub first_lost : (I : Image) (p w : ℕ) (O : Ops) → avoids (p / line_size) O ≡ true → floor (p / line_size) (store p w ∷ O) ≡ 0 → p % word_size ≡ 0
    → CrashImage I (store p w ∷ O) (replay O I)
first_lost I p w O others low whole = arrives_alone I (store p w ∷ []) O (λ ℓ. apart ℓ (ℕ_discrete ℓ (p / line_size)))
  where
    apart : (ℓ : ℕ) → Dec (ℓ ≡ p / line_size) → Off ℓ (store p w ∷ []) ⊎ (Off ℓ O × KeepsDurable ℓ (store p w ∷ O) 0)
    apart ℓ (yes here) = inr (
      λ i e. avoids_off (p / line_size) O others i (e ∙ here),
      floor_durable ℓ (store p w ∷ O) 0 (omega (arith, low, ap (λ (k : ℕ). floor k (store p w ∷ O)) here)),
    )
    apart ℓ (no there) = inl (λ i e. ((λ low high. there (omega arith)), tt))
