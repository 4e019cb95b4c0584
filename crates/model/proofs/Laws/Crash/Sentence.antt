-- A stage of a line is a first part of the stores to it (specs/CrashExact.antt: `StageStores`).
use Prim.Native.Nat.{ℕ, zero, suc, ◌/◌, ◌%◌, ◌≤◌}
use mathlib.Core.Path.{◌≡◌, refl, sym, ap, ◌∙◌}
use mathlib.Core.Logic.{◌≢◌}
use mathlib.Core.Bool.{Bool, true, false, cond}
use mathlib.Core.List.{[], ◌∷◌, ◌++◌, append_assoc}
use native.Mathlib.Omega.{arith}
use borrow.Author.Tests.{eqb-false}
use lib.Dec.{eqb}
use lib.ListN.{length, take, drop, take-append-drop, length-append}
use lib.Seq.{take-length, take-take, take-append_seam}
use Rattle.model.specs.Words.{Image, byte_at}
use Rattle.model.specs.Layout.{word_size, line_size}
use Rattle.model.specs.Ops.{Op, store, clwb, sfence, Ops, apply, replay}
use Rattle.model.specs.Crash.{AgreeOn, Stage}
use Rattle.model.specs.CrashExact.{Each, stores_to, StageOfStores, StageStores}
use Rattle.model.proofs.Argument.Persist.{each_take, length-apply, replay_clear, replay_cong}
use Rattle.model.proofs.Laws.Crash.Floor.{durable_all}

-- a store changes no other line
pub other_line : (I : Image) (p w ℓ : ℕ) → p % word_size ≡ 0 → p / line_size ≢ ℓ → AgreeOn ℓ (apply (store p w) I) I
unfolding replay
other_line I p w ℓ d n i e = replay_clear (store p w ∷ []) I i ((λ a b. n (omega arith)), tt)

module _ (ℓ : ℕ) where
  stores_append : (O E : Ops) → stores_to ℓ (O ++ E) ≡ stores_to ℓ O ++ stores_to ℓ E
  unfolding stores_to
  stores_append [] E = refl
  stores_append (store p w ∷ O) E = rw (stores_append O E) (go (eqb (p / line_size) ℓ))
    where
      go : (b : Bool) → cond b (store p w ∷ (stores_to ℓ O ++ stores_to ℓ E)) (stores_to ℓ O ++ stores_to ℓ E)
          ≡ cond b (store p w ∷ stores_to ℓ O) (stores_to ℓ O) ++ stores_to ℓ E
      go true = refl
      go false = refl
  stores_append (clwb p ∷ O) E = stores_append O E
  stores_append (sfence ∷ O) E = stores_append O E

  stores_split : (k : ℕ) (O : Ops) → stores_to ℓ O ≡ stores_to ℓ (take k O) ++ stores_to ℓ (drop k O)
  stores_split k O = ap (stores_to ℓ) (sym (take-append-drop k O)) ∙ stores_append (take k O) (drop k O)

  -- a first part of the operations has a first part of the stores
  stores-take : (k : ℕ) (O : Ops) → stores_to ℓ (take k O) ≡ take (length (stores_to ℓ (take k O))) (stores_to ℓ O)
  stores-take k O =
      sym (take-append_seam (stores_to ℓ (take k O)) (stores_to ℓ (drop k O)))
      ∙ ap (take (length (stores_to ℓ (take k O)))) (sym (stores_split k O))

  stores_mono : (n k : ℕ) (O : Ops) → n ≤ k → length (stores_to ℓ (take n O)) ≤ length (stores_to ℓ (take k O))
  stores_mono n k O h =
      let e : take n (take k O) ≡ take n O = take-take n k O h in
      rw (← e) (omega (arith, ap length (stores_split n (take k O)), length-append (stores_to ℓ (take n (take k O))) (stores_to ℓ (drop n (take k O)))))

  -- only they change the line
  replay-stores : (O : Ops) (I : Image) → Each (λ p. p % word_size ≡ 0) O → AgreeOn ℓ (replay O I) (replay (stores_to ℓ O) I)
  unfolding replay stores_to apply
  replay-stores [] I d i e = refl
  replay-stores (store p w ∷ O) I d i e = go (eqb (p / line_size) ℓ) refl (replay-stores O (apply (store p w) I) d.1 i e)
    where
      go : (b : Bool) → eqb (p / line_size) ℓ ≡ b → byte_at (replay O (apply (store p w) I)) i ≡ byte_at (replay (stores_to ℓ O) (apply (store p w) I)) i
          → byte_at (replay O (apply (store p w) I)) i ≡ byte_at (replay (cond b (store p w ∷ stores_to ℓ O) (stores_to ℓ O)) I) i
      go true q ih = ih
      go false q ih = ih ∙ replay_cong (stores_to ℓ O) (apply (store p w) I) I i (length-apply (store p w) I) (other_line I p w ℓ d.0 (eqb-false _ _ q) i e)
  replay-stores (clwb p ∷ O) I d i e = replay-stores O I d i e
  replay-stores (sfence ∷ O) I d i e = replay-stores O I d i e

  -- the longest first part of the operations that has m of the stores
  abbrev Longest : Ops → ℕ → Type 0
  Longest O m =
      (k : ℕ) × (k ≤ length O) × (length (stores_to ℓ (take k O)) ≡ m) × ((n : ℕ) → n ≤ length O → length (stores_to ℓ (take n O)) ≤ m → n ≤ k)

  longest_other : (o : Op) (O : Ops) (m : ℕ) → ((X : Ops) → stores_to ℓ (o ∷ X) ≡ stores_to ℓ X) → Longest O m → Longest (o ∷ O) m
  longest_other o O m h f = (suc f.0, omega (arith, f.1), ap length (h (take f.0 O)) ∙ f.2, most)
    where
      most : (n : ℕ) → n ≤ suc (length O) → length (stores_to ℓ (take n (o ∷ O))) ≤ m → n ≤ suc f.0
      most zero a b = omega arith
      most (suc n) a b = omega (arith, f.3 n (omega arith) (omega (arith, ap length (h (take n O)))))

  longest_store : (o : Op) (O : Ops) (m : ℕ) → ((X : Ops) → stores_to ℓ (o ∷ X) ≡ o ∷ stores_to ℓ X)
      → ((n : ℕ) → n ≤ length (stores_to ℓ O) → Longest O n) → m ≤ suc (length (stores_to ℓ O)) → Longest (o ∷ O) m
  unfolding stores_to
  longest_store o O zero h f l = (0, omega arith, refl, most)
    where
      most : (n : ℕ) → n ≤ suc (length O) → length (stores_to ℓ (take n (o ∷ O))) ≤ 0 → n ≤ 0
      most zero a b = omega arith
      most (suc n) a b = omega (arith, ap length (h (take n O)))
  longest_store o O (suc m) h f l = (suc g.0, omega (arith, g.1), ap length (h (take g.0 O)) ∙ ap suc g.2, most)
    where
      g : Longest O m
      g = f m (omega arith)

      most : (n : ℕ) → n ≤ suc (length O) → length (stores_to ℓ (take n (o ∷ O))) ≤ suc m → n ≤ suc g.0
      most zero a b = omega arith
      most (suc n) a b = omega (arith, g.3 n (omega arith) (omega (arith, ap length (h (take n O)))))

  longest : (O : Ops) (m : ℕ) → m ≤ length (stores_to ℓ O) → Longest O m
  unfolding stores_to
  longest [] m h = (0, omega arith, omega arith, λ n a b. a)
  longest (store p w ∷ O) m h = go (eqb (p / line_size) ℓ) refl (longest O) h
    where
      go : (b : Bool) → eqb (p / line_size) ℓ ≡ b → ((n : ℕ) → n ≤ length (stores_to ℓ O) → Longest O n)
          → m ≤ length (cond b (store p w ∷ stores_to ℓ O) (stores_to ℓ O)) → Longest (store p w ∷ O) m
      go true q ih l = longest_store (store p w) O m (λ X. rw q) ih l
      go false q ih l = longest_other (store p w) O m (λ X. rw q) (ih m l)
  longest (clwb p ∷ O) m h = longest_other (clwb p) O m (λ X. refl) (longest O m h)
  longest (sfence ∷ O) m h = longest_other sfence O m (λ X. refl) (longest O m h)

-- the relation, in the words of SPECIFICATION 7.2
pub stage_stores : StageStores
stage_stores ℓ I H O d = (there, back)
  where
    front : (A C D : Ops) (p : ℕ) → O ≡ A ++ clwb p ∷ C ++ sfence ∷ D → take (length A) O ≡ A
    front A C D p e = ap (take (length A)) (e ∙ append_assoc A (clwb p ∷ C) (sfence ∷ D)) ∙ take-append_seam A (clwb p ∷ C ++ sfence ∷ D)

    there : Stage ℓ I O H → StageOfStores ℓ I O H
    there s = record {
      m = length (stores_to ℓ (take s.k O));
      within = omega (arith, stores_mono ℓ s.k (length O) O s.within, ap (λ (X : Ops). length (stores_to ℓ X)) (take-length O));
      durable = λ A C D p l e. omega (arith, stores_mono ℓ (length A) s.k O (s.durable A C D p l e), ap (λ (X : Ops). length (stores_to ℓ X)) (front A C D p e));
      agree = λ i e. s.agree i e ∙ replay-stores ℓ (take s.k O) I (each_take _ s.k O d) i e
          ∙ ap (λ (X : Ops). byte_at (replay X I) i) (stores-take ℓ s.k O);
    }

    back : StageOfStores ℓ I O H → Stage ℓ I O H
    back s = let f = longest ℓ O s.m s.within in record {
      k = f.0;
      within = f.1;
      durable = λ A C D p l e. f.3 (length A) (durable_all ℓ O A C D p l e)
          (omega (arith, s.durable A C D p l e, ap (λ (X : Ops). length (stores_to ℓ X)) (front A C D p e)));
      agree = λ i e. s.agree i e
          ∙ ap (λ (n : ℕ). byte_at (replay (take n (stores_to ℓ O)) I) i) (sym f.2)
          ∙ ap (λ (X : Ops). byte_at (replay X I) i) (sym (stores-take ℓ f.0 O))
          ∙ sym (replay-stores ℓ (take f.0 O) I (each_take _ f.0 O d) i e);
    }
