-- The third law of `Holds`: a backup segment is given to a main segment.
use Prim.Native.Nat.{ℕ, ◌+◌, ◌≤◌, ◌<◌}
use mathlib.Core.Path.{◌≡◌, sym, ◌∙◌, subst}
use mathlib.Core.Logic.{◌≢◌, ◌⊎◌, inl, inr, ⊎_elim}
use native.Mathlib.Decide.{ℕ_discrete}
use native.Mathlib.Omega.{arith}
use Rattle.model.specs.declared.Layout.{Layout}
use Rattle.model.specs.Layout.{SizesOk, segment_size, main_at, backup_at}
use Rattle.model.specs.Container.{Valid}
use Rattle.model.proofs.Argument.Holds.{Contents, Holds}

-- backup segment j may be given to main segment i, which holds its checkpoint itself
pub record Givable (l : Layout) (st pr : ℕ → ℕ) (i j : ℕ) : Type 0 where
  pub main : i < l.mains
  pub below : j < l.backups
  pub holds : st i ≡ 1
  pub free : (u : ℕ) → u < l.mains → pr j ≡ u → st u ≢ 2
  pub sole : (k : ℕ) → k < l.backups → k ≢ j → pr k ≢ i

-- LAW 3: backup segment j is given to main segment i, whose state is 1 still or 2 already
module _ (l : Layout) (most : SizesOk l) (st pr byte st' pr' byte' : ℕ → ℕ) (P : Contents) (i j : ℕ)
    (givable : Givable l st pr i j) (h : Holds l st pr byte P)
    (sts : (u : ℕ) → u < 64 → u ≢ i → st' u ≡ st u)
    (pair : pr' j ≡ i) (prs : (k : ℕ) → k < 64 → k ≢ j → pr' k ≡ pr k)
    (owns : (u x : ℕ) → u < l.mains → x < segment_size l → u ≢ i → st u ≡ 1 → byte' (main_at l u + x) ≡ byte (main_at l u + x))
    (backups : (u k x : ℕ) → u < l.mains → k < l.backups → x < segment_size l → k ≢ j → st u ≡ 2 → pr k ≡ u → byte' (backup_at l k + x) ≡ byte (backup_at l k + x))
    (turn : ((st' i ≡ 1) × ((x : ℕ) → x < segment_size l → byte' (main_at l i + x) ≡ P i x))
    ⊎ ((st' i ≡ 2) × ((x : ℕ) → x < segment_size l → byte' (backup_at l j + x) ≡ P i x))) where
  v : Valid l st pr
  v = h.valid

  m64 : (u : ℕ) → u < l.mains → u < 64
  m64 u x = omega (arith, most.0)

  b64 : (k : ℕ) → k < l.backups → k < 64
  b64 k x = omega (arith, most.1)

  here : (st' i ≡ 1) ⊎ (st' i ≡ 2)
  here = ⊎_elim (λ y. inl y.0) (λ y. inr y.0) turn

  to_i : (u n : ℕ) → u ≡ i → st' u ≡ n → st' i ≡ n
  to_i u n e q = subst (λ (w : ℕ). st' w ≡ n) e q

  paired : (k : ℕ) → k ≡ j → pr' k ≡ i
  paired k e = subst (λ (w : ℕ). pr' w ≡ i) (sym e) pair

  not_initial : (u : ℕ) → st' u ≡ 0 → u ≢ i
  not_initial u q e = let q' = to_i u 0 e q in ⊎_elim (λ y. omega arith) (λ y. omega arith) here

  states : (u : ℕ) → u < l.mains → Dec (u ≡ i) → st' u ≤ 2
  states u x (yes e) = subst (λ (w : ℕ). st' w ≤ 2) (sym e) (⊎_elim (λ y. omega arith) (λ y. omega arith) here)
  states u x (no e) = rw (sts u (m64 u x) e) (v.states u x)

  pairs : (k : ℕ) → k < l.backups → Dec (k ≡ j) → (pr' k ≡ 255) ⊎ (pr' k < l.mains)
  pairs k x (yes e) = inr (omega (arith, paired k e, givable.main))
  pairs k x (no e) = rw (prs k (b64 k x) e) (v.pairs k x)

  once : (b d : ℕ) → b < l.backups → d < l.backups → pr' b < l.mains → pr' b ≡ pr' d → Dec (b ≡ j) → Dec (d ≡ j) → b ≡ d
  once b d x y z q (yes e) (yes g) = e ∙ sym g
  once b d x y z q (yes e) (no g) = absurd (givable.sole d y g (sym (prs d (b64 d y) g) ∙ sym q ∙ paired b e))
  once b d x y z q (no e) (yes g) = absurd (givable.sole b x e (sym (prs b (b64 b x) e) ∙ q ∙ paired d g))
  once b d x y z q (no e) (no g) = v.once b d x y (omega (arith, prs b (b64 b x) e)) (sym (prs b (b64 b x) e) ∙ q ∙ prs d (b64 d y) g)

  kept : (u : ℕ) → u < l.mains → st' u ≡ 2 → Dec (u ≡ i) → (k : ℕ) × (k < l.backups) × (pr' k ≡ u)
  kept u x q (yes e) = (j, givable.below, pair ∙ sym e)
  kept u x q (no e) =
      let two : st u ≡ 2 = sym (sts u (m64 u x) e) ∙ q in
      let y = v.kept u x two in
      (y.0, y.1, prs y.0 (b64 y.0 y.1) (λ g. givable.free u x (subst (λ (k : ℕ). pr k ≡ u) g y.2) two) ∙ y.2)

  bare : (u : ℕ) → u < l.mains → st' u ≡ 0 → (k : ℕ) → k < l.backups → pr' k ≡ u → Dec (k ≡ j) → ⊥
  bare u x q k y e (yes g) = not_initial u q (sym e ∙ paired k g)
  bare u x q k y e (no g) = v.bare u x (sym (sts u (m64 u x) (not_initial u q)) ∙ q) k y (sym (prs k (b64 k y) g) ∙ e)

  own : (u x : ℕ) → u < l.mains → x < segment_size l → st' u ≡ 1 → Dec (u ≡ i) → byte' (main_at l u + x) ≡ P u x
  own u x a b q (yes e) = subst (λ (w : ℕ). byte' (main_at l w + x) ≡ P w x) (sym e)
      (let q' = to_i u 1 e q in ⊎_elim (λ y. y.1 x b) (λ y. absurd (omega arith)) turn)
  own u x a b q (no e) = let q' = sym (sts u (m64 u a) e) ∙ q in owns u x a b e q' ∙ h.own u x a b q'

  backup : (u k x : ℕ) → u < l.mains → k < l.backups → x < segment_size l → st' u ≡ 2 → pr' k ≡ u → Dec (u ≡ i) → Dec (k ≡ j) → byte' (backup_at l k + x) ≡ P u x
  backup u k x a c b q d (yes e) (yes g) = subst (λ (w : ℕ). byte' (backup_at l k + x) ≡ P w x) (sym e)
      (subst (λ (w : ℕ). byte' (backup_at l w + x) ≡ P i x) (sym g)
      (let q' = to_i u 2 e q in ⊎_elim (λ y. absurd (omega arith)) (λ y. y.1 x b) turn))
  backup u k x a c b q d (yes e) (no g) = absurd (givable.sole k c g (sym (prs k (b64 k c) g) ∙ d ∙ e))
  backup u k x a c b q d (no e) (yes g) = absurd (e (sym d ∙ paired k g))
  backup u k x a c b q d (no e) (no g) =
      let q' = sym (sts u (m64 u a) e) ∙ q in let d' = sym (prs k (b64 k c) g) ∙ d in
      backups u k x a c b g q' d' ∙ h.backup u k x a c b q' d'

  pub holds_given : Holds l st' pr' byte' P
  holds_given = record {
    valid = record {
      states = λ u x. states u x (ℕ_discrete u i);
      states_rest = λ u x y. sts u y (omega (arith, givable.main)) ∙ v.states_rest u x y;
      pairs = λ k x. pairs k x (ℕ_discrete k j);
      pairs_rest = λ k x y. prs k y (omega (arith, givable.below)) ∙ v.pairs_rest k x y;
      once = λ b d x y z q. once b d x y z q (ℕ_discrete b j) (ℕ_discrete d j);
      kept = λ u x q. kept u x q (ℕ_discrete u i);
      bare = λ u x q k y e. bare u x q k y e (ℕ_discrete k j);
    };
    initial = λ u x a b q. let ne = not_initial u q in h.initial u x a b (sym (sts u (m64 u a) ne) ∙ q);
    own = λ u x a b q. own u x a b q (ℕ_discrete u i);
    backup = λ u k x a c b q d. backup u k x a c b q d (ℕ_discrete u i) (ℕ_discrete k j);
  }
