-- How many images a crash may leave: exactly 2 ^ n where n stores wait on n lines (specs/CrashExact.antt).
use Prim.Native.Nat.{ℕ, suc, ◌+◌, ◌-◌, ◌^◌, ◌/◌, ◌%◌, ◌≤◌, ◌<◌}
use mathlib.Core.Path.{◌≡◌, refl, sym, ap, ◌∙◌, subst}
use mathlib.Core.Logic.{◌≢◌, ◌⊎◌, inl, inr, ⊎_elim}
use mathlib.Core.Bool.{false}
use mathlib.Core.List.{List, [], ◌∷◌, ◌++◌}
use native.Mathlib.Decide.{dec_lt, ℕ_discrete}
use native.Mathlib.Omega.{arith}
use lib.ListN.{length, take, get_or, length-append, get_or-append}
use lib.Seq.{get_or-append-add}
use Rattle.model.specs.Words.{Image}
use Rattle.model.specs.Layout.{word_size, line_size}
use Rattle.model.specs.Ops.{store, clwb, sfence, Ops, apply, replay}
use Rattle.model.specs.Crash.{AgreeOn, Stage, CrashImage}
use Rattle.model.specs.CrashExact.{Each, has_fence, Exactly, Waiting, CrashCount, TenLines}
use Rattle.model.proofs.Argument.Persist.{length-apply, apply_cong, replay_cong}
use Rattle.model.proofs.Argument.Settled.{Off, stage_clear, local_crash, settled_off, stage_one}
use Rattle.model.proofs.Laws.Crash.Sentence.{other_line}
use Rattle.model.proofs.Laws.Crash.Images.{newest, durable_unfenced, stage_old, nothing_played}

-- ---- two properties that no image has both

-- m images have P, n have Q, none has both, and R is either
exactly_either : {m n : ℕ} {P Q R : Image → Type 0} → Exactly m P → Exactly n Q → ((H : Image) → P H → Q H → ⊥)
    → ((H : Image) → P H → R H) → ((H : Image) → Q H → R H) → ((H : Image) → R H → P H ⊎ Q H) → Exactly (m + n) R
exactly_either {m} {n} {P} {Q} {R} x y apart left right back = record {
  images = x.images ++ y.images;
  count = length-append x.images y.images ∙ (omega (arith, x.count, y.count));
  each = λ k l. go_each k l (dec_lt k m);
  found = λ H r. ⊎_elim (λ h. go_left H (x.found H h)) (λ h. go_right H (y.found H h)) (back H r);
  distinct = λ j k a b e. go j k a b e (dec_lt j m) (dec_lt k m);
}
  where
    L : List Image
    L = x.images ++ y.images

    low : (k : ℕ) → k < m → get_or L k [] ≡ get_or x.images k []
    low k l = get_or-append x.images y.images [] k (omega (arith, x.count))

    high : (k : ℕ) → m ≤ k → get_or L k [] ≡ get_or y.images (k - m) []
    high k l =
        let e : k ≡ length x.images + (k - m) = omega (arith, x.count) in
        ap (λ (i : ℕ). get_or L i []) e ∙ get_or-append-add x.images y.images (k - m) []

    go_each : (k : ℕ) → k < m + n → Dec (k < m) → R (get_or L k [])
    go_each k l (yes d) = rw (low k d) (left _ (x.each k d))
    go_each k l (no d) = rw (high k (omega arith)) (right _ (y.each (k - m) (omega arith)))

    go_left : (H : Image) → (k : ℕ) × (k < m) × (get_or x.images k [] ≡ H) → (k : ℕ) × (k < m + n) × (get_or L k [] ≡ H)
    go_left H f = (f.0, omega arith, low f.0 f.1 ∙ f.2)

    go_right : (H : Image) → (k : ℕ) × (k < n) × (get_or y.images k [] ≡ H) → (k : ℕ) × (k < m + n) × (get_or L k [] ≡ H)
    go_right H f =
        let e : m + f.0 - m ≡ f.0 = omega arith in
        (m + f.0, omega arith, high (m + f.0) (omega arith) ∙ ap (λ (i : ℕ). get_or y.images i []) e ∙ f.2)

    go : (j k : ℕ) → j < m + n → k < m + n → get_or L j [] ≡ get_or L k [] → Dec (j < m) → Dec (k < m) → j ≡ k
    go j k a b e (yes c) (yes d) = x.distinct j k c d (sym (low j c) ∙ e ∙ low k d)
    go j k a b e (yes c) (no d) = absurd (apart (get_or L j []) (rw (low j c) (x.each j c)) (rw (e, high k (omega arith)) (y.each (k - m) (omega arith))))
    go j k a b e (no c) (yes d) = absurd (apart (get_or L j []) (rw (e, low k d) (x.each k d)) (rw (high j (omega arith)) (y.each (j - m) (omega arith))))
    go j k a b e (no c) (no d) =
        let f : j - m ≡ k - m = y.distinct (j - m) (k - m) (omega arith) (omega arith) (sym (high j (omega arith)) ∙ e ∙ high k (omega arith)) in
        omega arith

-- ---- waiting stores

waiting_unfenced : (I : Image) (O : Ops) → Waiting I O → has_fence O ≡ false
unfolding has_fence
waiting_unfenced I [] h = refl
waiting_unfenced I (store p w ∷ O) h = waiting_unfenced I O h.3
waiting_unfenced I (clwb p ∷ O) h = absurd h
waiting_unfenced I (sfence ∷ O) h = absurd h

waiting_off : (I : Image) (ℓ : ℕ) (O : Ops) → Waiting I O → Each (λ q. q / line_size ≢ ℓ) O → Off ℓ O
waiting_off I ℓ [] h k i e = tt
waiting_off I ℓ (store p w ∷ O) h k i e = ((λ a b. k.0 (omega arith)), waiting_off I ℓ O h.3 k.1 i e)
waiting_off I ℓ (clwb p ∷ O) h k i e = absurd h
waiting_off I ℓ (sfence ∷ O) h k i e = absurd h

waiting_after : (I : Image) (p w : ℕ) (O : Ops) → p % word_size ≡ 0 → Each (λ q. q / line_size ≢ p / line_size) O → Waiting I O
    → Waiting (apply (store p w) I) O
waiting_after I p w [] d k h = tt
waiting_after I p w (store q v ∷ O) d k h =
    let J : Image = apply (store p w) I in
    let same : AgreeOn (q / line_size) J I = other_line I p w (q / line_size) d (λ e. k.0 (sym e)) in (
      h.0,
      (λ a. h.1 (λ i e. sym (apply_cong (store q v) J I i (length-apply (store p w) I) (same i e)) ∙ a i e ∙ same i e)),
      h.2,
      waiting_after I p w O d k.1 h.3,
    )
waiting_after I p w (clwb q ∷ O) d k h = absurd h
waiting_after I p w (sfence ∷ O) d k h = absurd h

stage_from : {ℓ : ℕ} {I J H : Image} {O : Ops} → length I ≡ length J → AgreeOn ℓ I J → Stage ℓ I O H → Stage ℓ J O H
stage_from {I = I} {J = J} {O = O} n a s = record {
  k = s.k;
  within = s.within;
  durable = s.durable;
  agree = λ i e. s.agree i e ∙ replay_cong (take s.k O) I J i n (a i e);
}

-- a store p w, then O, which has no fence and no store to the line of p
module _ (I : Image) (p w : ℕ) (O : Ops) (d : p % word_size ≡ 0) (off : Off (p / line_size) O) (unfenced : has_fence O ≡ false) where
  abbrev stored : Image
  stored = apply (store p w) I

  stage_first : {ℓ : ℕ} {H : Image} → Stage ℓ stored O H → Stage ℓ I (store p w ∷ O) H
  unfolding replay has_fence
  stage_first {ℓ} s = record {
    k = suc s.k;
    within = omega (arith, s.within);
    durable = durable_unfenced ℓ (store p w ∷ O) (suc s.k) unfenced;
    agree = s.agree;
  }

  new_crash : (H : Image) → CrashImage stored O H → CrashImage I (store p w ∷ O) H
  new_crash H c = record { long = c.long ∙ length-apply (store p w) I; lines = λ ℓ. stage_first (c.lines ℓ) }

  old_crash : (H : Image) → CrashImage I O H → CrashImage I (store p w ∷ O) H
  unfolding has_fence
  old_crash H c = record { long = c.long; lines = λ ℓ. go ℓ (ℕ_discrete (p / line_size) ℓ) }
    where
      go : (ℓ : ℕ) → Dec (p / line_size ≡ ℓ) → Stage ℓ I (store p w ∷ O) H
      go ℓ (yes q) = stage_old (store p w ∷ O) unfenced (λ i e. stage_clear i (c.lines (i / line_size)) (off i (e ∙ sym q)))
      go ℓ (no q) = stage_first (stage_from (sym (length-apply (store p w) I)) (λ i e. sym (other_line I p w ℓ d q i e)) (c.lines ℓ))

  old_or_new : (H : Image) → CrashImage I (store p w ∷ O) H → CrashImage I O H ⊎ CrashImage stored O H
  unfolding replay
  old_or_new H c = ⊎_elim (λ a. inl (go I refl (λ ℓ q. other_line I p w ℓ d q) a)) (λ a. inr (go stored (length-apply (store p w) I) (λ ℓ q i e. refl) a))
      (stage_one (p / line_size) I H [] O p w (λ i e. tt) off (c.lines (p / line_size)))
    where
      go : (T : Image) → length T ≡ length I → ((ℓ : ℕ) → p / line_size ≢ ℓ → AgreeOn ℓ stored T) → AgreeOn (p / line_size) H T → CrashImage T O H
      go T n others a = record { long = c.long ∙ sym n; lines = λ ℓ. on_line ℓ (ℕ_discrete (p / line_size) ℓ) }
        where
          on_line : (ℓ : ℕ) → Dec (p / line_size ≡ ℓ) → Stage ℓ T O H
          on_line ℓ (yes q) = stage_old O unfenced (λ i e. a i (e ∙ sym q))
          on_line ℓ (no q) = stage_from (length-apply (store p w) I ∙ sym n) (others ℓ q)
              (local_crash ℓ I H (store p w ∷ []) O (settled_off ℓ (store p w ∷ []) (λ i e. ((λ x y. q (omega arith)), tt))) (c.lines ℓ))

  not_both : (AgreeOn (p / line_size) stored I → ⊥) → (H : Image) → CrashImage I O H → CrashImage stored O H → ⊥
  not_both changes H a b = changes (λ i e. sym (stage_clear i (b.lines (i / line_size)) (off i e)) ∙ stage_clear i (a.lines (i / line_size)) (off i e))

-- EXACTLY 2 ^ n: n waiting stores on n lines, each line old or new
pub crash_count : CrashCount
unfolding replay
crash_count I [] h = record {
  images = I ∷ [];
  count = refl;
  each = λ k l. let e : k ≡ 0 = omega arith in rw e (newest I []);
  found = λ H c. (0, omega arith, sym (nothing_played I H c));
  distinct = λ j k a b e. omega arith;
}
crash_count I (store p w ∷ O) h =
    let off : Off (p / line_size) O = waiting_off I (p / line_size) O h.3 h.2 in
    let unfenced : has_fence O ≡ false = waiting_unfenced I O h.3 in
    let two : 2 ^ length O + 2 ^ length O ≡ 2 ^ suc (length O) = omega arith in
    subst (λ (n : ℕ). Exactly n (CrashImage I (store p w ∷ O))) two
    (exactly_either (crash_count I O h.3) (crash_count (apply (store p w) I) O (waiting_after I p w O h.0 h.2 h.3))
    (not_both I p w O h.0 off unfenced h.1) (old_crash I p w O h.0 off unfenced) (new_crash I p w O h.0 off unfenced)
    (old_or_new I p w O h.0 off unfenced))
crash_count I (clwb p ∷ O) h = absurd h
crash_count I (sfence ∷ O) h = absurd h

-- ten lines, each with one waiting store
pub ten_lines : TenLines
ten_lines I O h n = subst (λ (m : ℕ). Exactly (2 ^ m) (CrashImage I O)) n (crash_count I O h)
