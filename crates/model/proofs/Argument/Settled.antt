-- Settled lines: a line is settled when every stage that a crash may leave of it is the newest. A crash in a call is, on
-- settled lines, a crash of that call alone (`local_crash`), so that each call can be looked at by itself.
use Prim.Native.Nat.{ℕ, zero, suc, ◌+◌, ◌-◌, ◌/◌, ◌≤◌, ◌<◌}
use mathlib.Core.Path.{◌≡◌, refl, sym, ap, ◌∙◌, subst}
use mathlib.Core.Logic.{◌⊎◌, inl, inr}
use mathlib.Core.List.{[], ◌∷◌, ◌++◌, append_assoc}
use native.Mathlib.Decide.{dec_le}
use native.Mathlib.Omega.{arith}
use lib.ListN.{length, take, length-append}
use lib.Seq.{take-append-le, take-append-add}
use Rattle.model.specs.Words.{Image, byte_at}
use Rattle.model.specs.Ops.{store, clwb, sfence, Ops, apply, replay}
use Rattle.model.specs.Crash.{KeepsDurable, AgreeOn, Stage, CrashImage}
use Rattle.model.proofs.Argument.Persist.{Misses, Clear, each_append, each_take, length-replay, replay_clear, replay_append, replay_small, apply_cong}

-- line ℓ is settled: every stage of it is the last
abbrev pub Settled : ℕ → Ops → Type 0
Settled ℓ O = (I : Image) (k : ℕ) → k ≤ length O → KeepsDurable ℓ O k → AgreeOn ℓ (replay (take k O) I) (replay O I)

-- no store into line ℓ (a store's place is divisible by 8)
abbrev pub Off : ℕ → Ops → Type 0
Off ℓ O = (i : ℕ) → i / 64 ≡ ℓ → Clear i O

-- a byte that is not stored to is left by every crash
pub stage_clear : {I H : Image} {O : Ops} (i : ℕ) → Stage (i / 64) I O H → Clear i O → byte_at H i ≡ byte_at I i
stage_clear {I} {H} {O} i s c = s.agree i refl ∙ replay_clear (take s.k O) I i (each_take (Misses i) s.k O c)

-- what must be kept of O ++ E, of O and of E
pub durable_front : (ℓ : ℕ) (O E : Ops) (k : ℕ) → KeepsDurable ℓ (O ++ E) k → KeepsDurable ℓ O k
durable_front ℓ O E k h A C D p l e =
    h A C (D ++ E) p l (rw e (simp append_assoc))

pub durable_back : (ℓ : ℕ) (O E : Ops) (k : ℕ) → KeepsDurable ℓ (O ++ E) k → KeepsDurable ℓ E (k - length O)
durable_back ℓ O E k h A C D p l e =
    omega (arith, length-append O A, h (O ++ A) C D p l (rw e (simp append_assoc)))

pub take_past : (k : ℕ) (O E : Ops) → length O ≤ k → take k (O ++ E) ≡ O ++ take (k - length O) E
take_past k O E h =
    let e : length O + (k - length O) ≡ k = omega arith in
    ap (λ (n : ℕ). take n (O ++ E)) (sym e) ∙ take-append-add O E (k - length O)

pub replay_past : (k : ℕ) (O E : Ops) (I : Image) → length O ≤ k → replay (take k (O ++ E)) I ≡ replay (take (k - length O) E) (replay O I)
replay_past k O E I h = rw (take_past k O E h) (replay_append O (take (k - length O) E) I)

-- after no operations all is durable
pub stage_held : {ℓ : ℕ} {I H : Image} → Stage ℓ I [] H → AgreeOn ℓ H I
stage_held {ℓ} {I} {H} s i e = s.agree i e ∙ replay_clear (take s.k []) I i (each_take (Misses i) s.k [] tt)

-- LOCAL CRASH: on a settled line, a crash in E after O is a crash of E alone, from the image that O leaves
pub local_crash : (ℓ : ℕ) (I H : Image) (O E : Ops) → Settled ℓ O → Stage ℓ I (O ++ E) H → Stage ℓ (replay O I) E H
unfolding replay
local_crash ℓ I H O E settled s = go (dec_le (length O) s.k)
  where
    go : Dec (length O ≤ s.k) → Stage ℓ (replay O I) E H
    go (yes h) = record {
      k = s.k - length O;
      within = omega (arith, length-append O E, s.within);
      durable = durable_back ℓ O E s.k s.durable;
      agree = λ i e. s.agree i e ∙ ap (λ (J : Image). byte_at J i) (replay_past s.k O E I h);
    }
    go (no h) = record {
      k = 0;
      within = omega arith;
      durable = λ A C D p l e. omega (arith, durable_back ℓ O E s.k s.durable A C D p l e);
      agree = λ i e. s.agree i e
          ∙ ap (λ (X : Ops). byte_at (replay X I) i) (take-append-le s.k O E (omega arith))
          ∙ settled I s.k (omega arith) (durable_front ℓ O E s.k s.durable) i e;
    }

-- laws of settled lines
pub settled_off : (ℓ : ℕ) (O : Ops) → Off ℓ O → Settled ℓ O
settled_off ℓ O c I k h durable i e =
    replay_clear (take k O) I i (each_take (Misses i) k O (c i e)) ∙ sym (replay_clear O I i (c i e))

pub settled_more : (ℓ : ℕ) (O E : Ops) → Settled ℓ O → Off ℓ E → Settled ℓ (O ++ E)
settled_more ℓ O E s c I k h durable i e = go (dec_le (length O) k)
  where
    last : byte_at (replay O I) i ≡ byte_at (replay (O ++ E) I) i
    last = sym (ap (λ (J : Image). byte_at J i) (replay_append O E I) ∙ replay_clear E (replay O I) i (c i e))

    go : Dec (length O ≤ k) → byte_at (replay (take k (O ++ E)) I) i ≡ byte_at (replay (O ++ E) I) i
    go (yes d) = ap (λ (J : Image). byte_at J i) (replay_past k O E I d)
        ∙ replay_clear (take (k - length O) E) (replay O I) i (each_take (Misses i) (k - length O) E (c i e)) ∙ last
    go (no d) = ap (λ (X : Ops). byte_at (replay X I) i) (take-append-le k O E (omega arith))
        ∙ s I k (omega arith) (durable_front ℓ O E k durable) i e ∙ last

-- after a clwb and a later sfence, with no store into the line since
pub settled_fence : (ℓ : ℕ) (A C : Ops) (p : ℕ) → p / 64 ≡ ℓ → Off ℓ C → Settled ℓ (A ++ (clwb p ∷ C ++ sfence ∷ []))
settled_fence ℓ A C p l c I k h durable i e =
    let n : length A ≤ k = durable A C _ p l (sym (append_assoc A (clwb p ∷ C) (sfence ∷ []))) in
    let R : Ops = clwb p ∷ C ++ sfence ∷ [] in
    let r : Clear i R = each_append (Misses i) C (sfence ∷ []) (c i e) tt in
    ap (λ (J : Image). byte_at J i) (replay_past k A R I n)
    ∙ replay_clear (take (k - length A) R) (replay A I) i (each_take (Misses i) (k - length A) R r)
    ∙ sym (ap (λ (J : Image). byte_at J i) (replay_append A R I) ∙ replay_clear R (replay A I) i r)

-- a line to which one store is made holds its bytes before or after it
pub stage_one : (ℓ : ℕ) (I H : Image) (A C : Ops) (p w : ℕ) → Off ℓ A → Off ℓ C → Stage ℓ I (A ++ (store p w ∷ C)) H
    → AgreeOn ℓ H I ⊎ AgreeOn ℓ H (apply (store p w) I)
unfolding replay
stage_one ℓ I H A C p w a c s = go (dec_le s.k (length A)) (s.k - length A) refl
  where
    before : (i : ℕ) → i / 64 ≡ ℓ → (X : Ops) → Clear i X → (J : Image) → byte_at (replay X J) i ≡ byte_at J i
    before i e X x J = replay_clear X J i x

    go : Dec (s.k ≤ length A) → (m : ℕ) → s.k - length A ≡ m → AgreeOn ℓ H I ⊎ AgreeOn ℓ H (apply (store p w) I)
    go (yes d) m q = inl (λ i e. s.agree i e
        ∙ ap (λ (X : Ops). byte_at (replay X I) i) (take-append-le s.k A (store p w ∷ C) d)
        ∙ replay_clear (take s.k A) I i (each_take (Misses i) s.k A (a i e)))
    go (no d) zero q = absurd (omega arith)
    go (no d) (suc m) q = inr (λ i e. s.agree i e
        ∙ ap (λ (J : Image). byte_at J i) (replay_past s.k A (store p w ∷ C) I (omega arith))
        ∙ ap (λ (n : ℕ). byte_at (replay (take n (store p w ∷ C)) (replay A I)) i) q
        ∙ replay_clear (take m C) (apply (store p w) (replay A I)) i (each_take (Misses i) m C (c i e))
        ∙ apply_cong (store p w) (replay A I) I i (length-replay A I) (replay_clear A I i (a i e)))

-- the last thing that O does to line ℓ is to clwb it
pub record Flushed (ℓ : ℕ) (O : Ops) : Type 0 where
  pub A : Ops
  pub C : Ops
  pub p : ℕ
  pub place : p / 64 ≡ ℓ
  pub off : Off ℓ C
  pub is : O ≡ A ++ (clwb p ∷ C)

pub off_append : (ℓ : ℕ) (O E : Ops) → Off ℓ O → Off ℓ E → Off ℓ (O ++ E)
off_append ℓ O E h k i e = each_append (Misses i) O E (h i e) (k i e)

pub flushed_more : (ℓ : ℕ) (O E : Ops) → Flushed ℓ O → Off ℓ E → Flushed ℓ (O ++ E)
flushed_more ℓ O E f h = record {
  A = f.A;
  C = f.C ++ E;
  p = f.p;
  place = f.place;
  off = off_append ℓ f.C E f.off h;
  is = rw f.is (append_assoc f.A (clwb f.p ∷ f.C) E);
}

pub flushed_after : (ℓ : ℕ) (O E : Ops) → Flushed ℓ E → Flushed ℓ (O ++ E)
flushed_after ℓ O E f = record {
  A = O ++ f.A;
  C = f.C;
  p = f.p;
  place = f.place;
  off = f.off;
  is = rw f.is (sym (append_assoc O f.A (clwb f.p ∷ f.C)));
}

pub settled_flushed : (ℓ : ℕ) (O : Ops) → Flushed ℓ O → Settled ℓ (O ++ sfence ∷ [])
settled_flushed ℓ O f =
    subst (λ (X : Ops). Settled ℓ X) (sym (ap (λ (X : Ops). X ++ sfence ∷ []) f.is ∙ append_assoc f.A (clwb f.p ∷ f.C) (sfence ∷ [])))
    (settled_fence ℓ f.A f.C f.p f.place f.off)

pub crash_bytes : {I H : Image} {O : Ops} → CrashImage I O H → ((i : ℕ) → byte_at I i < 256) → (i : ℕ) → byte_at H i < 256
crash_bytes {I} {H} {O} c h i =
    let s = c.lines (i / 64) in
    rw (s.agree i refl) (replay_small (take s.k O) I h i)

-- a byte of a settled line that is not stored to since
pub crash_byte : (I H : Image) (O E : Ops) (i : ℕ) → Settled (i / 64) O → Clear i E → Stage (i / 64) I (O ++ E) H → byte_at H i ≡ byte_at (replay O I) i
crash_byte I H O E i s c g = stage_clear i (local_crash (i / 64) I H O E s g) c

-- orders that settle line ℓ whatever came before them; that leave it settled if it was
abbrev pub Settles : ℕ → Ops → Type 0
Settles ℓ E = (O : Ops) → Settled ℓ (O ++ E)

abbrev pub Keeps : ℕ → Ops → Type 0
Keeps ℓ E = (O : Ops) → Settled ℓ O → Settled ℓ (O ++ E)

pub keeps_off : (ℓ : ℕ) (E : Ops) → Off ℓ E → Keeps ℓ E
keeps_off ℓ E c O s = settled_more ℓ O E s c

pub keeps_append : (ℓ : ℕ) (A E : Ops) → Keeps ℓ A → Keeps ℓ E → Keeps ℓ (A ++ E)
keeps_append ℓ A E h k O s = subst (λ (X : Ops). Settled ℓ X) (append_assoc O A E) (k (O ++ A) (h O s))

pub settles_then : (ℓ : ℕ) (A E : Ops) → Settles ℓ A → Keeps ℓ E → Settles ℓ (A ++ E)
settles_then ℓ A E h k O = subst (λ (X : Ops). Settled ℓ X) (append_assoc O A E) (k (O ++ A) (h O))

pub settles_after : (ℓ : ℕ) (A E : Ops) → Settles ℓ E → Settles ℓ (A ++ E)
settles_after ℓ A E k O = subst (λ (X : Ops). Settled ℓ X) (append_assoc O A E) (k (O ++ A))

pub settles_fence : (ℓ : ℕ) (X : Ops) → Flushed ℓ X → Settles ℓ (X ++ sfence ∷ [])
settles_fence ℓ X f O = subst (λ (Y : Ops). Settled ℓ Y) (append_assoc O X (sfence ∷ [])) (settled_flushed ℓ (O ++ X) (flushed_after ℓ O X f))

-- a cut in A ++ B is a cut in A, or one in B after A
pub crash_seq : (I H : Image) (O A B : Ops) (n : ℕ) → CrashImage I (O ++ take n (A ++ B)) H
    → ((n ≤ length A) × CrashImage I (O ++ take n A) H) ⊎ ((length A ≤ n) × CrashImage I ((O ++ A) ++ take (n - length A) B) H)
crash_seq I H O A B n c = go (dec_le n (length A))
  where
    go : Dec (n ≤ length A) → ((n ≤ length A) × CrashImage I (O ++ take n A) H) ⊎ ((length A ≤ n) × CrashImage I ((O ++ A) ++ take (n - length A) B) H)
    go (yes d) = inl (d, subst (λ (X : Ops). CrashImage I (O ++ X) H) (take-append-le n A B d) c)
    go (no d) = inr (
      omega arith,
      subst (λ (X : Ops). CrashImage I X H)
          (ap (λ (X : Ops). O ++ X) (take_past n A B (omega arith)) ∙ sym (append_assoc O A (take (n - length A) B))) c,
    )
