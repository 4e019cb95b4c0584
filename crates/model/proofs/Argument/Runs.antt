-- Runs of operations: `Puts`, a run that leaves given bytes in one stretch of the image and stores nowhere else; `Neat`, a
-- run that writes back every line that it stores to; between them, runs of the dirty blocks of a stretch.
use Prim.Native.Nat.{ℕ, zero, suc, ◌+◌, ◌-◌, ◌*◌, ◌/◌, ◌%◌, ◌≤◌, ◌<◌}
use mathlib.Core.Path.{◌≡◌, refl, sym, ap, ◌∙◌, subst}
use mathlib.Core.Logic.{◌⊎◌, inl, inr, ⊎_elim}
use mathlib.Core.Bool.{Bool, true, false, cond}
use mathlib.Core.List.{[], ◌∷◌, ◌++◌}
use native.Mathlib.Decide.{dec_lt, ℕ_discrete}
use native.Mathlib.Nat.{mul-suc, mul-zero}
use native.Mathlib.Omega.{arith}
use lib.ListN.{length, get_or}
use Rattle.model.specs.Range.{cat}
use Rattle.model.specs.Words.{Image, byte_at, bytes_of, store_word}
use Rattle.model.specs.Ops.{store, clwb, sfence, Ops, apply, replay, stores, clwbs, put_block, each_dirty}
use Rattle.model.specs.Session.{is_dirty}
use Rattle.model.specs.CrashExact.{Each}
use Rattle.model.proofs.Laws.Words.{length-bytes_of, sets_at}
use Rattle.model.proofs.Argument.Persist.{Misses, Clear, each_append, each_mono, length-replay, replay_clear, replay_append}
use Rattle.model.proofs.Argument.Settled.{Off, Flushed, flushed_more, flushed_after, off_append, Keeps, keeps_off, settles_fence}

-- ---- runs of stores

-- the operations store within [a, a + n) and leave f there (f of the place in the image)
pub record Puts (O : Ops) (a n : ℕ) (f : ℕ → ℕ) : Type 0 where
  pub inside : Each (λ p. (a ≤ p) × (p + 8 ≤ a + n)) O
  pub leaves : (J : Image) (i : ℕ) → a + n ≤ length J → a ≤ i → i < a + n → byte_at (replay O J) i ≡ f i

pub puts_clear : {O : Ops} {a n : ℕ} {f : ℕ → ℕ} → Puts O a n f → (i : ℕ) → (i < a) ⊎ (a + n ≤ i) → Clear i O
puts_clear {O} w i (inl h) = each_mono _ (Misses i) (λ p q x y. omega arith) O w.inside
puts_clear {O} w i (inr h) = each_mono _ (Misses i) (λ p q x y. omega arith) O w.inside

-- two adjacent runs
pub puts_append : (O E : Ops) (a n b m t : ℕ) (f : ℕ → ℕ) → Puts O a n f → Puts E b m f → b ≡ a + n → t ≡ n + m → Puts (O ++ E) a t f
puts_append O E a n b m t f u v bn tn = record {
  inside = each_append _ O E
      (each_mono _ (λ p. (a ≤ p) × (p + 8 ≤ a + t)) (λ p x. omega arith) O u.inside)
      (each_mono _ (λ p. (a ≤ p) × (p + 8 ≤ a + t)) (λ p x. omega arith) E v.inside);
  leaves = λ J i l x y. ap (λ (K : Image). byte_at K i) (replay_append O E J) ∙ go J i l x y (dec_lt i b);
}
  where
    go : (J : Image) (i : ℕ) → a + t ≤ length J → a ≤ i → i < a + t → Dec (i < b) → byte_at (replay E (replay O J)) i ≡ f i
    go J i l x y (yes d) = replay_clear E (replay O J) i (puts_clear v i (inl d)) ∙ u.leaves J i (omega arith) x (omega arith)
    go J i l x y (no d) = v.leaves (replay O J) i (omega (arith, length-replay O J)) (omega arith) (omega arith)

pub puts_none : (O : Ops) (a : ℕ) (f : ℕ → ℕ) → Each (λ p. ⊥) O → Puts O a 0 f
puts_none O a f h = record { inside = each_mono _ _ (λ p x. absurd x) O h; leaves = λ J i l x y. absurd (omega arith) }

-- a run and then operations that store nothing
pub puts_then : (O E : Ops) (a n : ℕ) (f : ℕ → ℕ) → Puts O a n f → Each (λ p. ⊥) E → Puts (O ++ E) a n f
puts_then O E a n f u h = puts_append O E a n (a + n) 0 n f u (puts_none E (a + n) f h) refl (omega arith)

pub puts_store : (p v : ℕ) (f : ℕ → ℕ) → ((b : ℕ) → b < 8 → get_or (bytes_of 8 v) b 0 ≡ f (p + b)) → Puts (store p v ∷ []) p 8 f
unfolding replay apply store_word
puts_store p v f h = record {
  inside = (omega arith, tt);
  leaves = λ J i l x y.
      let e : p + (i - p) ≡ i = omega arith in
      let n : length (bytes_of 8 v) ≡ 8 = length-bytes_of 8 v in
      subst (λ (j : ℕ). byte_at (store_word J p v) j ≡ f j) e
      (sets_at (bytes_of 8 v) J p (i - p) (omega arith) (omega arith) ∙ h (i - p) (omega arith));
}

-- another function that agrees
pub puts_as : {O : Ops} {a n : ℕ} {f : ℕ → ℕ} (g : ℕ → ℕ) → Puts O a n f → ((i : ℕ) → a ≤ i → i < a + n → f i ≡ g i) → Puts O a n g
puts_as g u h = record { inside = u.inside; leaves = λ J i l x y. u.leaves J i l x y ∙ h i x y }

-- n runs of c bytes each
pub puts_cat : (n c a : ℕ) (g : ℕ → Ops) (f : ℕ → ℕ) → ((k : ℕ) → k < n → Puts (g k) (a + c * k) c f) → Puts (cat n g) a (c * n) f
unfolding cat
puts_cat zero c a g f h = subst (λ (m : ℕ). Puts [] a m f) (sym (mul-zero c)) (puts_none [] a f tt)
puts_cat (suc n) c a g f h =
    puts_append (cat n g) (g n) a (c * n) (a + c * n) c (c * suc n) f
    (puts_cat n c a g f (λ k l. h k (omega arith))) (h n (omega arith)) refl (mul-suc c n ∙ omega arith)

pub puts_stores : (n a : ℕ) (w f : ℕ → ℕ) → ((k b : ℕ) → k < n → b < 8 → get_or (bytes_of 8 (w k)) b 0 ≡ f (a + 8 * k + b)) → Puts (stores n a w) a (8 * n) f
unfolding stores
puts_stores n a w f h = puts_cat n 8 a _ f (λ k l. puts_store (a + 8 * k) (w k) f (λ b x. h k b l x))

pub each_cat : (Q : ℕ → Type 0) (n : ℕ) (g : ℕ → Ops) → ((k : ℕ) → k < n → Each Q (g k)) → Each Q (cat n g)
unfolding cat
each_cat Q zero g h = tt
each_cat Q (suc n) g h = each_append Q (cat n g) (g n) (each_cat Q n g (λ k l. h k (omega arith))) (h n (omega arith))

pub clwbs_none : (Q : ℕ → Type 0) (n a : ℕ) → Each Q (clwbs n a)
unfolding clwbs
clwbs_none Q n a = each_cat Q n _ (λ k l. tt)

-- a block, written back or not
pub puts_block : (flush : Bool) (a : ℕ) (w f : ℕ → ℕ) → ((k b : ℕ) → k < 32 → b < 8 → get_or (bytes_of 8 (w k)) b 0 ≡ f (a + 8 * k + b))
    → Puts (put_block flush a w) a 256 f
unfolding put_block
puts_block true a w f h = puts_then (stores 32 a w) (clwbs 4 a) a 256 f (puts_stores 32 a w f h) (clwbs_none _ 4 a)
puts_block false a w f h = puts_then (stores 32 a w) [] a 256 f (puts_stores 32 a w f h) tt

-- n blocks from a on
pub puts_blocks : (n a : ℕ) (w : ℕ → ℕ → ℕ) (f : ℕ → ℕ)
    → ((m k b : ℕ) → m < n → k < 32 → b < 8 → get_or (bytes_of 8 (w m k)) b 0 ≡ f (a + 256 * m + 8 * k + b)) → Puts (cat n (λ m. put_block true (a + 256 * m) (w m))) a (256 * n) f
puts_blocks n a w f h = puts_cat n 256 a _ f (λ m l. puts_block true (a + 256 * m) (w m) f (λ k b x y. h m k b l x y))

-- ---- the dirty blocks of a stretch

-- blocks from a on, of which f b stores block b and leaves g there (g of the place in the stretch); only those that are dirty by a word are
-- stored
module _ (word a count : ℕ) (f : ℕ → Ops) (g : ℕ → ℕ) (puts : (b : ℕ) → b < count → Puts (f b) (a + 256 * b) 256 (λ k. g (k - a))) where
  block_clear : (b : ℕ) → b < count → (d : Bool) (k : ℕ) → (k < a + 256 * b) ⊎ (a + 256 * b + 256 ≤ k) → Clear k (cond d (f b) [])
  block_clear b h true k q = puts_clear (puts b h) k q
  block_clear b h false k q = tt

  -- they store inside the stretch, and into no block that is not dirty
  pub dirty_clear : (n k : ℕ) → n ≤ count → (k < a) ⊎ (a + 256 * n ≤ k) → Clear k (each_dirty word n f)
  dirty_clear n k m h =
      each_cat (Misses k) n _ (λ b x. block_clear b (omega arith) (is_dirty word b) k (⊎_elim (λ q. inl (omega arith)) (λ q. inr (omega arith)) h))

  pub clean_clear : (x : ℕ) → is_dirty word (x / 256) ≡ false → Clear (a + x) (each_dirty word count f)
  clean_clear x e = each_cat (Misses (a + x)) count _ (λ b h. go b h (ℕ_discrete b (x / 256)))
    where
      go : (b : ℕ) → b < count → Dec (b ≡ x / 256) → Clear (a + x) (cond (is_dirty word b) (f b) [])
      go b h (yes q) = rw (q, e) tt
      go b h (no q) = block_clear b h (is_dirty word b) (a + x) (beside (dec_lt (x / 256) b))
        where
          beside : Dec (x / 256 < b) → (a + x < a + 256 * b) ⊎ (a + 256 * b + 256 ≤ a + x)
          beside (yes y) = inl (omega arith)
          beside (no y) = inr (omega arith)

  -- a block that is stored has g, and one that is not dirty had it
  pub dirty_leaves : (J : Image) → a + 256 * count ≤ length J
      → ((x : ℕ) → x < 256 * count → is_dirty word (x / 256) ≡ false → byte_at J (a + x) ≡ g x)
      → (n : ℕ) → n ≤ count → (x : ℕ) → x < 256 * n → byte_at (replay (each_dirty word n f) J) (a + x) ≡ g x
  unfolding cat
  dirty_leaves J long clean zero h x k = absurd (omega arith)
  dirty_leaves J long clean (suc n) h x k =
      ap (λ (X : Image). byte_at X (a + x)) (replay_append D (cond (is_dirty word n) (f n) []) J)
      ∙ go (λ q. dirty_leaves J long clean n (omega arith) x q) (dec_lt x (256 * n)) (is_dirty word n) refl
    where
      D : Ops
      D = each_dirty word n f

      go : (x < 256 * n → byte_at (replay D J) (a + x) ≡ g x) → Dec (x < 256 * n) → (d : Bool) → is_dirty word n ≡ d
          → byte_at (replay (cond d (f n) []) (replay D J)) (a + x) ≡ g x
      go ih (yes q) d e = replay_clear (cond d (f n) []) (replay D J) (a + x) (block_clear n (omega arith) d (a + x) (inl (omega arith))) ∙ ih q
      go ih (no q) true e = (puts n (omega arith)).leaves (replay D J) (a + x) (omega (arith, length-replay D J)) (omega arith) (omega arith) ∙ ap g (omega arith)
      go ih (no q) false e =
          replay_clear [] (replay D J) (a + x) tt ∙ replay_clear D J (a + x) (dirty_clear n (a + x) (omega arith) (inr (omega arith)))
          ∙ clean x (omega arith) (let b : x / 256 ≡ n = omega arith in rw b e)

-- what words leave where they are stored, whatever they are
filled : ℕ → (ℕ → ℕ) → ℕ → ℕ
filled a w i = get_or (bytes_of 8 (w ((i - a) / 8))) ((i - a) % 8) 0

pub fill_block : (a : ℕ) (w : ℕ → ℕ) → (f : ℕ → ℕ) × Puts (put_block true a w) a 256 f
unfolding filled
fill_block a w = (
  filled a w,
  puts_block true a w (filled a w) (λ k b x y.
      let e : (a + 8 * k + b - a) / 8 ≡ k = omega arith in
      let r : (a + 8 * k + b - a) % 8 ≡ b = omega arith in
      rw (e, r)),
)

-- a run of whole lines stores into no other line
pub puts_off : {O : Ops} {a n : ℕ} {f : ℕ → ℕ} → Puts O a n f → (ℓ : ℕ) → a % 64 ≡ 0 → n % 64 ≡ 0 → (64 * ℓ < a) ⊎ (a + n ≤ 64 * ℓ) → Off ℓ O
puts_off u ℓ h k (inl x) i e = puts_clear u i (inl (omega arith))
puts_off u ℓ h k (inr x) i e = puts_clear u i (inr (omega arith))

-- ---- runs that write back what they store

-- each line is not stored to, or written back after its last store
abbrev pub Neat : Ops → Type 0
Neat O = (ℓ : ℕ) → Off ℓ O ⊎ Flushed ℓ O

pub neat_nil : Neat []
neat_nil ℓ = inl (λ i e. tt)

pub neat_append : (O E : Ops) → Neat O → Neat E → Neat (O ++ E)
neat_append O E h k ℓ = go (h ℓ) (k ℓ)
  where
    go : Off ℓ O ⊎ Flushed ℓ O → Off ℓ E ⊎ Flushed ℓ E → Off ℓ (O ++ E) ⊎ Flushed ℓ (O ++ E)
    go x (inr f) = inr (flushed_after ℓ O E f)
    go (inl a) (inl b) = inl (off_append ℓ O E a b)
    go (inr f) (inl b) = inr (flushed_more ℓ O E f b)

pub neat_cat : (n : ℕ) (g : ℕ → Ops) → ((k : ℕ) → k < n → Neat (g k)) → Neat (cat n g)
unfolding cat
neat_cat zero g h = neat_nil
neat_cat (suc n) g h = neat_append (cat n g) (g n) (neat_cat n g (λ k l. h k (omega arith))) (h n (omega arith))

-- a line that one part writes back, and each later part leaves or writes back
pub flushed_cat : (ℓ n : ℕ) (g : ℕ → Ops) → ((k : ℕ) → k < n → Neat (g k)) → (k : ℕ) → k < n → Flushed ℓ (g k) → Flushed ℓ (cat n g)
unfolding cat
flushed_cat ℓ zero g h k l f = absurd (omega arith)
flushed_cat ℓ (suc n) g h k l f = go (λ x. flushed_cat ℓ n g (λ m y. h m (omega arith)) k x f) (ℕ_discrete k n) (h n (omega arith) ℓ)
  where
    go : (k < n → Flushed ℓ (cat n g)) → Dec (k ≡ n) → Off ℓ (g n) ⊎ Flushed ℓ (g n) → Flushed ℓ (cat n g ++ g n)
    go ih d (inr x) = flushed_after ℓ (cat n g) (g n) x
    go ih (yes e) (inl x) = flushed_after ℓ (cat n g) (g n) (subst (λ (m : ℕ). Flushed ℓ (g m)) e f)
    go ih (no e) (inl x) = flushed_more ℓ (cat n g) (g n) (ih (omega arith)) x

-- operations that store nothing
pub neat_none : (O : Ops) → ((Q : ℕ → Type 0) → Each Q O) → Neat O
neat_none O h ℓ = inl (λ i e. h (Misses i))

pub flushed_clwb : (p : ℕ) → Flushed (p / 64) (clwb p ∷ [])
flushed_clwb p = record { A = []; C = []; p = p; place = refl; off = λ i e. tt; is = refl }

pub flushed_clwbs : (ℓ n a : ℕ) → a % 64 ≡ 0 → a ≤ 64 * ℓ → 64 * ℓ < a + 64 * n → Flushed ℓ (clwbs n a)
unfolding clwbs
flushed_clwbs ℓ n a h x y =
    let e : (a + 64 * (ℓ - a / 64)) / 64 ≡ ℓ = omega arith in
    flushed_cat ℓ n _ (λ k l. neat_none _ (λ Q. tt)) (ℓ - a / 64) (omega arith)
    (subst (λ (m : ℕ). Flushed m (clwb (a + 64 * (ℓ - a / 64)) ∷ [])) e (flushed_clwb (a + 64 * (ℓ - a / 64))))

flushed_block : (ℓ a : ℕ) (w : ℕ → ℕ) → a % 64 ≡ 0 → a ≤ 64 * ℓ → 64 * ℓ < a + 256 → Flushed ℓ (put_block true a w)
unfolding put_block
flushed_block ℓ a w h x y = flushed_after ℓ (stores 32 a w) (clwbs 4 a) (flushed_clwbs ℓ 4 a h x (omega arith))

pub neat_block : (a : ℕ) (w : ℕ → ℕ) → a % 64 ≡ 0 → Neat (put_block true a w)
neat_block a w h ℓ = go (dec_lt (64 * ℓ) a) (dec_lt (64 * ℓ) (a + 256))
  where
    go : Dec (64 * ℓ < a) → Dec (64 * ℓ < a + 256) → Off ℓ (put_block true a w) ⊎ Flushed ℓ (put_block true a w)
    go (yes x) y = inl (puts_off (fill_block a w).1 ℓ h refl (inl x))
    go (no x) (yes y) = inr (flushed_block ℓ a w h (omega arith) y)
    go (no x) (no y) = inl (puts_off (fill_block a w).1 ℓ h refl (inr (omega arith)))

pub neat_blocks : (n a : ℕ) (w : ℕ → ℕ → ℕ) → a % 64 ≡ 0 → Neat (cat n (λ m. put_block true (a + 256 * m) (w m)))
neat_blocks n a w h = neat_cat n _ (λ m l. neat_block (a + 256 * m) (w m) (omega arith))

pub flushed_blocks : (ℓ n a : ℕ) (w : ℕ → ℕ → ℕ) → a % 64 ≡ 0 → a ≤ 64 * ℓ → 64 * ℓ < a + 256 * n → Flushed ℓ (cat n (λ m. put_block true (a + 256 * m) (w m)))
flushed_blocks ℓ n a w h x y =
    flushed_cat ℓ n _ (λ m l. neat_block (a + 256 * m) (w m) (omega arith)) ((64 * ℓ - a) / 256) (omega arith)
    (flushed_block ℓ (a + 256 * ((64 * ℓ - a) / 256)) (w ((64 * ℓ - a) / 256)) (omega arith) (omega arith) (omega arith))

-- a neat run and a fence leave every settled line settled
pub neat_keeps : (X : Ops) → Neat X → (ℓ : ℕ) → Keeps ℓ (X ++ sfence ∷ [])
neat_keeps X h ℓ =
    ⊎_elim (λ o. keeps_off ℓ (X ++ sfence ∷ []) (off_append ℓ X (sfence ∷ []) o (λ i e. tt))) (λ g O s. settles_fence ℓ X g O) (h ℓ)
