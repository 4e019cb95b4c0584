-- Laws of tests: of every number of a range, of the states of two images, and of runs of whole blocks.
use Prim.Native.Nat.{ℕ, zero, suc, ◌+◌, ◌*◌, ◌/◌, ◌%◌, ◌<◌}
use mathlib.Core.Path.{◌≡◌, refl, sym, ap, ap₂, ◌∙◌, subst}
use mathlib.Core.Bool.{Bool, true, false, ◌&&◌, beq, and-true, and_assoc, true≢false}
use mathlib.Core.List.{List, []}
use native.Mathlib.Omega.{arith}
use native.Mathlib.Nat.{zero-add, add-zero, add-suc, mul-zero, mul-suc}
use lib.Dec.{eqb}
use lib.ListN.{length, get_or, take, drop}
use Rattle.std.specs.Bool.{MatchBool}
use Rattle.std.specs.List.{AllWithin, HoldsAt, range_with_len}
use Rattle.std.specs.Simd.{first_chunks}
use Rattle.std.proofs.lemmas.List.{drop-drop}
use Rattle.std.proofs.lemmas.List.FromFn.{get_or-range_with_len, length-range_with_len}
use Rattle.std.proofs.lemmas.Simd.{get_or-chunk}
use Rattle.model.specs.Range.{all_b}
use Rattle.model.specs.Words.{byte_at}
use Rattle.model.specs.Layout.{ss_initial}
use Rattle.model.specs.Same.{same_initial, same_bytes}
use Rattle.model.proofs.Laws.Range.{all_at, all_from, all_more, all_ext}

-- what `all` over a range from 0 says of its answer
pub range_tested : (P : ℕ → Bool) (n : ℕ) (r : Bool) → MatchBool r (AllWithin (λ i. P i ≡ true) (range_with_len 0 n) 0 (length (range_with_len 0 n)))
    ((k : ℕ) × (k < length (range_with_len 0 n)) × HoldsAt (λ i. P i ≡ false) (range_with_len 0 n) k) → r ≡ all_b n P
range_tested P n true h =
    sym (all_from n P (λ k l. subst (λ i. P i ≡ true) (get_or-range_with_len 0 n k 0 l ∙ zero-add k) (h k 0 (omega arith) (omega (arith, length-range_with_len 0 n)))))
range_tested P n false h = go (all_b n P) refl
  where
    go : (b : Bool) → all_b n P ≡ b → false ≡ all_b n P
    go true q =
        let l : h.0 < n = omega (arith, h.1, length-range_with_len 0 n) in
        absurd (true≢false (sym (all_at n P q h.0 l) ∙ subst (λ i. P i ≡ false) (get_or-range_with_len 0 n h.0 0 l ∙ zero-add h.0) (h.2 0)))
    go false q = sym q

-- ---- states

-- a loop over the states of two images: one state more
pub initial_more : (a b : List ℕ) (n : ℕ) {s : Bool} {x y : ℕ} → s ≡ same_initial n (byte_at a) (byte_at b) → x ≡ get_or a n 0 → y ≡ get_or b n 0
    → (s && beq (eqb x ss_initial) (eqb y ss_initial)) ≡ same_initial (n + 1) (byte_at a) (byte_at b)
unfolding same_initial
initial_more a b n e p q = all_more n _ e (rw (p, q))

-- ---- runs of c

all_append : (n m : ℕ) (P : ℕ → Bool) → all_b (n + m) P ≡ (all_b n P && all_b m (λ k. P (n + k)))
unfolding all_b
all_append n zero P = rw add-zero (sym (and-true (all_b n P)))
all_append n (suc m) P = rw add-suc (ap (λ (b : Bool). b && P (n + m)) (all_append n m P) ∙ and_assoc (all_b n P) _ _)

-- a test of n runs of c is one of c in each run
pub runs : (c n : ℕ) (P : ℕ → Bool) → all_b (c * n) P ≡ all_b n (λ i. all_b c (λ k. P (c * i + k)))
unfolding all_b
runs c zero P = rw mul-zero
runs c (suc n) P = rw mul-suc (all_append (c * n) c P ∙ ap (λ (b : Bool). b && all_b c (λ k. P (c * n + k))) (runs c n P))

-- two tests of each number
pub all_both : (n : ℕ) (P Q : ℕ → Bool) → all_b n (λ i. P i && Q i) ≡ (all_b n P && all_b n Q)
unfolding all_b
all_both zero P Q = refl
all_both (suc n) P Q = ap (λ (b : Bool). b && (P n && Q n)) (all_both n P Q) ∙ swap (all_b n P) (all_b n Q) (P n) (Q n)
  where
    swap : (a b c d : Bool) → ((a && b) && (c && d)) ≡ ((a && c) && (b && d))
    swap true true c d = refl
    swap true false true d = refl
    swap true false false d = refl
    swap false b c d = refl

-- ---- blocks

block_at : (n : ℕ) (a : List ℕ) (i : ℕ) → i < n → get_or (first_chunks 256 n a) i [] ≡ take 256 (drop (256 * i) a)
block_at zero a i h = absurd (omega arith)
block_at (suc n) a zero h = refl
block_at (suc n) a (suc i) h = block_at n (drop 256 a) i (omega arith) ∙ ap (take 256) (drop-drop (256 * i) 256 a ∙ ap (λ m. drop m a) (omega arith))

block_byte : (n : ℕ) (a : List ℕ) (i k : ℕ) → i < n → k < 256 → get_or (get_or (first_chunks 256 n a) i []) k 0 ≡ get_or a (256 * i + k) 0
block_byte n a i k h l = rw (block_at n a i h) (get_or-chunk (256 * i) 256 a k 0 l)

-- whole blocks of two lists
pub blocks_tested : (a b : List ℕ) {x y : List (List ℕ)} → length a ≡ length b → length a % 256 ≡ 0 → x ≡ first_chunks 256 (length a / 256) a
    → y ≡ first_chunks 256 (length b / 256) b → all_b (length a / 256) (λ i. same_bytes 256 (get_or x i []) (get_or y i [])) ≡ same_bytes (length a) a b
unfolding same_bytes
blocks_tested a b e whole p q =
    let n = length a / 256 in
    rw (p, q, ← e) (all_ext n _ _ (λ i l. all_ext 256 _ _ (λ k m. ap₂ (λ (x y : ℕ). eqb x y) (block_byte n a i k l m) (block_byte n b i k l m)))
    ∙ sym (runs 256 n _) ∙ ap (λ (m : ℕ). same_bytes m a b) (omega arith))
