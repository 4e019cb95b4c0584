-- Laws of words taken byte by byte: what an operation on a word does to each of its bytes, where no byte reaches into the next; the
-- code's words of eight bits, of the bytes that are not 0, and of one byte eight times; the lowest place of a byte.
use Prim.Native.Nat.{ℕ, zero, suc, ◌+◌, ◌-◌, ◌*◌, ◌/◌, ◌%◌, ◌^◌, ◌≤◌, ◌<◌}
use mathlib.Core.Path.{◌≡◌, refl, sym, ap, ap₂, ◌∙◌}
use mathlib.Core.Bool.{Bool, true, false, cond}
use native.Mathlib.Omega.{arith}
use native.Mathlib.Decide.{ℕ_discrete, dec_lt}
use native.Mathlib.Nat.{zero-add, zero-mul, mul-one, suc-add}
use lib.Bits.{bit_and, bit_or, bit_xor, and_mask, and_block, and_high, and_le_r, or_block, or_lt, xor_block, xor_self, xor_add_and, and_le_l, shifted_half, shifted_even}
use lib.Count.{count_trailing_zeros, under}
use lib.Dec.{eqb}
use lib.Pow.{field, mod-mod-pow, pow-add, pow-lt, pow_pos, shr-shr}
use borrow.Author.Tests.{lt-ltb, le-ltb, eqb-true, eq-eqb, ne_eqb}
use Rattle.model.specs.Range.{all_b, or_next, first_b, one_if}
use Rattle.model.specs.Words.{little_endian, word_of}
use Rattle.model.specs.Session.{bit}
use Rattle.model.proofs.Laws.Range.{all_at, first_ext}
use Rattle.model.proofs.Laws.Session.{bit_lt}
use Rattle.model.proofs.Laws.Words.{word_moved, word_cong}

-- f p, f (p + 1), .. are n bytes
abbrev pub Small : ℕ → (ℕ → ℕ) → ℕ → Type 0
Small n f p = (i : ℕ) → p ≤ i → i < p + n → f i < 256

-- an operation that treats the eight low bits and the rest apart treats each byte apart
module _ (op : ℕ → ℕ → ℕ) (block : (a b r s : ℕ) → r < 256 → s < 256 → op (a * 256 + r) (b * 256 + s) ≡ op a b * 256 + op r s) (none : op 0 0 ≡ 0) where
  pub by_bytes : (n : ℕ) (f g : ℕ → ℕ) (p : ℕ) → Small n f p → Small n g p
      → op (little_endian n f p) (little_endian n g p) ≡ little_endian n (λ i. op (f i) (g i)) p
  unfolding little_endian
  by_bytes zero f g p x y = none
  by_bytes (suc n) f g p x y =
      ap₂ op (low f) (low g) ∙ block _ _ (f p) (g p) (x p (omega arith) (omega arith)) (y p (omega arith) (omega arith))
      ∙ omega (arith, by_bytes n f g (suc p) (λ i a b. x i (omega arith) (omega arith)) (λ i a b. y i (omega arith) (omega arith)))
    where
      low : (h : ℕ → ℕ) → h p + 256 * little_endian n h (suc p) ≡ little_endian n h (suc p) * 256 + h p
      low h = omega arith

pub sum_bytes : (n : ℕ) (f g : ℕ → ℕ) (p : ℕ) → little_endian n f p + little_endian n g p ≡ little_endian n (λ i. f i + g i) p
unfolding little_endian
sum_bytes zero f g p = refl
sum_bytes (suc n) f g p = omega (arith, sum_bytes n f g (suc p))

-- the top bit of each byte, brought down to its lowest place
pub top_bytes : (n : ℕ) (f : ℕ → ℕ) (p : ℕ) → Small n f p → bit_and (little_endian n f p / 128) (little_endian n (λ i. 1) p) ≡ little_endian n (λ i. f i / 128) p
unfolding little_endian
top_bytes zero f p x = refl
top_bytes (suc n) f p x =
    let rest = little_endian n f (suc p) in
    let low = rest % 128 * 2 + f p / 128 in
    let h = x p (omega arith) (omega arith) in
    let e : (f p + 256 * rest) / 128 ≡ rest / 128 * 256 + low = omega arith in
    let o : 1 + 256 * little_endian n (λ i. 1) (suc p) ≡ little_endian n (λ i. 1) (suc p) * 256 + 1 = omega arith in
    ap₂ bit_and e o ∙ and_block 8 _ _ low 1 (omega arith) (omega arith)
    ∙ omega (arith, and_mask low 1, top_bytes n f (suc p) (λ i a b. x i (omega arith) (omega arith)))

-- a word by its bytes counted from 0
pub word_from : (f : ℕ → ℕ) (p : ℕ) → word_of f p ≡ word_of (λ k. f (p + k)) 0
word_from f p = word_moved f (λ k. f (p + k)) p 0 (λ k l. ap f (omega arith))

-- ---- eight bits, one in each byte

-- the code's words of eight bytes
abbrev pub each_one : ℕ
each_one = 0x0101010101010101

abbrev each_its_bit : ℕ
each_its_bit = 0x8040201008040201

abbrev each_low : ℕ
each_low = 0x7f7f7f7f7f7f7f7f

each : (b : ℕ) → b * each_one ≡ little_endian 8 (λ k. b) 0
unfolding little_endian
each b = omega arith

pub each_byte : (b : ℕ) → b * each_one ≡ word_of (λ k. b) 0
unfolding word_of
each_byte b = each b

-- `(bits * EACH_ONE) & EACH_ITS_BIT`
abbrev pub spread_of : ℕ → ℕ
spread_of bits = bit_and (bits * each_one) each_its_bit

-- byte k is bit k, where it stands
spread : (bits : ℕ) → bits < 256 → spread_of bits ≡ word_of (λ k. bit_and bits (2 ^ k)) 0
unfolding word_of
spread bits h = ap₂ bit_and (each bits) its ∙ by_bytes bit_and (and_block 8) refl 8 (λ k. bits) (λ k. 2 ^ k) 0 (λ k a b. h) (λ k a b. pow-lt b)
  where
    its : each_its_bit ≡ little_endian 8 (λ k. 2 ^ k) 0
    its = unfold little_endian in refl

-- bit k of the eight bits from bit p on
bit_of_eight : (m p k : ℕ) → k < 8 → bit_and (m / 2 ^ p % 256) (2 ^ k) ≡ bit m (p + k) * 2 ^ k
unfolding bit
bit_of_eight m p k h =
    let e : 7 - k + 1 + k ≡ 8 = omega arith in
    let d : 2 ^ k ≡ 2 ^ (1 + k) - 2 ^ k = omega (arith, pow-add 2 1 k) in
    ap (bit_and (m / 2 ^ p % 256)) d ∙ and_high (m / 2 ^ p % 256) 1 k
    ∙ ap (λ (w : ℕ). w % 2 * 2 ^ k) (ap (λ (n : ℕ). m / 2 ^ p % 2 ^ n / 2 ^ k) (sym e) ∙ field (m / 2 ^ p) (7 - k + 1) k)
    ∙ ap (λ (w : ℕ). w * 2 ^ k) (mod-mod-pow (m / 2 ^ p / 2 ^ k) (7 - k) 1 ∙ ap (λ (w : ℕ). w % 2) (shr-shr m p k))

-- ---- the bytes that are not 0

-- `((w & EACH_LOW) + EACH_LOW) | w`, its top bits brought down; and the same of one byte
abbrev pub present_of : ℕ → ℕ
present_of w = bit_and (bit_or (bit_and w each_low + each_low) w / 128) each_one

abbrev present_byte : ℕ → ℕ
present_byte b = bit_or (bit_and b 127 + 127) b / 128

present_bytes : (f : ℕ → ℕ) → Small 8 f 0 → present_of (word_of f 0) ≡ word_of (λ k. present_byte (f k)) 0
unfolding word_of
present_bytes f h = rw (
  each 127,
  each 1,
  by_bytes bit_and (and_block 8) refl 8 f (λ k. 127) 0 h (λ k a b. omega arith),
  sum_bytes 8 (λ k. bit_and (f k) 127) (λ k. 127) 0,
  by_bytes bit_or (or_block 8) refl 8 (λ k. bit_and (f k) 127 + 127) f 0 (λ k a b. low k) h,
) (top_bytes 8 (λ k. bit_or (bit_and (f k) 127 + 127) (f k)) 0 (λ k a b. or_lt 8 _ (f k) (low k) (h k a b)))
  where
    low : (k : ℕ) → bit_and (f k) 127 + 127 < 256
    low k = omega (arith, and_le_r (f k) 127)

-- it is 0 for the byte 0 and 1 for every other
present_byte_lem : (b : ℕ) → b < 256 → present_byte b ≡ cond (eqb b 0) 0 1
unfolding all_b
present_byte_lem b h = eqb-true _ _ (all_at 256 (λ b. eqb (present_byte b) (cond (eqb b 0) 0 1)) refl b h)

pub present_word : (f : ℕ → ℕ) → ((k : ℕ) → k < 8 → f k < 256) → present_of (word_of f 0) ≡ word_of (λ k. cond (eqb (f k) 0) 0 1) 0
present_word f h = present_bytes f (λ k a b. h k b) ∙ word_cong _ _ 0 (λ k a b. present_byte_lem (f k) (h k b))

-- ---- eight bits of a set

pub spread_bits : (m p : ℕ) → spread_of (m / 2 ^ p % 256) ≡ word_of (λ k. bit m (p + k) * 2 ^ k) 0
spread_bits m p = spread (m / 2 ^ p % 256) (omega arith) ∙ word_cong _ _ 0 (λ k a b. bit_of_eight m p k b)

-- a bit at its own place is a byte, and is 0 where the bit is
pub bit_small : (m p k : ℕ) → k < 8 → bit m (p + k) * 2 ^ k < 256
bit_small m p k h = go (bit m (p + k)) (bit_lt m (p + k))
  where
    go : (x : ℕ) → x < 2 → x * 2 ^ k < 256
    go zero l = omega (arith, zero-mul (2 ^ k))
    go (suc zero) l = let q : 2 ^ k < 256 = pow-lt h in omega arith
    go (suc (suc x)) l = absurd (omega arith)

pub bits_as_bytes : (m p : ℕ) → word_of (λ k. cond (eqb (bit m (p + k) * 2 ^ k) 0) 0 1) 0 ≡ word_of (bit m) p
bits_as_bytes m p = word_moved (λ k. cond (eqb (bit m (p + k) * 2 ^ k) 0) 0 1) (bit m) 0 p (λ k l. ap (λ (n : ℕ). cond (eqb (bit m (p + n) * 2 ^ n) 0) 0 1) (omega arith) ∙ go k (bit m (p + k)) (bit_lt m (p + k)))
  where
    go : (k x : ℕ) → x < 2 → cond (eqb (x * 2 ^ k) 0) 0 1 ≡ x
    go k zero l = rw (zero-mul (2 ^ k))
    go k (suc zero) l = rw (ne_eqb (1 * 2 ^ k) 0 (λ e. omega (arith, pow_pos k)))
    go k (suc (suc x)) l = absurd (omega arith)

-- ---- equal words

pub number_bytes : (n : ℕ) (f g : ℕ → ℕ) (p : ℕ) → Small n f p → Small n g p → little_endian n f p ≡ little_endian n g p → (k : ℕ) → k < n → f (p + k) ≡ g (p + k)
unfolding little_endian
number_bytes zero f g p x y e k h = absurd (omega arith)
number_bytes (suc n) f g p x y e zero h =
    let q : f p ≡ g p = omega (arith, x p (omega arith) (omega arith), y p (omega arith) (omega arith)) in ap f (omega arith) ∙ q ∙ ap g (omega arith)
number_bytes (suc n) f g p x y e (suc k) h =
    ap f (omega arith)
    ∙ number_bytes n f g (suc p) (λ i a b. x i (omega arith) (omega arith)) (λ i a b. y i (omega arith) (omega arith))
    (omega (arith, x p (omega arith) (omega arith), y p (omega arith) (omega arith))) k (omega arith)
    ∙ ap g (omega arith)

-- equal words have equal bytes
pub word_bytes : (f g : ℕ → ℕ) (p : ℕ) → Small 8 f p → Small 8 g p → word_of f p ≡ word_of g p → (k : ℕ) → k < 8 → f (p + k) ≡ g (p + k)
unfolding word_of
word_bytes f g p x y e = number_bytes 8 f g p x y e

-- ---- a byte found in a word

pub xor_same : (a b : ℕ) → eqb (bit_xor a b) 0 ≡ eqb a b
xor_same a b = go (ℕ_discrete a b)
  where
    same : bit_xor a b ≡ 0 → a ≡ b
    same z = omega (arith, xor_add_and a b, and_le_l a b, and_le_r a b)

    go : Dec (a ≡ b) → eqb (bit_xor a b) 0 ≡ eqb a b
    go (yes e) = rw (e, eq-eqb _ _ (xor_self b), eq-eqb b b refl)
    go (no e) = ne_eqb (bit_xor a b) 0 (λ z. e (same z)) ∙ sym (ne_eqb a b e)

pub xor_bytes : (f : ℕ → ℕ) (b : ℕ) → b < 256 → ((k : ℕ) → k < 8 → f k < 256) → bit_xor (word_of f 0) (word_of (λ k. b) 0) ≡ word_of (λ k. bit_xor (f k) b) 0
unfolding word_of
xor_bytes f b h s = by_bytes bit_xor (xor_block 8) refl 8 f (λ k. b) 0 (λ k a c. s k c) (λ k a c. h)

-- 1 in the bytes that pass a test, where the marks of `present` are 1 in those that fail it
pub marks_flipped : (t : ℕ → Bool) → bit_xor (word_of (λ k. cond (t k) 0 1) 0) (word_of (λ k. 1) 0) ≡ word_of (λ k. one_if (t k)) 0
marks_flipped t = xor_bytes (λ k. cond (t k) 0 1) 1 (omega arith) (λ k l. small (t k)) ∙ word_cong _ _ 0 (λ k a l. flipped (t k))
  where
    small : (b : Bool) → cond b 0 1 < 256
    small true = omega arith
    small false = omega arith

    flipped : (b : Bool) → bit_xor (cond b 0 1) 1 ≡ one_if b
    flipped true = refl
    flipped false = refl

-- ---- the lowest place of a byte in a word

-- the first number that passes is 0, or one more than the first of those after it
first_cons : (n : ℕ) (P : ℕ → Bool) → first_b (suc n) P ≡ cond (P 0) 0 (suc (first_b n (λ k. P (suc k))))
unfolding first_b or_next
first_cons zero P = refl
first_cons (suc n) P = ap (λ (x : ℕ). or_next x (suc n) (P (suc n))) (first_cons n P) ∙ go (P 0) (first_b n (λ k. P (suc k))) (P (suc n))
  where
    go : (a : Bool) (x : ℕ) (b : Bool) → or_next (cond a 0 (suc x)) (suc n) b ≡ cond a 0 (suc (or_next x n b))
    go true x b = rw (lt-ltb 0 (suc n) (omega arith))
    go false x b = last (dec_lt x n) b
      where
        last : Dec (x < n) → (b : Bool) → or_next (suc x) (suc n) b ≡ suc (or_next x n b)
        last (yes l) b = rw (lt-ltb (suc x) (suc n) (omega arith), lt-ltb x n l)
        last (no l) true = rw (le-ltb (suc x) (suc n) (omega arith), le-ltb x n (omega arith))
        last (no l) false = rw (le-ltb (suc x) (suc n) (omega arith), le-ltb x n (omega arith))

-- a number shifted by d digits has d trailing zeros more
trailing_shift : (d k n : ℕ) → count_trailing_zeros (d + k) (n * 2 ^ d) ≡ d + count_trailing_zeros k n
unfolding count_trailing_zeros
trailing_shift zero k n = ap₂ count_trailing_zeros (zero-add k) (mul-one n) ∙ sym (zero-add (count_trailing_zeros k n))
trailing_shift (suc d) k n =
    ap (λ (x : ℕ). count_trailing_zeros x (n * 2 ^ suc d)) (suc-add d k)
    ∙ ap₂ under (shifted_even n d) (ap (count_trailing_zeros (d + k)) (shifted_half n d) ∙ trailing_shift d k n) ∙ sym (suc-add d (count_trailing_zeros k n))

-- an odd number has none
trailing_odd : (k n : ℕ) → n % 2 ≡ 1 → count_trailing_zeros (suc k) n ≡ 0
unfolding count_trailing_zeros
trailing_odd k n e = ap (λ (x : ℕ). under x (count_trailing_zeros k (n / 2))) e

-- of a number whose bytes are 0 or 1, eight for each byte before the first that is 1
trailing_bytes : (n : ℕ) (t : ℕ → Bool) (p : ℕ) → count_trailing_zeros (8 * n) (little_endian n (λ i. one_if (t i)) p) ≡ 8 * first_b n (λ k. t (p + k))
unfolding little_endian
trailing_bytes zero t p = unfold count_trailing_zeros first_b in refl
trailing_bytes (suc n) t p = go (t p) refl (trailing_bytes n t (suc p))
  where
    rest : ℕ
    rest = little_endian n (λ i. one_if (t i)) (suc p)

    first : (b : Bool) → t p ≡ b → first_b (suc n) (λ k. t (p + k)) ≡ cond b 0 (suc (first_b n (λ k. t (suc p + k))))
    first b e =
        first_cons n (λ k. t (p + k))
        ∙ ap₂ (λ (a : Bool) (x : ℕ). cond a 0 (suc x)) (ap t (omega arith) ∙ e) (first_ext n _ _ (λ i l. ap t (omega arith)))

    go : (b : Bool) → t p ≡ b → count_trailing_zeros (8 * n) rest ≡ 8 * first_b n (λ k. t (suc p + k))
        → count_trailing_zeros (8 * suc n) (one_if (t p) + 256 * rest) ≡ 8 * first_b (suc n) (λ k. t (p + k))
    go true e ih =
        let s : 8 * suc n ≡ suc (8 * n + 7) = omega arith in
        ap (λ (x : ℕ). count_trailing_zeros x (one_if (t p) + 256 * rest)) s ∙ trailing_odd (8 * n + 7) _ (omega (arith, ap one_if e)) ∙ omega (arith, first true e)
    go false e ih =
        let s : 8 * suc n ≡ 8 + 8 * n = omega arith in
        let w : one_if (t p) + 256 * rest ≡ rest * 2 ^ 8 = omega (arith, ap one_if e) in
        ap₂ count_trailing_zeros s w ∙ trailing_shift 8 (8 * n) rest ∙ omega (arith, ih, first false e)

-- the same of a word
trailing_word : (t : ℕ → Bool) → count_trailing_zeros 64 (word_of (λ k. one_if (t k)) 0) ≡ 8 * first_b 8 t
unfolding word_of
trailing_word t = trailing_bytes 8 t 0 ∙ ap (λ (x : ℕ). 8 * x) (first_ext 8 _ t (λ k l. ap t (omega arith)))

-- `u64::trailing_zeros(present(word ^ each(byte)) ^ EACH_ONE) / BYTE_BITS`, of a word whose bytes are f 0 .. f 7
pub byte_place : (f : ℕ → ℕ) (b : ℕ) → count_trailing_zeros 64 (bit_xor (word_of (λ k. cond (eqb (bit_xor (f k) b) 0) 0 1) 0) each_one) / 8 ≡ first_b 8 (λ k. eqb (f k) b)
byte_place f b = omega (arith, ap (count_trailing_zeros 64) marks, trailing_word same)
  where
    same : ℕ → Bool
    same k = eqb (f k) b

    marks : bit_xor (word_of (λ k. cond (eqb (bit_xor (f k) b) 0) 0 1) 0) each_one ≡ word_of (λ k. one_if (same k)) 0
    marks =
        ap (bit_xor (word_of (λ k. cond (eqb (bit_xor (f k) b) 0) 0 1) 0)) (each_byte 1)
        ∙ marks_flipped (λ k. eqb (bit_xor (f k) b) 0) ∙ word_cong _ _ 0 (λ k a c. ap one_if (xor_same (f k) b))
