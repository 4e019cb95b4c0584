-- Laws of the bits of a word as the code shifts and masks them: one bit, the bits from one on, the lowest bit that is set.
use Prim.Native.Nat.{ℕ, zero, suc, ◌+◌, ◌-◌, ◌*◌, ◌^◌, ◌/◌, ◌%◌, ◌≤◌, ◌<◌, min}
use mathlib.Core.Path.{◌≡◌, refl, sym, ap, ◌∙◌}
use mathlib.Core.Logic.{◌≢◌}
use native.Mathlib.Omega.{arith}
use native.Mathlib.Decide.{dec_lt}
use native.Mathlib.Nat.{one-mul, pow-suc, div-eq_of_lt, div-lt_iff_lt-mul}
use lib.Bits.{bit_and, and_mask, and_self, and_step}
use lib.Count.{count_trailing_zeros, under}
use lib.Dec.{eqb, ltb}
use lib.Pow.{pow_pos, pow_mono, shl_exact, shr-shr}
use borrow.Author.Tests.{lt-ltb, le-ltb, eq-eqb, ne_eqb}
use Rattle.model.specs.Session.{bit}
use Rattle.model.proofs.Laws.Session.{bits_below}

-- `1 << f`
pub shifted_one : (f : ℕ) → f < 64 → 1 * 2 ^ f % 18446744073709551616 ≡ 2 ^ f
shifted_one f h = shl_exact 1 f 64 (omega arith) (omega arith) ∙ one-mul (2 ^ f)

-- `(m >> f) & 1`
pub masked_bit : (m f : ℕ) → bit_and (m / 2 ^ f) 1 ≡ bit m f
unfolding bit
masked_bit m f = and_mask (m / 2 ^ f) 1

-- `(m >> (n - 1)) >> 1 == 0`
pub high_clear : (m n : ℕ) → 1 ≤ n → eqb (m / 2 ^ (n - 1) / 2) 0 ≡ ltb m (2 ^ n)
high_clear m n h = go (dec_lt m (2 ^ n))
  where
    shifted : m / 2 ^ (n - 1) / 2 ≡ m / 2 ^ n
    shifted = shr-shr m (n - 1) 1 ∙ ap (λ (k : ℕ). m / 2 ^ k) (let e : n - 1 + 1 ≡ n = omega arith in e)

    go : Dec (m < 2 ^ n) → eqb (m / 2 ^ (n - 1) / 2) 0 ≡ ltb m (2 ^ n)
    go (yes l) = eq-eqb _ _ (shifted ∙ div-eq_of_lt l) ∙ sym (lt-ltb _ _ l)
    go (no l) = ne_eqb _ _ (λ e. l (below (sym shifted ∙ e))) ∙ sym (le-ltb m (2 ^ n) (omega arith))
      where
        below : m / 2 ^ n ≡ 0 → m < 2 ^ n
        below e = let q : m / 2 ^ n < 1 = omega arith in omega (arith, (div-lt_iff_lt-mul (pow_pos n)).0 q, one-mul (2 ^ n))

-- ---- the lowest set bit

-- the lowest bit, and the others
bit_low : (m : ℕ) → bit m 0 ≡ m % 2
unfolding bit
bit_low m = omega arith

pub bit_half : (m f : ℕ) → bit (m / 2) f ≡ bit m (suc f)
unfolding bit
bit_half m f = ap (λ (x : ℕ). x % 2) (shr-shr m 1 f) ∙ ap (λ (k : ℕ). m / 2 ^ k % 2) (let e : 1 + f ≡ suc f = omega arith in e)

-- `m & (m - 1)`
abbrev pub without_lowest : ℕ → ℕ
without_lowest m = bit_and m (m - 1)

-- bit z of m is set and none below it, and `rest` has the other bits of m
pub record Lowest (m rest z : ℕ) : Type 0 where
  pub there : bit m z ≡ 1
  pub below : (f : ℕ) → f < z → bit m f ≡ 0
  pub gone : bit rest z ≡ 0
  pub others : (f : ℕ) → f ≢ z → bit rest f ≡ bit m f

-- the lowest set bit of a number stands where its trailing zeros end
pub lowest_bit : (n m : ℕ) → 0 < m → m < 2 ^ n → Lowest m (without_lowest m) (count_trailing_zeros n m)
unfolding count_trailing_zeros
lowest_bit zero m h k = absurd (omega arith)
lowest_bit (suc n) m h k = go (m % 2) refl (λ p. lowest_bit n (m / 2) p (omega (arith, pow-suc 2 n)))
  where
    -- the bits above the lowest are those of the half
    above : (f : ℕ) → bit (without_lowest m / 2) f ≡ bit (m / 2) f → bit (without_lowest m) (suc f) ≡ bit m (suc f)
    above f e = sym (bit_half (without_lowest m) f) ∙ e ∙ bit_half m f

    step : bit_and (m / 2) ((m - 1) / 2) * 2 + min (m % 2) ((m - 1) % 2) ≡ without_lowest m
    step = sym (and_step m (m - 1))

    go : (d : ℕ) → m % 2 ≡ d → (0 < m / 2 → Lowest (m / 2) (without_lowest (m / 2)) (count_trailing_zeros n (m / 2)))
        → Lowest m (without_lowest m) (under d (count_trailing_zeros n (m / 2)))
    go zero e ih =
        let l = ih (omega arith) in
        let q : (m - 1) / 2 ≡ m / 2 - 1 = omega arith in
        let half : without_lowest m / 2 ≡ without_lowest (m / 2) = omega (arith, step, ap (bit_and (m / 2)) q) in
        record {
          there = sym (bit_half m _) ∙ l.there;
          below = below l.below;
          gone = sym (bit_half (without_lowest m) _) ∙ ap (λ (w : ℕ). bit w (count_trailing_zeros n (m / 2))) half ∙ l.gone;
          others = λ f. others half l.others f;
        }
      where
        below : ((f : ℕ) → f < count_trailing_zeros n (m / 2) → bit (m / 2) f ≡ 0) → (f : ℕ) → f < suc (count_trailing_zeros n (m / 2)) → bit m f ≡ 0
        below b zero h = omega (arith, bit_low m)
        below b (suc f) h = sym (bit_half m f) ∙ b f (omega arith)

        others : without_lowest m / 2 ≡ without_lowest (m / 2) → ((f : ℕ) → f ≢ count_trailing_zeros n (m / 2) → bit (without_lowest (m / 2)) f ≡ bit (m / 2) f)
            → (f : ℕ) → f ≢ suc (count_trailing_zeros n (m / 2)) → bit (without_lowest m) f ≡ bit m f
        others half o zero ne = omega (arith, step, bit_low m, bit_low (without_lowest m))
        others half o (suc f) ne = above f (ap (λ (w : ℕ). bit w f) half ∙ o f (λ q. ne (ap suc q)))
    go (suc d) e ih =
        let q : (m - 1) / 2 ≡ m / 2 = omega arith in
        let half : without_lowest m / 2 ≡ m / 2 = omega (arith, step, ap (bit_and (m / 2)) q, and_self (m / 2)) in
        record { there = omega (arith, bit_low m); below = λ f h. absurd (omega arith); gone = omega (arith, step, bit_low (without_lowest m)); others = λ f. others half f }
      where
        others : without_lowest m / 2 ≡ m / 2 → (f : ℕ) → f ≢ 0 → bit (without_lowest m) f ≡ bit m f
        others half zero ne = absurd (ne refl)
        others half (suc f) ne = above f (ap (λ (w : ℕ). bit w f) half)

-- in a word it is below n, if no bit from n on is set
pub lowest_below : (n m : ℕ) → n ≤ 64 → 0 < m → m < 2 ^ n → count_trailing_zeros 64 m < n
lowest_below n m h p b = (bits_below m n).0 b (count_trailing_zeros 64 m) (lowest_bit 64 m p (omega (arith, pow_mono h))).there
