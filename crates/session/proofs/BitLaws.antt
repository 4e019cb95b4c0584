-- Laws of dirty bits as the code masks them: clearing and setting a run; the bits that are not set; those beyond a group of eight.
use Prim.Native.Nat.{ℕ, zero, suc, ◌+◌, ◌-◌, ◌*◌, ◌^◌, ◌/◌, ◌%◌, ◌≤◌, ◌<◌}
use mathlib.Core.Path.{◌≡◌, sym, ap, ◌∙◌, subst}
use native.Mathlib.Omega.{arith}
use native.Mathlib.Nat.{one-mul, zero-mul, suc-mul, add-mul, mul_assoc, pow-suc}
use lib.Arith.{bin_ind}
use lib.Bits.{bit_and, bit_or, and_high, or_step, or_zero_l, or_zero_r, or_shifted_r, shifted_even}
use lib.Pow.{pow-add, pow_mono, shl_lt, shl_exact, shl-shr, shr-shr, shr_mod, high, low, suc_ones, ones_lt, ones_split, pow_pos}
use Rattle.model.specs.Session.{bit, set_bit, set_bits}
use Rattle.words.proofs.BitLaws.{bit_half}

-- a mask of the n lowest bits: the code's `ones >> (64 - n)`
low_mask : (n : ℕ) → n ≤ 64 → 18446744073709551615 / 2 ^ (64 - n) ≡ 2 ^ n - 1
low_mask n h =
    let e : n + (64 - n) ≡ 64 = omega arith in
    let split : 18446744073709551615 ≡ (2 ^ n - 1) * 2 ^ (64 - n) + (2 ^ (64 - n) - 1) = ap (λ (w : ℕ). 2 ^ w - 1) (sym e) ∙ ones_split n (64 - n) in
    ap (λ (w : ℕ). w / 2 ^ (64 - n)) split ∙ high (2 ^ n - 1) (64 - n) (ones_lt (64 - n))

-- and taken away: `m & !(ones >> (64 - n))`
pub low_cleared : (m n : ℕ) → n ≤ 64 → m < 2 ^ 64 → bit_and m (18446744073709551615 - 18446744073709551615 / 2 ^ (64 - n)) ≡ m / 2 ^ n * 2 ^ n
low_cleared m n h k =
    let d : (64 - n) + n ≡ 64 = omega arith in
    let mask : 18446744073709551615 - 18446744073709551615 / 2 ^ (64 - n) ≡ 2 ^ (64 - n + n) - 2 ^ n =
    ap (λ (w : ℕ). 18446744073709551615 - w) (low_mask n h) ∙ omega (arith, pow_pos n, ap (λ (w : ℕ). 2 ^ w) d) in
    ap (bit_and m) mask ∙ and_high m (64 - n) n ∙ ap (λ (w : ℕ). w * 2 ^ n) (shr_mod (64 - n) n (subst (λ (w : ℕ). m < 2 ^ w) (sym d) k))

or_assoc : (a b c : ℕ) → bit_or (bit_or a b) c ≡ bit_or a (bit_or b c)
or_assoc =
    bin_ind (λ (a : ℕ). (b c : ℕ) → bit_or (bit_or a b) c ≡ bit_or a (bit_or b c))
    (λ b c. ap (λ (w : ℕ). bit_or w c) (or_zero_l b) ∙ sym (or_zero_l (bit_or b c)))
    (λ a ih b c.
    let x : bit_or a b / 2 ≡ bit_or (a / 2) (b / 2) = omega (arith, or_step a b) in
    let y : bit_or b c / 2 ≡ bit_or (b / 2) (c / 2) = omega (arith, or_step b c) in
    omega (
      arith,
      or_step (bit_or a b) c,
      or_step a (bit_or b c),
      or_step a b,
      or_step b c,
      ih (b / 2) (c / 2),
      ap (λ (w : ℕ). bit_or w (c / 2)) x,
      ap (bit_or (a / 2)) y,
    ))

-- a run of n bits set is the word laid over by n ones, shifted
set_bits_or : (m f n : ℕ) → set_bits m f n ≡ bit_or m ((2 ^ n - 1) * 2 ^ f)
unfolding set_bits set_bit
set_bits_or m f zero = sym (ap (bit_or m) (zero-mul (2 ^ f)) ∙ or_zero_r m)
set_bits_or m f (suc n) = ap (λ (w : ℕ). bit_or w (2 ^ (f + n))) (set_bits_or m f n) ∙ or_assoc m ((2 ^ n - 1) * 2 ^ f) (2 ^ (f + n)) ∙ ap (bit_or m) more
  where
    more : bit_or ((2 ^ n - 1) * 2 ^ f) (2 ^ (f + n)) ≡ (2 ^ suc n - 1) * 2 ^ f
    more =
        let d : 2 ^ n ≡ suc (2 ^ n - 1) = sym (suc_ones n) in
        let e : 2 ^ suc n - 1 ≡ suc (2 ^ n - 1 + (2 ^ n - 1)) = omega (arith, d, pow-suc 2 n) in
        let top : 2 ^ (f + n) ≡ 2 ^ n * 2 ^ f = ap (λ (k : ℕ). 2 ^ k) (let c : f + n ≡ n + f = omega arith in c) ∙ pow-add 2 n f in
        ap (bit_or ((2 ^ n - 1) * 2 ^ f)) (sym (one-mul (2 ^ (f + n))))
        ∙ or_shifted_r 1 (f + n) ((2 ^ n - 1) * 2 ^ f) (omega (arith, shl_lt n f (ones_lt n), pow-add 2 n f, top))
        ∙ omega (
          arith,
          top,
          one-mul (2 ^ (f + n)),
          ap (λ (w : ℕ). w * 2 ^ f) d,
          ap (λ (w : ℕ). w * 2 ^ f) e,
          suc-mul (2 ^ n - 1) (2 ^ f),
          suc-mul (2 ^ n - 1 + (2 ^ n - 1)) (2 ^ f),
          add-mul (2 ^ n - 1) (2 ^ n - 1) (2 ^ f),
        )

-- `m | (ones >> (64 - n)) << f`
pub run_set : (m f n : ℕ) → f + n ≤ 64 → bit_or m (18446744073709551615 / 2 ^ (64 - n) * 2 ^ f % 18446744073709551616) ≡ set_bits m f n
run_set m f n h =
    ap (λ (w : ℕ). bit_or m (w * 2 ^ f % 18446744073709551616)) (low_mask n (omega arith))
    ∙ ap (bit_or m) (shl_exact n f 64 (ones_lt n) (omega arith)) ∙ sym (set_bits_or m f n)

-- ---- the bits that are not set

-- `!m`, of numbers of n bits
bit_not : (i n m : ℕ) → i < n → m < 2 ^ n → bit (2 ^ n - 1 - m) i ≡ 1 - bit m i
unfolding bit
bit_not i zero m h l = absurd (omega arith)
bit_not zero (suc n) m h l = omega (arith, pow-suc 2 n)
bit_not (suc i) (suc n) m h l =
    let half : (2 ^ suc n - 1 - m) / 2 ≡ 2 ^ n - 1 - m / 2 = omega (arith, pow-suc 2 n) in
    sym (bit_half (2 ^ suc n - 1 - m) i) ∙ ap (λ (w : ℕ). bit w i) half ∙ bit_not i n (m / 2) (omega arith) (omega (arith, pow-suc 2 n))
    ∙ ap (λ (x : ℕ). 1 - x) (bit_half m i)

pub bit_flipped : (m i : ℕ) → i < 64 → m < 2 ^ 64 → bit (18446744073709551615 - m) i ≡ 1 - bit m i
bit_flipped m i h l = bit_not i 64 m h l

-- ---- the bits beyond a group of eight

-- `m & (BEYOND_EIGHT << p)`
abbrev pub beyond : ℕ → ℕ → ℕ
beyond m p = bit_and m (18446744073709551360 * 2 ^ p % 18446744073709551616)

-- `rest` has the bits of m from bit q on, and no other
pub record From (m rest q : ℕ) : Type 0 where
  pub before : (i : ℕ) → i < q → bit rest i ≡ 0
  pub after : (i : ℕ) → q ≤ i → bit rest i ≡ bit m i

high_bits : (m q : ℕ) → From m (m / 2 ^ q * 2 ^ q) q
unfolding bit
high_bits m q = record { before = λ i h. before i (q - suc i) (omega arith); after = λ i h. after i (i - q) (omega arith) }
  where
    before : (i d : ℕ) → q ≡ suc d + i → m / 2 ^ q * 2 ^ q / 2 ^ i % 2 ≡ 0
    before i d e =
        let split : m / 2 ^ q * 2 ^ q ≡ m / 2 ^ q * 2 ^ suc d * 2 ^ i =
        ap (λ (w : ℕ). m / 2 ^ q * 2 ^ w) e ∙ ap (λ (w : ℕ). m / 2 ^ q * w) (pow-add 2 (suc d) i) ∙ sym (mul_assoc (m / 2 ^ q) (2 ^ suc d) (2 ^ i)) in
        ap (λ (w : ℕ). w / 2 ^ i % 2) split ∙ ap (λ (w : ℕ). w % 2) (shl-shr (m / 2 ^ q * 2 ^ suc d) i) ∙ shifted_even (m / 2 ^ q) d

    after : (i d : ℕ) → i ≡ q + d → m / 2 ^ q * 2 ^ q / 2 ^ i % 2 ≡ m / 2 ^ i % 2
    after i d e =
        let there : m / 2 ^ q * 2 ^ q / 2 ^ (q + d) ≡ m / 2 ^ (q + d) =
        sym (shr-shr (m / 2 ^ q * 2 ^ q) q d) ∙ ap (λ (w : ℕ). w / 2 ^ d) (shl-shr (m / 2 ^ q) q) ∙ shr-shr m q d in
        rw e (ap (λ (w : ℕ). w % 2) there)

pub beyond_bits : (m p : ℕ) → p + 8 ≤ 64 → m < 2 ^ 64 → From m (beyond m p) (p + 8)
beyond_bits m p h k = subst (λ (w : ℕ). From m w (p + 8)) (sym same) (high_bits m (p + 8))
  where
    mask : 18446744073709551360 * 2 ^ p % 18446744073709551616 ≡ 2 ^ 64 - 2 ^ (p + 8)
    mask =
        let most : 2 ^ (p + 8) ≤ 2 ^ 64 = pow_mono h in
        let split : 18446744073709551360 * 2 ^ p ≡ (2 ^ p - 1) * 2 ^ 64 + (2 ^ 64 - 2 ^ (p + 8)) = omega (arith, pow-add 2 p 8, pow_pos p, most) in
        ap (λ (w : ℕ). w % 2 ^ 64) split ∙ low (2 ^ p - 1) 64 (omega (arith, pow_pos (p + 8)))

    same : beyond m p ≡ m / 2 ^ (p + 8) * 2 ^ (p + 8)
    same =
        let d : (64 - (p + 8)) + (p + 8) ≡ 64 = omega arith in
        let high : 18446744073709551360 * 2 ^ p % 18446744073709551616 ≡ 2 ^ (64 - (p + 8) + (p + 8)) - 2 ^ (p + 8) = mask ∙ ap (λ (w : ℕ). 2 ^ w - 2 ^ (p + 8)) (sym d) in
        ap (bit_and m) high ∙ and_high m (64 - (p + 8)) (p + 8) ∙ ap (λ (w : ℕ). w * 2 ^ (p + 8)) (shr_mod (64 - (p + 8)) (p + 8) (subst (λ (w : ℕ). m < 2 ^ w) (sym d) k))
