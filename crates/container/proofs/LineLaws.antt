-- Laws of the bytes of a line tested a word at a time: those from one on that all have a value, and states that fit the bits of a set.
use Rattle.std.proofs.Common.{◌≡◌, ℕ, zero, suc, ◌+◌, ◌-◌, ◌*◌, ◌/◌, ◌%◌, ◌^◌, ◌<◌, ◌≤◌, Bool, true, false, not, ◌&&◌, ◌||◌, eqb, ltb, get_or, sym, refl, ap, ◌∙◌, ap₂, add-zero, arith, shr-shr, ltb-true, le-ltb, lt-ltb, eq-eqb, ne_eqb, eqb-true}
use native.Mathlib.Decide.{dec_lt, ℕ_discrete}
use lib.Bits.{bit_and, bit_or, bit_xor, and_block, and_le_r, xor_shr}
use lib.ListN.{get_or-eq_default}
use Rattle.model.specs.Range.{all_b}
use Rattle.model.specs.Words.{little_endian, word_of, bytes_of}
use Rattle.model.specs.Session.{bit}
use Rattle.model.proofs.Laws.Range.{both, and_left, and_right, or_left, or_right, or_else, all_at, all_from, all_ext, same_test, or_zero_lem}
use Rattle.model.proofs.Laws.Session.{bit_lt}
use Rattle.model.proofs.Laws.Words.{number_moved, number_back, word_lt, word_cong, bytes_of_small, length-bytes_of}
use Rattle.words.proofs.ByteLaws.{by_bytes, sum_bytes, number_bytes, word_bytes, word_from, xor_same}
use Rattle.container.specs.Scan.{state_fits}

-- ---- tests in runs

-- a test of n numbers, and of m more
pub all_append : (n m : ℕ) (P : ℕ → Bool) → (all_b n P && all_b m (λ t. P (n + t))) ≡ all_b (n + m) P
all_append n m P = same_test _ _ there back
  where
    there : (all_b n P && all_b m (λ t. P (n + t))) ≡ true → all_b (n + m) P ≡ true
    there h = all_from (n + m) P (λ i l. go i l (dec_lt i n))
      where
        go : (i : ℕ) → i < n + m → Dec (i < n) → P i ≡ true
        go i l (yes a) = all_at n P (and_left (all_b n P) (all_b m (λ t. P (n + t))) h) i a
        go i l (no a) = let e : n + (i - n) ≡ i = omega arith in ap P (sym e) ∙ all_at m (λ t. P (n + t)) (and_right (all_b n P) (all_b m (λ t. P (n + t))) h) (i - n) (omega arith)

    back : all_b (n + m) P ≡ true → (all_b n P && all_b m (λ t. P (n + t))) ≡ true
    back h = both (all_from n P (λ i l. all_at (n + m) P h i (omega arith))) (all_from m (λ t. P (n + t)) (λ t l. all_at (n + m) P h (n + t) (omega arith)))

-- ---- equal bytes

-- two numbers of n bytes are equal exactly if all bytes are
number_test : (n : ℕ) (f g : ℕ → ℕ) (p : ℕ) → ((i : ℕ) → f i < 256) → ((i : ℕ) → g i < 256) → eqb (little_endian n f p) (little_endian n g p) ≡ all_b n (λ t. eqb (f (p + t)) (g (p + t)))
number_test n f g p x y = same_test _ _ (λ e. all_from n _ (λ t l. eq-eqb _ _ (number_bytes n f g p (λ i a b. x i) (λ i a b. y i) (eqb-true _ _ e) t l))) (λ h. eq-eqb _ _ (number_moved n f g p p (λ t l. eqb-true _ _ (all_at n (λ t. eqb (f (p + t)) (g (p + t))) h t l))))

-- a number of r + m bytes without its r lowest
number_high : (r m : ℕ) (f : ℕ → ℕ) (p : ℕ) → ((i : ℕ) → f i < 256) → little_endian (r + m) f p / 2 ^ (8 * r) ≡ little_endian m f (p + r)
unfolding little_endian
number_high zero m f p h = let e : 0 + m ≡ m = omega arith in omega (arith, ap (λ (k : ℕ). little_endian k f p) e, ap (λ (q : ℕ). little_endian m f q) (add-zero p))
number_high (suc r) m f p h =
    let L = little_endian (r + m) f (suc p) in
    let e : suc r + m ≡ suc (r + m) = omega arith in
    let d : 8 * suc r ≡ 8 + 8 * r = omega arith in
    let q : suc p + r ≡ p + suc r = omega arith in
    let first : (f p + 256 * L) / 256 ≡ L = omega (arith, h p) in
    ap₂ (λ (k n : ℕ). little_endian k f p / 2 ^ n) e d ∙ sym (shr-shr (f p + 256 * L) 8 (8 * r)) ∙ ap (λ (w : ℕ). w / 2 ^ (8 * r)) first ∙ number_high r m f (suc p) h
    ∙ ap (λ (n : ℕ). little_endian m f n) q

-- ---- the bytes of a line from one on

-- the bytes of a word from byte r on that have the value v, as the code tests them: `(word ^ each(v)) >> (8 * r) == 0`
rest_word : (f : ℕ → ℕ) (v p r : ℕ) → ((i : ℕ) → f i < 256) → v < 256 → r ≤ 8 → eqb (bit_xor (word_of f p) (word_of (λ k. v) 0) / 2 ^ (8 * r)) 0 ≡ all_b (8 - r) (λ t. eqb (f (p + r + t)) v)
unfolding word_of
rest_word f v p r h l b =
    let e : 8 ≡ r + (8 - r) = omega arith in
    let moved : little_endian 8 (λ k. v) 0 ≡ little_endian 8 (λ k. v) p = number_moved 8 (λ k. v) (λ k. v) 0 p (λ k a. refl) in
    let high : (g : ℕ → ℕ) → ((i : ℕ) → g i < 256) → little_endian 8 g p / 2 ^ (8 * r) ≡ little_endian (8 - r) g (p + r) =
    λ g s. ap (λ (n : ℕ). little_endian n g p / 2 ^ (8 * r)) e ∙ number_high r (8 - r) g p s
    in
    ap (λ (w : ℕ). eqb w 0) (xor_shr (little_endian 8 f p) (little_endian 8 (λ k. v) 0) (8 * r))
    ∙ xor_same (little_endian 8 f p / 2 ^ (8 * r)) (little_endian 8 (λ k. v) 0 / 2 ^ (8 * r))
    ∙ ap₂ eqb (high f h) (ap (λ (w : ℕ). w / 2 ^ (8 * r)) moved ∙ high (λ k. v) (λ i. l)) ∙ number_test (8 - r) f (λ k. v) (p + r) h (λ i. l)

-- the test of a line
abbrev rest_at : (ℕ → ℕ) → ℕ → ℕ → ℕ → Bool
rest_at f n v i = ltb i n || eqb (f i) v

-- the first word that has bytes of the rest, and one word more
pub rest_first : (f : ℕ → ℕ) (v n w q : ℕ) → ((i : ℕ) → f i < 256) → v < 256 → w ≡ word_of f (8 * q) → n / 8 ≡ q
    → eqb (bit_xor w (word_of (λ k. v) 0) / 2 ^ (8 * (n % 8))) 0 ≡ all_b (8 * (q + 1)) (rest_at f n v)
rest_first f v n w q h l e d =
    ap (λ (x : ℕ). eqb (bit_xor x (word_of (λ k. v) 0) / 2 ^ (8 * (n % 8))) 0) e ∙ rest_word f v (8 * q) (n % 8) h l (omega arith)
    ∙ same_test _ _
    (λ a. all_from (8 * (q + 1)) (rest_at f n v) (λ i b. there a i b (dec_lt i n)))
    (λ a. all_from (8 - n % 8) (λ t. eqb (f (8 * q + n % 8 + t)) v) (λ t b. or_else (ltb (8 * q + n % 8 + t) n) (eqb (f (8 * q + n % 8 + t)) v) (all_at (8 * (q + 1)) (rest_at f n v) a (8 * q + n % 8 + t) (omega arith)) (le-ltb (8 * q + n % 8 + t) n (omega arith))))
  where
    there : all_b (8 - n % 8) (λ t. eqb (f (8 * q + n % 8 + t)) v) ≡ true → (i : ℕ) → i < 8 * (q + 1) → Dec (i < n) → rest_at f n v i ≡ true
    there a i b (yes c) = or_left _ (lt-ltb i n c)
    there a i b (no c) =
        let s : 8 * q + n % 8 + (i - n) ≡ i = omega arith in
        or_right (ltb i n) (ap (λ (k : ℕ). eqb (f k) v) (sym s) ∙ all_at (8 - n % 8) (λ t. eqb (f (8 * q + n % 8 + t)) v) a (i - n) (omega arith))

pub rest_more : (f : ℕ → ℕ) (v n w k seen : ℕ) → ((i : ℕ) → f i < 256) → v < 256 → n ≤ 8 * k → w ≡ word_of f (8 * k) → eqb seen 0 ≡ all_b (8 * k) (rest_at f n v)
    → eqb (bit_or seen (bit_xor w (word_of (λ k. v) 0))) 0 ≡ all_b (8 * (k + 1)) (rest_at f n v)
rest_more f v n w k seen h l b e s =
    let x : bit_xor (word_of f (8 * k)) (word_of (λ k. v) 0) / 2 ^ (8 * 0) ≡ bit_xor (word_of f (8 * k)) (word_of (λ k. v) 0) = omega arith in
    let d : 8 * k + 8 ≡ 8 * (k + 1) = omega arith in
    or_zero_lem seen (bit_xor w (word_of (λ k. v) 0))
    ∙ ap₂ ◌&&◌ s (ap (λ (y : ℕ). eqb (bit_xor y (word_of (λ k. v) 0)) 0) e ∙ ap (λ (y : ℕ). eqb y 0) (sym x) ∙ rest_word f v (8 * k) 0 h l (omega arith) ∙ all_ext 8 _ _ (λ t c. last t))
    ∙ all_append (8 * k) 8 (rest_at f n v) ∙ ap (λ (m : ℕ). all_b m (rest_at f n v)) d
  where
    last : (t : ℕ) → eqb (f (8 * k + 0 + t)) v ≡ rest_at f n v (8 * k + t)
    last t = let q : 8 * k + 0 + t ≡ 8 * k + t = omega arith in rw (q, le-ltb (8 * k + t) n (omega arith))

-- a line by its halves: the bytes of the rest are in both, or in the second alone
module _ (f g : ℕ → ℕ) (v n : ℕ) (moved : (i : ℕ) → g i ≡ f (32 + i)) where
  pub rest_halves : n < 32 → (all_b 32 (rest_at f n v) && all_b 32 (rest_at g 0 v)) ≡ all_b 64 (rest_at f n v)
  rest_halves h = ap (λ (b : Bool). all_b 32 (rest_at f n v) && b) (all_ext 32 _ _ (λ i l. rw (moved i, le-ltb i 0 (omega arith), le-ltb (32 + i) n (omega arith)))) ∙ all_append 32 32 (rest_at f n v)

  pub rest_second : 32 ≤ n → all_b 32 (rest_at g (n - 32) v) ≡ all_b 64 (rest_at f n v)
  rest_second h =
      ap₂ ◌&&◌ (sym (all_from 32 (rest_at f n v) (λ i l. or_left _ (lt-ltb i n (omega arith))))) (all_ext 32 _ _ (λ i l. ap₂ ◌||◌ (later i) (ap (λ (b : ℕ). eqb b v) (moved i))))
      ∙ all_append 32 32 (rest_at f n v)
    where
      later : (i : ℕ) → ltb i (n - 32) ≡ ltb (32 + i) n
      later i = same_test _ _ (λ e. lt-ltb (32 + i) n (omega (arith, ltb-true i (n - 32) e))) (λ e. lt-ltb i (n - 32) (omega (arith, ltb-true (32 + i) n e)))

-- ---- states that fit

-- `byte & 0xfe == 0`
high_clear : (b : ℕ) → b < 256 → eqb (bit_and b 254) 0 ≡ ltb b 2
unfolding all_b
high_clear b h = eqb_same _ _ (all_at 256 (λ b. same_b (eqb (bit_and b 254) 0) (ltb b 2)) refl b h)
  where
    same_b : Bool → Bool → Bool
    same_b true y = y
    same_b false y = not y

    eqb_same : (x y : Bool) → same_b x y ≡ true → x ≡ y
    eqb_same true true e = refl
    eqb_same true false e = sym e
    eqb_same false true e = e
    eqb_same false false e = refl

pub fits_means : (a s : ℕ) → state_fits a s ≡ true → (a ≤ s) × (s ≤ suc a)
unfolding state_fits
fits_means a s h = go (ℕ_discrete s a)
  where
    go : Dec (s ≡ a) → (a ≤ s) × (s ≤ suc a)
    go (yes e) = (omega arith, omega arith)
    go (no e) = let f : s ≡ suc a = eqb-true _ _ (or_else (eqb s a) (eqb s (suc a)) h (ne_eqb _ _ e)) in (omega arith, omega arith)

pub fits_from : (a d s : ℕ) → d < 2 → s ≡ d + a → state_fits a s ≡ true
unfolding state_fits
fits_from a zero s l e = or_left _ (eq-eqb _ _ (let q : s ≡ a = omega arith in q))
fits_from a (suc zero) s l e = or_right (eqb s a) (eq-eqb _ _ (let q : s ≡ suc a = omega arith in q))
fits_from a (suc (suc d)) s l e = absurd (omega arith)

-- eight states with the bits of a set taken away: no byte is above 1 exactly if the states fit
module _ (f : ℕ → ℕ) (set p left : ℕ) (small : (i : ℕ) → f i < 256) (fits : left < 2 ^ 64) where
  abbrev fit : ℕ → Bool
  fit t = state_fits (bit set (p + t)) (f (p + t))

  abbrev digit : ℕ → ℕ
  digit t = get_or (bytes_of 8 left) t 0

  digits : word_of digit 0 ≡ left
  unfolding word_of
  digits = number_back 8 left digit 0 fits (λ b l. ap digit (omega arith))

  -- the bytes of the set's bits
  bits : (P : ℕ) → P ≡ word_of (bit set) p → P ≡ word_of (λ t. bit set (p + t)) 0
  bits P e = e ∙ word_from (bit set) p

  masked : (g : ℕ → ℕ) → ((t : ℕ) → t < 8 → g t < 256) → bit_and (word_of g 0) 0xfefefefefefefefe ≡ word_of (λ t. bit_and (g t) 254) 0
  unfolding word_of
  masked g h =
      let mask : 0xfefefefefefefefe ≡ little_endian 8 (λ k. 254) 0 = unfold little_endian in refl in
      ap (bit_and (little_endian 8 g 0)) mask ∙ by_bytes bit_and (and_block 8) refl 8 g (λ k. 254) 0 (λ k a b. h k b) (λ k a b. omega arith)

  zero_test : (h : ℕ → ℕ) → ((i : ℕ) → h i < 256) → eqb (word_of h 0) 0 ≡ all_b 8 (λ t. eqb (h t) 0)
  unfolding word_of
  zero_test h s =
      let z : little_endian 8 (λ k. 0) 0 ≡ 0 = unfold little_endian in refl in
      ap (eqb (little_endian 8 h 0)) (sym z) ∙ number_test 8 h (λ k. 0) 0 s (λ i. omega arith) ∙ all_ext 8 _ _ (λ t l. ap (λ (k : ℕ). eqb (h k) 0) (omega arith))

  -- the test, by the digits of what is left
  by_digits : eqb (bit_and left 0xfefefefefefefefe) 0 ≡ all_b 8 (λ t. ltb (digit t) 2)
  by_digits =
      ap (λ (w : ℕ). eqb (bit_and w 0xfefefefefefefefe) 0) (sym digits) ∙ ap (λ (w : ℕ). eqb w 0) (masked digit (λ t l. bytes_of_small 8 left t))
      ∙ zero_test (λ t. bit_and (digit t) 254) (λ i. omega (arith, and_le_r (digit i) 254)) ∙ all_ext 8 _ _ (λ t l. high_clear (digit t) (bytes_of_small 8 left t))

  beyond : (t : ℕ) → 8 ≤ t → digit t ≡ 0
  beyond t h = get_or-eq_default (bytes_of 8 left) 0 (omega (arith, length-bytes_of 8 left))

  pub eight_fit : (S P : ℕ) → S ≡ word_of f p → P ≡ word_of (bit set) p → (left + P) % 2 ^ 64 ≡ S → eqb (bit_and left 0xfefefefefefefefe) 0 ≡ all_b 8 fit
  eight_fit S P s b e = by_digits ∙ same_test _ _ there back
    where
      state : S ≡ word_of (λ t. f (p + t)) 0
      state = s ∙ word_from f p

      there : all_b 8 (λ t. ltb (digit t) 2) ≡ true → all_b 8 fit ≡ true
      there h = all_from 8 fit (λ t l. fits_from (bit set (p + t)) (digit t) (f (p + t)) (low t (dec_lt t 8)) (sym (same t l)))
        where
          low : (t : ℕ) → Dec (t < 8) → digit t < 2
          low t (yes l) = ltb-true _ _ (all_at 8 (λ t. ltb (digit t) 2) h t l)
          low t (no l) = omega (arith, beyond t (omega arith))

          sums : (t : ℕ) → digit t + bit set (p + t) < 256
          sums t = omega (arith, low t (dec_lt t 8), bit_lt set (p + t))

          sum : left + P ≡ word_of (λ t. digit t + bit set (p + t)) 0
          sum = ap₂ ◌+◌ (sym digits) (bits P b) ∙ unfold word_of in (sum_bytes 8 digit (λ t. bit set (p + t)) 0)

          whole : left + P ≡ S
          whole = let q : left + P < 2 ^ 64 = rw sum (word_lt (λ t. digit t + bit set (p + t)) 0 sums) in omega arith

          same : (t : ℕ) → t < 8 → digit t + bit set (p + t) ≡ f (p + t)
          same t l =
              let z : 0 + t ≡ t = omega arith in
              rw z at (word_bytes (λ t. digit t + bit set (p + t)) (λ t. f (p + t)) 0 (λ i a c. sums i) (λ i a c. small (p + i)) (sym sum ∙ whole ∙ state) t l)

      back : all_b 8 fit ≡ true → all_b 8 (λ t. ltb (digit t) 2) ≡ true
      back h = all_from 8 (λ t. ltb (digit t) 2) (λ t l. lt-ltb (digit t) 2 (low t l))
        where
          rest : ℕ → ℕ
          rest t = f (p + t) - bit set (p + t)

          within : (t : ℕ) → t < 8 → (bit set (p + t) ≤ f (p + t)) × (f (p + t) ≤ suc (bit set (p + t)))
          within t l = fits_means (bit set (p + t)) (f (p + t)) (all_at 8 fit h t l)

          sum : word_of rest 0 + P ≡ S
          sum =
              ap (λ (w : ℕ). word_of rest 0 + w) (bits P b) ∙ unfold word_of in (sum_bytes 8 rest (λ t. bit set (p + t)) 0)
              ∙ word_cong (λ t. rest t + bit set (p + t)) (λ t. f (p + t)) 0 (λ t a l. omega (arith, (within t l).0)) ∙ sym state

          same : left ≡ word_of rest 0
          same = omega (arith, sum)

          low : (t : ℕ) → t < 8 → digit t < 2
          low t l =
              let z : 0 + t ≡ t = omega arith in
              let d : digit t ≡ rest t = rw z at (word_bytes digit rest 0 (λ i a c. bytes_of_small 8 left i) (λ i a c. omega (arith, (within i c).1)) (digits ∙ same) t l) in
              omega (arith, (within t l).1)

-- one word more
pub fit_more : (f : ℕ → ℕ) (set k over left S P : ℕ) → ((i : ℕ) → f i < 256) → left < 2 ^ 64 → S ≡ word_of f (8 * k) → P ≡ word_of (bit set) (8 * k) → (left + P) % 2 ^ 64 ≡ S
    → eqb over 0 ≡ all_b (8 * k) (λ i. state_fits (bit set i) (f i)) → eqb (bit_or over (bit_and left 0xfefefefefefefefe)) 0 ≡ all_b (8 * (k + 1)) (λ i. state_fits (bit set i) (f i))
fit_more f set k over left S P h l s b e o =
    let d : 8 * k + 8 ≡ 8 * (k + 1) = omega arith in
    or_zero_lem over (bit_and left 0xfefefefefefefefe) ∙ ap₂ ◌&&◌ o (eight_fit f set (8 * k) left h l S P s b e) ∙ all_append (8 * k) 8 (λ i. state_fits (bit set i) (f i))
    ∙ ap (λ (m : ℕ). all_b m (λ i. state_fits (bit set i) (f i))) d
