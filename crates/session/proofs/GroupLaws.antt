-- Laws of dirty segments whose states are looked up eight at a time: the word of those in state 1, and the walk from group to group.
use Prim.Native.Nat.{ℕ, zero, suc, ◌+◌, ◌-◌, ◌*◌, ◌/◌, ◌%◌, ◌^◌, ◌≤◌, ◌<◌}
use mathlib.Core.Path.{◌≡◌, refl, sym, ap, ap₂, ◌∙◌}
use mathlib.Core.Bool.{Bool, true, false, not, cond, ◌&&◌, and_assoc}
use native.Mathlib.Omega.{arith}
use native.Mathlib.Decide.{dec_lt}
use native.Mathlib.Nat.{zero-mul}
use lib.Bits.{bit_or, bit_xor, or_lt, or_block, xor_lt, and_le_l}
use lib.Count.{count_trailing_zeros}
use lib.Dec.{eqb}
use lib.Pow.{pow_mono, pow_pos}
use borrow.Author.Tests.{eq-eqb, ne_eqb, eqb-true, not-true}
use Rattle.model.specs.Range.{all_b, one_if}
use Rattle.model.specs.Words.{little_endian, word_of}
use Rattle.model.specs.Session.{bit, is_dirty}
use Rattle.model.proofs.Laws.Range.{both, and_left, and_right, or_zero_lem, all_at, all_from, same_test, no_one, one-most}
use Rattle.model.proofs.Laws.Session.{bit_lt, no_bit, bits_below}
use Rattle.model.proofs.Laws.Words.{word_cong}
use Rattle.words.proofs.BitLaws.{lowest_bit, lowest_below}
use Rattle.words.proofs.ByteLaws.{by_bytes, bit_small, word_bytes, word_from, xor_bytes, xor_same, marks_flipped}
use Rattle.session.proofs.BitLaws.{bit_flipped, From, beyond, beyond_bits}

-- ---- eight segments

module _ (st : ℕ → ℕ) (m : ℕ) where
  -- segment i is dirty and in state 1
  abbrev pub own : ℕ → Bool
  own i = is_dirty m i && eqb (st i) 1

  -- byte k of the code's `tested`, for the segments from p on
  abbrev pub tested : ℕ → ℕ → ℕ
  tested p k = bit_or (bit_xor (st (p + k)) 1) (bit (18446744073709551615 - m) (p + k) * 2 ^ k)

module _ (st : ℕ → ℕ) (m p : ℕ) (small : (i : ℕ) → st i < 256) (fits : m < 2 ^ 64) (room : p + 8 ≤ 64) where
  state_small : (k : ℕ) → bit_xor (st (p + k)) 1 < 256
  state_small k = xor_lt 8 (st (p + k)) 1 (small (p + k)) (omega arith)

  pub tested_small : (k : ℕ) → k < 8 → tested st m p k < 256
  tested_small k l = or_lt 8 _ _ (state_small k) (bit_small (18446744073709551615 - m) p k l)

  pub tested_word : {w e s : ℕ} → w ≡ word_of st p → e ≡ word_of (λ k. 1) 0 → s ≡ word_of (λ k. bit (18446744073709551615 - m) (p + k) * 2 ^ k) 0
      → bit_or (bit_xor w e) s ≡ word_of (tested st m p) 0
  tested_word x y z = ap₂ bit_or (ap₂ bit_xor (x ∙ word_from st p) y ∙ xor_bytes (λ k. st (p + k)) 1 (omega arith) (λ k l. small (p + k))) z ∙ bytes
    where
      bytes : bit_or (word_of (λ k. bit_xor (st (p + k)) 1) 0) (word_of (λ k. bit (18446744073709551615 - m) (p + k) * 2 ^ k) 0) ≡ word_of (tested st m p) 0
      bytes = unfold word_of in (by_bytes bit_or (or_block 8) refl 8 _ _ 0 (λ k a l. state_small k) (λ k a l. bit_small (18446744073709551615 - m) p k l))

  -- it is 0 exactly if segment p + k is dirty and in state 1
  tested_zero : (k : ℕ) → k < 8 → eqb (tested st m p k) 0 ≡ own st m (p + k)
  tested_zero k l =
      or_zero_lem (bit_xor (st (p + k)) 1) (bit (18446744073709551615 - m) (p + k) * 2 ^ k)
      ∙ ap₂ (λ (a : Bool) (x : ℕ). a && eqb (x * 2 ^ k) 0) (xor_same (st (p + k)) 1) (bit_flipped m (p + k) (omega arith) fits)
      ∙ go (bit m (p + k)) (bit_lt m (p + k)) (eqb (st (p + k)) 1)
    where
      go : (x : ℕ) → x < 2 → (a : Bool) → (a && eqb ((1 - x) * 2 ^ k) 0) ≡ (eqb x 1 && a)
      go zero h true = ne_eqb (1 * 2 ^ k) 0 (λ e. omega (arith, pow_pos k))
      go zero h false = refl
      go (suc zero) h true = eq-eqb (0 * 2 ^ k) 0 (zero-mul (2 ^ k))
      go (suc zero) h false = refl
      go (suc (suc x)) h a = absurd (omega arith)

  pub own_word : {r e : ℕ} → r ≡ word_of (λ k. cond (eqb (tested st m p k) 0) 0 1) 0 → e ≡ word_of (λ k. 1) 0 → bit_xor r e ≡ word_of (λ i. one_if (own st m i)) p
  own_word x y =
      ap₂ bit_xor x y ∙ marks_flipped (λ k. eqb (tested st m p k) 0) ∙ word_cong _ (λ k. one_if (own st m (p + k))) 0 (λ k a l. ap one_if (tested_zero k l))
      ∙ sym (word_from (λ i. one_if (own st m i)) p)

-- ---- from group to group

-- where the group of the lowest dirty segment starts
abbrev pub group_of : ℕ → ℕ
group_of m = count_trailing_zeros 64 m / 8 * 8

pub group_room : (m : ℕ) → 0 < m → m < 2 ^ 64 → group_of m + 8 ≤ 64
group_room m h l = omega (arith, lowest_below 64 m (omega arith) h l)

-- the segments that are left are fewer
pub beyond_less : (m : ℕ) → 0 < m → m < 2 ^ 64 → beyond m (group_of m) < m
beyond_less m h l = omega (arith, and_le_l m (18446744073709551360 * 2 ^ group_of m % 18446744073709551616), changed)
  where
    changed : beyond m (group_of m) ≡ m → ⊥
    changed e =
        let z = count_trailing_zeros 64 m in
        let gone : bit (beyond m (group_of m)) z ≡ 0 = (beyond_bits m (group_of m) (group_room m h l) l).before z (omega arith) in
        omega (arith, gone, (lowest_bit 64 m h l).there, ap (λ (w : ℕ). bit w z) e)

module _ (n : ℕ) (st : ℕ → ℕ) where
  -- no segment of a word of dirty segments is in state 1
  abbrev pub none_of : ℕ → Bool
  none_of m = all_b n (λ i. not (own st m i))

  -- where none of them is left
  pub none_left : (ok : Bool) → ok ≡ (ok && none_of 0)
  none_left false = refl
  none_left true = sym (all_from n _ (λ i l. ap (λ (x : Bool). not (x && eqb (st i) 1)) (no_bit i)))

  -- a run of eight before which none is dirty, and those beyond it
  eight_more : (m rest p w : ℕ) → From m rest (p + 8) → ((i : ℕ) → i < p → bit m i ≡ 0) → m < 2 ^ n → w ≡ word_of (λ i. one_if (own st m i)) p → none_of m ≡ (eqb w 0 && none_of rest)
  eight_more m rest p w f low l e = same_test _ _ there back
    where
      clean : (i : ℕ) → bit m i ≡ 0 → own st m i ≡ false
      clean i z = ap (λ (x : ℕ). eqb x 1 && eqb (st i) 1) z

      zeros : word_of (λ i. 0) p ≡ 0
      zeros = unfold word_of little_endian in refl

      there : none_of m ≡ true → (eqb w 0 && none_of rest) ≡ true
      there t = both (eq-eqb w 0 (e ∙ word_cong _ (λ i. 0) p (λ i a b. ap one_if (none i (dec_lt i n))) ∙ zeros)) (all_from n _ (λ i b. go i b (dec_lt i (p + 8))))
        where
          none : (i : ℕ) → Dec (i < n) → own st m i ≡ false
          none i (yes b) = not-true _ (all_at n _ t i b)
          none i (no b) = let z : bit m i ≡ 1 → ⊥ = λ q. b ((bits_below m n).0 l i q) in clean i (omega (arith, bit_lt m i, z))

          go : (i : ℕ) → i < n → Dec (i < p + 8) → not (own st rest i) ≡ true
          go i b (yes c) = ap (λ (x : ℕ). not (eqb x 1 && eqb (st i) 1)) (f.before i c)
          go i b (no c) = ap (λ (x : ℕ). not (eqb x 1 && eqb (st i) 1)) (f.after i (omega arith)) ∙ all_at n _ t i b

      back : (eqb w 0 && none_of rest) ≡ true → none_of m ≡ true
      back t = all_from n _ (λ i b. go i b (dec_lt i p) (dec_lt i (p + 8)))
        where
          bytes : (k : ℕ) → k < 8 → one_if (own st m (p + k)) ≡ 0
          bytes =
              word_bytes (λ i. one_if (own st m i)) (λ i. 0) p (λ i a b. omega (arith, one-most (own st m i))) (λ i a b. omega arith)
              (sym e ∙ eqb-true w 0 (and_left (eqb w 0) (none_of rest) t) ∙ sym zeros)

          go : (i : ℕ) → i < n → Dec (i < p) → Dec (i < p + 8) → not (own st m i) ≡ true
          go i b (yes c) d = ap not (clean i (low i c))
          go i b (no c) (yes d) = let q : p + (i - p) ≡ i = omega arith in ap not (ap (own st m) (sym q) ∙ no_one (own st m (p + (i - p))) (bytes (i - p) (omega arith)))
          go i b (no c) (no d) = ap (λ (x : ℕ). not (eqb x 1 && eqb (st i) 1)) (sym (f.after i (omega arith))) ∙ all_at n _ (and_right (eqb w 0) (none_of rest) t) i b

  -- where those before them are gathered in `seen`: the group of the lowest of them, and the others
  pub none_more : (m seen w : ℕ) → n ≤ 64 → 0 < m → m < 2 ^ n → w ≡ word_of (λ i. one_if (own st m i)) (group_of m)
      → (eqb seen 0 && none_of m) ≡ (eqb (bit_or seen w) 0 && none_of (beyond m (group_of m)))
  none_more m seen w h q l e =
      let fits : m < 2 ^ 64 = omega (arith, pow_mono h) in
      let more = eight_more m (beyond m (group_of m)) (group_of m) w (beyond_bits m (group_of m) (group_room m q fits) fits) (λ i b. (lowest_bit 64 m q fits).below i (omega arith)) l e in
      ap (λ (b : Bool). eqb seen 0 && b) more ∙ sym (and_assoc (eqb seen 0) (eqb w 0) _) ∙ ap (λ (b : Bool). b && none_of (beyond m (group_of m))) (sym (or_zero_lem seen w))
