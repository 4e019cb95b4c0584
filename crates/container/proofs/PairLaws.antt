-- Laws of pairs laid one over the other: which main segments the set has, and that there are as many of them as pairs exactly if all
-- pairs name main segments below 64, and no two the same one.
use Rattle.std.proofs.Common.{◌≡◌, List, ℕ, zero, suc, ◌+◌, ◌*◌, ◌/◌, ◌%◌, ◌^◌, ◌<◌, ◌≤◌, Bool, true, false, cond, not, ◌||◌, eqb, ltb, ◌≢◌, ◌⊎◌, sym, refl, ap, ◌∙◌, subst, ap₂, inl, inr, ⊎_elim, true≢false, arith, pow_pos, ltb-true, le-ltb, lt-ltb, eq-eqb, ne_eqb, eqb-true}
use native.Mathlib.Decide.{dec_lt, ℕ_discrete}
use lib.Bits.{bit_and, bit_or, and_block, or_lt}
use lib.Count.{ones}
use lib.ListN.{length, get_or, take}
use lib.Pow.{pow-lt}
use lib.Seq.{take_all}
use Rattle.model.specs.Range.{all_b, any_b, first_b, one_if}
use Rattle.model.specs.Counts.{dirty_count}
use Rattle.std.specs.List.{fold}
use Rattle.std.proofs.lemmas.List.Sums.{fold_more}
use Rattle.std.specs.Int.{w64, to_le_bytes}
use Rattle.model.specs.Words.{little_endian, word_of, bytes_of}
use Rattle.model.specs.Session.{bit, is_dirty, set_bit}
use Rattle.model.proofs.Laws.Counts.{dirty_ones}
use Rattle.model.proofs.Laws.Range.{both, and_left, and_right, all_at, any_none, first_some, or_else, or_right, sum_change}
use Rattle.model.proofs.Laws.Session.{bit_lt, bit_zero, bit_set_same, bit_set_other}
use Rattle.words.proofs.BitLaws.{shifted_one}
use Rattle.words.proofs.WordLaws.{word_parts}
use Rattle.container.specs.declared.Paired.{Paired}
use Rattle.container.specs.Scan.{lay_pair, lay_bytes, low_bytes, lay_pairs}

-- ---- one bit more in a set

set_lt : (w p : ℕ) → w < 2 ^ 64 → p < 64 → set_bit w p < 2 ^ 64
unfolding set_bit
set_lt w p h l = or_lt 64 w (2 ^ p) h (pow-lt l)

ones_set : (w p : ℕ) → w < 2 ^ 64 → p < 64 → ones (set_bit w p) + bit w p ≡ ones w + 1
unfolding dirty_count
ones_set w p h l =
    let change = sum_change 64 p (λ b. one_if (is_dirty w b)) (λ b. one_if (is_dirty (set_bit w p) b)) l (λ k a ne. ap (λ (x : ℕ). one_if (eqb x 1)) (bit_set_other w p k (λ e. ne (sym e)))) in
    omega (arith, change, dirty_ones w 64 h, dirty_ones (set_bit w p) 64 (set_lt w p h l), one (bit w p) (bit_lt w p), ap (λ (x : ℕ). one_if (eqb x 1)) (bit_set_same w p))
  where
    one : (x : ℕ) → x < 2 → one_if (eqb x 1) ≡ x
    one zero a = refl
    one (suc zero) a = refl
    one (suc (suc x)) a = absurd (omega arith)

-- ---- one pair more, as the code tests it

pub lay_unpaired : (p : Paired) (q : ℕ) → eqb q 255 ≡ true → p ≡ lay_pair p q
unfolding lay_pair
lay_unpaired p q e = rw e

pub lay_below : (p : Paired) (q : ℕ) → eqb q 255 ≡ false → q < 64 → ◌≡◌ {A = Paired} (record { set = bit_or p.set (1 * 2 ^ q % 18446744073709551616); count = p.count + 1 }) (lay_pair p q)
unfolding lay_pair set_bit
lay_below p q e h = rw (e, lt-ltb q 64 h, shifted_one q h)

pub lay_beyond : (p : Paired) (q : ℕ) → eqb q 255 ≡ false → 64 ≤ q → ◌≡◌ {A = Paired} (record { set = p.set; count = p.count + 1 }) (lay_pair p q)
unfolding lay_pair
lay_beyond p q e h = rw (e, le-ltb q 64 h)

-- ---- one pair more

module _ (pr : ℕ → ℕ) where
  abbrev laid : ℕ → Paired
  laid n = lay_pairs pr n

  lay_none : (n : ℕ) → pr n ≡ 255 → laid (suc n) ≡ laid n
  unfolding lay_pairs lay_pair
  lay_none n e = rw e

  lay_main : (n : ℕ) → pr n < 64 → laid (suc n) ≡ record { set = set_bit (laid n).set (pr n); count = (laid n).count + 1 }
  unfolding lay_pairs lay_pair
  lay_main n h = rw (ne_eqb (pr n) 255 (λ e. omega arith), lt-ltb (pr n) 64 h)

  lay_other : (n : ℕ) → pr n ≢ 255 → 64 ≤ pr n → laid (suc n) ≡ record { set = (laid n).set; count = (laid n).count + 1 }
  unfolding lay_pairs lay_pair
  lay_other n e h = rw (ne_eqb (pr n) 255 e, le-ltb (pr n) 64 h)

  -- the three kinds of pairs
  by_kind : {A : Type 0} (n : ℕ) → (pr n ≡ 255 → A) → (pr n < 64 → A) → (pr n ≢ 255 → 64 ≤ pr n → A) → A
  by_kind {A} n a b c = go (ℕ_discrete (pr n) 255) (dec_lt (pr n) 64)
    where
      go : Dec (pr n ≡ 255) → Dec (pr n < 64) → A
      go (yes e) d = a e
      go (no e) (yes h) = b h
      go (no e) (no h) = c e (omega arith)

  pub set_small : (n : ℕ) → (laid n).set < 2 ^ 64
  unfolding lay_pairs
  set_small zero = pow_pos 64
  set_small (suc n) =
      by_kind n (λ e. subst (λ (p : Paired). p.set < 2 ^ 64) (sym (lay_none n e)) (set_small n))
      (λ h. subst (λ (p : Paired). p.set < 2 ^ 64) (sym (lay_main n h)) (set_lt (laid n).set (pr n) (set_small n) h))
      (λ e h. subst (λ (p : Paired). p.set < 2 ^ 64) (sym (lay_other n e h)) (set_small n))

  pub count_most : (n : ℕ) → (laid n).count ≤ n
  unfolding lay_pairs
  count_most zero = omega arith
  count_most (suc n) =
      by_kind n (λ e. omega (arith, count_most n, ap (λ (p : Paired). p.count) (lay_none n e)))
      (λ h. omega (arith, count_most n, ap (λ (p : Paired). p.count) (lay_main n h)))
      (λ e h. omega (arith, count_most n, ap (λ (p : Paired). p.count) (lay_other n e h)))

  -- ---- the set has the main segments that are named

  pub named : (n i : ℕ) → i < 64 → is_dirty (laid n).set i ≡ any_b n (λ j. eqb (pr j) i)
  unfolding lay_pairs any_b
  named zero i l = ap (λ (x : ℕ). eqb x 1) (bit_zero i)
  named (suc n) i l =
      by_kind n
      (λ e. ap (λ (p : Paired). is_dirty p.set i) (lay_none n e) ∙ named n i l ∙ same n i (ne_eqb (pr n) i (λ q. omega arith)))
      (λ h. ap (λ (p : Paired). is_dirty p.set i) (lay_main n h) ∙ main n i (named n i l) (ℕ_discrete (pr n) i))
      (λ e h. ap (λ (p : Paired). is_dirty p.set i) (lay_other n e h) ∙ named n i l ∙ same n i (ne_eqb (pr n) i (λ q. omega arith)))
    where
      same : (n i : ℕ) → eqb (pr n) i ≡ false → any_b n (λ j. eqb (pr j) i) ≡ (any_b n (λ j. eqb (pr j) i) || eqb (pr n) i)
      same n i e = rw e (plain (any_b n (λ j. eqb (pr j) i)))
        where
          plain : (b : Bool) → b ≡ (b || false)
          plain true = refl
          plain false = refl

      main : (n i : ℕ) → is_dirty (laid n).set i ≡ any_b n (λ j. eqb (pr j) i) → Dec (pr n ≡ i)
          → is_dirty (set_bit (laid n).set (pr n)) i ≡ (any_b n (λ j. eqb (pr j) i) || eqb (pr n) i)
      main n i ih (yes e) =
          ap (λ (x : ℕ). is_dirty (set_bit (laid n).set x) i) e ∙ eq-eqb _ _ (bit_set_same (laid n).set i)
          ∙ sym (or_right (any_b n (λ j. eqb (pr j) i)) (eq-eqb _ _ e))
      main n i ih (no e) = ap (λ (x : ℕ). eqb x 1) (bit_set_other (laid n).set (pr n) i e) ∙ ih ∙ same n i (ne_eqb (pr n) i e)

  -- ---- as many as pairs

  -- the pair of backup segment j is `unpaired`, or a main segment below 64 that no earlier one has
  abbrev pub Fine : ℕ → Type 0
  Fine j = (pr j ≡ 255) ⊎ ((pr j < 64) × ((k : ℕ) → k < j → pr k ≢ pr j))

  -- whether an earlier backup segment has the main segment of this one
  earlier : (n : ℕ) → pr n < 64 → bit (laid n).set (pr n) ≡ 0 → (k : ℕ) → k < n → pr k ≢ pr n
  earlier n h e k l q =
      let d : is_dirty (laid n).set (pr n) ≡ false = ap (λ (x : ℕ). eqb x 1) e in
      let f = any_none n (λ j. eqb (pr j) (pr n)) (sym (named n (pr n) h) ∙ d) k l in
      true≢false (sym (eq-eqb _ _ q) ∙ f)

  none_earlier : (n : ℕ) → pr n < 64 → ((k : ℕ) → k < n → pr k ≢ pr n) → bit (laid n).set (pr n) ≡ 0
  none_earlier n h f = go (ℕ_discrete (bit (laid n).set (pr n)) 1)
    where
      go : Dec (bit (laid n).set (pr n) ≡ 1) → bit (laid n).set (pr n) ≡ 0
      go (yes e) =
          let s = first_some n (λ j. eqb (pr j) (pr n)) (sym (named n (pr n) h) ∙ eq-eqb _ _ e) in
          absurd (f (first_b n (λ j. eqb (pr j) (pr n))) s.0 (eqb-true _ _ s.1))
      go (no e) = omega (arith, bit_lt (laid n).set (pr n))

  -- the set and the count after a pair that names a main segment
  ones_more : (n : ℕ) → pr n < 64 → ones (laid (suc n)).set + bit (laid n).set (pr n) ≡ ones (laid n).set + 1
  ones_more n h = ap (λ (p : Paired). ones p.set + bit (laid n).set (pr n)) (lay_main n h) ∙ ones_set (laid n).set (pr n) (set_small n) h

  ones_most : (n : ℕ) → ones (laid n).set ≤ (laid n).count
  unfolding lay_pairs ones
  ones_most zero = omega arith
  ones_most (suc n) =
      by_kind n
      (λ e. omega (arith, ones_most n, ap (λ (p : Paired). ones p.set) (lay_none n e), ap (λ (p : Paired). p.count) (lay_none n e)))
      (λ h. omega (arith, ones_most n, ones_more n h, ap (λ (p : Paired). p.count) (lay_main n h)))
      (λ e h. omega (arith, ones_most n, ap (λ (p : Paired). ones p.set) (lay_other n e h), ap (λ (p : Paired). p.count) (lay_other n e h)))

  -- as many bits as pairs: all pairs are fine
  pub counted_fine : (n : ℕ) → ones (laid n).set ≡ (laid n).count → (j : ℕ) → j < n → Fine j
  counted_fine zero e j l = absurd (omega arith)
  counted_fine (suc n) e j l =
      by_kind n
      (λ q. go n j l (inl q) (λ a. counted_fine n (sym (ap (λ (p : Paired). ones p.set) (lay_none n q)) ∙ e ∙ ap (λ (p : Paired). p.count) (lay_none n q)) j a))
      (λ h.
      let c = ap (λ (p : Paired). p.count) (lay_main n h) in
      go n j l (inr (h, earlier n h (omega (arith, ones_most n, ones_more n h, bit_lt (laid n).set (pr n)))))
      (λ a. counted_fine n (omega (arith, ones_most n, ones_more n h)) j a))
      (λ q h. absurd (omega (arith, ones_most n, ap (λ (p : Paired). ones p.set) (lay_other n q h), ap (λ (p : Paired). p.count) (lay_other n q h))))
    where
      go : (n j : ℕ) → j < suc n → Fine n → (j < n → Fine j) → Fine j
      go n j l last ih =
          elim (dec_lt j n) [
            | yes a ↦ ih a
            | no a ↦ (let e : n ≡ j = omega arith in subst Fine e last)
          ]

  -- and the other way round
  pub fine_counted : (n : ℕ) → ((j : ℕ) → j < n → Fine j) → ones (laid n).set ≡ (laid n).count
  unfolding lay_pairs ones
  fine_counted zero f = refl
  fine_counted (suc n) f =
      by_kind n
      (λ q. ap (λ (p : Paired). ones p.set) (lay_none n q) ∙ fine_counted n (λ j l. f j (omega arith)) ∙ sym (ap (λ (p : Paired). p.count) (lay_none n q)))
      (λ h.
      let z = none_earlier n h (⊎_elim (λ q. absurd (omega arith)) (λ r. r.1) (f n (omega arith))) in
      omega (arith, z, ones_more n h, fine_counted n (λ j l. f j (omega arith)), ap (λ (p : Paired). p.count) (lay_main n h)))
      (λ q h. absurd (⊎_elim (λ e. q e) (λ r. let b = r.0 in omega arith) (f n (omega arith))))

-- ---- the bytes of a word as pairs

-- eight pairs of a word more are the next eight pairs
lay_bytes_lem : (m : ℕ) (pr : ℕ → ℕ) (n : ℕ) → ((i : ℕ) → pr i < 256) → lay_bytes m (lay_pairs pr n) (little_endian m pr n) ≡ lay_pairs pr (n + m)
unfolding lay_bytes little_endian
lay_bytes_lem zero pr n h = ap (lay_pairs pr) (omega arith)
lay_bytes_lem (suc m) pr n h =
    let low : (pr n + 256 * little_endian m pr (suc n)) % 256 ≡ pr n = omega (arith, h n) in
    let high : (pr n + 256 * little_endian m pr (suc n)) / 256 ≡ little_endian m pr (suc n) = omega (arith, h n) in
    rw (low, high) (next ∙ lay_bytes_lem m pr (suc n) h ∙ ap (lay_pairs pr) (omega arith))
  where
    next : lay_bytes m (lay_pair (lay_pairs pr n) (pr n)) (little_endian m pr (suc n)) ≡ lay_bytes m (lay_pairs pr (suc n)) (little_endian m pr (suc n))
    next = unfold lay_pairs in refl

pub lay_word : (pr : ℕ → ℕ) (n w : ℕ) (p : Paired) → ((i : ℕ) → pr i < 256) → p ≡ lay_pairs pr n → w ≡ word_of pr n → lay_bytes 8 p w ≡ lay_pairs pr (n + 8)
unfolding word_of
lay_word pr n w p h e f = rw (e, f) (lay_bytes_lem 8 pr n h)

-- a word of eight unpaired backup segments adds nothing
pub lay_nothing : (p : Paired) → lay_bytes 8 p 0xffffffffffffffff ≡ p
unfolding lay_bytes lay_pair
lay_nothing p = refl

-- the bytes of a word laid one after the other
lay_bytes_one : (n : ℕ) (p : Paired) (w : ℕ) → fold lay_pair p (bytes_of n w) ≡ lay_bytes n p w
unfolding lay_bytes bytes_of
lay_bytes_one zero p w = refl
lay_bytes_one (suc n) p w = lay_bytes_one n (lay_pair p (w % 256)) (w / 256)

-- those of a word as the library takes them: all eight, and one more
module _ (p : Paired) (w : ℕ) {bs : List ℕ} (e : bs ≡ to_le_bytes w64 w) where
  pub lay_parts : (i : ℕ) → 8 ≤ i → fold lay_pair p (take i bs) ≡ lay_bytes 8 p w
  lay_parts i h = ap (fold lay_pair p) (take_all i bs (omega (arith, ap length e)) ∙ e ∙ word_parts w) ∙ lay_bytes_one 8 p w

  pub lay_part : (i : ℕ) → i < 8 → lay_pair (fold lay_pair p (take i bs)) (get_or bs i 0) ≡ fold lay_pair p (take (i + 1) bs)
  lay_part i h = sym (fold_more lay_pair p bs i 0 (omega (arith, ap length e)))

pub lay_count : (p : Paired) (q : ℕ) → (lay_pair p q).count ≤ p.count + 1
unfolding lay_pair
lay_count p q = go (eqb q 255)
  where
    go : (b : Bool) → (cond b p (record { set = cond (ltb q 64) (set_bit p.set q) p.set; count = p.count + 1 })).count ≤ p.count + 1
    go true = omega arith
    go false = omega arith

-- a word with no byte that has one of its two top bits: all are below 64
low_byte : (b : ℕ) → b < 256 → bit_and b 192 ≡ 0 → b < 64
unfolding all_b
low_byte b h e = ltb-true _ _ (or_else (not (eqb (bit_and b 192) 0)) (ltb b 64) (all_at 256 (λ b. not (eqb (bit_and b 192) 0) || ltb b 64) refl b h) (ap not (eq-eqb _ _ e)))

low_bytes_lem : (n p w : ℕ) → bit_and w (little_endian n (λ k. 192) p) ≡ 0 → low_bytes n w ≡ true
unfolding low_bytes little_endian
low_bytes_lem zero p w e = refl
low_bytes_lem (suc n) p w e =
    let m = little_endian n (λ k. 192) (suc p) in
    let split : bit_and (w / 256 * 256 + w % 256) (m * 256 + 192) ≡ bit_and (w / 256) m * 256 + bit_and (w % 256) 192 = and_block 8 (w / 256) m (w % 256) 192 (omega arith) (omega arith) in
    let whole : w / 256 * 256 + w % 256 ≡ w = omega arith in
    let mask : m * 256 + 192 ≡ 192 + 256 * m = omega arith in
    let z : bit_and (w / 256) m * 256 + bit_and (w % 256) 192 ≡ 0 = sym split ∙ ap₂ bit_and whole mask ∙ e in
    both (lt-ltb (w % 256) 64 (low_byte (w % 256) (omega arith) (omega arith))) (low_bytes_lem n (suc p) (w / 256) (omega arith))

pub full_word : (w : ℕ) → bit_and w 0xc0c0c0c0c0c0c0c0 ≡ 0 → low_bytes 8 w ≡ true
full_word w e =
    let mask : little_endian 8 (λ k. 192) 0 ≡ 0xc0c0c0c0c0c0c0c0 = unfold little_endian in refl in
    low_bytes_lem 8 0 w (ap (bit_and w) mask ∙ e)

-- the bytes of such a number
low_at : (n w i : ℕ) → low_bytes n w ≡ true → i < n → get_or (bytes_of n w) i 0 < 64
unfolding low_bytes bytes_of
low_at zero w i h l = absurd (omega arith)
low_at (suc n) w zero h l = ltb-true _ _ (and_left (ltb (w % 256) 64) (low_bytes n (w / 256)) h)
low_at (suc n) w (suc i) h l = low_at n (w / 256) i (and_right (ltb (w % 256) 64) (low_bytes n (w / 256)) h) (omega arith)

pub low_parts : (w i : ℕ) {bs : List ℕ} → bs ≡ to_le_bytes w64 w → low_bytes 8 w ≡ true → i < 8 → get_or bs i 0 < 64
low_parts w i e h l = omega (arith, ap (λ (bs : List ℕ). get_or bs i 0) (e ∙ word_parts w), low_at 8 w i h l)
