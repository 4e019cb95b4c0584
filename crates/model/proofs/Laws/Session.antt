-- Laws of the session: bits of a word, which segments and blocks are dirty after each change, and its test of validity
-- against the plain statement.
use Prim.Native.Nat.{ℕ, zero, suc, ◌+◌, ◌-◌, ◌^◌, ◌/◌, ◌%◌, ◌≤◌, ◌<◌}
use mathlib.Core.Path.{◌≡◌, refl, sym, ap, ◌∙◌, subst}
use mathlib.Core.Logic.{◌↔◌, ◌≢◌, ◌⊎◌, inl, inr, ⊎_elim}
use mathlib.Core.Bool.{Bool, true, false, not, cond, ◌&&◌, and-eq-true_iff}
use native.Mathlib.Omega.{arith}
use native.Mathlib.Decide.{dec_lt, ℕ_discrete}
use native.Mathlib.Nat.{div_self, div-eq_of_lt, mul-div_cancel, mul-mod_left, pow-suc, div-lt_iff_lt-mul, one-mul}
use lib.Arith.{bin_ind}
use lib.Bits.{bit_or, or_shr, or_mod, or_zero_r}
use lib.Pow.{pow_pos, pow-lt, pow_mono, pow-add, shr-shr}
use lib.Dec.{ltb, eqb}
use lib.ListN.{length, get_or-eq_default}
use lib.Seq.{get_or-set_same, get_or-set_other}
use borrow.Author.Tests.{lt-ltb, le-ltb, ltb-true, ltb-false, eqb-true, eqb-false, eq-eqb, ne_eqb, not-true}
use Rattle.model.specs.declared.Layout.{Layout}
use Rattle.model.specs.declared.Session.{Session}
use Rattle.model.specs.Range.{all_b}
use Rattle.model.specs.Layout.{most, ss_main}
use Rattle.model.specs.Session.{eadr, no_domain, bit, is_dirty, set_bit, set_bits, dirty_word, dirty_segment, dirty_block, fresh_session, with_dirty, with_checkpoint, SessionValid, valid_session}
use Rattle.model.proofs.Laws.Range.{all_at, all_from}

-- ---- bits

pub bit_lt : (m f : ℕ) → bit m f < 2
unfolding bit
bit_lt m f = omega arith

pub bit_zero : (f : ℕ) → bit 0 f ≡ 0
unfolding bit
bit_zero f = ap (λ (x : ℕ). x % 2) (div-eq_of_lt (pow_pos f))

bit_or_lem : (a b f : ℕ) → bit (bit_or a b) f ≡ bit_or (bit a f) (bit b f)
unfolding bit
bit_or_lem a b f = ap (λ (x : ℕ). x % 2) (or_shr a b f) ∙ or_mod (a / 2 ^ f) (b / 2 ^ f) 1

bit_power_same : (f : ℕ) → bit (2 ^ f) f ≡ 1
unfolding bit
bit_power_same f = ap (λ (x : ℕ). x % 2) (div_self (pow_pos f))

bit_power_other : (f g : ℕ) → f ≢ g → bit (2 ^ f) g ≡ 0
unfolding bit
bit_power_other f g h =
    elim (dec_lt f g) [
      | yes l ↦ ap (λ (x : ℕ). x % 2) (div-eq_of_lt (pow-lt l))
      | no n ↦ (let e : f ≡ suc (f - suc g) + g = omega arith in ap (λ (x : ℕ). bit (2 ^ x) g) e ∙ above (f - suc g))
    ]
  where
    above : (d : ℕ) → bit (2 ^ (suc d + g)) g ≡ 0
    above d =
        ap (λ (x : ℕ). x / 2 ^ g % 2) (pow-add 2 (suc d) g)
        ∙ ap (λ (x : ℕ). x % 2) (mul-div_cancel (2 ^ suc d) (pow_pos g) ∙ pow-suc 2 d) ∙ mul-mod_left (2 ^ d) 2

pub bit_set_same : (m f : ℕ) → bit (set_bit m f) f ≡ 1
unfolding set_bit
bit_set_same m f = bit_or_lem m (2 ^ f) f ∙ ap (bit_or (bit m f)) (bit_power_same f) ∙ go (bit m f) (bit_lt m f)
  where
    go : (x : ℕ) → x < 2 → bit_or x 1 ≡ 1
    go zero h = refl
    go (suc zero) h = refl
    go (suc (suc x)) h = omega arith

pub bit_set_other : (m f g : ℕ) → f ≢ g → bit (set_bit m f) g ≡ bit m g
unfolding set_bit
bit_set_other m f g h = bit_or_lem m (2 ^ f) g ∙ ap (bit_or (bit m g)) (bit_power_other f g h) ∙ or_zero_r (bit m g)

-- a run of bits set: those in the run, and the others as they were
pub bit_run_in : (m f n g : ℕ) → f ≤ g → g < f + n → bit (set_bits m f n) g ≡ 1
unfolding set_bits
bit_run_in m f zero g h k = absurd (omega arith)
bit_run_in m f (suc n) g h k = go (λ l. bit_run_in m f n g h l) (ℕ_discrete (f + n) g)
  where
    go : (g < f + n → bit (set_bits m f n) g ≡ 1) → Dec (f + n ≡ g) → bit (set_bit (set_bits m f n) (f + n)) g ≡ 1
    go ih (yes e) = subst (λ (x : ℕ). bit (set_bit (set_bits m f n) (f + n)) x ≡ 1) e (bit_set_same (set_bits m f n) (f + n))
    go ih (no e) = bit_set_other (set_bits m f n) (f + n) g e ∙ ih (omega arith)

pub bit_run_out : (m f n g : ℕ) → (g < f) ⊎ (f + n ≤ g) → bit (set_bits m f n) g ≡ bit m g
unfolding set_bits
bit_run_out m f zero g h = refl
bit_run_out m f (suc n) g h =
    bit_set_other (set_bits m f n) (f + n) g (⊎_elim (λ x. omega arith) (λ x. omega arith) h)
    ∙ bit_run_out m f n g (⊎_elim inl (λ x. inr (omega arith)) h)

no_bits : (m : ℕ) → ((f : ℕ) → bit m f ≡ 0) → m ≡ 0
unfolding bit
no_bits =
    bin_ind (λ (n : ℕ). ((f : ℕ) → bit n f ≡ 0) → n ≡ 0) (λ z. refl)
    (λ n ih z. omega (arith, z 0, ih (λ f. ap (λ (x : ℕ). x % 2) (shr-shr n 1 f) ∙ z (1 + f))))

-- a number is below 2 ^ n exactly if its bits are
pub bits_below : (m n : ℕ) → (m < 2 ^ n) ↔ ((f : ℕ) → bit m f ≡ 1 → f < n)
unfolding bit
bits_below m n = (below, power)
  where
    below : m < 2 ^ n → (f : ℕ) → bit m f ≡ 1 → f < n
    below h f e =
        elim (dec_lt f n) [
          | yes l ↦ l
          | no l ↦ (let p : 2 ^ n ≤ 2 ^ f = pow_mono (omega arith) in let z : m / 2 ^ f ≡ 0 = div-eq_of_lt (omega arith) in omega arith)
        ]

    power : ((f : ℕ) → bit m f ≡ 1 → f < n) → m < 2 ^ n
    power h =
        let z : m / 2 ^ n ≡ 0 = no_bits (m / 2 ^ n) (λ f. clear h f) in
        let q : m / 2 ^ n < 1 = omega arith in
        omega (arith, (div-lt_iff_lt-mul (pow_pos n)).0 q, one-mul (2 ^ n))
      where
        clear : ((f : ℕ) → bit m f ≡ 1 → f < n) → (f : ℕ) → bit (m / 2 ^ n) f ≡ 0
        clear h f =
            let c : m / 2 ^ (n + f) % 2 ≢ 1 = (λ e. let l : n + f < n = h (n + f) e in omega arith) in
            omega (arith, shr-shr m n f)

-- ---- what is dirty

module _ (s : Session) (i b n m : ℕ) where
  pub dirty_segment_same : dirty_segment (with_dirty s i b n m) i ≡ true
  unfolding dirty_segment with_dirty
  dirty_segment_same = eq-eqb _ _ (bit_set_same s.dirty_segments i)

  pub dirty_segment_other : (u : ℕ) → u ≢ i → dirty_segment (with_dirty s i b n m) u ≡ dirty_segment s u
  unfolding dirty_segment with_dirty
  dirty_segment_other u ne = ap (λ (x : ℕ). eqb x 1) (bit_set_other s.dirty_segments i u (λ e. ne (sym e)))

  pub dirty_word_same : i < length s.dirty_blocks → dirty_word (with_dirty s i b n m) i ≡ set_bits m b n
  unfolding with_dirty
  dirty_word_same h = get_or-set_same s.dirty_blocks i (set_bits m b n) 0 h

  pub dirty_word_other : (u : ℕ) → u ≢ i → dirty_word (with_dirty s i b n m) u ≡ dirty_word s u
  unfolding with_dirty
  dirty_word_other u ne = get_or-set_other s.dirty_blocks i u (set_bits m b n) 0 ne

  -- a block of the run
  pub dirty_block_same : i < length s.dirty_blocks → (f : ℕ) → b ≤ f → f < b + n → dirty_block (with_dirty s i b n m) i f ≡ true
  unfolding dirty_block
  dirty_block_same h f x y = eq-eqb _ _ (ap (λ (w : ℕ). bit w f) (dirty_word_same h) ∙ bit_run_in m b n f x y)

  -- another block of the segment: as in the word m
  pub dirty_block_rest : i < length s.dirty_blocks → (f : ℕ) → (f < b) ⊎ (b + n ≤ f) → dirty_block (with_dirty s i b n m) i f ≡ is_dirty m f
  unfolding dirty_block
  dirty_block_rest h f x = ap (λ (x : ℕ). eqb x 1) (ap (λ (w : ℕ). bit w f) (dirty_word_same h) ∙ bit_run_out m b n f x)

  pub dirty_block_other : (u : ℕ) → u ≢ i → (f : ℕ) → dirty_block (with_dirty s i b n m) u f ≡ dirty_block s u f
  unfolding dirty_block
  dirty_block_other u ne f = ap (λ (w : ℕ). eqb (bit w f) 1) (dirty_word_other u ne)

-- a word without bits
pub no_bit : (f : ℕ) → eqb (bit 0 f) 1 ≡ false
no_bit f = ap (λ (x : ℕ). eqb x 1) (bit_zero f)

pub checkpoint_segment_lem : (s : Session) (u : ℕ) → dirty_segment (with_checkpoint s) u ≡ false
unfolding dirty_segment with_checkpoint
checkpoint_segment_lem s u = no_bit u

pub checkpoint_block_lem : (s : Session) (u f : ℕ) → dirty_block (with_checkpoint s) u f ≡ dirty_block s u f
unfolding dirty_block with_checkpoint
checkpoint_block_lem s u f = refl

pub fresh_segment : (l : Layout) (d u : ℕ) → dirty_segment (fresh_session l d) u ≡ false
unfolding dirty_segment fresh_session
fresh_segment l d u = no_bit u

-- ---- valid sessions

-- a dirty segment of a valid session is one of its layout, and not in state 1
pub dirty_means : (s : Session) (st : ℕ → ℕ) → valid_session s st ≡ true → (i : ℕ) → dirty_segment s i ≡ true → (i < s.layout.mains) × (st i ≢ ss_main)
unfolding valid_session dirty_segment
dirty_means s st h i d =
    let k = simp and-eq-true_iff at h in
    let l : i < s.layout.mains = (bits_below _ _).0 (ltb-true _ _ k.0.0.0) i (eqb-true _ _ d) in
    (l, eqb-false _ _ (rw d at (not-true (dirty_segment s i && eqb (st i) ss_main) (all_at s.layout.mains _ k.0.1 i l))))

-- a session has a word for each of 64 main segments
pub session_means : (s : Session) (st : ℕ → ℕ) → length s.dirty_blocks ≡ most → valid_session s st ≡ true → SessionValid s st
unfolding valid_session dirty_block
session_means s st len h =
    let k = simp and-eq-true_iff at h in
    record {
      segments = λ i d. (dirty_means s st h i d).0;
      blocks = λ i b d. block i b (dec_lt i most) k.0.0.1 (eqb-true _ _ d);
      moved = λ i d. (dirty_means s st h i d).1;
      domain = ltb-false eadr s.domain (not-true (no_domain s.domain) k.1);
    }
  where
    word : (i b : ℕ) (a : Bool) → ltb i s.layout.mains ≡ a → ltb (dirty_word s i) (cond a (2 ^ s.layout.blocks) 1) ≡ true → bit (dirty_word s i) b ≡ 1
        → (i < s.layout.mains) × (b < s.layout.blocks)
    word i b true e t d = (ltb-true _ _ e, (bits_below _ _).0 (ltb-true _ _ t) b d)
    word i b false e t d = (let z : b < 0 = (bits_below (dirty_word s i) 0).0 (ltb-true _ _ t) b d in omega arith)

    block : (i b : ℕ) → Dec (i < most) → all_b most (λ i. ltb (dirty_word s i) (cond (ltb i s.layout.mains) (2 ^ s.layout.blocks) 1)) ≡ true
        → bit (dirty_word s i) b ≡ 1 → (i < s.layout.mains) × (b < s.layout.blocks)
    block i b (yes l) t d = word i b _ refl (all_at most _ t i l) d
    block i b (no l) t d =
        let e : bit 0 b ≡ 1 = ap (λ (w : ℕ). bit w b) (sym (get_or-eq_default s.dirty_blocks 0 (omega arith))) ∙ d in
        let z : ⊥ = omega (arith, bit_zero b) in absurd z

pub session_test : (s : Session) (st : ℕ → ℕ) → SessionValid s st → valid_session s st ≡ true
unfolding valid_session dirty_segment dirty_block
session_test s st v =
    simp and-eq-true_iff (
      (
        (
          lt-ltb _ _ ((bits_below _ _).1 (λ f e. v.segments f (eq-eqb _ _ e))),
          all_from most _ (λ i b. word i (ltb i s.layout.mains) refl),
        ),
        all_from s.layout.mains _ (λ i b. moved i (dirty_segment s i) refl),
      ),
      ap not (le-ltb eadr s.domain v.domain),
    )
  where
    word : (i : ℕ) (a : Bool) → ltb i s.layout.mains ≡ a → ltb (dirty_word s i) (cond a (2 ^ s.layout.blocks) 1) ≡ true
    word i true e = lt-ltb _ _ ((bits_below _ _).1 (λ f d. (v.blocks i f (eq-eqb _ _ d)).1))
    word i false e = lt-ltb _ _ ((bits_below (dirty_word s i) 0).1 (λ f d. let l = (v.blocks i f (eq-eqb _ _ d)).0 in omega (arith, ltb-false i s.layout.mains e)))

    moved : (i : ℕ) (a : Bool) → dirty_segment s i ≡ a → not (a && eqb (st i) ss_main) ≡ true
    moved i true d = ap not (ne_eqb _ _ (v.moved i d))
    moved i false d = refl
