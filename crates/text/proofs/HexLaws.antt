-- Laws of hexadecimal digits: which values are pairs of them, and the bytes that pairs give.
use Prim.Native.Nat.{ℕ, suc, ◌+◌, ◌*◌, ◌/◌, ◌%◌, ◌≤◌, ◌<◌}
use mathlib.Core.Path.{◌≡◌, refl, sym, ap, ◌∙◌}
use mathlib.Core.Bool.{Bool, true, false, ◌&&◌, true≢false}
use mathlib.Core.List.{List, [], ◌∷◌, ◌++◌, append_assoc, append-nil}
use native.Mathlib.Omega.{arith}
use native.Mathlib.Numerals.{add-one}
use lib.Dec.{eqb}
use lib.ListN.{length, get_or, take, drop, set, length-set, length-append}
use lib.Seq.{drop-drop, drop-set-lt, take-suc-set}
use Rattle.std.specs.List.{list_all}
use Rattle.model.proofs.Laws.Range.{and_left, and_right}
use Rattle.text.specs.Text.{is_hex_digit, hex_digit_of, hex_pairs, hex_bytes}
use Rattle.text.specs.Read.{Decodes}

-- ---- hexadecimal digits

in_order : (x y e z : Bool) → (x && y && (e && z)) ≡ (e && (x && (y && z)))
in_order true true e z = refl
in_order true false true z = refl
in_order true false false z = refl
in_order false y true z = refl
in_order false y false z = refl

-- pairs are an even count of digits
pub pairs_all : (v : List ℕ) → hex_pairs v ≡ (eqb (length v % 2) 0 && list_all is_hex_digit v)
unfolding hex_pairs
pairs_all [] = refl
pairs_all (a ∷ []) = refl
pairs_all (a ∷ b ∷ v) =
    let e : suc (suc (length v)) % 2 ≡ length v % 2 = omega arith in
    rw (e, pairs_all v) (in_order (is_hex_digit a) (is_hex_digit b) (eqb (length v % 2) 0) (list_all is_hex_digit v))

-- ---- bytes

pub length_hex : (d : List ℕ) → length (hex_bytes d) ≡ length d / 2
unfolding hex_bytes
length_hex [] = refl
length_hex (a ∷ []) = refl
length_hex (a ∷ b ∷ d) = omega (arith, length_hex d)

left_more : (start bs : List ℕ) (i v : ℕ) → drop i bs ≡ drop i start → drop (i + 1) (set bs i v) ≡ drop (i + 1) start
left_more start bs i v t =
    ap (λ (n : ℕ). drop n (set bs i v)) (add-one i) ∙ drop-set-lt (suc i) bs i v (omega arith) ∙ ap (λ (n : ℕ). drop n bs) (sym (add-one i))
    ∙ sym (drop-drop 1 i bs) ∙ ap (drop 1) t ∙ drop-drop 1 i start

-- i bytes are decoded, and the digits of the rest are left
pub record Decoding (digits before rest after : List ℕ) (i : ℕ) : Type 0 where
  pub pairs : hex_pairs rest ≡ true
  pub count : 2 * i + length rest ≡ length digits
  pub bytes : take i after ++ hex_bytes rest ≡ hex_bytes digits
  pub behind : drop i after ≡ drop i before
  pub long : length after ≡ length before

-- none are
pub decoded_none : {d rest : List ℕ} (start : List ℕ) {i : ℕ} → hex_pairs d ≡ true → rest ≡ d → i ≡ 0 → Decoding d start rest start i
decoded_none {d} start h e z = rw (e, z) (record { pairs = h; count = omega arith; bytes = refl; behind = refl; long = refl })

-- what the first two digits of the rest are
module _ (d start bs p rest' : List ℕ) {rest : List ℕ} {i : ℕ} (s : Decoding d start rest bs i) (e : rest ≡ p ++ rest') (two : length p ≡ 2) where
  pub first_pair : (is_hex_digit (get_or p 0 0) ≡ true) × (is_hex_digit (get_or p 1 0) ≡ true)
  unfolding hex_pairs
  first_pair = go p two (rw e at s.pairs)
    where
      go : (p : List ℕ) → length p ≡ 2 → hex_pairs (p ++ rest') ≡ true → (is_hex_digit (get_or p 0 0) ≡ true) × (is_hex_digit (get_or p 1 0) ≡ true)
      go [] e h = let z : ⊥ = omega arith in absurd z
      go (a ∷ []) e h = let z : ⊥ = omega arith in absurd z
      go (a ∷ b ∷ []) e h =
          let q = and_left (is_hex_digit a && is_hex_digit b) (hex_pairs rest') h in
          (and_left (is_hex_digit a) (is_hex_digit b) q, and_right (is_hex_digit a) (is_hex_digit b) q)
      go (a ∷ b ∷ c ∷ p) e h = let z : ⊥ = omega arith in absurd z

  -- its byte has room
  pub byte_fits : length d ≤ 2 * length start → i < length bs
  byte_fits h = omega (arith, s.count, s.long, ap length e, length-append p rest')

  -- one byte more
  pub decoded_more : (v : ℕ) {j : ℕ} → j ≡ i + 1 → i < length bs → v ≡ 16 * hex_digit_of (get_or p 0 0) + hex_digit_of (get_or p 1 0) → Decoding d start rest' (set bs i v) j
  unfolding hex_pairs hex_bytes
  decoded_more v f k h = rw f (go p two h (rw e at s))
    where
      go : (p : List ℕ) → length p ≡ 2 → v ≡ 16 * hex_digit_of (get_or p 0 0) + hex_digit_of (get_or p 1 0) → Decoding d start (p ++ rest') bs i → Decoding d start rest' (set bs i v) (i + 1)
      go [] e h s = let z : ⊥ = omega arith in absurd z
      go (a ∷ []) e h s = let z : ⊥ = omega arith in absurd z
      go (a ∷ b ∷ []) e h s =
          record {
            pairs = and_right (is_hex_digit a && is_hex_digit b) (hex_pairs rest') s.pairs;
            count = omega (arith, s.count);
            bytes = rw (add-one, take-suc-set bs i v k, append_assoc, h) s.bytes;
            behind = left_more start bs i v s.behind;
            long = simp length-set s.long;
          }
      go (a ∷ b ∷ c ∷ p) e h s = let z : ⊥ = omega arith in absurd z

-- no pair is left
pub decoded : (d start rest bs : List ℕ) (i : ℕ) → length rest < 2 → length d ≤ 2 * length start → Decoding d start rest bs i → Decodes d start bs (length d / 2)
unfolding hex_pairs hex_bytes
decoded d start [] bs i h q s =
    let e : i ≡ length d / 2 = omega (arith, s.count) in
    record {
      count = sym (length_hex d);
      inside = omega arith;
      bytes = rw e at (sym (append-nil (take i bs)) ∙ s.bytes);
      rest = rw e at s.behind;
      long = s.long;
    }
decoded d start (a ∷ []) bs i h q s = absurd (true≢false (sym s.pairs))
decoded d start (a ∷ b ∷ rest) bs i h q s = let z : ⊥ = omega arith in absurd z
