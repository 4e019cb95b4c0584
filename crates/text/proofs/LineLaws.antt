-- Laws of the lines of an input: the first one is a part of it, the others are the lines of the rest, and no byte is lost.
use Prim.Native.Nat.{ℕ, suc, ◌+◌, ◌-◌, ◌≤◌, ◌<◌, min}
use mathlib.Core.Path.{◌≡◌, refl, sym, ap, ◌∙◌}
use mathlib.Core.Bool.{Bool, true, false, cond, not, true≢false}
use mathlib.Core.List.{List, [], ◌∷◌, ◌++◌}
use native.Mathlib.Omega.{arith}
use lib.Dec.{eqb, ltb}
use Rattle.std.specs.List.{position_or_len, IsFirstMatchOrLen}
use Rattle.std.proofs.lemmas.List.{take-append-drop, get_or_past}
use Rattle.std.proofs.Math.Seq.{take-append_seam, drop-append_seam}
use Rattle.std.proofs.lemmas.List.Sums.{position_or_len_is}
use native.Mathlib.Decide.{dec_lt}
use lib.ListN.{length, get_or, take, drop, length-append}
use Rattle.std.specs.Prelude.{Option, None, Some}
use Rattle.std.proofs.lemmas.Bool.Decides.{nat_tests}
use Rattle.text.specs.Text.{Line, before, lines_of}
use Rattle.text.specs.Read.{line_length, SplitsLine}

-- ---- the first line

-- it ends behind its byte 10, or where the bytes do
pub line_length_is : (bs : List ℕ) → line_length bs ≡ min (position_or_len (λ b. eqb b 10) bs + 1) (length bs)
unfolding line_length
line_length_is [] = refl
line_length_is (b ∷ bs) = go (eqb b 10) (line_length_is bs)
  where
    go : (t : Bool) → line_length bs ≡ min (position_or_len (λ c. eqb c 10) bs + 1) (length bs)
        → cond t 1 (suc (line_length bs)) ≡ min (cond (not t) (1 + position_or_len (λ c. eqb c 10) bs) 0 + 1) (suc (length bs))
    go true e = omega arith
    go false e = omega (arith, e)

pub line_some : (bs : List ℕ) → 0 < length bs → 1 ≤ line_length bs
unfolding line_length
line_some [] h = omega arith
line_some (b ∷ bs) h = go (eqb b 10)
  where
    go : (t : Bool) → 1 ≤ cond t 1 (suc (line_length bs))
    go true = omega arith
    go false = omega arith

-- where a byte 10 is found, and where none is
abbrev pub found : List ℕ → Option ℕ
found bs = cond (ltb (position_or_len (λ b. eqb b 10) bs) (length bs)) (Some (position_or_len (λ b. eqb b 10) bs)) None

pub line_found : (bs : List ℕ) (e : ℕ) → Some e ≡ found bs → (e + 1 ≡ line_length bs) × (e + 1 ≤ length bs)
line_found bs e q = grind (arith, nat_tests, line_length_is)

pub line_unfound : (bs : List ℕ) → None ≡ found bs → length bs ≡ line_length bs
line_unfound bs q = grind (arith, nat_tests, line_length_is)

before_first : (b : ℕ) (ls : List Line) → b ∷ get_or ls 0 [] ≡ get_or (before b ls) 0 []
before_first b [] = refl
before_first b (l ∷ ls) = refl

before_rest : (b : ℕ) (ls : List Line) → drop 1 ls ≡ drop 1 (before b ls)
before_rest b [] = refl
before_rest b (l ∷ ls) = refl

first_of : (bs : List ℕ) → take (line_length bs) bs ≡ get_or (lines_of bs) 0 []
unfolding line_length lines_of
first_of [] = refl
first_of (b ∷ bs) = go (eqb b 10) (first_of bs)
  where
    go : (t : Bool) → take (line_length bs) bs ≡ get_or (lines_of bs) 0 []
        → take (cond t 1 (suc (line_length bs))) (b ∷ bs) ≡ get_or (cond t ((b ∷ []) ∷ lines_of bs) (before b (lines_of bs))) 0 []
    go true e = refl
    go false e = ap (λ (l : Line). b ∷ l) e ∙ before_first b (lines_of bs)

rest_of : (bs : List ℕ) → lines_of (drop (line_length bs) bs) ≡ drop 1 (lines_of bs)
unfolding line_length lines_of
rest_of [] = refl
rest_of (b ∷ bs) = go (eqb b 10) (rest_of bs)
  where
    go : (t : Bool) → lines_of (drop (line_length bs) bs) ≡ drop 1 (lines_of bs)
        → lines_of (drop (cond t 1 (suc (line_length bs))) (b ∷ bs)) ≡ drop 1 (cond t ((b ∷ []) ∷ lines_of bs) (before b (lines_of bs)))
    go true e = refl
    go false e = e ∙ before_rest b (lines_of bs)

lines_some : (bs : List ℕ) → 0 < length bs → lines_of bs ≡ get_or (lines_of bs) 0 [] ∷ drop 1 (lines_of bs)
unfolding lines_of
lines_some [] h = let z : ⊥ = omega arith in absurd z
lines_some (b ∷ bs) h = go (eqb b 10) (lines_of bs)
  where
    go : (t : Bool) (ls : List Line)
        → cond t ((b ∷ []) ∷ ls) (before b ls) ≡ get_or (cond t ((b ∷ []) ∷ ls) (before b ls)) 0 [] ∷ drop 1 (cond t ((b ∷ []) ∷ ls) (before b ls))
    go true ls = refl
    go false [] = refl
    go false (l ∷ ls) = refl

-- it ends where the second starts
pub first_length : (bs : List ℕ) → length (get_or (lines_of bs) 0 []) ≡ line_length bs
unfolding lines_of line_length
first_length [] = refl
first_length (b ∷ bs) = go (eqb b 10) (lines_of bs) (first_length bs)
  where
    go : (t : Bool) (ls : List Line) → length (get_or ls 0 []) ≡ line_length bs
        → length (get_or (cond t ((b ∷ []) ∷ ls) (before b ls)) 0 []) ≡ cond t 1 (suc (line_length bs))
    go true ls e = refl
    go false [] e = ap suc e
    go false (l ∷ ls) e = ap suc e

-- the last byte of a line with one more before it
last_before : (b c : ℕ) (l : Line) → get_or (b ∷ c ∷ l) (length (b ∷ c ∷ l) - 1) 0 ≡ get_or (c ∷ l) (length (c ∷ l) - 1) 0
last_before b c l =
    let x : suc (suc (length l)) - 1 ≡ suc (length l) = omega arith in
    let y : suc (length l) - 1 ≡ length l = omega arith in
    rw (x, y) refl

-- a line that ends in its byte 10 is the first, whatever stands behind it
pub first_then : (bs rest : List ℕ) → get_or (get_or (lines_of bs) 0 []) (length (get_or (lines_of bs) 0 []) - 1) 0 ≡ 10 → lines_of (get_or (lines_of bs) 0 [] ++ rest) ≡ get_or (lines_of bs) 0 [] ∷ lines_of rest
unfolding lines_of
first_then [] rest h = let z : ⊥ = omega (arith, h) in absurd z
first_then (b ∷ bs) rest h = go (eqb b 10) refl (lines_of bs) (first_then bs rest) h
  where
    go : (t : Bool) → eqb b 10 ≡ t → (ls : List Line)
        → (get_or (get_or ls 0 []) (length (get_or ls 0 []) - 1) 0 ≡ 10 → lines_of (get_or ls 0 [] ++ rest) ≡ get_or ls 0 [] ∷ lines_of rest)
        → (let l : Line = get_or (cond t ((b ∷ []) ∷ ls) (before b ls)) 0 [] in get_or l (length l - 1) 0 ≡ 10 → lines_of (l ++ rest) ≡ l ∷ lines_of rest)
    go true e ls ih h = rw e
    go false e [] ih h = absurd (true≢false (sym (ap (λ (n : ℕ). eqb n 10) h) ∙ e))
    go false e ([] ∷ ls) ih h = absurd (true≢false (sym (ap (λ (n : ℕ). eqb n 10) h) ∙ e))
    go false e ((c ∷ l) ∷ ls) ih h = rw (e, ih (sym (last_before b c l) ∙ h)) refl

-- ---- an input split behind its first line

pub split_at_end : (input line rest : List ℕ) → line ≡ take (line_length input) input → rest ≡ drop (line_length input) input → SplitsLine input line rest
split_at_end input line rest e f =
    rw (e, f) (record { joined = sym (take-append-drop (line_length input) input); first = first_of input; others = rest_of input })

-- the first place of a byte 10 tells where that is
pub split_behind : (input line rest : List ℕ) (i : ℕ) → input ≡ line ++ rest → length line ≡ min (i + 1) (length input)
    → IsFirstMatchOrLen (λ b. eqb b 10) input i → SplitsLine input line rest
split_behind input line rest i j n f =
    rw j (split_at_end (line ++ rest) line rest (rw size (sym (take-append_seam line rest))) (rw size (sym (drop-append_seam line rest))))
  where
    short : i ≤ length input
    short =
        elim (dec_lt (length input) i) [
          | yes d ↦ let e : eqb (get_or input (length input) 10) 10 ≡ false = f.0 (length input) 10 (omega arith) d in
              absurd (true≢false (sym (ap (λ (n : ℕ). eqb n 10) (get_or_past input (length input) 10 (omega arith))) ∙ e))
          | no d ↦ omega arith
        ]

    place : position_or_len (λ b. eqb b 10) input ≡ i
    place = position_or_len_is (λ b. eqb b 10) input i 0 short (λ k h. f.0 k 0 (omega arith) h) (λ h. f.1 h 0)

    size : line_length (line ++ rest) ≡ length line
    size = rw (sym j) (omega (arith, line_length_is input, place, n))

-- where bytes are left, the lines are the first and the others, and the rest is shorter
module _ (input line rest : List ℕ) (s : SplitsLine input line rest) (h : 0 < length input) where
  pub split_lines : lines_of input ≡ line ∷ lines_of rest
  split_lines = rw (s.first, s.others) (lines_some input h)

  pub split_less : length rest < length input
  split_less = omega (arith, line_some input h, first_length input, ap length s.first, ap length s.joined, length-append line rest)

-- where no byte is left there is no line
pub lines_none : (bs : List ℕ) → length bs ≡ 0 → lines_of bs ≡ []
unfolding lines_of
lines_none [] e = refl
lines_none (b ∷ bs) e = let z : ⊥ = omega arith in absurd z

-- ---- every byte stands in a line

unfoldable pub total : List Line → ℕ
total [] = 0
total (l ∷ ls) = length l + total ls

pub total_lines : (bs : List ℕ) → total (lines_of bs) ≡ length bs
unfolding lines_of total
total_lines [] = refl
total_lines (b ∷ bs) = go (eqb b 10) (lines_of bs) (total_lines bs)
  where
    go : (t : Bool) (ls : List Line) → total ls ≡ length bs → total (cond t ((b ∷ []) ∷ ls) (before b ls)) ≡ suc (length bs)
    go true ls e = omega arith
    go false [] e = omega arith
    go false (l ∷ ls) e = omega arith
