-- Laws of good lines: the tests that make one, and what one has.
use Prim.Native.Nat.{ℕ, ◌-◌, ◌≤◌, ◌<◌}
use mathlib.Core.Path.{◌≡◌, sym, ap, ◌∙◌}
use mathlib.Core.Bool.{true, ◌&&◌, true≢false}
use mathlib.Core.List.{List, [], ◌∷◌}
use native.Mathlib.Omega.{arith}
use native.Mathlib.Decide.{dec_lt}
use lib.Dec.{leb, eqb}
use lib.ListN.{length, get_or, drop, length-drop, length-take}
use borrow.Author.Tests.{leb-true, eqb-true}
use Rattle.model.specs.Range.{cat}
use Rattle.model.proofs.Laws.Range.{and_left, and_right}
use Rattle.std.specs.Prelude.{Option, None, Some}
use Rattle.text.specs.Text.{text, starts_with, Line, number_of}
use Rattle.text.proofs.NameLaws.{starts_long, starts_at}
use Rattle.lines.specs.declared.Key.{Key}
use Rattle.lines.specs.declared.Key.TheVariants.{Mains}
use Rattle.lines.specs.Line.{most_size, within, is_size, name, takes, named, value_of, good_line, or_zero}

-- ---- what a good line has

module _ (k : Key) (l : Line) (g : good_line k l ≡ true) where
  pub good_named : starts_with (name k) l ≡ true
  unfolding good_line named
  good_named = and_left (named k l) (eqb (get_or l (length l - 1) 0) 10) (and_left (named k l && eqb (get_or l (length l - 1) 0) 10) (takes k (value_of k l)) g)

  pub good_ended : get_or l (length l - 1) 0 ≡ 10
  unfolding good_line
  good_ended =
      eqb-true (get_or l (length l - 1) 0) 10
      (and_right (named k l) (eqb (get_or l (length l - 1) 0) 10) (and_left (named k l && eqb (get_or l (length l - 1) 0) 10) (takes k (value_of k l)) g))

  pub good_value : takes k (value_of k l) ≡ true
  unfolding good_line
  good_value = and_right (named k l && eqb (get_or l (length l - 1) 0) 10) (takes k (value_of k l)) g

  -- a key ends in its sign, so the byte 10 stands behind it
  pub good_long : 0 < length (name k) → get_or (name k) (length (name k) - 1) 0 ≡ 61 → length (name k) < length l
  good_long h s =
      elim (dec_lt (length (name k)) (length l)) [
        | yes d ↦ d
        | no d ↦ (
            let e : length l ≡ length (name k) = omega (arith, starts_long (name k) l good_named) in
            let q : get_or (name k) (length (name k) - 1) 0 ≡ get_or l (length (name k) - 1) 0 =
            starts_at (name k) l (length (name k) - 1) good_named (omega arith) in
            let z : get_or l (length (name k) - 1) 0 ≡ 10 = ap (λ (n : ℕ). get_or l (n - 1) 0) (sym e) ∙ good_ended in
            absurd (omega arith))
      ]

-- a size is from 1 to 4
pub size_bounds : (n : Option ℕ) → within 1 most_size n ≡ true → (1 ≤ or_zero n) × (or_zero n ≤ most_size)
size_bounds None h = absurd (true≢false (sym h))
size_bounds (Some n) h = (leb-true 1 n (and_left (leb 1 n) (leb n 4) h), leb-true n 4 (and_right (leb 1 n) (leb n 4) h))

-- a size has at most three digits, so that the line of one is short
size_short : (v : List ℕ) → is_size v ≡ true → length v ≤ 3
unfolding number_of
size_short [] h = omega arith
size_short (a ∷ []) h = omega arith
size_short (a ∷ b ∷ []) h = omega arith
size_short (a ∷ b ∷ c ∷ []) h = omega arith
size_short (a ∷ b ∷ c ∷ d ∷ v) h = absurd (true≢false (sym h))

pub short_line : (l : Line) → good_line Mains l ≡ true → length l ≤ 10
unfolding name takes text cat value_of
short_line l g = omega (arith, size_short (value_of Mains l) (good_value Mains l g), length-take (length l - 1 - 6) (drop 6 l), length-drop 6 l)
