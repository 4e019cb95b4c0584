-- What a sheet without a bad line gives behind its sizes: group after group, until the lines end.
use Prim.Native.Nat.{ℕ, suc, ◌+◌, ◌/◌, ◌≤◌, ◌<◌}
use mathlib.Core.Path.{◌≡◌, refl, sym, ap, ◌∙◌}
use mathlib.Core.Logic.{◌⊎◌, inl, inr, ⊎_elim}
use mathlib.Core.Bool.{true, true≢false}
use Rattle.std.specs.Prelude.{None}
use mathlib.Core.List.{List, [], ◌∷◌}
use native.Mathlib.Omega.{arith}
use lib.Dec.{leb}
use lib.ListN.{length, drop}
use borrow.Author.Tests.{leb-true}
use Rattle.model.specs.Range.{cat}
use Rattle.model.proofs.Laws.Range.{and_left, and_right}
use Rattle.text.specs.Text.{text, Line, lines_of, hex_pairs}
use Rattle.text.proofs.LineLaws.{total, total_lines, lines_none}
use Rattle.lines.specs.declared.Key.TheVariants.{Main, Block, Offset, Bytes, Checkpoint}
use Rattle.lines.specs.Line.{most_digits, is_bytes, name, takes, value_of, good_line}
use Rattle.lines.proofs.LineLaws.{good_value, good_long}
use Rattle.parser.specs.Script.{group_lines, first_bad, line_at, group_of, first_groups, groups_of}
use Rattle.parser.specs.declared.GroupAt.{GroupAt}
use Rattle.parser.specs.Read.{ReadsGroup}
use Rattle.parser.proofs.BadLaws.{step, end_at}

-- ---- a group

-- what the first five lines are where a group may start and no line is bad
pub record GoodGroup (n : ℕ) (ls : List Line) : Type 0 where
  pub groups : groups_of ls ≡ group_of ls ∷ groups_of (drop group_lines ls)
  pub rest : first_bad Main (5 + n) (drop group_lines ls) ≡ None
  pub short : length (value_of Bytes (line_at ls 3)) ≤ most_digits
  pub pairs : hex_pairs (value_of Bytes (line_at ls 3)) ≡ true
  -- five keys, and a byte 10 behind each
  pub size : 31 + total (drop group_lines ls) ≤ total ls

pub groups_none : groups_of [] ≡ []
unfolding groups_of first_groups
groups_none = refl

five : (n : ℕ) (a b c d e : Line) (ls : List Line) → good_line Main a ≡ true → good_line Block b ≡ true → good_line Offset c ≡ true → good_line Bytes d ≡ true
    → good_line Checkpoint e ≡ true → first_bad Main (suc (suc (suc (suc (suc n))))) ls ≡ None → GoodGroup n (a ∷ b ∷ c ∷ d ∷ e ∷ ls)
unfolding name takes text cat groups_of first_groups total
five n a b c d e ls ga gb gc gd ge h =
    let q : suc (suc (suc (suc (suc (length ls))))) / 5 ≡ suc (length ls / 5) = omega arith in
    let m : 5 + n ≡ suc (suc (suc (suc (suc n)))) = omega arith in
    let x : 6 < length a = good_long Main a ga (omega arith) refl in
    let y : 6 < length b = good_long Block b gb (omega arith) refl in
    let z : 3 < length c = good_long Offset c gc (omega arith) refl in
    let u : 6 < length d = good_long Bytes d gd (omega arith) refl in
    let v : 5 < length e = good_long Checkpoint e ge (omega arith) refl in
    let w : is_bytes (value_of Bytes d) ≡ true = good_value Bytes d gd in
    record {
      groups = rw q;
      rest = rw m h;
      short = leb-true (length (value_of Bytes d)) most_digits (and_left (leb (length (value_of Bytes d)) most_digits) (hex_pairs (value_of Bytes d)) w);
      pairs = and_right (leb (length (value_of Bytes d)) most_digits) (hex_pairs (value_of Bytes d)) w;
      size = omega arith;
    }

-- where a group may start and no line is bad, the lines end or there is a group
pub good_group : (n : ℕ) (ls : List Line) → first_bad Main n ls ≡ None → (ls ≡ []) ⊎ GoodGroup n ls
good_group n [] h = inl refl
good_group n (a ∷ []) h = absurd (true≢false (sym (end_at Block (suc n) (step Main n a [] h).1)))
good_group n (a ∷ b ∷ []) h = absurd (true≢false (sym (end_at Offset _ (step Block _ b [] (step Main n a _ h).1).1)))
good_group n (a ∷ b ∷ c ∷ []) h = absurd (true≢false (sym (end_at Bytes _ (step Offset _ c [] (step Block _ b _ (step Main n a _ h).1).1).1)))
good_group n (a ∷ b ∷ c ∷ d ∷ []) h =
    absurd (true≢false (sym (end_at Checkpoint _ (step Bytes _ d [] (step Offset _ c _ (step Block _ b _ (step Main n a _ h).1).1).1).1)))
good_group n (a ∷ b ∷ c ∷ d ∷ e ∷ ls) h =
    let x = step Main n a _ h in
    let y = step Block (suc n) b _ x.1 in
    let z = step Offset (suc (suc n)) c _ y.1 in
    let u = step Bytes (suc (suc (suc n))) d _ z.1 in
    let v = step Checkpoint (suc (suc (suc (suc n)))) e _ u.1 in
    inr (five n a b c d e ls x.0 y.0 z.0 u.0 v.0 v.1)

-- ---- the first group of an input

module _ (input : List ℕ) (n : ℕ) (h : first_bad Main n (lines_of input) ≡ None) (l : 0 < length input) where
  pub group_here : GoodGroup n (lines_of input)
  unfolding total
  group_here = ⊎_elim (λ e. absurd (omega (arith, sym (ap total e) ∙ total_lines input))) (λ g. g) (good_group n (lines_of input) h)

  -- the rest is shorter, and no line of it is bad
  module _ (r : GroupAt) (g : ReadsGroup input r) where
    pub group_next : length r.rest.now + 31 ≤ length input
    group_next =
        let q : total (lines_of r.rest.now) ≡ total (drop group_lines (lines_of input)) = ap total g.rest in
        omega (arith, group_here.size, q, total_lines input, total_lines r.rest.now)

    pub group_rest : first_bad Main (5 + n) (lines_of r.rest.now) ≡ None
    group_rest = rw g.rest group_here.rest

-- where the input ends there is no group
pub groups_end : (input : List ℕ) → length input ≡ 0 → groups_of (lines_of input) ≡ []
groups_end input e = ap groups_of (lines_none input e) ∙ groups_none
