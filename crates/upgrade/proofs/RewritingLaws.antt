-- Laws of the rewriting: the lines of a rewritten sheet, its length, and that none of its lines is bad.
use Prim.Native.Nat.{ℕ, zero, suc, ◌+◌, ◌≤◌}
use mathlib.Core.Path.{◌≡◌, refl, sym, ap, ◌∙◌}
use mathlib.Core.Bool.{true, false, true≢false}
use mathlib.Core.List.{List, [], ◌∷◌, ◌++◌, append_assoc}
use native.Mathlib.Omega.{arith}
use lib.ListN.{length, drop, length-append, length-drop}
use lib.Seq.{get_or-drop}
use Rattle.std.proofs.Math.Seq.{drop-append_seam}
use Rattle.std.specs.Prelude.{None}
use Rattle.model.specs.Range.{cat}
use Rattle.text.specs.Text.{text, starts_with, Line, lines_of, number_of}
use Rattle.text.specs.Read.{SplitsLine}
use Rattle.text.proofs.NameLaws.{starts_append}
use Rattle.text.proofs.LineLaws.{first_then, split_at_end}
use Rattle.lines.specs.declared.Key.{Key}
use Rattle.lines.specs.declared.Key.TheVariants.{Mains, Backups, Blocks, Main}
use Rattle.lines.specs.Line.{name, takes, named, value_of, good_line, number_in}
use Rattle.lines.proofs.LineLaws.{good_named, good_ended, good_value, size_bounds, short_line}
use Rattle.parser.specs.Script.{line_at, key_for, following, first_bad, has_backups}
use Rattle.parser.proofs.BadLaws.{step, end_at}
use Rattle.parser.proofs.VerdictLaws.{good_sheet}
use Rattle.printer.specs.Decimal.{decimal_in, decimal}
use Rattle.upgrade.specs.Upgrade.{LeavesOut, first_line, mains_of, backups_line, rewritten}

-- ---- the first line of an input

-- what stands behind it
pub rest_is : (bs line rest : List ℕ) → SplitsLine bs line rest → rest ≡ drop (length (first_line bs)) bs
rest_is bs line rest s =
    sym (drop-append_seam line rest) ∙ ap (drop (length line)) (sym s.joined) ∙ ap (λ (l : List ℕ). drop (length l) bs) s.first

first_rest : (bs : List ℕ) → lines_of (drop (length (first_line bs)) bs) ≡ drop 1 (lines_of bs)
first_rest bs = let s = split_at_end bs _ _ refl refl in ap lines_of (sym (rest_is bs _ _ s)) ∙ s.others

first_inside : (bs : List ℕ) → length (first_line bs) ≤ length bs
first_inside bs = let s = split_at_end bs _ _ refl refl in omega (arith, ap length s.joined, ap length s.first, length-append {A = ℕ})

-- ---- the line of backup segments

-- the bytes that the code has are its text
abbrev pub spares_bytes : List ℕ
spares_bytes = 115 ∷ 112 ∷ 97 ∷ 114 ∷ 101 ∷ 115 ∷ 61 ∷ []

pub backups_text : (n : ℕ) → spares_bytes ++ decimal n ++ 10 ∷ [] ≡ backups_line n
unfolding backups_line text cat
backups_text n = refl

-- it is a good line of its number, and the first whatever stands behind it
pub record GoodBackups (n : ℕ) : Type 0 where
  pub long : length (backups_line n) ≡ 9
  pub names : named Backups (backups_line n) ≡ true
  pub good : good_line Backups (backups_line n) ≡ true
  pub gives : number_in Backups (backups_line n) ≡ n
  pub first : (rest : List ℕ) → lines_of (backups_line n ++ rest) ≡ backups_line n ∷ lines_of rest

good_backups : (n : ℕ) → (1 ≤ n) × (n ≤ 4) → GoodBackups n
unfolding cat text decimal_in decimal backups_line lines_of starts_with number_of name takes named value_of good_line
good_backups zero h = let z : ⊥ = omega (arith, h.0) in absurd z
good_backups (suc zero) h = record { long = refl; names = refl; good = refl; gives = refl; first = λ rest. refl }
good_backups (suc (suc zero)) h = record { long = refl; names = refl; good = refl; gives = refl; first = λ rest. refl }
good_backups (suc (suc (suc zero))) h = record { long = refl; names = refl; good = refl; gives = refl; first = λ rest. refl }
good_backups (suc (suc (suc (suc zero)))) h = record { long = refl; names = refl; good = refl; gives = refl; first = λ rest. refl }
good_backups (suc (suc (suc (suc (suc n))))) h = let z : ⊥ = omega (arith, h.1) in absurd z

-- ---- lines without a bad one

-- their number before does not matter
good_from : (k : Key) (n m : ℕ) (ls : List Line) → first_bad k n ls ≡ None → first_bad k m ls ≡ None
unfolding first_bad
good_from k n m [] h = rw (end_at k n h) refl
good_from k n m (l ∷ ls) h =
    let s = step k n l ls h in
    rw s.0 (good_from (following (key_for k l)) (suc n) (suc m) ls s.1)

-- the first of a good sheet gives a size
good_first : (ls : List Line) → first_bad Mains 0 ls ≡ None → good_line Mains (line_at ls 0) ≡ true
good_first [] h = absurd (true≢false (sym (end_at Mains 0 h)))
good_first (a ∷ ls) h = (step Mains 0 a ls h).0

-- the line of backup segments put in where it is left out
backups_put_in : (a s : Line) (ls : List Line) → good_line Backups s ≡ true → named Backups s ≡ true → named Backups (line_at ls 0) ≡ false
    → first_bad Mains 0 (a ∷ ls) ≡ None → first_bad Mains 0 (a ∷ s ∷ ls) ≡ None
unfolding first_bad
backups_put_in a s [] gs ns w h = absurd (true≢false (sym (end_at Backups 1 (step Mains 0 a [] h).1)))
backups_put_in a s (b ∷ ls) gs ns w h =
    let x = step Mains 0 a (b ∷ ls) h in
    let y = step Backups 1 b ls x.1 in
    let g : good_line Blocks b ≡ true = rw w at y.0 in
    rw (x.0, ns, gs, g) (good_from Main 2 3 ls (rw w at y.1))

-- and there is one
first_and_rest : (ls : List Line) → first_bad Mains 0 ls ≡ None → ls ≡ line_at ls 0 ∷ drop 1 ls
first_and_rest [] h = absurd (true≢false (sym (end_at Mains 0 h)))
first_and_rest (a ∷ ls) h = refl

-- ---- the rewritten sheet in its parts, as the code puts them

module _ (input line rest : List ℕ) (s : SplitsLine input line rest) (n : ℕ) (x : n ≡ number_in Mains line) where
  mains_is : n ≡ mains_of input
  mains_is = x ∙ ap (number_in Mains) s.first

  pub line_put : GoodBackups (mains_of input) → length (spares_bytes ++ decimal n ++ 10 ∷ []) ≡ 9
  line_put g = ap length (backups_text n ∙ ap backups_line mains_is) ∙ g.long

  pub parts_put : line ++ (spares_bytes ++ decimal n ++ 10 ∷ []) ++ rest ≡ rewritten input
  unfolding rewritten
  parts_put = rw (backups_text n, mains_is, rest_is input line rest s, s.first) refl

-- ---- a good sheet that leaves the line out

module _ (input : List ℕ) (h : LeavesOut input) where
  abbrev ls : List Line
  ls = lines_of input

  none_bad : first_bad Mains 0 ls ≡ None
  none_bad = (good_sheet input h.good).1

  first_good : good_line Mains (first_line input) ≡ true
  first_good = good_first ls none_bad

  mains_size : (1 ≤ mains_of input) × (mains_of input ≤ 4)
  unfolding takes
  mains_size = size_bounds (number_of (value_of Mains (first_line input))) (good_value Mains (first_line input) first_good)

  pub line : GoodBackups (mains_of input)
  line = good_backups (mains_of input) mains_size

  pub first_short : length (first_line input) ≤ 10
  first_short = short_line (first_line input) first_good

  pub rewritten_lines : lines_of (rewritten input) ≡ first_line input ∷ backups_line (mains_of input) ∷ drop 1 ls
  unfolding rewritten
  rewritten_lines =
      ap lines_of (append_assoc (first_line input) (backups_line (mains_of input)) (drop (length (first_line input)) input))
      ∙ first_then input (backups_line (mains_of input) ++ drop (length (first_line input)) input) (good_ended Mains (first_line input) first_good)
      ∙ ap (λ (t : List Line). first_line input ∷ t) (line.first (drop (length (first_line input)) input))
      ∙ ap (λ (t : List Line). first_line input ∷ backups_line (mains_of input) ∷ t) (first_rest input)

  pub rewritten_size : length (rewritten input) ≡ length input + 9
  unfolding rewritten
  rewritten_size =
      let f = first_line input in
      let s = backups_line (mains_of input) in
      omega (arith, line.long, first_inside input, length-append (f ++ s) (drop (length f) input), length-append f s, length-drop (length f) input)

  pub rewritten_mains : starts_with (text "mains=") (rewritten input) ≡ true
  unfolding rewritten name
  rewritten_mains =
      let f = first_line input in
      let s = backups_line (mains_of input) in
      starts_append (text "mains=") (f ++ s) (drop (length f) input) (starts_append (text "mains=") f s (good_named Mains f first_good))

  pub rewritten_good : first_bad Mains 0 (lines_of (rewritten input)) ≡ None
  rewritten_good =
      rw rewritten_lines (backups_put_in (first_line input) (backups_line (mains_of input)) (drop 1 ls) line.good line.names second none)
    where
      second : named Backups (line_at (drop 1 ls) 0) ≡ false
      second = ap (named Backups) (get_or-drop 1 ls 0 []) ∙ h.without

      none : first_bad Mains 0 (first_line input ∷ drop 1 ls) ≡ None
      none = ap (first_bad Mains 0) (sym (first_and_rest ls none_bad)) ∙ none_bad

  pub rewritten_has : has_backups (lines_of (rewritten input)) ≡ true
  rewritten_has = rw rewritten_lines line.names
