-- What is printed for a good sheet, by its second line and its length.
use Prim.Native.Nat.{ℕ, ◌+◌, ◌≤◌, ◌<◌}
use mathlib.Core.Path.{◌≡◌, refl, sym, ap, ◌∙◌}
use mathlib.Core.Bool.{Bool, true, false}
use mathlib.Core.List.{List, [], ◌∷◌, ◌++◌}
use native.Mathlib.Omega.{arith}
use lib.ListN.{length}
use borrow.Author.Tests.{lt-ltb, le-ltb}
use Rattle.model.specs.Range.{cat}
use Rattle.text.specs.Text.{text, lines_of}
use Rattle.std.specs.Prelude.{None, Some}
use Rattle.text.specs.Read.{SplitsLine}
use Rattle.lines.specs.declared.Key.TheVariants.{Backups}
use Rattle.lines.specs.Line.{named, number_in}
use Rattle.parser.specs.Script.{most_bytes, line_at, verdict, has_backups}
use Rattle.parser.proofs.ReadLaws.{past_line, line_is}
use Rattle.printer.specs.Decimal.{decimal}
use Rattle.calls.specs.Printed.{script_text}
use Rattle.upgrade.specs.Upgrade.{LeavesOut, rewritten, good_text, upgrade_text}
use Rattle.upgrade.proofs.RewritingLaws.{spares_bytes, backups_text, rewritten_size}

-- the bytes that the code has are texts
abbrev pub sheet_bytes : List ℕ
sheet_bytes = 115 ∷ 104 ∷ 101 ∷ 101 ∷ 116 ∷ 61 ∷ []

abbrev pub bytes_bytes : List ℕ
bytes_bytes = 98 ∷ 121 ∷ 116 ∷ 101 ∷ 115 ∷ 61 ∷ []

bytes_text : (n : ℕ) → bytes_bytes ++ decimal n ++ 10 ∷ [] ≡ text "bytes=" ++ decimal n ++ text "\n"
unfolding text cat
bytes_text n = refl

module _ (input a r₁ b r₂ : List ℕ) (s₁ : SplitsLine input a r₁) (s₂ : SplitsLine r₁ b r₂) {p : Bool} (ep : p ≡ named Backups b) where
  second : b ≡ line_at (lines_of input) 1
  second = line_is (lines_of input) 1 (past_line (lines_of input) 0 refl s₁) s₂

  has : p ≡ has_backups (lines_of input)
  has = ep ∙ ap (named Backups) second

  -- it has the line
  pub says : (n : ℕ) → p ≡ true → n ≡ number_in Backups b → spares_bytes ++ decimal n ++ 10 ∷ [] ≡ good_text input
  unfolding good_text
  says n h e = rw (sym has ∙ h, sym (ap (number_in Backups) second), sym e) (backups_text n)

  module _ (h : p ≡ false) (good : verdict input ≡ None) where
    pub leaves_out : LeavesOut input
    leaves_out = record { good = good; without = sym has ∙ h }

    -- it would be too long
    pub too_long : most_bytes < length input + 9 → bytes_bytes ++ decimal (length input + 9) ++ 10 ∷ [] ≡ good_text input
    unfolding good_text
    too_long l = rw (leaves_out.without, rewritten_size input leaves_out, lt-ltb most_bytes (length input + 9) l) (bytes_text (length input + 9))

    -- it is rewritten
    pub short_enough : length input + 9 ≤ most_bytes → length (rewritten input) ≤ most_bytes
    short_enough l = omega (arith, rewritten_size input leaves_out)

    pub rewrites : length input + 9 ≤ most_bytes → rewritten input ≡ good_text input
    unfolding good_text
    rewrites l = rw (leaves_out.without, le-ltb most_bytes (length (rewritten input)) (short_enough l)) refl

-- ---- by the verdict

module _ (input : List ℕ) where
  pub answer_good : verdict input ≡ None → good_text input ≡ upgrade_text input
  unfolding upgrade_text
  answer_good e = rw e refl

  pub answer_bad : (n : ℕ) → verdict input ≡ Some n → sheet_bytes ++ decimal n ++ 10 ∷ [] ≡ upgrade_text input
  unfolding upgrade_text script_text text cat
  answer_bad n e = rw e refl
