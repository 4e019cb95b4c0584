-- OLD SHEETS PRINT WHAT THEY PRINTED: a rewritten sheet is read as the older rule read it, so that it prints the same.
use Prim.Native.Nat.{ℕ, ◌≤◌, ◌<◌}
use mathlib.Core.Path.{◌≡◌, refl, sym, ap, ap₂, ◌∙◌}
use mathlib.Core.Bool.{Bool, true, false, true≢false}
use mathlib.Core.List.{List, ◌∷◌}
use lib.ListN.{length, drop}
use lib.Seq.{drop-drop, get_or-drop}
use borrow.Author.Tests.{le-ltb}
use Rattle.model.specs.Range.{cat}
use Rattle.model.specs.declared.Layout.{Layout}
use Rattle.model.specs.Layout.{layout_of}
use Rattle.text.specs.Text.{text, Line, lines_of}
use Rattle.std.specs.Prelude.{Option, None, Some}
use Rattle.lines.specs.declared.Key.TheVariants.{Mains, Backups, Blocks}
use Rattle.lines.specs.Line.{named, number_in}
use Rattle.parser.specs.Script.{most_bytes, line_at, verdict, good, Group, groups_of, default_backups, blocks_line, sizes_of, judged, parse_by, parse, has_backups}
use Rattle.parser.proofs.VerdictLaws.{verdict_long, verdict_short}
use Rattle.printer.specs.Decimal.{decimal_in, decimal}
use Rattle.calls.specs.Printed.{script_text, printed_by}
use Rattle.upgrade.specs.Upgrade.{older_backups, LeavesOut, first_line, mains_of, backups_line, rewritten, good_text, upgrade_text}
use Rattle.upgrade.specs.OldSheets.{Rewritten, OldSheets}
use Rattle.upgrade.proofs.RewritingLaws.{line, rewritten_lines, rewritten_size, rewritten_mains, rewritten_good, rewritten_has}

-- ---- lines with and without the line of backup segments say the same

same_said : (rule : ℕ → ℕ) (a s : Line) (ls ls' : List Line) → ls' ≡ a ∷ s ∷ drop 1 ls → a ≡ line_at ls 0 → named Backups s ≡ true → number_in Backups s ≡ number_in Mains a
    → named Backups (line_at ls 1) ≡ false → judged rule None ls' ≡ judged older_backups None ls
unfolding sizes_of blocks_line older_backups
same_said rule a s ls ls' e f n g w =
    rw (e, n, g, w)
    (ap₂ (λ (l : Layout) (gs : List Group). good l gs)
    (ap₂ (λ (l b : Line). layout_of (number_in Mains l) (number_in Mains l) (number_in Blocks b)) f (get_or-drop 1 ls 0 _))
    (ap groups_of (drop-drop 1 1 ls)))

-- ---- a good sheet that leaves the line out

module _ (input : List ℕ) (h : LeavesOut input) where
  read_again : length (rewritten input) ≤ most_bytes → parse (rewritten input) ≡ parse_by older_backups input
  unfolding parse_by
  read_again short =
      rw (sym (sym (rewritten_good input h) ∙ verdict_short (rewritten input) short), h.good)
      (same_said default_backups (first_line input) (backups_line (mains_of input)) (lines_of input) (lines_of (rewritten input)) (rewritten_lines input h) refl
      (line input h).names (line input h).gives h.without)

  prints_zero : most_bytes < length (rewritten input) → printed_by default_backups (rewritten input) ≡ text "sheet=0\n"
  unfolding parse_by script_text text cat decimal decimal_in
  prints_zero long = rw (sym (verdict_long (rewritten input) long)) refl

  one_each : mains_of input ≡ 1 → parse input ≡ parse_by older_backups input
  unfolding parse_by sizes_of default_backups older_backups
  one_each e = rw (h.good, h.without, e) refl

  gives_it : length (rewritten input) ≤ most_bytes → upgrade_text input ≡ rewritten input
  unfolding upgrade_text good_text
  gives_it short = rw (h.good, h.without, le-ltb most_bytes (length (rewritten input)) short) refl

  old : Rewritten input
  old = record {
    lines = rewritten_lines input h;
    size = rewritten_size input h;
    key = rewritten_mains input h;
    given = gives_it;
    same = λ short. ap script_text (read_again short);
    long = prints_zero;
    one = λ e. ap script_text (one_each e);
  }

-- ---- any other sheet

others : (input : List ℕ) → (LeavesOut input → ⊥) → (rule rule' : ℕ → ℕ) → parse_by rule input ≡ parse_by rule' input
unfolding parse_by sizes_of
others input h rule rule' = go (verdict input) refl (has_backups (lines_of input)) refl
  where
    go : (v : Option ℕ) → verdict input ≡ v → (b : Bool) → has_backups (lines_of input) ≡ b → judged rule v (lines_of input) ≡ judged rule' v (lines_of input)
    go (Some n) e b f = refl
    go None e true f = rw f refl
    go None e false f = absurd (h (record { good = e; without = f }))

pub old_sheets : OldSheets
old_sheets = record {
  old = old;
  others = λ input h rule rule'. ap script_text (others input h rule rule');
  settled = λ input h again. true≢false (sym (rewritten_has input h) ∙ again.without);
}
