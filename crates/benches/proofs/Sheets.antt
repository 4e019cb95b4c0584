-- The sheets, computed: what they print, and the pairs, are made another way, with the image of each board computed once before the
-- next call reads it.
use Prim.Native.Nat.{ℕ, suc, ◌≤◌}
use mathlib.Core.Path.{◌≡◌, refl, sym, ap, ◌∙◌}
use mathlib.Core.Bool.{Bool, true, ◌&&◌}
use mathlib.Core.List.{List, [], ◌∷◌, ◌++◌}
use native.Mathlib.Omega.{arith}
use lib.ListN.{length}
use Rattle.model.specs.Range.{cat}
use Rattle.model.specs.Layout.{unpaired}
use Rattle.model.specs.Container.{committed_epoch}
use Rattle.text.specs.Text.{text, starts_with, lines_of, number_of, hex_pairs, hex_bytes}
use Rattle.lines.specs.Line.{name, takes, named, value_of, good_line}
use Rattle.parser.specs.Script.{most_bytes, Script, bad, good, Group, first_bad, verdict, group_of, first_groups, groups_of, default_backups, blocks_line, sizes_of, parse_by, parse}
use Rattle.printer.specs.Decimal.{decimal_in, decimal}
use Rattle.calls.specs.Printed.{blank, Board, answer_on, board_step, answer_text, write_of, checkpointed, checkpoint_text, after_group, group_text, groups_text, opened_board, open_text, script_text, printed_by, printed}
use Rattle.model.proofs.Laws.Range.{and_left, and_right}
use Rattle.cases.proofs.Compute.{model_rules, same, same_equal, known, known_same}
use Rattle.upgrade.specs.Upgrade.{older_backups, LeavesOut, backups_line, rewritten}
use Rattle.upgrade.proofs.OldSheets.{old_sheets}
use Rattle.benches.specs.Sheets.{example, example_printed, two_benches, two_benches_printed, pairs_of, groups_pairs, sheet_pairs, two_benches_pairs, older, older_rewritten, older_printed, older_printed_now, OlderSheet, Sheets}

-- ---- the image of a board, computed before it is handed on

abbrev with_image : Board → List ℕ → Board
with_image b I =
    let d = b.device in
    record { device = record { layout = d.layout; durable = d.durable; played = d.played; adr_played = d.adr_played; image = I; session = d.session }; clients = b.clients }

abbrev known_board : {A : Type 0} → Board → (Board → A) → A
known_board b k = known b.device.image (λ I. k (with_image b I))

-- the line of a group that takes the board b to e by its write and to f by its checkpoint
abbrev line_of : Board → Board → Board → ℕ → Group → List ℕ
line_of b e f n g =
    text "step=" ++ decimal n
    ++ text " " ++ answer_text "write=" (answer_on b (write_of g))
    ++ text " " ++ checkpoint_text e g.checkpoint
    ++ text " epoch=" ++ decimal (committed_epoch f.device.image)
    ++ text "\n"

-- the lines and the pairs of some groups, handed on together
ran_known : {A : Type 0} → Board → ℕ → List Group → (List ℕ → List ℕ → A) → A
ran_known b n [] k = k [] []
ran_known b n (g ∷ gs) k =
    known_board (board_step b (write_of g)) (λ e. known_board (checkpointed e g.checkpoint) (λ f.
    ran_known f (suc n) gs (λ t ps. k (line_of b e f n g ++ t) (pairs_of f ++ ps))))

ran_same : {A : Type 0} (b : Board) (n : ℕ) (gs : List Group) (k : List ℕ → List ℕ → A) → ran_known b n gs k ≡ k (groups_text b n gs) (groups_pairs b gs)
unfolding ran_known groups_text group_text after_group groups_pairs
ran_same b n [] k = refl
ran_same b n (g ∷ gs) k =
    let e = board_step b (write_of g) in
    let f = checkpointed e g.checkpoint in
    known_same e.device.image (λ I. known_board (checkpointed (with_image e I) g.checkpoint) (λ f. ran_known f (suc n) gs (λ t ps. k (line_of b (with_image e I) f n g ++ t) (pairs_of f ++ ps))))
    ∙ known_same f.device.image (λ I. ran_known (with_image f I) (suc n) gs (λ t ps. k (line_of b e (with_image f I) n g ++ t) (pairs_of (with_image f I) ++ ps)))
    ∙ ran_same f (suc n) gs (λ t ps. k (line_of b e f n g ++ t) (pairs_of f ++ ps))

-- and of a sheet
sheet_known : {A : Type 0} → Script → (List ℕ → List ℕ → A) → A
sheet_known (bad n) k = k (script_text (bad n)) []
sheet_known (good l gs) k = known_board (opened_board l) (λ b. ran_known b 1 gs (λ t ps. k (open_text l ++ t) ps))

sheet_same : {A : Type 0} (s : Script) (k : List ℕ → List ℕ → A) → sheet_known s k ≡ k (script_text s) (sheet_pairs s)
unfolding sheet_known script_text sheet_pairs
sheet_same (bad n) k = refl
sheet_same (good l gs) k =
    let b = opened_board l in
    known_same b.device.image (λ I. ran_known (with_image b I) 1 gs (λ t ps. k (open_text l ++ t) ps)) ∙ ran_same b 1 gs (λ t ps. k (open_text l ++ t) ps)

-- ---- the sheets

-- a test of both
agrees : List ℕ → List ℕ → List ℕ → List ℕ → Bool
agrees expected pairs t ps = same t expected && same ps pairs

-- every definition of the sheet
unfoldable sheet_rules : Unit {0}
unfolding model_rules cat text starts_with lines_of number_of hex_pairs hex_bytes name takes named value_of good_line first_bad verdict group_of first_groups groups_of default_backups blocks_line sizes_of parse_by decimal_in decimal blank board_step answer_text checkpointed checkpoint_text opened_board open_text known ran_known sheet_known same agrees
sheet_rules = tt

-- what the test means
given : (s : Script) (expected pairs : List ℕ) → sheet_known s (agrees expected pairs) ≡ true → (script_text s ≡ expected) × (sheet_pairs s ≡ pairs)
unfolding agrees
given s expected pairs test =
    let both : (same (script_text s) expected && same (sheet_pairs s) pairs) ≡ true = sym (sheet_same s (agrees expected pairs)) ∙ test in
    (same_equal _ _ (and_left _ _ both), same_equal _ _ (and_right (same (script_text s) expected) _ both))

example_given : (printed (text example) ≡ text example_printed) × (sheet_pairs (parse (text example)) ≡ unpaired ∷ [])
unfolding sheet_rules
example_given = given (parse (text example)) (text example_printed) (unpaired ∷ []) refl

two_benches_given : (printed (text two_benches) ≡ text two_benches_printed) × (sheet_pairs (parse (text two_benches)) ≡ two_benches_pairs)
unfolding sheet_rules
two_benches_given = given (parse (text two_benches)) (text two_benches_printed) two_benches_pairs refl

-- the sheet of the older rule: under both rules, rewritten, and by `OldSheets` what it then prints
older_then : printed_by older_backups (text older) ≡ text older_printed
unfolding sheet_rules older_backups
older_then = (given (parse_by older_backups (text older)) (text older_printed) (unpaired ∷ unpaired ∷ unpaired ∷ unpaired ∷ 0 ∷ unpaired ∷ 0 ∷ 1 ∷ []) refl).0

older_now : printed (text older) ≡ text older_printed_now
unfolding sheet_rules
older_now = (given (parse (text older)) (text older_printed_now) (unpaired ∷ unpaired ∷ 0 ∷ 0 ∷ []) refl).0

older_leaves_out : LeavesOut (text older)
unfolding sheet_rules
older_leaves_out = record { good = refl; without = refl }

older_rewritten_lem : rewritten (text older) ≡ text older_rewritten
unfolding sheet_rules rewritten backups_line
older_rewritten_lem = refl

older_size : length (text older) ≡ 221
unfolding text cat
older_size = refl

older_sheet : OlderSheet
older_sheet =
    let r = old_sheets.old (text older) older_leaves_out in
    let short : length (rewritten (text older)) ≤ most_bytes = omega (arith, r.size, older_size) in
    record {
      then = older_then;
      now = older_now;
      given = r.given short ∙ older_rewritten_lem;
      again = ap printed (sym older_rewritten_lem) ∙ r.same short ∙ older_then;
    }

pub sheets : Sheets
sheets = record { on_example = example_given.0; pairs_on_example = example_given.1; on_two_benches = two_benches_given.0; pairs_on_two_benches = two_benches_given.1; on_older = older_sheet }
