-- Fault 6: the lines of the dropped word's block are never written back, and the first may stand as the word left it.
use Prim.Native.Nat.{ℕ, zero, suc, ◌+◌, ◌-◌, ◌*◌, ◌≤◌, ◌<◌}
use mathlib.Core.Path.{◌≡◌, refl, sym, ap, subst, ◌∙◌}
use mathlib.Core.Logic.{◌⊎◌, inl, inr}
use mathlib.Core.Bool.{true, false}
use mathlib.Core.List.{List, [], ◌∷◌, ◌++◌}
use native.Mathlib.Omega.{arith}
use native.Mathlib.Decide.{dec_lt}
use lib.ListN.{length, get_or, replicate}
use Rattle.model.specs.Words.{Image}
use Rattle.model.specs.Layout.{unpaired}
use Rattle.model.specs.Session.{adr}
use Rattle.model.specs.Ops.{Ops, store, clwb, sfence, replay, put_block}
use Rattle.model.specs.Format.{container, formatted}
use Rattle.model.specs.Open.{open_status}
use Rattle.model.specs.Crash.{KeepsDurable, CrashImage}
use Rattle.model.specs.CrashExact.{has_fence, floor_from}
use Rattle.model.specs.Reference.{Page}
use Rattle.model.specs.History.{device_step, step}
use Rattle.model.specs.CrashSafety.{Recovers}
use Rattle.model.specs.Shares.{alone}
use Rattle.cases.specs.Turns.{Point, point_of, begin, Turn, answer_at, turn, turns, Supposed}
use Rattle.cases.specs.Table.{checkpoint, a_word}
use Rattle.faults.specs.Faults.{lent_long, l111, word_dropped, clears_marks, DiscardClearsMarks, DiscardKeepsMarks, clears_touch, DiscardClearsTouch}
use Rattle.model.proofs.Laws.Words.{byte_of_zero}
use Rattle.model.proofs.Laws.Crash.Floor.{floor_durable}
use Rattle.model.proofs.Laws.Crash.Images.{crash_after}
use Rattle.model.proofs.Argument.Settled.{Off}
use Rattle.model.proofs.Argument.Runs.{puts_block, puts_off}
use Rattle.cases.proofs.Compute.{model_rules, same, same_equal, small, small_bytes, fit_args, fit_turns, all_supposed}
use Rattle.cases.proofs.Shown.{shows, shows_between}
use Rattle.cases.proofs.Starts.{standing, started_by, turns_hold}
use Rattle.faults.proofs.Alone.{elsewhere, avoids, avoids_off, arrives_alone}

abbrev F : Image
F = formatted l111

abbrev zeros : Page
zeros = replicate 256 0

-- the page with the word, which no checkpoint has
abbrev word : Page
word = a_word ++ replicate 248 0

opens : open_status l111 adr F (lent_long l111) ≡ 0
unfolding model_rules
opens = refl

abbrev opened : Point
opened = point_of (standing l111 adr F zeros) (alone l111 0)

starts : begin l111 adr F (lent_long l111) ≡ opened
unfolding model_rules same
starts = started_by l111 adr F F (lent_long l111) zeros opens refl refl

permitted : (p : Point) → Supposed adr p word_dropped
unfolding small fit_args fit_turns
permitted p = all_supposed adr p word_dropped refl

-- ---- with the fault

-- after the checkpoint
abbrev saved : Point
saved = turn (clears_marks (turns opened word_dropped)) checkpoint

-- the word; the block stored again; and what comes after that
abbrev edit : Ops
edit = store 512 0x0807060504030201 ∷ []

abbrev restored : Ops
restored = put_block false 512 (λ k. 0)

abbrev later : Ops
later =
    sfence ∷ store 192 1 ∷ store 200 0 ∷ store 208 0 ∷ store 216 0 ∷ store 224 0 ∷ store 232 0 ∷ store 240 0 ∷ store 248 0 ∷ clwb 192 ∷ sfence
    ∷ store 0 1 ∷ clwb 0 ∷ sfence ∷ []

plays : saved.state.device.played ≡ edit ++ restored ++ later
unfolding model_rules turn turns clears_marks
plays = refl

count : length (answer_at (clears_marks (turns opened word_dropped)) checkpoint).ops ≡ 14
unfolding model_rules turn turns clears_marks
count = refl

abbrev left : Image
left = container l111 1 (replicate 64 0) (1 ∷ replicate 63 0) (replicate 64 unpaired) (word ++ replicate 256 0)

leaves : replay later (replay edit F) ≡ left
unfolding model_rules same
leaves = same_equal _ _ refl

-- a line of the block is stored to by nothing later, and need not have arrived
line_lost : (n : ℕ) → n < 4 → Off (8 + n) later × KeepsDurable (8 + n) (restored ++ later) 0
unfolding model_rules floor_from has_fence avoids elsewhere
line_lost zero h = (avoids_off 8 later refl, floor_durable 8 (restored ++ later) 0 (omega arith))
line_lost (suc zero) h = (avoids_off 9 later refl, floor_durable 9 (restored ++ later) 0 (omega arith))
line_lost (suc (suc zero)) h = (avoids_off 10 later refl, floor_durable 10 (restored ++ later) 0 (omega arith))
line_lost (suc (suc (suc zero))) h = (avoids_off 11 later refl, floor_durable 11 (restored ++ later) 0 (omega arith))
line_lost (suc (suc (suc (suc n)))) h = absurd (omega arith)

apart : (ℓ : ℕ) → Off ℓ restored ⊎ (Off ℓ later × KeepsDurable ℓ (restored ++ later) 0)
apart ℓ = go (dec_lt (64 * ℓ) 512) (dec_lt (64 * ℓ) 768)
  where
    outside : (64 * ℓ < 512) ⊎ (512 + 256 ≤ 64 * ℓ) → Off ℓ restored
    outside h = puts_off (puts_block false 512 (λ k. 0) (λ i. 0) (λ k b x y. byte_of_zero b)) ℓ refl refl h

    go : Dec (64 * ℓ < 512) → Dec (64 * ℓ < 768) → Off ℓ restored ⊎ (Off ℓ later × KeepsDurable ℓ (restored ++ later) 0)
    go (yes a) b = inl (outside (inl a))
    go (no a) (yes b) =
        let e : 8 + (ℓ - 8) ≡ ℓ = omega arith in
        inr (subst (λ (m : ℕ). Off m later × KeepsDurable m (restored ++ later) 0) e (line_lost (ℓ - 8) (omega arith)))
    go (no a) (no b) = inl (outside (inr (omega arith)))

-- the block need not arrive again
lost : CrashImage F (edit ++ restored ++ later) left
lost =
    crash_after F left edit (restored ++ later)
    (subst (CrashImage (replay edit F) (restored ++ later)) leaves (arrives_alone (replay edit F) restored later apart))

shows_word : Recovers l111 adr left (lent_long l111) word
unfolding model_rules same small
shows_word = shows l111 left (lent_long l111) word refl refl refl

saves_zeros : saved.state.model.checkpoint ≡ zeros
unfolding model_rules turn turns clears_marks same
saves_zeros = same_equal saved.state.model.checkpoint zeros refl

wrong : DiscardClearsMarks opened
unfolding turn turns clears_marks step device_step
wrong = record {
  permitted = permitted opened;
  count = count;
  shows = record {
    permitted = tt;
    left = left;
    crash = subst (λ (O : Ops). CrashImage F O left) (sym plays) lost;
    accepted = shows_word.accepted;
    page = word;
    shown = shows_word.shows;
    wrong = λ e. let z : ◌≡◌ {A = ℕ} 1 0 = ap (λ (P : Page). get_or P 0 0) (e ∙ saves_zeros) in omega arith;
  };
  dropped = refl;
  saved = saves_zeros;
}

pub discard_clears_marks_lem : DiscardClearsMarks (begin l111 adr F (lent_long l111))
discard_clears_marks_lem = subst DiscardClearsMarks (sym starts) wrong

-- ---- with the marks kept

abbrev kept : List Turn
kept = word_dropped ++ checkpoint ∷ []

bytes : small F ≡ true
unfolding model_rules small
bytes = refl

page : (turns opened kept).state.model.checkpoint ≡ zeros
unfolding model_rules turn turns same
page = same_equal (turns opened kept).state.model.checkpoint zeros refl

kept_permitted : (p : Point) → Supposed adr p kept
unfolding small fit_args fit_turns
kept_permitted p = all_supposed adr p kept refl

pub discard_keeps_marks_lem : DiscardKeepsMarks (begin l111 adr F (lent_long l111))
discard_keeps_marks_lem =
    let p : Point = begin l111 adr F (lent_long l111) in (
      kept_permitted p,
      shows_between (turns p kept).state (turns_hold l111 F (lent_long l111) (small_bytes F bytes) opens kept (kept_permitted p)) zeros
          (ap (λ (p : Point). (turns p kept).state.model.checkpoint) starts ∙ page),
    )

-- ---- with the touch dropped

touched : DiscardClearsTouch opened
unfolding model_rules turn turns clears_touch
touched = (refl, refl)

pub discard_clears_touch_lem : DiscardClearsTouch (begin l111 adr F (lent_long l111))
discard_clears_touch_lem = subst DiscardClearsTouch (sym starts) touched
