-- Fault 5: the second word's line is never written back, and need not arrive.
use Prim.Native.Nat.{ℕ}
use mathlib.Core.Path.{◌≡◌, refl, sym, ap, subst, ◌∙◌}
use mathlib.Core.Bool.{true}
use mathlib.Core.List.{[], ◌∷◌, ◌++◌}
use native.Mathlib.Omega.{arith}
use lib.ListN.{length, get_or, replicate}
use Rattle.model.specs.Words.{Image}
use Rattle.model.specs.Layout.{unpaired}
use Rattle.model.specs.Session.{adr}
use Rattle.model.specs.Ops.{Ops, store, clwb, sfence, replay}
use Rattle.model.specs.Format.{container, formatted}
use Rattle.model.specs.Open.{open_status}
use Rattle.model.specs.Crash.{CrashImage}
use Rattle.model.specs.CrashExact.{has_fence, floor_from}
use Rattle.model.specs.Reference.{Page}
use Rattle.model.specs.History.{Permitted}
use Rattle.model.specs.CrashSafety.{Recovers}
use Rattle.model.specs.Shares.{alone}
use Rattle.cases.specs.Turns.{Point, point_of, begin, call_at, answer_at, turn, turns, Supposed}
use Rattle.cases.specs.Table.{checkpoint, a_word}
use Rattle.faults.specs.Faults.{lent_long, l112, write_two, first_session, first_marked, FirstMarked, BothMarked}
use Rattle.model.proofs.Laws.Crash.Images.{crash_after}
use Rattle.cases.proofs.Compute.{model_rules, same, same_equal, small, small_bytes, fit_args, fit_turns, all_supposed}
use Rattle.cases.proofs.Shown.{shows, shows_between}
use Rattle.cases.proofs.Starts.{standing, started_by, turns_hold}
use Rattle.faults.proofs.Alone.{elsewhere, avoids, first_lost}

abbrev F : Image
F = formatted l112

abbrev zeros : Page
zeros = replicate 512 0

-- the page of the checkpoint, and the one with its first word alone
abbrev new : Page
new = replicate 248 0 ++ a_word ++ a_word ++ replicate 248 0

abbrev half : Page
half = replicate 248 0 ++ a_word ++ replicate 256 0

opens : open_status l112 adr F (lent_long l112) ≡ 0
unfolding model_rules
opens = refl

abbrev opened : Point
opened = point_of (standing l112 adr F zeros) (alone l112 0)

starts : begin l112 adr F (lent_long l112) ≡ opened
unfolding model_rules same
starts = started_by l112 adr F F (lent_long l112) zeros opens refl refl

permitted : (p : Point) → Permitted (call_at p write_two)
unfolding small
permitted p = small_bytes (a_word ++ a_word) refl

-- ---- with the fault

-- after the checkpoint
abbrev saved : Point
saved = turn (first_marked opened) checkpoint

-- the first word; and what comes after the second
abbrev word : Ops
word = store 760 0x0807060504030201 ∷ []

abbrev later : Ops
later =
    clwb 512 ∷ clwb 576 ∷ clwb 640 ∷ clwb 704 ∷ sfence
    ∷ store 192 1 ∷ store 200 0 ∷ store 208 0 ∷ store 216 0 ∷ store 224 0 ∷ store 232 0 ∷ store 240 0 ∷ store 248 0 ∷ clwb 192 ∷ sfence
    ∷ store 0 1 ∷ clwb 0 ∷ sfence ∷ []

plays : saved.state.device.played ≡ word ++ store 768 0x0807060504030201 ∷ later
unfolding model_rules turn first_session first_marked
plays = refl

count : length (answer_at (first_marked opened) checkpoint).ops ≡ 18
unfolding model_rules turn first_session first_marked
count = refl

abbrev left : Image
left =
    container l112 1 (replicate 64 0) (1 ∷ replicate 63 0) (replicate 64 unpaired) (half ++ replicate 512 0)

leaves : replay later (replay word F) ≡ left
unfolding model_rules same
leaves = same_equal _ _ refl

-- the second word is lost
lost : CrashImage F (word ++ store 768 0x0807060504030201 ∷ later) left
unfolding model_rules floor_from has_fence avoids elsewhere
lost =
    crash_after F left word (store 768 0x0807060504030201 ∷ later)
    (subst (CrashImage (replay word F) (store 768 0x0807060504030201 ∷ later)) leaves
    (first_lost (replay word F) 768 0x0807060504030201 later refl refl refl))

shows_half : Recovers l112 adr left (lent_long l112) half
unfolding model_rules same small
shows_half = shows l112 left (lent_long l112) half refl refl refl

differs : half ≡ saved.state.model.checkpoint → ⊥
unfolding model_rules turn first_session first_marked
differs e = let z : ◌≡◌ {A = ℕ} 0 1 = ap (λ (P : Page). get_or P 256 0) e in omega arith

wrong : FirstMarked opened
unfolding model_rules turn first_session first_marked
wrong = record {
  permitted = permitted opened;
  count = count;
  shows = record {
    permitted = tt;
    left = left;
    crash = subst (λ (O : Ops). CrashImage F O left) (sym plays) lost;
    accepted = shows_half.accepted;
    page = half;
    shown = shows_half.shows;
    wrong = differs;
  };
  mixed = λ e. let z : ◌≡◌ {A = ℕ} 1 0 = ap (λ (P : Page). get_or P 248 0) e in omega arith;
}

pub first_marked_lem : FirstMarked (begin l112 adr F (lent_long l112))
first_marked_lem = subst FirstMarked (sym starts) wrong

-- ---- with both blocks dirty

bytes : small F ≡ true
unfolding model_rules small
bytes = refl

page : (turns opened (write_two ∷ checkpoint ∷ [])).state.model.checkpoint ≡ new
unfolding model_rules turn turns
page = refl

both_permitted : (p : Point) → Supposed adr p (write_two ∷ checkpoint ∷ [])
unfolding small fit_args fit_turns
both_permitted p = all_supposed adr p (write_two ∷ checkpoint ∷ []) refl

pub both_marked_lem : BothMarked (begin l112 adr F (lent_long l112))
both_marked_lem =
    let p : Point = begin l112 adr F (lent_long l112) in (
      both_permitted p,
      shows_between (turns p (write_two ∷ checkpoint ∷ [])).state
          (turns_hold l112 F (lent_long l112) (small_bytes F bytes) opens (write_two ∷ checkpoint ∷ []) (both_permitted p)) new
          (ap (λ (p : Point). (turns p (write_two ∷ checkpoint ∷ [])).state.model.checkpoint) starts ∙ page),
    )
