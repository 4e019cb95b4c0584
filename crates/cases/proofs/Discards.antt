-- Edits dropped: the story computed, and the crash inside its first discard by demand 3.
use Prim.Native.Nat.{ℕ, ◌<◌}
use mathlib.Core.Path.{◌≡◌, refl, ap}
use mathlib.Core.Bool.{Bool, true, ◌&&◌, false≢true}
use mathlib.Core.List.{List, [], ◌++◌}
use native.Mathlib.Omega.{arith}
use lib.Dec.{eqb}
use lib.ListN.{length, replicate}
use borrow.Author.Tests.{eqb-true}
use Rattle.model.specs.Words.{Bytes}
use Rattle.model.specs.Reads.{checkpoint_block}
use Rattle.model.specs.Session.{adr}
use Rattle.model.specs.Open.{open_status}
use Rattle.model.specs.EpochCounts.{is_checkpoint}
use Rattle.model.specs.CrashSafety.{during, adr_module}
use Rattle.cases.specs.Turns.{Point, call_at, answer_at, turn, Supposed}
use Rattle.cases.specs.Table.{Row, l211, fresh, long_trace, lent_alone, follow, opened, calls}
use Rattle.cases.specs.Cut.{OnlyShows}
use Rattle.cases.specs.Discards.{discard, edits, drops, edited, dropped, saved_page, DiscardStory}
use Rattle.model.proofs.Laws.Range.{and_left, and_right}
use Rattle.cases.proofs.Compute.{model_rules, same, same_equal, small, small_bytes, fit_args, fit_turns, all_supposed, known}
use Rattle.cases.proofs.Quick.{quick_write, quick_args}
use Rattle.cases.proofs.Follow.{agree, agree_equal, known_point, follow_known, from_opening}
use Rattle.cases.proofs.Starts.{Holds, turns_hold}
use Rattle.cases.proofs.Shown.{shows_during, shows_between}

-- ---- the calls

-- where the first discard is made: it has 32 operations, this page was saved, and main segment 1 has no checkpoint part
abbrev edited_test : List Row → Point → Bool
edited_test rs last =
    eqb (length (answer_at last (discard 0)).ops) 32
    && (same last.state.model.checkpoint saved_page && same (checkpoint_block l211 last.state.device.image 1 0) [])

edited_tested : known_point opened (λ p. follow_known edits p edited_test) ≡ true
unfolding model_rules turn edits quick_write quick_args follow_known known small same
edited_tested = refl

edited_is : edited_test (follow edits opened) edited ≡ true
edited_is = from_opening edits edited_test edited_tested

-- the whole story: its rows, the page that is saved then, and the checkpoint part of main segment 1
abbrev dropped_test : List Row → Point → Bool
dropped_test rs last =
    agree rs && (same last.state.model.checkpoint saved_page && same (checkpoint_block l211 last.state.device.image 1 0) (replicate 256 0))

dropped_tested : known_point opened (λ p. follow_known (edits ++ drops) p dropped_test) ≡ true
unfolding model_rules turn edits drops quick_write quick_args follow_known known small same agree
dropped_tested = refl

dropped_is : dropped_test (follow (edits ++ drops) opened) dropped ≡ true
dropped_is = from_opening (edits ++ drops) dropped_test dropped_tested

permitted : Supposed adr opened (calls (edits ++ drops))
unfolding edits drops small fit_args fit_turns
permitted = all_supposed adr opened (calls (edits ++ drops)) refl

edits_permitted : Supposed adr opened (calls edits)
unfolding edits small fit_args fit_turns
edits_permitted = all_supposed adr opened (calls edits) refl

-- ---- crashes

fresh_bytes : Bytes fresh
unfolding model_rules small
fresh_bytes = small_bytes fresh refl

opens : open_status l211 adr fresh (lent_alone l211 long_trace) ≡ 0
unfolding model_rules
opens = refl

edited-holds : Holds edited.state
edited-holds = turns_hold l211 fresh (lent_alone l211 long_trace) fresh_bytes opens (calls edits) edits_permitted

dropped-holds : Holds dropped.state
dropped-holds = turns_hold l211 fresh (lent_alone l211 long_trace) fresh_bytes opens (calls (edits ++ drops)) permitted

cut : (n : ℕ) → n < 32 → OnlyShows adr_module edited.state (during (call_at edited (discard 0)) n) saved_page
cut n h =
    let ops : ℕ = length (answer_at edited (discard 0)).ops in
    let count : ops ≡ 32 = eqb-true _ _ (and_left (eqb ops 32) _ edited_is) in
    shows_during edited.state edited-holds (call_at edited (discard 0)) tt (λ x. tt) n saved_page (omega (arith, count, h))
    (λ w. false≢true (ap is_checkpoint w.0)) (same_equal _ _ (and_left _ _ (and_right (eqb ops 32) _ edited_is)))

-- THE STORY
pub discard-story : DiscardStory
discard-story = record {
  permitted = permitted;
  answered = agree_equal (follow (edits ++ drops) opened) (and_left (agree (follow (edits ++ drops) opened)) _ dropped_is);
  cut = cut;
  after = shows_between dropped.state dropped-holds saved_page (same_equal _ _ (and_left _ _ (and_right (agree (follow (edits ++ drops) opened)) _ dropped_is)));
  before = same_equal _ _ (and_right (same edited.state.model.checkpoint saved_page) _ (and_right (eqb (length (answer_at edited (discard 0)).ops) 32) _ edited_is));
  silent = same_equal _ _ (and_right (same dropped.state.model.checkpoint saved_page) _ (and_right (agree (follow (edits ++ drops) opened)) _ dropped_is));
}
