-- Empty is not silent: the story computed, and so the board that no history left.
use mathlib.Core.Path.{◌≡◌, refl}
use mathlib.Core.Bool.{Bool, true}
use mathlib.Core.List.{List, ◌++◌}
use Rattle.model.specs.Session.{adr}
use Rattle.cases.specs.Turns.{Point, turn, Supposed}
use Rattle.cases.specs.Table.{Row, l211, follow, opened, calls}
use Rattle.cases.specs.Silent.{zeros_board, zeros_saved, zeros_again, SilentStory, CleanElsewhere}
use Rattle.model.proofs.Laws.Session.{fresh_segment}
use Rattle.cases.proofs.Compute.{model_rules, same, same_equal, small, fit_args, fit_turns, all_supposed, known}
use Rattle.cases.proofs.Quick.{quick_write, quick_args}
use Rattle.cases.proofs.Follow.{agree, agree_equal, known_point, follow_known, from_opening}

-- the rows of the story
abbrev story_test : List Row → Point → Bool
story_test rs last = agree rs

story_tested : known_point opened (λ p. follow_known (zeros_saved ++ zeros_again) p story_test) ≡ true
unfolding model_rules turn zeros_saved zeros_again quick_write quick_args follow_known known small same agree
story_tested = refl

-- the board after the first checkpoint
abbrev silent_test : List Row → Point → Bool
silent_test rs last = same last.state.device.image zeros_board

silent_tested : known_point opened (λ p. follow_known zeros_saved p silent_test) ≡ true
unfolding model_rules turn zeros_saved quick_write quick_args follow_known known small same
silent_tested = refl

permitted : Supposed adr opened (calls (zeros_saved ++ zeros_again))
unfolding zeros_saved zeros_again small fit_args fit_turns
permitted = all_supposed adr opened (calls (zeros_saved ++ zeros_again)) refl

-- THE STORY
pub silent_story : SilentStory
silent_story = record {
  permitted = permitted;
  answered = agree_equal (follow (zeros_saved ++ zeros_again) opened) (from_opening (zeros_saved ++ zeros_again) story_test story_tested);
  silent = same_equal _ _ (from_opening zeros_saved silent_test silent_tested);
}

pub clean_elsewhere : CleanElsewhere
unfolding model_rules
clean_elsewhere = record { clean = fresh_segment l211 adr; served = refl; accepted = refl; unlike = refl }
