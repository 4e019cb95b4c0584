-- Two clients on one board, computed.
use Prim.Native.Nat.{ℕ, suc, ◌+◌}
use mathlib.Core.Path.{◌≡◌, refl, sym, ap, subst, ◌∙◌}
use mathlib.Core.Bool.{Bool, true, ◌&&◌}
use mathlib.Core.List.{List, [], ◌∷◌, ◌++◌}
use lib.Dec.{T, leb, lit<}
use lib.ListN.{length, get_or, replicate}
use Rattle.model.specs.Words.{Image, Bytes}
use Rattle.model.specs.Layout.{main_at, unpaired}
use Rattle.model.specs.Session.{adr}
use Rattle.model.specs.Ops.{zero_segment}
use Rattle.model.specs.Container.{active_line, checkpoint_bytes}
use Rattle.model.specs.Clients.{Clients, client_of, cleared}
use Rattle.model.specs.Outcome.{Lent, outcome_of}
use Rattle.model.specs.Format.{container, formatted}
use Rattle.model.specs.Open.{recover_segment, open_status, open_outcome}
use Rattle.model.specs.Write.{write_args_of}
use Rattle.model.specs.Reference.{Page}
use Rattle.model.specs.History.{opened_image}
use Rattle.model.specs.CrashSafety.{between, adr_module}
use Rattle.model.specs.Shares.{BelowShare, SharesHold}
use Rattle.cases.specs.Turns.{Point, point_of, begin, turn, turns, Supposed}
use Rattle.cases.specs.Table.{Row, answer, long_trace, follow, AsExpected, calls}
use Rattle.cases.specs.Cut.{MayLeave}
use Rattle.cases.specs.Restored.{segments, board_of}
use Rattle.cases.specs.Consoles.{l321, two_clients, lent_opening, opened, both_taken, freed_again, in_use, left_in_use, restarted, after_restart, limited, at_limit, ConsolesStory}
use Rattle.model.proofs.Laws.Range.{and_left, and_right}
use Rattle.cases.proofs.Compute.{model_rules, same, same_equal, small, small_bytes, fit_args, fit_turns, all_supposed, known}
use Rattle.cases.proofs.Blocks.{laid, Recovered, recovered_none, recovered_copy, recovered_zero, recovered_idle, recovered_all}
use Rattle.cases.proofs.Quick.{quick_write, quick_args}
use Rattle.cases.proofs.Follow.{agree, follow_known, follow_test, as_expected}
use Rattle.cases.proofs.Starts.{standing, started, turns_hold}
use Rattle.cases.proofs.Shown.{may_leave}

-- ---- the first life

abbrev F : Image
F = formatted l321

abbrev k0 : Lent
k0 = lent_opening (two_clients 0 0)

first_bytes_lem : Bytes F
unfolding model_rules small
first_bytes_lem = small_bytes F refl

first_answers : answer (open_outcome l321 adr F k0) ≡ 0 ∷ 109 ∷ []
unfolding model_rules
first_answers = refl

-- an opening that answers so is served
answers-served : (R : Clients) (I : Image) {n : ℕ} → answer (open_outcome l321 adr I (lent_opening R)) ≡ 0 ∷ n ∷ [] → open_status l321 adr I (lent_opening R) ≡ 0
unfolding open_outcome outcome_of
answers-served R I e = ap (λ (ns : List ℕ). get_or ns 0 0) e

first_opens_lem : open_status l321 adr F k0 ≡ 0
first_opens_lem = answers-served (two_clients 0 0) F first_answers

-- the zeros that the opening writes stand there already
first_opened : opened_image l321 adr F k0 ≡ F
unfolding model_rules same
first_opened =
    recovered_all l321 adr F k0 128 F refl refl
    (zeros 2 refl tt refl (zeros 1 refl tt refl (zeros 0 refl tt refl (recovered_none l321 F 128))))
  where
    zeros : (n : ℕ) → recover_segment l321 F 128 n ≡ zero_segment l321 (main_at l321 n) → T (leb (main_at l321 n + 256) (length F))
        → same (laid F (main_at l321 n) (replicate 256 0)) F ≡ true → Recovered l321 F 128 n F → Recovered l321 F 128 (suc n) F
    zeros n = recovered_zero l321 F 128 n F F

abbrev first_point : Point
first_point = point_of (standing l321 adr F (segments (replicate 3 0))) (two_clients 0 0)

first_starts : opened ≡ first_point
unfolding model_rules same
first_starts = started l321 adr F F k0 (segments (replicate 3 0)) first_opens_lem first_opened (same_equal _ _ refl)

-- the rows until both backup segments are in use, the image that stands then, and the rows from there on
abbrev first_test : List Row → Point → Bool
first_test rs p = agree rs && (same p.state.device.image left_in_use && follow_known freed_again p (λ qs last. agree qs))

first_tested : follow_known both_taken first_point first_test ≡ true
unfolding model_rules turn both_taken freed_again quick_write quick_args follow_known known small same agree
first_tested = refl

-- where it stands when both are in use
abbrev used_point : Point
used_point = turns first_point (calls both_taken)

tested : first_test (follow both_taken first_point) used_point ≡ true
tested = follow_test both_taken first_point first_test first_tested

used_tested : (same used_point.state.device.image left_in_use && follow_known freed_again used_point (λ qs last. agree qs)) ≡ true
used_tested = and_right (agree (follow both_taken first_point)) _ tested

in_use_lem : in_use ≡ used_point
in_use_lem = ap (λ (p : Point). turns p (calls both_taken)) first_starts

greedy_refused_lem : AsExpected opened both_taken
greedy_refused_lem = as_expected first_starts both_taken (and_left (agree (follow both_taken first_point)) _ tested)

freed : AsExpected in_use freed_again
freed =
    as_expected in_use_lem freed_again
    (follow_test freed_again used_point (λ rs last. agree rs) (and_right (same used_point.state.device.image left_in_use) _ used_tested))

freed_permitted_lem : Supposed adr in_use (calls freed_again)
unfolding freed_again small fit_args fit_turns
freed_permitted_lem = all_supposed adr in_use (calls freed_again) refl

taking_permitted_lem : Supposed adr opened (calls both_taken)
unfolding both_taken small fit_args fit_turns
taking_permitted_lem = all_supposed adr opened (calls both_taken) refl

left : MayLeave adr_module in_use.state between left_in_use
left =
    may_leave in_use.state (turns_hold l321 F k0 first_bytes_lem first_opens_lem (calls both_taken) taking_permitted_lem).stands left_in_use
    (ap (λ (p : Point). p.state.device.image) in_use_lem ∙ same_equal _ _ (and_left (same used_point.state.device.image left_in_use) _ used_tested))

-- ---- the openings of what is left

bytes : Bytes left_in_use
unfolding model_rules small
bytes = small_bytes left_in_use refl

-- what is left, with these bytes in main segments 0 and 1
abbrev holding : ℕ → ℕ → Image
holding x y =
    container l321 1 (replicate 64 0) (2 ∷ 2 ∷ 1 ∷ replicate 61 0) (0 ∷ 1 ∷ replicate 62 unpaired)
    (segments (x ∷ y ∷ 12 ∷ []) ++ segments (10 ∷ 11 ∷ []))

abbrev saved_page : Page
saved_page = segments (10 ∷ 11 ∷ 12 ∷ [])

recovered : Recovered l321 left_in_use 192 3 (holding 10 11)
unfolding model_rules same
recovered =
    recovered_idle l321 left_in_use 192 2 (holding 10 11) refl
    (recovered_copy l321 left_in_use 192 1 1 (holding 10 21) (holding 10 11) bytes refl tt tt refl
    (recovered_copy l321 left_in_use 192 0 0 left_in_use (holding 10 21) bytes refl tt tt refl (recovered_none l321 left_in_use 192)))

active : active_line left_in_use ≡ 192
unfolding model_rules
active = refl

page : checkpoint_bytes l321 left_in_use (active_line left_in_use) ≡ saved_page
unfolding model_rules same
page = same_equal _ _ refl

-- with any records that are served
starts : (R : Clients) → open_status l321 adr left_in_use (lent_opening R) ≡ 0
    → begin l321 adr left_in_use (lent_opening R) ≡ point_of (standing l321 adr (holding 10 11) saved_page) (cleared R)
starts R opens =
    started l321 adr left_in_use (holding 10 11) (lent_opening R) saved_page opens
    (recovered_all l321 adr left_in_use (lent_opening R) 192 (holding 10 11) opens active recovered) page

-- ---- the second life

answers : answer (open_outcome l321 adr left_in_use (lent_opening (two_clients 1 1))) ≡ 0 ∷ 73 ∷ []
unfolding model_rules
answers = refl

abbrev second_point : Point
second_point = point_of (standing l321 adr (holding 10 11) saved_page) (two_clients 0 0)

restarts : restarted ≡ second_point
unfolding cleared
restarts = starts (two_clients 1 1) (answers-served (two_clients 1 1) left_in_use answers)

board_is : board_of l321 second_point.state ≡ 2 ∷ 2 ∷ 1 ∷ [] ++ 0 ∷ 1 ∷ []
unfolding model_rules
board_is = refl

not_yet : SharesHold second_point.state.device second_point.clients → ⊥
unfolding model_rules
not_yet h = (h (write_args_of 1 2 0 0 (22 ∷ [])) long_trace (lit< tt, lit< tt)).0 refl

restart_tested : follow_known after_restart second_point (λ rs last. agree rs) ≡ true
unfolding model_rules turn after_restart quick_write quick_args follow_known known small same agree
restart_tested = refl

permitted : Supposed adr restarted (calls after_restart)
unfolding after_restart small fit_args fit_turns
permitted = all_supposed adr restarted (calls after_restart) refl

-- ---- the third

limited-answers : answer (open_outcome l321 adr left_in_use (lent_opening (client_of 0 1 0 ∷ []))) ≡ 0 ∷ 73 ∷ []
unfolding model_rules
limited-answers = refl

abbrev third_point : Point
third_point = point_of (standing l321 adr (holding 10 11) saved_page) (client_of 0 1 0 ∷ [])

limited_starts : limited ≡ third_point
unfolding cleared
limited_starts = starts (client_of 0 1 0 ∷ []) (answers-served (client_of 0 1 0 ∷ []) left_in_use limited-answers)

limit_tested : follow_known at_limit third_point (λ rs last. agree rs) ≡ true
unfolding model_rules turn at_limit quick_write quick_args follow_known known small same agree
limit_tested = refl

limited_permitted_lem : Supposed adr limited (calls at_limit)
unfolding at_limit small fit_args fit_turns
limited_permitted_lem = all_supposed adr limited (calls at_limit) refl

-- THE STORY
pub consoles_story : ConsolesStory
consoles_story = record {
  first_bytes = first_bytes_lem;
  first_opens = first_answers;
  taking_permitted = taking_permitted_lem;
  greedy_refused = greedy_refused_lem;
  freed_permitted = freed_permitted_lem;
  freed = freed;
  left = left;
  bytes = bytes;
  opens = answers;
  cleared = ap (λ (p : Point). p.clients) restarts;
  restored = ap (λ (p : Point). board_of l321 p.state) restarts ∙ board_is;
  below = subst (λ (p : Point). BelowShare p.clients 1) (sym restarts) (lit< tt, lit< tt);
  not_yet_sure = subst (λ (p : Point). SharesHold p.state.device p.clients → ⊥) (sym restarts) not_yet;
  permitted = permitted;
  sure_again = as_expected restarts after_restart (follow_test after_restart second_point (λ rs last. agree rs) restart_tested);
  limited_opens = limited-answers;
  limited_permitted = limited_permitted_lem;
  limit_reached = as_expected limited_starts at_limit (follow_test at_limit third_point (λ rs last. agree rs) limit_tested);
}
