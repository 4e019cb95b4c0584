-- The restored board: its second life, and the crash inside its checkpoint.
use Prim.Native.Nat.{ℕ, suc, ◌+◌}
use mathlib.Core.Path.{◌≡◌, refl, sym, ap, subst, ◌∙◌}
use mathlib.Core.Bool.{Bool, true, ◌&&◌}
use mathlib.Core.List.{List, [], ◌∷◌, ◌++◌}
use lib.Dec.{T, leb, lit≤}
use lib.ListN.{length, replicate}
use Rattle.model.specs.Range.{any_b, or_next, first_b}
use Rattle.model.specs.Words.{Image, Bytes, bytes_of}
use Rattle.model.specs.Layout.{main_at, backup_at, unpaired}
use Rattle.model.specs.Container.{active_line, segment_bytes, is_paired, paired_backup, by_state}
use Rattle.model.specs.Session.{adr}
use Rattle.model.specs.Ops.{store, replay, copy_segment}
use Rattle.model.specs.Format.{container}
use Rattle.model.specs.Open.{recovery_action, action_ops, recover_segment, open_status}
use Rattle.model.specs.Reads.{checkpoint_block}
use Rattle.model.specs.History.{State, opened_image}
use Rattle.model.specs.CrashSafety.{Recovers}
use Rattle.model.specs.Shares.{alone}
use Rattle.cases.specs.Turns.{Point, point_of, turn, turns, Supposed}
use Rattle.cases.specs.Table.{Row, follow, calls}
use Rattle.cases.specs.Cut.{CutCheckpoint}
use Rattle.cases.specs.Restored.{l641, put, segments, left_board, restored_board, board, story, shorter, before_checkpoint, old_page, new_page, RestoredStory}
use Rattle.model.proofs.Laws.Range.{and_left, and_right}
use Rattle.cases.proofs.Compute.{model_rules, same, same_equal, small, small_bytes, fit_args, fit_turns, all_supposed, known}
use Rattle.cases.proofs.Quick.{quick_write, quick_args}
use Rattle.cases.proofs.Follow.{agree, follow_known, follow_test, as_expected}
use Rattle.cases.proofs.Starts.{standing, started, Holds, turns_hold}
use Rattle.cases.proofs.Blocks.{laid, Recovered, recovered_none, recovered_copy, recovered_zero, recovered_idle, recovered_all}
use Rattle.cases.proofs.Shown.{shows, stores_epoch, cut_checkpoint}
use Rattle.cases.proofs.FirstLife.{k641, later}
use Rattle.cases.proofs.FirstLife as first

-- ---- its opening

opens : open_status l641 adr left_board k641 ≡ 0
unfolding model_rules
opens = refl

bytes : Bytes left_board
unfolding model_rules small
bytes = small_bytes left_board refl

-- the board with these main segments
abbrev holding : List ℕ → Image
holding mains = later (2 ∷ 2 ∷ 2 ∷ 2 ∷ 1 ∷ 0 ∷ []) (0 ∷ 1 ∷ 2 ∷ 3 ∷ []) mains (10 ∷ 11 ∷ 12 ∷ 13 ∷ [])

abbrev restored : Image
restored = holding (10 ∷ 11 ∷ 12 ∷ 13 ∷ 14 ∷ 0 ∷ [])

copies_back : (n : ℕ) (J K : Image) → recover_segment l641 left_board 192 n ≡ copy_segment l641 left_board (backup_at l641 n) (main_at l641 n)
    → T (leb (backup_at l641 n + 256) (length left_board)) → T (leb (main_at l641 n + 256) (length J))
    → same (laid J (main_at l641 n) (segment_bytes l641 left_board (backup_at l641 n))) K ≡ true → Recovered l641 left_board 192 n J → Recovered l641 left_board 192 (suc n) K
copies_back n J K = recovered_copy l641 left_board 192 n n J K bytes

recovered : Recovered l641 left_board 192 6 restored
unfolding recover_segment action_ops recovery_action by_state is_paired paired_backup any_b or_next first_b container bytes_of same
recovered =
    recovered_zero l641 left_board 192 5 restored restored refl tt refl
    (recovered_idle l641 left_board 192 4 restored refl
    (copies_back 3 (holding (10 ∷ 11 ∷ 12 ∷ 23 ∷ 14 ∷ 0 ∷ [])) restored refl tt tt refl
    (copies_back 2 (holding (10 ∷ 11 ∷ 22 ∷ 23 ∷ 14 ∷ 0 ∷ [])) (holding (10 ∷ 11 ∷ 12 ∷ 23 ∷ 14 ∷ 0 ∷ [])) refl tt tt refl
    (copies_back 1 (holding (10 ∷ 21 ∷ 22 ∷ 23 ∷ 14 ∷ 0 ∷ [])) (holding (10 ∷ 11 ∷ 22 ∷ 23 ∷ 14 ∷ 0 ∷ [])) refl tt tt refl
    (copies_back 0 left_board (holding (10 ∷ 21 ∷ 22 ∷ 23 ∷ 14 ∷ 0 ∷ [])) refl tt tt refl (recovered_none l641 left_board 192))))))

active : active_line left_board ≡ 192
unfolding model_rules
active = refl

opened : opened_image l641 adr left_board k641 ≡ restored
opened = recovered_all l641 adr left_board k641 192 restored opens active recovered

-- where it starts
abbrev first_point : Point
first_point = point_of (standing l641 adr restored old_page) (alone l641 0)

starts : restored_board ≡ first_point
unfolding model_rules same
starts = started l641 adr left_board restored k641 old_page opens opened (same_equal _ _ refl)

-- ---- its calls

story_tested : follow_known story first_point (λ rs last. agree rs) ≡ true
unfolding model_rules turn story quick_write quick_args follow_known known small same agree
story_tested = refl

-- of the shorter one also that main segment 5 has no checkpoint part then
abbrev shorter_test : List Row → Point → Bool
shorter_test rs last = agree rs && same (checkpoint_block l641 last.state.device.image 5 0) []

shorter_tested : follow_known shorter first_point shorter_test ≡ true
unfolding model_rules turn shorter quick_write quick_args follow_known known small same agree
shorter_tested = refl

shorter_is : shorter_test (follow shorter first_point) (turns first_point (calls shorter)) ≡ true
shorter_is = follow_test shorter first_point shorter_test shorter_tested

story_permitted : Supposed adr restored_board (calls story)
unfolding story small fit_args fit_turns
story_permitted = all_supposed adr restored_board (calls story) refl

shorter_permitted : Supposed adr restored_board (calls shorter)
unfolding shorter small fit_args fit_turns
shorter_permitted = all_supposed adr restored_board (calls shorter) refl

board_is : board first_point.state ≡ 2 ∷ 2 ∷ 2 ∷ 2 ∷ 1 ∷ 0 ∷ [] ++ 0 ∷ 1 ∷ 2 ∷ 3 ∷ []
unfolding model_rules
board_is = refl

no_part : checkpoint_block l641 (turns first_point (calls shorter)).state.device.image 5 0 ≡ []
no_part = same_equal _ _ (and_right (agree (follow shorter first_point)) _ shorter_is)

-- ---- the crash inside its checkpoint

-- the state before it, written out
abbrev before : State
before = record {
  device = record {
    layout = l641;
    durable = restored;
    played = store 1792 35 ∷ [];
    adr_played = store 1792 35 ∷ [];
    image = replay (store 1792 35 ∷ []) restored;
    session = record { layout = l641; dirty_segments = 32; dirty_blocks = 0 ∷ 0 ∷ 0 ∷ 0 ∷ 0 ∷ 1 ∷ replicate 58 0; domain = adr };
  };
  model = record { working = new_page; checkpoint = old_page };
}

abbrev last_point : Point
last_point = point_of before (alone l641 0)

refused : turn first_point (put 4 34) ≡ first_point
unfolding model_rules turn
refused = refl

served : turn first_point (put 5 35) ≡ last_point
unfolding model_rules turn
served = refl

stands : before_checkpoint ≡ last_point
stands = ap (λ (p : Point). turn (turn p (put 4 34)) (put 5 35)) starts ∙ ap (λ (p : Point). turn p (put 5 35)) refused ∙ served

holds : Holds before
unfolding turns small fit_args fit_turns
holds =
    subst (λ (p : Point). Holds p.state) stands
    (turns_hold l641 left_board k641 bytes opens (put 4 34 ∷ put 5 35 ∷ []) (all_supposed adr restored_board (put 4 34 ∷ put 5 35 ∷ []) refl))

-- the images with the old epoch and with the new
abbrev cut_image : ℕ → Image
cut_image epoch =
    container l641 epoch (replicate 6 1 ++ replicate 58 0) (2 ∷ 2 ∷ 2 ∷ 2 ∷ 1 ∷ 0 ∷ replicate 58 0) (0 ∷ 1 ∷ 2 ∷ 3 ∷ replicate 60 unpaired)
    (segments (10 ∷ 11 ∷ 12 ∷ 13 ∷ 14 ∷ 35 ∷ []) ++ segments (10 ∷ 11 ∷ 12 ∷ 13 ∷ []))

shows_old : Recovers l641 adr (cut_image 1) k641 old_page
unfolding model_rules same small
shows_old = shows l641 (cut_image 1) k641 old_page refl refl refl

shows_new : Recovers l641 adr (cut_image 2) k641 new_page
unfolding model_rules same small
shows_new = shows l641 (cut_image 2) k641 new_page refl refl refl

shown : CutCheckpoint 18 last_point old_page new_page
unfolding model_rules same stores_epoch
shown =
    cut_checkpoint last_point holds before.device.image before.device.session (alone l641 0) 18
    (record { image = refl; session = refl; clients = refl }) refl (lit≤ tt)
    old_page new_page (cut_image 1) (cut_image 2) refl refl refl refl refl k641 shows_old shows_new refl refl

shows_left : Recovers l641 adr left_board k641 old_page
unfolding model_rules same small
shows_left = shows l641 left_board k641 old_page refl refl refl

-- THE STORY
pub restored_story : RestoredStory
restored_story = record {
  first_bytes = first.bytes;
  first_opens = first.opens;
  first_permitted = first.permitted;
  left = first.left;
  bytes = bytes;
  opens = shows_left;
  restored = ap (λ (p : Point). board p.state) starts ∙ board_is;
  permitted = story_permitted;
  answered = as_expected starts story (follow_test story first_point (λ rs last. agree rs) story_tested);
  cut = subst (λ (p : Point). CutCheckpoint 18 p old_page new_page) (sym stands) shown;
  untouched_permitted = shorter_permitted;
  untouched = as_expected starts shorter (and_left (agree (follow shorter first_point)) _ shorter_is);
  empty = ap (λ (p : Point). checkpoint_block l641 (turns p (calls shorter)).state.device.image 5 0) starts ∙ no_part;
}
