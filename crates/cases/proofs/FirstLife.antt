-- The first life of the restored board: the image that its calls leave, and that a crash after it may leave.
use Prim.Native.Nat.{ℕ, suc, ◌+◌}
use mathlib.Core.Path.{◌≡◌, refl, ap, ◌∙◌}
use mathlib.Core.Bool.{true}
use mathlib.Core.List.{List, ◌++◌}
use lib.Dec.{T, leb}
use lib.ListN.{length, replicate}
use Rattle.model.specs.Words.{Image, Bytes}
use Rattle.model.specs.Layout.{main_at, unpaired}
use Rattle.model.specs.Session.{adr}
use Rattle.model.specs.Ops.{zero_segment}
use Rattle.model.specs.Outcome.{Lent}
use Rattle.model.specs.Format.{container, formatted}
use Rattle.model.specs.Open.{recover_segment, open_status}
use Rattle.model.specs.History.{opened_image}
use Rattle.model.specs.CrashSafety.{between, adr_module}
use Rattle.model.specs.Shares.{alone}
use Rattle.cases.specs.Turns.{Point, point_of, turn, turns, Supposed}
use Rattle.cases.specs.Table.{lent_alone}
use Rattle.cases.specs.Cut.{MayLeave}
use Rattle.cases.specs.Restored.{l641, board_trace, formatted_board, first_life, segments, left_board}
use Rattle.cases.proofs.Compute.{model_rules, same, same_equal, small, small_bytes, fit_args, fit_turns, all_supposed, known}
use Rattle.cases.proofs.Quick.{quick_write, quick_args}
use Rattle.cases.proofs.Follow.{follow_known, leaves, leaves_equal}
use Rattle.cases.proofs.Starts.{standing, started, turns_hold}
use Rattle.cases.proofs.Shown.{may_leave}
use Rattle.cases.proofs.Blocks.{laid, Recovered, recovered_none, recovered_zero, recovered_all}

-- ---- its opening

abbrev pub k641 : Lent
k641 = lent_alone l641 board_trace

pub opens : open_status l641 adr (formatted l641) k641 ≡ 0
unfolding model_rules
opens = refl

abbrev F : Image
F = formatted l641

pub bytes : Bytes F
unfolding model_rules small
bytes = small_bytes F refl

-- the zeros that it writes stand there already
opened : opened_image l641 adr F k641 ≡ F
unfolding model_rules same
opened =
    recovered_all l641 adr F k641 128 F refl refl
    (zeros 5 refl tt refl (zeros 4 refl tt refl (zeros 3 refl tt refl (zeros 2 refl tt refl (zeros 1 refl tt refl (zeros 0 refl tt refl (recovered_none l641 F 128)))))))
  where
    zeros : (n : ℕ) → recover_segment l641 F 128 n ≡ zero_segment l641 (main_at l641 n) → T (leb (main_at l641 n + 256) (length F))
        → same (laid F (main_at l641 n) (replicate 256 0)) F ≡ true → Recovered l641 F 128 n F → Recovered l641 F 128 (suc n) F
    zeros n = recovered_zero l641 F 128 n F F

abbrev first_point : Point
first_point = point_of (standing l641 adr F (segments (replicate 6 0))) (alone l641 0)

starts : formatted_board ≡ first_point
unfolding model_rules same
starts = started l641 adr F F k641 (segments (replicate 6 0)) opens opened (same_equal _ _ refl)

-- ---- its calls

-- the board in epoch 1: the states, the pairs, the first bytes of the main segments and of the backup segments
abbrev pub later : List ℕ → List ℕ → List ℕ → List ℕ → Image
later states pairs mains backups =
    container l641 1 (replicate 64 0) (states ++ replicate 58 0) (pairs ++ replicate 60 unpaired) (segments mains ++ segments backups)

leaves_board : leaves first_life first_point left_board ≡ true
unfolding model_rules turn quick_write quick_args follow_known known small same
leaves_board = refl

life : (turns formatted_board first_life).state.device.image ≡ left_board
life = ap (λ (p : Point). (turns p first_life).state.device.image) starts ∙ leaves_equal first_life first_point left_board leaves_board

pub permitted : Supposed adr formatted_board first_life
unfolding small fit_args fit_turns
permitted = all_supposed adr formatted_board first_life refl

pub left : MayLeave adr_module (turns formatted_board first_life).state between left_board
left = may_leave (turns formatted_board first_life).state (turns_hold l641 F k641 bytes opens first_life permitted).stands left_board life
