-- The crash inside the checkpoint of P4.
use Prim.Native.Nat.{ℕ}
use mathlib.Core.Path.{◌≡◌, refl, sym, ap, subst, ◌∙◌}
use mathlib.Core.List.{[], ◌∷◌, ◌++◌}
use lib.Dec.{lit≤}
use lib.ListN.{replicate}
use Rattle.model.specs.Words.{Image, Bytes}
use Rattle.model.specs.Session.{adr}
use Rattle.model.specs.Ops.{Ops, store, replay}
use Rattle.model.specs.Outcome.{Lent}
use Rattle.model.specs.Format.{container, formatted}
use Rattle.model.specs.Open.{open_status}
use Rattle.model.specs.History.{State}
use Rattle.model.specs.Shares.{alone}
use Rattle.cases.specs.Turns.{Point, point_of, turn, turns}
use Rattle.cases.specs.Table.{l211, fresh, long_trace, lent_alone, four_bytes, write_four, opened}
use Rattle.cases.specs.Cut.{CutCheckpoint, before_p4, zeros, new_bytes, CutP4}
use Rattle.cases.proofs.Compute.{model_rules, same, small, small_bytes, fit_args, fit_turns, all_supposed}
use Rattle.cases.proofs.Starts.{standing, started_by, Holds, turns_hold}
use Rattle.cases.proofs.Shown.{shows, stores_epoch, cut_checkpoint}

abbrev ops_p3 : Ops
ops_p3 = store 512 0xb2a1000000000000 ∷ store 520 0xd4c3 ∷ []

-- where the history stands before P4, written out
abbrev state_before_p4 : State
state_before_p4 = record {
  device = record {
    layout = l211;
    durable = formatted l211;
    played = ops_p3;
    adr_played = ops_p3;
    image = replay ops_p3 (formatted l211);
    session = record { layout = l211; dirty_segments = 1; dirty_blocks = 1 ∷ replicate 63 0; domain = adr };
  };
  model = record { working = new_bytes; checkpoint = zeros };
}

abbrev point_before_p4 : Point
point_before_p4 = point_of state_before_p4 (alone l211 0)

abbrev k211 : Lent
k211 = lent_alone l211 long_trace

starts : opened ≡ point_of (standing l211 adr (formatted l211) zeros) (alone l211 0)
unfolding model_rules same
starts = started_by l211 adr fresh (formatted l211) k211 zeros refl refl refl

writes_four : turn (point_of (standing l211 adr (formatted l211) zeros) (alone l211 0)) write_four ≡ point_before_p4
unfolding model_rules turn
writes_four = refl

stands : before_p4 ≡ point_before_p4
stands = ap (λ (p : Point). turn p write_four) starts ∙ writes_four

-- ---- a history that demand 3 speaks of

fresh_bytes : Bytes fresh
unfolding model_rules small
fresh_bytes = small_bytes fresh refl

opens : open_status l211 adr fresh k211 ≡ 0
unfolding model_rules
opens = refl

holds : Holds state_before_p4
unfolding turns small fit_args fit_turns
holds =
    subst (λ (p : Point). Holds p.state) stands
    (turns_hold l211 fresh k211 fresh_bytes opens (write_four ∷ []) (all_supposed adr opened (write_four ∷ []) refl))

-- ---- the two images that a crash after 16 or 17 operations may leave: before the epoch's store, and after it

abbrev cut_image : ℕ → Image
cut_image epoch =
    container l211 epoch (replicate 64 0) (1 ∷ replicate 63 0) (replicate 64 255)
    (replicate 6 0 ++ four_bytes ++ replicate 758 0)

shown : CutCheckpoint 18 point_before_p4 zeros new_bytes
unfolding model_rules same small stores_epoch
shown =
    cut_checkpoint point_before_p4 holds state_before_p4.device.image state_before_p4.device.session (alone l211 0) 18
    (record { image = refl; session = refl; clients = refl }) refl (lit≤ tt)
    zeros new_bytes (cut_image 0) (cut_image 1) refl refl refl refl refl k211
    (shows l211 (cut_image 0) k211 zeros refl refl refl) (shows l211 (cut_image 1) k211 new_bytes refl refl refl) refl refl

-- the crash inside P4, from demand 3
pub cut_P4 : CutP4
cut_P4 = subst (λ (p : Point). CutCheckpoint 18 p zeros new_bytes) (sym stands) shown
