-- Laws of a served replay: what it goes by, one operation more, and what the whole call leaves.
use Prim.Native.Nat.{ℕ, ◌+◌, ◌*◌, ◌/◌, ◌%◌, ◌≤◌, ◌<◌}
use mathlib.Core.Path.{◌≡◌, sym, ap, ◌∙◌}
use mathlib.Core.Bool.{Bool, true, false, not, ◌||◌, true≢false}
use mathlib.Core.List.{List, [], map}
use native.Mathlib.Omega.{arith}
use native.Mathlib.Numerals.{add-one}
use lib.Dec.{eqb}
use lib.ListN.{length, get_or, drop}
use lib.Seq.{drop-cons}
use borrow.Author.Tests.{eqb-true, not-false}
use Rattle.std.specs.Simd.{first_chunks}
use Rattle.model.specs.Words.{Image}
use Rattle.model.specs.Layout.{line_size}
use Rattle.model.specs.Ops.{Ops, Trace, op_numbers, apply, replay}
use Rattle.model.specs.Replay.{all_well_formed, replay_count, replay_errors, replayed_ops, replay_status, replay_outcome}
use Rattle.model.proofs.Laws.Status.{served_condition}
use Rattle.replay.specs.Numbers.{op_given}
use Rattle.replay.proofs.JudgeLaws.{decoded}

-- what a call that is served goes by
pub judged : (I : Image) (t : Trace) (n : ℕ) → 0 ≡ replay_status I t n → (length I % line_size ≡ 0) × (all_well_formed (length I / line_size) t (replay_count t n) ≡ true)
unfolding replay_status
judged I t n h =
    let x = served_condition (replay_errors I t n) (omega arith) (sym h) in
    (eqb-true (length I % line_size) 0 (not-false _ (x 2)), second (not (eqb (length t % op_numbers) 0)) _ (x 12))
  where
    second : (a b : Bool) → (a || not b) ≡ false → b ≡ true
    second true b e = absurd (true≢false e)
    second false b e = not-false b e

-- one operation more is played, of those that are left
pub played_more : (ops : List (List ℕ)) (i : ℕ) (J : Image) {I H : Image} → i < length ops → replay (map op_given (drop i ops)) J ≡ I
    → H ≡ apply (op_given (get_or ops i [])) J → replay (map op_given (drop (i + 1) ops)) H ≡ I
unfolding replay
played_more ops i J h p q = rw (add-one, q) (rw (drop-cons ops i [] h) at p)

inside : (t : Trace) (n : ℕ) → 3 * replay_count t n ≤ length t
unfolding replay_count
inside t n = omega arith

-- the image that a served call leaves
pub all_played : (I : Image) (t : Trace) (n : ℕ) {J : Image} → 0 ≡ replay_status I t n → J ≡ replay (map op_given (first_chunks 3 (replay_count t n) t)) I
    → J ≡ (replay_outcome I t n).image
unfolding replay_outcome replayed_ops
all_played I t n h p = rw (← h) (p ∙ ap (λ (O : Ops). replay O I) (decoded (replay_count t n) t (inside t n)))
