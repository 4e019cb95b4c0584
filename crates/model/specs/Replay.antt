-- Replay of a trace (SPECIFICATION 6.6; the trade: the player). Assumes nothing.
use Rattle.std.specs.Prelude.{ℕ, ◌+◌, ◌*◌, ◌/◌, ◌%◌, min, Bool, not, cond, ◌&&◌, ◌||◌, [], ◌∷◌, ltb, eqb, length, take, get_or}
use Rattle.model.specs.Range.{all_b}
use Rattle.model.specs.Words.{Image}
use Rattle.model.specs.Layout.{word_size, line_size}
use Rattle.model.specs.Status.{Errors, first_error, served}
use Rattle.model.specs.Ops.{op_numbers, Ops, Trace, op_store, op_clwb, op_sfence, decode, replay}

-- three numbers are an operation on an image of so many lines; p is a place, p / 64 the number of its line
unfoldable pub well_formed : ℕ → ℕ → ℕ → ℕ → Bool
well_formed lines kind p w =
    ltb (p / line_size) lines
    && (eqb kind op_store && eqb (p % word_size) 0
    || eqb kind op_clwb && eqb (p % line_size) 0 && eqb w 0
    || eqb kind op_sfence && eqb p 0 && eqb w 0)

-- the first n operations of a trace are well formed
unfoldable pub all_well_formed : ℕ → Trace → ℕ → Bool
all_well_formed lines t n = all_b n (λ k. well_formed lines (get_or t (op_numbers * k) 0) (get_or t (op_numbers * k + 1) 0) (get_or t (op_numbers * k + 2) 0))

-- how many operations are to be replayed: n, or all if there are fewer
unfoldable pub replay_count : Trace → ℕ → ℕ
replay_count t n = min n (length t / op_numbers)

abbrev pub replay_errors : Image → Trace → ℕ → Errors
replay_errors I t n =
    (2, not (eqb (length I % line_size) 0))
    ∷ (12, not (eqb (length t % op_numbers) 0) || not (all_well_formed (length I / line_size) t (replay_count t n))) ∷ []

-- the status, how many operations were played (a number; `played` of a module is a list), and the image
pub record Replayed : Type 0 where
  pub status : ℕ
  pub played : ℕ
  pub image : Image

-- the operations that replay plays
unfoldable pub replayed_ops : Trace → ℕ → Ops
replayed_ops t k = decode (take (op_numbers * k) t)

unfoldable pub replay_status : Image → Trace → ℕ → ℕ
replay_status I t n = first_error (replay_errors I t n)

unfoldable pub replay_outcome : Image → Trace → ℕ → Replayed
replay_outcome I t n =
    let e : ℕ = replay_status I t n in
    record {
      status = e;
      played = cond (served e) (replay_count t n) 0;
      image = cond (served e) (replay (replayed_ops t (replay_count t n)) I) I;
    }
