-- The comparison of two checkpoints (SPECIFICATION 13; the trade: likeness): which main segments have none, and the bytes of the others.
-- Assumes nothing.
use Rattle.std.specs.Prelude.{ℕ, ◌*◌, Bool, false, cond, ◌&&◌, List, ◌++◌, eqb, get_or}
use Rattle.std.specs.Bool.{beq}
use Rattle.model.specs.declared.Layout.{Layout}
use Rattle.model.specs.Range.{all_b}
use Rattle.model.specs.Words.{Image}
use Rattle.model.specs.Layout.{ss_initial, segment_size}
use Rattle.model.specs.Status.{Errors, first_error, served}
use Rattle.model.specs.Container.{active_line, active_state, checkpoint_bytes, container_errors}

-- the first image wholly before the second
abbrev pub same_errors : Layout → Image → Image → Errors
same_errors l I J = container_errors l I ++ container_errors l J

-- of the main segments below n the same are in state 0, by the states st of one image and su of another (the trade: the same levels
-- are empty)
unfoldable pub same_initial : ℕ → (ℕ → ℕ) → (ℕ → ℕ) → Bool
same_initial n st su = all_b n (λ i. beq (eqb (st i) ss_initial) (eqb (su i) ss_initial))

-- two lists have the same n first elements
unfoldable pub same_bytes : ℕ → List ℕ → List ℕ → Bool
same_bytes n x y = all_b n (λ k. eqb (get_or x k 0) (get_or y k 0))

-- the same main segments are in state 0, each image by its own active line, and all checkpoint bytes of the two images agree
unfoldable pub same_checkpoint : Layout → Image → Image → Bool
same_checkpoint l I J =
    same_initial l.mains (active_state I) (active_state J)
    && same_bytes (segment_size l * l.mains) (checkpoint_bytes l I (active_line I)) (checkpoint_bytes l J (active_line J))

pub record Compared : Type 0 where
  pub status : ℕ
  pub same : Bool

abbrev pub same_status : Layout → Image → Image → ℕ
same_status l I J = first_error (same_errors l I J)

unfoldable pub same_outcome : Layout → Image → Image → Compared
same_outcome l I J =
    let e : ℕ = same_status l I J in
    record { status = e; same = cond (served e) (same_checkpoint l I J) false }
