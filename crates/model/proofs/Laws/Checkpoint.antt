-- Laws of checkpoint: the state of a segment after it.
use Prim.Native.Nat.{ℕ, zero, suc, ◌≤◌}
use mathlib.Core.Path.{◌≡◌, refl}
use mathlib.Core.Bool.{Bool, true, false}
use native.Mathlib.Omega.{arith}
use Rattle.model.specs.Container.{by_state}
use Rattle.model.specs.Checkpoint.{next_state}

-- the state after a checkpoint is 0 or 1, and 0 only for a segment that was in state 0 and is not dirty
pub next_most : (st : ℕ) (dirty : Bool) → next_state st dirty ≤ 1
unfolding next_state by_state
next_most zero true = omega arith
next_most zero false = omega arith
next_most (suc zero) dirty = omega arith
next_most (suc (suc n)) dirty = omega arith

pub next_initial : (st : ℕ) (dirty : Bool) → next_state st dirty ≡ 0 → (st ≡ 0) × (dirty ≡ false)
unfolding next_state by_state
next_initial zero true e = absurd (omega arith)
next_initial zero false e = (refl, refl)
next_initial (suc zero) dirty e = absurd (omega arith)
next_initial (suc (suc n)) dirty e = absurd (omega arith)

-- such a segment stays in state 0
pub next_clean : next_state 0 false ≡ 0
unfolding next_state by_state
next_clean = refl
