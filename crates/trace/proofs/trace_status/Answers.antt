use native.Mathlib.Omega.{arith}
use borrow.Author.Tests.{lt-ltb, le-ltb}
use Prim.Native.Nat.{◌*◌}
use lib.ListN.{length}
use Rattle.model.specs.Ops.{op_numbers, trace_short}
use Rattle.model.proofs.Laws.Status.{first_holds, first_fails, first_of_none}
use Rattle.trace.proofs.trace_status.Goals as goal

pub returns-then-room-ops : goal.returns-then-room-ops
unfolding trace_short
returns-then-room-ops c O t e h = first_holds 11 _ _ (lt-ltb (length t) (op_numbers * length O) (omega arith))

pub returns : goal.returns
unfolding trace_short
returns c O t e h = first_fails 11 0 _ _ (le-ltb (length t) (op_numbers * length O) (omega arith)) first_of_none
