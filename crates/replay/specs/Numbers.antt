-- An operation as the three numbers that it has on a trace. Assumes nothing.
use Rattle.std.specs.Prelude.{ℕ, Bool, List, get_or}
use Rattle.model.specs.Ops.{Op, op_of}
use Rattle.model.specs.Replay.{well_formed}

-- whether they are an operation on an image of so many lines
abbrev pub op_well_formed : ℕ → List ℕ → Bool
op_well_formed lines op = well_formed lines (get_or op 0 0) (get_or op 1 0) (get_or op 2 0)

-- the operation that they are
abbrev pub op_given : List ℕ → Op
op_given op = op_of (get_or op 0 0) (get_or op 1 0) (get_or op 2 0)
