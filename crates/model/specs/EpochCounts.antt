-- The epoch counts the checkpoints of a history. Proved in proofs/Sisters.antt. Assumes nothing.
use Rattle.std.specs.Prelude.{ℕ, ◌+◌, ◌≡◌, Bool, true, false, ◌&&◌, List, [], ◌∷◌}
use Rattle.model.specs.declared.Layout.{Layout}
use Rattle.model.specs.Range.{one_if}
use Rattle.model.specs.Words.{Image, Bytes}
use Rattle.model.specs.Container.{committed_epoch}
use Rattle.model.specs.Status.{served}
use Rattle.model.specs.Outcome.{Lent}
use Rattle.model.specs.Open.{open_status}
use Rattle.model.specs.Reference.{CallArgs, open_args, write_args, discard_args, checkpoint_args}
use Rattle.model.specs.History.{Call, State, outcome, step, run, start, AllPermitted}

-- whether a call is a checkpoint
abbrev pub is_checkpoint : CallArgs → Bool
is_checkpoint (open_args l d) = false
is_checkpoint (write_args w) = false
is_checkpoint (discard_args i) = false
is_checkpoint checkpoint_args = true

-- the checkpoints that a list of calls serves
unfoldable pub checkpoints : State → List Call → ℕ
checkpoints s [] = 0
checkpoints s (c ∷ cs) = one_if (is_checkpoint c.args && served (outcome s.device c).status) + checkpoints (step s c) cs

-- the epoch is the start's epoch and one more for each served checkpoint; nothing else changes it
abbrev pub EpochCounts : Type 0
EpochCounts =
    (l : Layout) (d : ℕ) (I : Image) (k : Lent) → Bytes I → open_status l d I k ≡ 0 → (cs : List Call) → AllPermitted cs
    → committed_epoch (run (start l d I k) cs).device.image ≡ committed_epoch I + checkpoints (start l d I k) cs
