-- Lengths of a trace that always suffice: with that many numbers no opening, write, discard or checkpoint of these sizes is
-- refused with 11, whatever the image, the session and the kind of module. Proved in proofs/Laws/TraceLength.antt. Assumes nothing.
use Rattle.std.specs.Prelude.{ℕ, ◌+◌, ◌*◌, ◌≤◌, ◌≢◌, length}
use Rattle.model.specs.declared.Layout.{Layout}
use Rattle.model.specs.declared.Session.{Session}
use Rattle.model.specs.Words.{Image}
use Rattle.model.specs.Layout.{block_words, block_lines, line_words, block_ops}
use Rattle.model.specs.Ops.{op_numbers}
use Rattle.model.specs.Outcome.{Lent}
use Rattle.model.specs.Open.{open_status}
use Rattle.model.specs.Write.{WriteArgs, write_status}
use Rattle.model.specs.Discard.{discard_status}
use Rattle.model.specs.Checkpoint.{checkpoint_status}

-- operations of a word that is stored and written back, of the states of a line that are, and of a fence
abbrev pub word_ops : ℕ
word_ops = 2

abbrev pub line_ops : ℕ
line_ops = line_words + 1

abbrev pub fence_ops : ℕ
fence_ops = 1

-- the most operations of an opening: every main segment treated, a fence
abbrev pub most_open_ops : Layout → ℕ
most_open_ops l = block_ops * l.blocks * l.mains + fence_ops

-- of a write: a pair, every block copied, a fence, a state, a fence; then the words of every block
abbrev pub most_write_ops : Layout → ℕ
most_write_ops l = block_ops * l.blocks + (word_ops + fence_ops + word_ops + fence_ops) + block_words * l.blocks

-- of a discard: the words of every block
abbrev pub most_discard_ops : Layout → ℕ
most_discard_ops l = block_words * l.blocks

-- of a checkpoint: every block written back, a fence, the states, a fence, the epoch, a fence
abbrev pub most_checkpoint_ops : Layout → ℕ
most_checkpoint_ops l = block_lines * l.blocks * l.mains + (fence_ops + line_ops + fence_ops + word_ops + fence_ops)

abbrev pub TraceSuffices : Type 0
TraceSuffices = (l : Layout) (d : ℕ) (I : Image) (k : Lent) → op_numbers * most_open_ops l ≤ length k.trace → open_status l d I k ≢ 11

abbrev pub WriteTraceSuffices : Type 0
WriteTraceSuffices =
    (s : Session) (I : Image) (w : WriteArgs) (k : Lent) → op_numbers * most_write_ops s.layout ≤ length k.trace → write_status s I w k ≢ 11

abbrev pub DiscardTraceSuffices : Type 0
DiscardTraceSuffices =
    (s : Session) (I : Image) (i : ℕ) (k : Lent) → op_numbers * most_discard_ops s.layout ≤ length k.trace → discard_status s I i k ≢ 11

abbrev pub CheckpointTraceSuffices : Type 0
CheckpointTraceSuffices =
    (s : Session) (I : Image) (k : Lent) → op_numbers * most_checkpoint_ops s.layout ≤ length k.trace → checkpoint_status s I k ≢ 11
