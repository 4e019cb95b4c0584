-- Discard (SPECIFICATION 10.11; the trade: the second cancel piston): the edits of one main segment since the last checkpoint are dropped.
-- Assumes nothing.
use Rattle.std.specs.Prelude.{ℕ, ◌+◌, ◌*◌, false, cond, [], ◌++◌}
use Rattle.model.specs.declared.Layout.{Layout}
use Rattle.model.specs.declared.Session.{Session}
use Rattle.std.specs.Prelude.{Option, None, Some}
use Rattle.model.specs.Words.{Image, word_at}
use Rattle.model.specs.Layout.{word_size, block_size, main_at}
use Rattle.model.specs.Status.{Errors, first_error}
use Rattle.model.specs.Container.{active_line, checkpoint_located, main_errors}
use Rattle.model.specs.Session.{dirty_segment, dirty_word, context_errors}
use Rattle.model.specs.Ops.{Ops, for_domain, put_block, each_dirty, trace_errors}
use Rattle.model.specs.Outcome.{Lent, Outcome, outcome_of}

-- word k of block b of what stands there: as it is in the image, or 0 where nothing stands
abbrev pub located_word : Image → Option ℕ → ℕ → ℕ → ℕ
located_word I None b k = 0
located_word I (Some p) b k = word_at I (p + block_size * b + word_size * k)

-- the blocks of main segment i that are dirty by its word, stored again as they stand there, upward: 32 stores a block, which are not
-- written back
unfoldable pub restore_dirty : Layout → Image → ℕ → ℕ → Option ℕ → Ops
restore_dirty l I word i from =
    each_dirty word l.blocks (λ b. put_block false (main_at l i + block_size * b) (located_word I from b))

-- a dirty main segment, from where its checkpoint stands: it is in state 2 or 0 (`SessionValid`), so from its backup segment, or, without
-- a checkpoint, zeros; one that is not dirty needs nothing
unfoldable pub discard_ops : Session → Image → ℕ → Ops
discard_ops s I i =
    cond (dirty_segment s i) (restore_dirty s.layout I (dirty_word s i) i (checkpoint_located s.layout I (active_line I) i)) []

-- 1 to 5, 6 and 11
abbrev pub discard_errors : Session → Image → ℕ → Lent → Errors
discard_errors s I i k = context_errors s I ++ main_errors s.layout i ++ trace_errors (for_domain s.domain (discard_ops s I i)) k.trace

unfoldable pub discard_status : Session → Image → ℕ → Lent → ℕ
discard_status s I i k = first_error (discard_errors s I i k)

-- the session stays, served or not: the segment and its blocks stay dirty, for the next checkpoint must write them back; and so do the
-- records of clients, which it neither judges nor charges
unfoldable pub discard_outcome : Session → Image → ℕ → Lent → Outcome
discard_outcome s I i k = outcome_of (discard_status s I i k) s s k.clients k.clients s.domain (discard_ops s I i)
