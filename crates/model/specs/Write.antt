-- Write (SPECIFICATION 10). Assumes nothing.
use Rattle.std.specs.Prelude.{ℕ, ◌+◌, ◌-◌, ◌*◌, ◌/◌, Bool, true, false, not, cond, ◌&&◌, ◌||◌, List, [], ◌∷◌, ◌++◌, leb, ltb, eqb, length}
use Rattle.model.specs.declared.Layout.{Layout}
use Rattle.model.specs.declared.Session.{Session}
use Rattle.model.specs.declared.Plan.{Plan}
use Rattle.model.specs.declared.Plan.TheVariants.{NoCopy, OwnBackup, NewBackup, NoneFree}
use Rattle.model.specs.Words.{Image, byte_at, word_of, overlay}
use Rattle.model.specs.Layout.{word_size, block_size, pairs_at, ss_main, ss_backup, main_at, backup_at}
use Rattle.model.specs.Status.{Errors, first_error}
use Rattle.model.specs.Container.{active_state, active_line, backup_to_main, is_paired, paired_backup, any_free, free_backups, new_backup, main_errors, block_errors}
use Rattle.model.specs.Session.{dirty_segment, dirty_word, with_dirty, context_errors}
use Rattle.model.specs.Ops.{clwb, sfence, Ops, Trace, trace_errors, for_domain, stores, persist_copy, copy_segment, each_dirty, word_place, store_byte}
use Rattle.model.specs.Clients.{Clients, charged, client_errors, share_errors}
use Rattle.model.specs.Outcome.{Lent, Outcome, outcome_of}

-- what a write is given: the number of its client, main segment, block, offset in the block, and the bytes (the trade: console, level,
-- frame, offset, bytes), which may run on through the following blocks of the main segment
pub record WriteArgs : Type 0 where
  pub client : ℕ
  pub main : ℕ
  pub block : ℕ
  pub offset : ℕ
  pub bytes : List ℕ

abbrev pub write_args_of : ℕ → ℕ → ℕ → ℕ → List ℕ → WriteArgs
write_args_of client main block offset bytes = record { client = client; main = main; block = block; offset = offset; bytes = bytes }

-- the segment must be copied first: it is not dirty, and its state is 1 (SPECIFICATION 10.3)
unfoldable pub needs_copy : Session → Image → ℕ → Bool
needs_copy s I i = not (dirty_segment s i) && eqb (active_state I i) ss_main

-- and it has no backup segment to be copied to
unfoldable pub needs_backup : Session → Image → ℕ → Bool
needs_backup s I i = needs_copy s I i && not (is_paired s.layout (backup_to_main I) i)

-- the plan of the copy: none; to its own backup segment; to the new one (SPECIFICATION 3.4); or none is free
unfoldable pub copy_plan : Session → Image → ℕ → Plan
copy_plan s I i =
    cond (needs_copy s I i)
    (cond (is_paired s.layout (backup_to_main I) i) (OwnBackup (paired_backup s.layout (backup_to_main I) i))
    (cond (any_free s.layout (active_state I) (backup_to_main I)) (NewBackup (new_backup s.layout (active_state I) (backup_to_main I))) NoneFree))
    NoCopy

-- the plan copies the segment
abbrev pub copies : Plan → Bool
copies NoCopy = false
copies (OwnBackup j) = true
copies (NewBackup j) = true
copies NoneFree = false

-- a new backup segment is needed, and none is free
abbrev pub none_free : Plan → Bool
none_free NoCopy = false
none_free (OwnBackup j) = false
none_free (NewBackup j) = false
none_free NoneFree = true

-- ---- the operations

-- the pair byte of backup segment j becomes i, and its line is written back
unfoldable pub pair_ops : Image → ℕ → ℕ → Ops
pair_ops I i j = store_byte I (pairs_at + j) i ∷ clwb pairs_at ∷ []

-- the blocks of main segment i that are dirty by its word, copied to its backup segment j, upward
unfoldable pub copy_dirty : Layout → Image → ℕ → ℕ → ℕ → Ops
copy_dirty l I word i j = each_dirty word l.blocks (λ b. persist_copy I (main_at l i + block_size * b) (backup_at l j + block_size * b))

-- the bytes of main segment i come to stand in the plan's backup segment too: in its own by the dirty blocks, in the new
-- one by its pair byte and all blocks
unfoldable pub backup_ops : Layout → Image → ℕ → ℕ → Plan → Ops
backup_ops l I word i NoCopy = []
backup_ops l I word i (OwnBackup j) = copy_dirty l I word i j
backup_ops l I word i (NewBackup j) = pair_ops I i j ++ copy_segment l I (main_at l i) (backup_at l j)
backup_ops l I word i NoneFree = []

-- the active state of main segment i becomes 2
unfoldable pub state_ops : Image → ℕ → Ops
state_ops I i = store_byte I (active_line I + i) ss_backup ∷ clwb (active_line I) ∷ []

-- copy on write, where the plan copies: the backup, a fence, state 2, a fence
unfoldable pub copy_on_write_ops : Layout → Image → ℕ → ℕ → Plan → Ops
copy_on_write_ops l I word i p = cond (copies p) (backup_ops l I word i p ++ sfence ∷ state_ops I i ++ sfence ∷ []) []

-- where a span starts, how many words it meets (SPECIFICATION 10.4: w), and how many blocks, from its own on; Span.antt says
-- in plain words that it is these words and blocks
abbrev pub span_at : Layout → WriteArgs → ℕ
span_at l w = main_at l w.main + (block_size * w.block + w.offset)

abbrev pub span_words : ℕ → ℕ → ℕ
span_words a n = (a + n - 1) / word_size - a / word_size + 1

abbrev pub span_blocks : WriteArgs → ℕ
span_blocks w = (w.offset + length w.bytes - 1) / block_size + 1

-- the words that bytes at a place meet, upward, with the bytes laid over what stands there; they are not written back
abbrev pub span_stores : Image → ℕ → List ℕ → Ops
span_stores I a bs = stores (span_words a (length bs)) (word_place a) (λ k. word_of (overlay (byte_at I) a bs) (word_place a + word_size * k))

unfoldable pub span_ops : Layout → Image → WriteArgs → Ops
span_ops l I w = span_stores I (span_at l w) w.bytes

unfoldable pub write_ops : Session → Image → WriteArgs → Ops
write_ops s I w =
    copy_on_write_ops s.layout I (dirty_word s w.main) w.main (copy_plan s I w.main) ++ span_ops s.layout I w

-- the session afterwards: a copy clears the segment's dirty blocks; then the segment and the blocks of the span are dirty
unfoldable pub write_session : Session → Image → WriteArgs → Session
write_session s I w =
    with_dirty s w.main w.block (span_blocks w) (cond (needs_copy s I w.main) 0 (dirty_word s w.main))

-- the records of all clients afterwards: a copy is charged to the client that made the write (SPECIFICATION 10.10)
unfoldable pub write_clients : Session → Image → WriteArgs → Clients → Clients
write_clients s I w R = cond (needs_copy s I w.main) (charged R w.client) R

-- ---- refusals and outcome

-- an empty span, one whose offset is not in its block, or one that leaves its main segment (SPECIFICATION 10.9)
unfoldable pub span_bad : Layout → WriteArgs → Bool
span_bad l w =
    eqb (length w.bytes) 0 || leb block_size w.offset
    || ltb (block_size * (l.blocks - w.block)) (w.offset + length w.bytes)

abbrev pub span_errors : Layout → WriteArgs → Errors
span_errors l w = (8, span_bad l w) ∷ []

abbrev pub backup_errors : Plan → Errors
backup_errors p = (9, none_free p) ∷ []

-- 1 to 5, 13, and 6 to 8, which do not depend on the plan of the copy; 9, 14, 15 and 11, by the plan, the free backup segments and the
-- operations
abbrev pub early_errors : Session → Image → Clients → WriteArgs → Errors
early_errors s I R w =
    context_errors s I ++ client_errors s.layout R w.client
    ++ main_errors s.layout w.main ++ block_errors s.layout w.block ++ span_errors s.layout w

abbrev pub late_errors : Plan → Clients → ℕ → ℕ → Ops → Trace → Errors
late_errors p R client free O t = backup_errors p ++ share_errors (copies p) R client free ++ trace_errors O t

abbrev pub write_errors : Session → Image → WriteArgs → Lent → Errors
write_errors s I w k =
    early_errors s I k.clients w
    ++ late_errors (copy_plan s I w.main) k.clients w.client (free_backups s.layout (active_state I) (backup_to_main I))
    (for_domain s.domain (write_ops s I w)) k.trace

unfoldable pub write_status : Session → Image → WriteArgs → Lent → ℕ
write_status s I w k = first_error (write_errors s I w k)

unfoldable pub write_outcome : Session → Image → WriteArgs → Lent → Outcome
write_outcome s I w k =
    outcome_of (write_status s I w k) s (write_session s I w) k.clients (write_clients s I w k.clients) s.domain (write_ops s I w)
