-- Lengths of a trace that always suffice: 11 is then never given.
use Prim.Native.Nat.{ℕ, ◌+◌, ◌*◌, ◌≤◌}
use mathlib.Core.Path.{◌≡◌, sym, ◌∙◌}
use mathlib.Core.Logic.{◌≢◌}
use mathlib.Core.Bool.{Bool, true, false, cond, true≢false}
use mathlib.Core.List.{List}
use native.Mathlib.Omega.{arith}
use lib.ListN.{length, get_or}
use borrow.Author.Tests.{le-ltb}
use Rattle.model.specs.declared.Layout.{Layout}
use Rattle.model.specs.declared.Session.{Session}
use Rattle.model.specs.declared.Plan.{Plan}
use Rattle.model.specs.declared.Plan.TheVariants.{NoCopy, OwnBackup, NewBackup, NoneFree}
use Rattle.model.specs.Range.{one_if}
use Rattle.model.specs.Layout.{block_words}
use Rattle.model.specs.Words.{Image}
use Rattle.model.specs.Container.{active_line}
use Rattle.model.specs.Session.{adr, is_dirty, dirty_word, dirty_segment}
use Rattle.model.specs.Ops.{Ops, Trace, trace_short, for_domain}
use Rattle.model.specs.Open.{recovery_ops, open_errors, open_status}
use Rattle.model.specs.Write.{WriteArgs, copy_plan, span_bad, write_ops, write_errors, write_status}
use Rattle.model.specs.Discard.{discard_ops, discard_errors, discard_status}
use Rattle.model.specs.Checkpoint.{checkpoint_ops, checkpoint_errors, checkpoint_status}
use Rattle.model.specs.Counts.{dirty_count, dirty_total}
use Rattle.model.specs.TraceLength.{TraceSuffices, WriteTraceSuffices, DiscardTraceSuffices, CheckpointTraceSuffices}
use Rattle.model.proofs.Laws.Status.{given_condition, given_earlier}
use Rattle.model.proofs.Laws.Domain.{domain_shorter}
use Rattle.model.proofs.Laws.Counts.{count_adr, recovery_most}
use Rattle.model.proofs.Laws.Counts.Checkpoint.{count_checkpoint}
use Rattle.model.proofs.Laws.Counts.Discard.{count_discard}
use Rattle.model.proofs.Laws.Counts.Write.{copy_count, span_count, count_write}
use Rattle.model.proofs.Laws.Range.{one-most, sum-most}
use Rattle.model.proofs.Laws.Write.{span_good}

-- a trace that is long enough for all operations of a rule is so for those that it has for a kind of module
pub long_enough : (d : ℕ) (O : Ops) (t : Trace) → 3 * length O ≤ length t → trace_short (for_domain d O) t ≢ true
unfolding trace_short
long_enough d O t h e = true≢false (sym e ∙ le-ltb (length t) (3 * length (for_domain d O)) (omega (arith, domain_shorter d O)))

pub trace_suffices : TraceSuffices
unfolding open_status
trace_suffices l d I t h e =
    long_enough d (recovery_ops l I (active_line I)) t.trace (omega (arith, recovery_most l I (active_line I))) (given_condition 11 (open_errors l d I t) (omega arith) e)

-- ---- write

pub dirty_most : (word n : ℕ) → dirty_count word n ≤ n
unfolding dirty_count
dirty_most word n = omega (arith, sum-most n 1 (λ b. one_if (is_dirty word b)) (λ b h. one-most (is_dirty word b)))

-- a span within a main segment meets at most its words: a segment starts at a word
span_most : (l : Layout) (w : WriteArgs) → span_bad l w ≡ false → span_count l w ≤ block_words * l.blocks
span_most l w h = let g = span_good l w h in omega (arith, g)

copy_most : (l : Layout) (word : ℕ) (p : Plan) → copy_count adr l word p ≤ 36 * l.blocks + 6
copy_most l word NoCopy = omega arith
copy_most l word (OwnBackup j) = omega (arith, dirty_most word l.blocks)
copy_most l word (NewBackup j) = omega arith
copy_most l word NoneFree = omega arith

write-most : (s : Session) (I : Image) (w : WriteArgs) → span_bad s.layout w ≡ false
    → length (write_ops s I w) ≤ 36 * s.layout.blocks + 6 + block_words * s.layout.blocks
write-most s I w h = omega (arith, span_most s.layout w h, count_adr (write_ops s I w) (count_write adr s I w), copy_most s.layout (dirty_word s w.main) (copy_plan s I w.main))

pub write_trace_suffices : WriteTraceSuffices
unfolding write_status
write_trace_suffices s I w t h e =
    long_enough s.domain (write_ops s I w) t.trace (omega (arith, write-most s I w (given_earlier 11 (write_errors s I w t) (omega arith) e 8)))
    (given_condition 11 (write_errors s I w t) (omega arith) e)

-- ---- discard

discard-most : (s : Session) (I : Image) (i : ℕ) → length (discard_ops s I i) ≤ block_words * s.layout.blocks
discard-most s I i = go (dirty_segment s i) (count_adr (discard_ops s I i) (count_discard adr s I i))
  where
    go : (d : Bool) → length (discard_ops s I i) ≡ cond d (32 * dirty_count (dirty_word s i) s.layout.blocks) 0 → length (discard_ops s I i) ≤ 32 * s.layout.blocks
    go true e = omega (arith, dirty_most (dirty_word s i) s.layout.blocks)
    go false e = omega arith

pub discard_trace_suffices : DiscardTraceSuffices
unfolding discard_status
discard_trace_suffices s I i t h e =
    long_enough s.domain (discard_ops s I i) t.trace (omega (arith, discard-most s I i)) (given_condition 11 (discard_errors s I i t) (omega arith) e)

-- ---- checkpoint

total_most : (l : Layout) (words : List ℕ) → dirty_total l words ≤ l.blocks * l.mains
unfolding dirty_total
total_most l words = sum-most l.mains l.blocks _ (λ i h. dirty_most (get_or words i 0) l.blocks)

pub checkpoint_trace_suffices : CheckpointTraceSuffices
unfolding checkpoint_status
checkpoint_trace_suffices s I t h e =
    long_enough s.domain (checkpoint_ops s I) t.trace (omega (arith, count_adr (checkpoint_ops s I) (count_checkpoint s I adr), total_most s.layout s.dirty_blocks))
    (given_condition 11 (checkpoint_errors s I t) (omega arith) e)
