use Prim.Native.Nat.{ℕ, ◌+◌, ◌*◌}
use mathlib.Core.List.{List}
use lib.ListN.{get_or}
use Rattle.model.specs.declared.Layout.{Layout}
use Rattle.model.specs.Range.{cat}
use Rattle.model.specs.Layout.{block_size, block_lines, main_at}
use Rattle.model.specs.Ops.{Ops, clwbs, each_dirty}
use Rattle.words.proofs.WalkLaws.{Walk}
use Rattle.trace.specs.Emit.{Emitted}
use Rattle.checkpoint.proofs.put_flushes.Given as goal

-- what is written for main segment i, by the words of dirty blocks: nothing where its word is 0
abbrev pub flushed : Layout → List ℕ → ℕ → Ops
flushed layout words i = each_dirty (get_or words i 0) layout.blocks (λ b. clwbs block_lines (main_at layout i + block_size * b))

abbrev pub invariant-loop-i : goal.invariant-loop-i
invariant-loop-i l = (k : ℕ) × (Walk l.marked l.layout.mains l.i-iterator.rest k × Emitted l.initial.out (cat k (flushed l.layout l.words)) l.out)
