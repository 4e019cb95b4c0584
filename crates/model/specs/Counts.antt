-- What the specification counts: write-backs, main segments that opening treats, dirty blocks (m). No outcome is defined by it; contracts of
-- helper functions cite it, the counts of kind 1 (`EadrCounts` in specs/Domains.antt), and the laws that the operations of a call number
-- what it says (proofs/Laws/Counts.antt). Assumes nothing.
use Rattle.std.specs.Prelude.{ℕ, ◌+◌, cond, List, eqb, get_or}
use Rattle.model.specs.declared.Layout.{Layout}
use Rattle.model.specs.declared.Action.{Action}
use Rattle.model.specs.declared.Action.TheVariants.{Nothing, ZeroMain, CopyToBackup, CopyToMain}
use Rattle.model.specs.Range.{sum_to, one_if}
use Rattle.model.specs.Words.{Image}
use Rattle.model.specs.Container.{seg_state, backup_to_main, is_paired}
use Rattle.model.specs.Layout.{block_words, block_lines}
use Rattle.model.specs.Session.{adr, is_dirty}
use Rattle.model.specs.Open.{recovery_action}

-- how many of n write-backs the trace has for a kind of module, and how many operations a block that is copied or zeroed: 36, or 32
abbrev pub flushes : ℕ → ℕ → ℕ
flushes d n = cond (eqb d adr) n 0

abbrev pub copied_ops : ℕ → ℕ
copied_ops d = block_words + flushes d block_lines

-- 1 for an action that treats a segment, 0 for `Nothing`
unfoldable pub acts : Action → ℕ
acts Nothing = 0
acts ZeroMain = 1
acts CopyToBackup = 1
acts CopyToMain = 1

-- how many main segments recovery treats
unfoldable pub treated : Layout → Image → ℕ → ℕ
treated l I line = sum_to l.mains (λ i. acts (recovery_action (seg_state I line i) (is_paired l (backup_to_main I) i)))

-- how many of n blocks are dirty by their bits in a word, and how many in all main segments by their words (SPECIFICATION
-- 10.6, 11.2: m)
unfoldable pub dirty_count : ℕ → ℕ → ℕ
dirty_count word n = sum_to n (λ b. one_if (is_dirty word b))

unfoldable pub dirty_total : Layout → List ℕ → ℕ
dirty_total l words = sum_to l.mains (λ i. dirty_count (get_or words i 0) l.blocks)
