-- What a checkpoint may show, in numbers of its operations, and what the numbers 6, 7 and 9 say.
use Prim.Native.Nat.{ℕ, ◌+◌, ◌*◌, ◌≤◌, ◌<◌}
use mathlib.Core.Path.{◌≡◌, sym, ◌∙◌}
use mathlib.Core.Bool.{true, not, ◌&&◌, false≢true}
use native.Mathlib.Omega.{arith}
use borrow.Author.Tests.{eq-eqb, leb-true}
use Rattle.model.specs.declared.Layout.{Layout}
use Rattle.model.specs.declared.Session.{Session}
use Rattle.model.specs.Words.{Image}
use Rattle.model.specs.Container.{active_state, backup_to_main, Free, any_free}
use Rattle.model.specs.Outcome.{Lent, outcome_of}
use Rattle.model.specs.Write.{WriteArgs, needs_backup, write_errors, write_status}
use Rattle.model.specs.Checkpoint.{checkpoint_status, checkpoint_outcome}
use Rattle.model.specs.Reads.{read_errors, read_status}
use Rattle.model.specs.Reference.{Page, model_step}
use Rattle.model.specs.History.{call_checkpoint, State, step}
use Rattle.model.specs.Counts.{flushes, dirty_total}
use Rattle.model.specs.CrashSafety.{between, during, MayShow}
use Rattle.model.proofs.Allowed.{shown_outside}
use Rattle.model.proofs.Laws.Range.{and_left, and_right}
use Rattle.model.proofs.Laws.Status.{given_condition}
use Rattle.model.proofs.Laws.Container.{any_free_lem}
use Rattle.model.proofs.Laws.Write.{plan_none_free}
use Rattle.model.proofs.Laws.Counts.Checkpoint.{window_is}

-- ---- the pages that a checkpoint may show

-- a served checkpoint with m dirty blocks: the old one until the operation that stores the epoch is played, which is number 4 * m + 12 on
-- kind 0 and number 11 on kind 1; the new one once it is played whole
module _ (s : State) (t : Lent) (p : ℕ) (Q : Page) (h : checkpoint_status s.device.session s.device.image t ≡ 0) where
  abbrev k : ℕ
  k = s.device.session.domain

  abbrev m : ℕ
  m = dirty_total s.device.session.layout s.device.session.dirty_blocks

  pub shown_before : p < flushes k (4 * m) + (11 + flushes k 1) → MayShow s (during (call_checkpoint t) p) Q → Q ≡ s.model.checkpoint
  shown_before l x = shown_outside s (call_checkpoint t) p Q (λ w. omega (arith, ((window_is s.device t p h).0 w).0)) x

  pub shown_after : MayShow (step s (call_checkpoint t)) between Q → Q ≡ s.model.working
  unfolding step model_step checkpoint_outcome outcome_of
  shown_after x = x ∙ rw (eq-eqb _ _ h)

-- ---- what a number says

-- a read: 6 for a main segment, 7 for a block that is not there
module _ (l : Layout) (I : Image) (i b : ℕ) where
  pub read_six : read_status l I i b ≡ 6 → l.mains ≤ i
  unfolding read_status
  read_six h = leb-true _ _ (given_condition 6 (read_errors l I i b) (omega arith) h)

  pub read_seven : read_status l I i b ≡ 7 → l.blocks ≤ b
  unfolding read_status
  read_seven h = leb-true _ _ (given_condition 7 (read_errors l I i b) (omega arith) h)

-- a write: 9 only if it needs a new backup segment and none is free by the active line
module _ (s : Session) (I : Image) (w : WriteArgs) (t : Lent) (h : write_status s I w t ≡ 9) where
  nine : (needs_backup s I w.main && not (any_free s.layout (active_state I) (backup_to_main I))) ≡ true
  unfolding write_status
  nine = sym (plan_none_free s I w.main) ∙ given_condition 9 (write_errors s I w t) (omega arith) h

  pub nine_needs : needs_backup s I w.main ≡ true
  nine_needs = and_left _ _ nine

  pub nine_none_free : (k : ℕ) → Free s.layout (active_state I) (backup_to_main I) k → ⊥
  nine_none_free k f =
      let e : not true ≡ true = rw ((any_free_lem s.layout (active_state I) (backup_to_main I)).1 (k, f)) at (and_right (needs_backup s I w.main) _ nine) in
      false≢true e
