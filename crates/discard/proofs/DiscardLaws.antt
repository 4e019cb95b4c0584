-- Laws of a discard: what its refusals leave, its operations as the code has them, and what a refused call gives.
use Prim.Native.Nat.{ℕ, ◌+◌, ◌*◌, ◌^◌, ◌<◌}
use mathlib.Core.Path.{◌≡◌, refl, ap, ◌∙◌}
use mathlib.Core.Bool.{Bool, true, false, cond}
use mathlib.Core.List.{[], ◌++◌}
use native.Mathlib.Omega.{arith}
use lib.ListN.{length}
use lib.Pow.{pow_pos}
use borrow.Author.Tests.{leb-false, not-false}
use Rattle.model.specs.declared.Layout.{Layout}
use Rattle.std.specs.Prelude.{Option, None, Some, Err}
use Rattle.model.specs.declared.Refusal.{Refusal}
use Rattle.model.specs.declared.Session.{Session}
use Rattle.model.specs.Words.{Image, word_at}
use Rattle.model.specs.Layout.{word_size, block_size, SizesOk, image_size, main_at}
use Rattle.model.specs.Status.{refusal_number, first_error}
use Rattle.model.specs.Container.{active_state, active_line, backup_to_main, Valid, checkpoint_located, main_errors}
use Rattle.model.specs.Session.{is_dirty, dirty_segment, dirty_word, context_errors}
use Rattle.model.specs.Ops.{Ops, Trace, for_domain, put_block, each_dirty}
use Rattle.model.specs.Clients.{Clients}
use Rattle.model.specs.Outcome.{lent, told, Gives}
use Rattle.model.specs.Discard.{restore_dirty, discard_ops, discard_status, discard_outcome}
use Rattle.model.proofs.Laws.Status.{served_condition}
use Rattle.model.proofs.Laws.Container.{container_then}
use Rattle.trace.proofs.CallLaws.{gives_refused}
use Rattle.session.proofs.SessionLaws.{words_within}
use Rattle.segments.proofs.DirtyLaws.{none_dirty}

-- ---- refusals 1 to 6

-- what they leave, where the code found none of them
pub record Discardable (s : Session) (I : Image) (i : ℕ) : Type 0 where
  pub main : i < s.layout.mains
  pub sizes : SizesOk s.layout
  pub long : length I ≡ image_size s.layout
  pub word : dirty_word s i < 2 ^ s.layout.blocks
  pub valid : Valid s.layout (active_state I) (backup_to_main I)

pub discardable : (s : Session) (I : Image) (i : ℕ) → first_error (context_errors s I ++ main_errors s.layout i) ≡ 0 → Discardable s I i
discardable s I i h =
    let c = (container_then s.layout I _ h).0 in
    let r = served_condition (context_errors s I ++ main_errors s.layout i) (omega arith) h in
    let m : i < s.layout.mains = leb-false _ _ (r 6) in
    record {
      main = m;
      sizes = c.sizes;
      long = c.long;
      word = words_within s (active_state I) (omega arith) (not-false _ (r 5)) i m;
      valid = c.valid;
    }

-- ---- the operations

-- word: the blocks that are stored again
module _ (s : Session) (I : Image) (i word : ℕ) (e : word ≡ cond (is_dirty s.dirty_segments i) (dirty_word s i) 0) where
  pub discarded_within : Discardable s I i → word < 2 ^ s.layout.blocks
  discarded_within d = rw e (go (is_dirty s.dirty_segments i))
    where
      go : (b : Bool) → cond b (dirty_word s i) 0 < 2 ^ s.layout.blocks
      go true = d.word
      go false = pow_pos s.layout.blocks

  pub discard_ops_lem : restore_dirty s.layout I word i (checkpoint_located s.layout I (active_line I) i) ≡ discard_ops s I i
  unfolding discard_ops dirty_segment
  discard_ops_lem = rw e (go (is_dirty s.dirty_segments i))
    where
      go : (b : Bool) → restore_dirty s.layout I (cond b (dirty_word s i) 0) i (checkpoint_located s.layout I (active_line I) i)
          ≡ cond b (restore_dirty s.layout I (dirty_word s i) i (checkpoint_located s.layout I (active_line I) i)) []
      go true = refl
      go false = unfold restore_dirty in (none_dirty s.layout.blocks _)

  -- a number n that the code found for them
  pub discarded_length : Discardable s I i → (n : ℕ)
      → ((d : ℕ) (l : Layout) (J : Image) (j : ℕ) (from : Option ℕ) → word < 2 ^ l.blocks → n ≡ length (for_domain d (restore_dirty l J word j from)))
      → n ≡ length (for_domain s.domain (discard_ops s I i))
  discarded_length d n k = k s.domain s.layout I i _ (discarded_within d) ∙ ap (λ (O : Ops). length (for_domain s.domain O)) discard_ops_lem

-- by where the code found the main segment and the active line of states, and by where it found the checkpoint: zeros, or from there
module _ (l : Layout) (I : Image) (word i : ℕ) {to line : ℕ} (place : to ≡ main_at l i) (active : line ≡ active_line I) where
  pub zero_ops : None ≡ checkpoint_located l I line i
      → each_dirty word l.blocks (λ b. put_block false (to + block_size * b) (λ _. 0)) ≡ restore_dirty l I word i (checkpoint_located l I (active_line I) i)
  unfolding restore_dirty
  zero_ops e = rw (place, ← active, ← e)

  pub copy_ops_lem : {p : ℕ} → Some p ≡ checkpoint_located l I line i
      → each_dirty word l.blocks (λ b. put_block false (to + block_size * b) (λ k. word_at I (p + block_size * b + word_size * k))) ≡ restore_dirty l I word i (checkpoint_located l I (active_line I) i)
  unfolding restore_dirty
  copy_ops_lem e = rw (place, ← active, ← e)
