-- Discard answers the same on two images that agree on the named bytes.
use Prim.Native.Nat.{ℕ, ◌+◌, ◌*◌, ◌<◌}
use mathlib.Core.Path.{◌≡◌, refl, ap, ◌∙◌}
use mathlib.Core.Bool.{not, cond}
use mathlib.Core.List.{[], ◌++◌}
use native.Mathlib.Omega.{arith}
use borrow.Author.Tests.{leb-false}
use Rattle.model.specs.Outcome.{Lent}
use Rattle.model.specs.declared.Layout.{Layout}
use Rattle.model.specs.declared.Session.{Session}
use Rattle.std.specs.Prelude.{Option, None, Some}
use Rattle.model.specs.Words.{Image}
use Rattle.model.specs.Layout.{word_size, block_size, main_at, SizesOk}
use Rattle.model.specs.Container.{active_line, checkpoint_located}
use Rattle.model.specs.Session.{is_dirty, dirty_word, dirty_segment}
use Rattle.model.specs.Ops.{Ops, put_block, trace_short, for_domain}
use Rattle.model.specs.Discard.{located_word, restore_dirty, discard_ops, discard_errors, discard_status, discard_outcome}
use Rattle.model.specs.Unread.{AgreeNamed}
use Rattle.model.proofs.Laws.Range.{cat_ext}
use Rattle.model.proofs.Laws.Status.{served_condition}
use Rattle.model.proofs.Laws.Container.{container_then}
use Rattle.model.proofs.Laws.Outcome.{outcome_same}
use Rattle.model.proofs.Laws.Unread.Metadata.{stores_ext, error_ext, segment_word, session_same, errors_same}
use Rattle.model.proofs.Laws.Unread.Reads.{InSegments, located_same, located_in}

module _ {I J : Image} (same : AgreeNamed I J) where
  word_same : (x : Option ℕ) (b k : ℕ) → InSegments same x → located_word I x b k ≡ located_word J x b k
  word_same None b k h = refl
  word_same (Some p) b k h = segment_word same (p + block_size * b + word_size * k) (omega arith)

  restore_same : (l : Layout) (word i : ℕ) (x : Option ℕ) → InSegments same x → restore_dirty l I word i x ≡ restore_dirty l J word i x
  unfolding restore_dirty put_block
  restore_same l word i x h = cat_ext l.blocks _ _ (λ b g.
      ap (λ (O : Ops). cond (is_dirty word b) (O ++ []) []) (stores_ext _ (main_at l i + block_size * b) _ _ (λ k y. word_same x b k h)))

  discard_ops_same : (s : Session) (i : ℕ) → SizesOk s.layout → i < s.layout.mains → discard_ops s I i ≡ discard_ops s J i
  unfolding discard_ops
  discard_ops_same s i sizes h =
      ap (λ (O : Ops). cond (dirty_segment s i) O [])
      (restore_same s.layout (dirty_word s i) i (checkpoint_located s.layout I (active_line I) i) (located_in same s.layout i)
      ∙ ap (restore_dirty s.layout J (dirty_word s i) i) (located_same same s.layout i sizes h))

  discard_status_unread : (s : Session) (i : ℕ) (t : Lent) → discard_status s I i t ≡ discard_status s J i t
  unfolding discard_status
  discard_status_unread s i t = errors_same same s.layout _ _ (λ sizes v.
      error_ext 5 _ _ _ _ (ap not (session_same same s sizes)) (λ a.
      error_ext 6 _ _ _ _ refl (λ b.
      error_ext 11 _ _ _ _ (ap (λ (O : Ops). trace_short (for_domain s.domain O) t.trace) (discard_ops_same s i sizes (leb-false _ _ b))) (λ c. refl))))

  pub discard_unread : (s : Session) (i : ℕ) (t : Lent) → discard_outcome s I i t ≡ discard_outcome s J i t
  unfolding discard_outcome discard_status
  discard_unread s i t = outcome_same _ _ s _ s.domain (discard_status_unread s i t) (λ z. refl) (λ z. refl)
      (λ z. discard_ops_same s i (container_then s.layout I _ z).0.sizes (leb-false _ _ (served_condition (discard_errors s I i t) (omega arith) z 6)))
