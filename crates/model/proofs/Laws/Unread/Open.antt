-- Opening answers the same on two images that agree on the named bytes.
use Prim.Native.Nat.{ℕ, ◌+◌, ◌*◌, ◌≤◌}
use mathlib.Core.Path.{◌≡◌, refl, ap, ap₂, ◌∙◌}
use mathlib.Core.List.{[], ◌∷◌, ◌++◌}
use native.Mathlib.Omega.{arith}
use Rattle.model.specs.Outcome.{Lent}
use Rattle.model.specs.Clients.{clients_errors}
use Rattle.model.specs.declared.Layout.{Layout}
use Rattle.model.specs.declared.Action.{Action}
use Rattle.model.specs.declared.Action.TheVariants.{Nothing, ZeroMain, CopyToBackup, CopyToMain}
use Rattle.model.specs.Words.{Image}
use Rattle.model.specs.Layout.{word_size, block_size, metadata_size, block_lines, SizesOk, main_at, backup_at}
use Rattle.model.specs.Status.{first_error}
use Rattle.model.specs.Container.{active_line}
use Rattle.model.specs.Session.{zero_session, domain_errors}
use Rattle.model.specs.Ops.{sfence, Ops, trace_errors, for_domain, clwbs, put_block, persist_copy, copy_segment}
use Rattle.model.specs.Open.{recovery_action, action_ops, recover_segment, recovery_ops, open_status, open_outcome}
use Rattle.model.specs.Unread.{AgreeNamed}
use Rattle.model.proofs.Laws.Range.{cat_ext}
use Rattle.model.proofs.Laws.Container.{container_then}
use Rattle.model.proofs.Laws.Outcome.{outcome_same}
use Rattle.model.proofs.Laws.Unread.Metadata.{stores_ext, state_same, segment_word, paired_same, backup_same, errors_same}

module _ {I J : Image} (same : AgreeNamed I J) where
  pub copy_same : (from to : ℕ) → metadata_size ≤ from → persist_copy I from to ≡ persist_copy J from to
  unfolding persist_copy put_block
  copy_same from to h = ap (λ (O : Ops). O ++ clwbs block_lines to) (stores_ext _ to _ _ (λ k g. segment_word same (from + word_size * k) (omega arith)))

  pub copy_segment_same : (l : Layout) (from to : ℕ) → metadata_size ≤ from → copy_segment l I from to ≡ copy_segment l J from to
  unfolding copy_segment
  copy_segment_same l from to h = cat_ext l.blocks _ _ (λ b g. copy_same (from + block_size * b) (to + block_size * b) (omega arith))

  action_same : (l : Layout) (i j : ℕ) (a : Action) → action_ops l I i j a ≡ action_ops l J i j a
  unfolding action_ops
  action_same l i j Nothing = refl
  action_same l i j ZeroMain = refl
  action_same l i j CopyToBackup = copy_segment_same l (main_at l i) (backup_at l j) (omega arith)
  action_same l i j CopyToMain = copy_segment_same l (backup_at l j) (main_at l i) (omega arith)

  recovery_same : (l : Layout) → SizesOk l → recovery_ops l I (active_line I) ≡ recovery_ops l J (active_line J)
  unfolding recovery_ops recover_segment
  recovery_same l sizes = ap (λ (O : Ops). O ++ sfence ∷ []) (cat_ext l.mains _ _ (λ i h.
      action_same l i _ _
      ∙ ap₂ (λ (j : ℕ) (a : Action). action_ops l J i j a) (backup_same same l sizes i)
      (ap₂ recovery_action (state_same same i (omega arith)) (paired_same same l sizes i))))

  pub open_status_unread : (l : Layout) (d : ℕ) (t : Lent) → open_status l d I t ≡ open_status l d J t
  unfolding open_status
  open_status_unread l d t = errors_same same l _ _ (λ sizes v.
      ap (λ (O : Ops). first_error (domain_errors d ++ clients_errors l t.clients ++ trace_errors (for_domain d O) t.trace)) (recovery_same l sizes))

  pub open_unread : (l : Layout) (d : ℕ) (t : Lent) → open_outcome l d I t ≡ open_outcome l d J t
  unfolding open_outcome open_status
  open_unread l d t = outcome_same _ _ zero_session _ d (open_status_unread l d t) (λ z. refl) (λ z. refl) (λ z. recovery_same l (container_then l I _ z).0.sizes)
