-- Checkpoint answers the same on two images that agree on the named bytes.
use Prim.Native.Nat.{ℕ, suc, ◌-◌, ◌*◌, ◌^◌}
use mathlib.Core.Path.{◌≡◌, refl, ap, ap₂, ◌∙◌}
use mathlib.Core.Bool.{not}
use mathlib.Core.List.{[], ◌∷◌, ◌++◌}
use native.Mathlib.Omega.{arith}
use lib.Dec.{eqb}
use Rattle.model.specs.Outcome.{Lent}
use Rattle.model.specs.declared.Session.{Session}
use Rattle.model.specs.Words.{Image, word_of}
use Rattle.model.specs.Layout.{word_size, line_words, epoch_at, state_line}
use Rattle.model.specs.Container.{active_state, inactive_line}
use Rattle.model.specs.Session.{is_dirty}
use Rattle.model.specs.Ops.{store, clwb, sfence, Ops, trace_short, stores, for_domain}
use Rattle.model.specs.Checkpoint.{flush_dirty, next_state, next_states, states_ops, epoch_ops, checkpoint_ops, checkpoint_status, checkpoint_outcome}
use Rattle.model.specs.Unread.{AgreeNamed}
use Rattle.model.proofs.Laws.Words.{word_cong}
use Rattle.model.proofs.Laws.Outcome.{outcome_same}
use Rattle.model.proofs.Laws.Unread.Metadata.{stores_ext, error_ext, epoch_same, state_same, session_same, errors_same}

module _ {I J : Image} (same : AgreeNamed I J) where
  checkpoint_ops_same : (s : Session) → checkpoint_ops s I ≡ checkpoint_ops s J
  unfolding checkpoint_ops states_ops epoch_ops
  checkpoint_ops_same s =
      let segments : ℕ = s.dirty_segments in
      ap₂ (λ (O E : Ops). flush_dirty s.layout s.dirty_blocks ++ sfence ∷ O ++ sfence ∷ E ++ sfence ∷ [])
      (ap (λ (O : Ops). O ++ clwb (inactive_line I) ∷ [])
      (stores_ext line_words (inactive_line I) _ _ (λ k h. word_cong _ _ (word_size * k) (λ i a b. ap (λ (n : ℕ). next_state n (is_dirty segments i)) (state_same same i (omega arith)))))
      ∙ ap (λ (e : ℕ). stores line_words (state_line (suc e)) (λ k. word_of (next_states segments (active_state J)) (word_size * k)) ++ clwb (state_line (suc e)) ∷ []) (epoch_same same))
      (ap (λ (e : ℕ). store epoch_at (suc e) ∷ clwb epoch_at ∷ []) (epoch_same same))

  pub checkpoint_status_unread : (s : Session) (t : Lent) → checkpoint_status s I t ≡ checkpoint_status s J t
  unfolding checkpoint_status
  checkpoint_status_unread s t = errors_same same s.layout _ _ (λ sizes v.
      error_ext 5 _ _ _ _ (ap not (session_same same s sizes)) (λ a.
      error_ext 13 _ _ _ _ refl (λ d.
      error_ext 10 _ _ _ _ (ap (λ (e : ℕ). eqb e (2 ^ 64 - 1)) (epoch_same same)) (λ b.
      error_ext 11 _ _ _ _ (ap (λ (O : Ops). trace_short (for_domain s.domain O) t.trace) (checkpoint_ops_same s)) (λ c. refl)))))

  pub checkpoint_unread : (s : Session) (t : Lent) → checkpoint_outcome s I t ≡ checkpoint_outcome s J t
  unfolding checkpoint_outcome
  checkpoint_unread s t = outcome_same _ _ s _ s.domain (checkpoint_status_unread s t) (λ z. refl) (λ z. refl) (λ z. checkpoint_ops_same s)
