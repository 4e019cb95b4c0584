-- Fault 1: the state's line may arrive before the pair's and before the copied bytes, since no fence stands between them.
use Prim.Native.Nat.{ℕ, ◌/◌, ◌%◌}
use mathlib.Core.Path.{◌≡◌, refl, sym, ap, subst, ◌∙◌}
use mathlib.Core.Logic.{◌⊎◌, inl, inr, ⊎_elim}
use mathlib.Core.Bool.{true, false}
use mathlib.Core.List.{[], ◌∷◌, ◌++◌}
use native.Mathlib.Omega.{arith}
use native.Mathlib.Decide.{ℕ_discrete}
use lib.Dec.{lit<}
use lib.ListN.{take, get_or, replicate}
use Rattle.model.specs.Words.{Image}
use Rattle.model.specs.Layout.{word_size, line_size, unpaired}
use Rattle.model.specs.Session.{adr}
use Rattle.model.specs.Ops.{Ops, store, apply, replay}
use Rattle.model.specs.Reference.{Page}
use Rattle.model.specs.Crash.{KeepsDurable, CrashImage}
use Rattle.model.specs.CrashExact.{has_fence}
use Rattle.model.specs.Shares.{alone}
use Rattle.cases.specs.Turns.{Point, point_of, begin}
use Rattle.cases.specs.Table.{writes, a_word}
use Rattle.faults.specs.Faults.{lent_long, l111, one, early_state_ops, early_write_ops, early_at, EarlyState, ShowsBackup, EarlyStateUnseen}
use Rattle.model.proofs.Argument.Settled.{Off}
use Rattle.model.proofs.Laws.Crash.Images.{durable_unfenced, crash_after}
use Rattle.cases.proofs.Compute.{model_rules, same, same_equal}
use Rattle.cases.proofs.Shown.{no_checkpoint}
use Rattle.cases.proofs.Starts.{standing, started_by}
use Rattle.faults.proofs.Alone.{arrives_alone, elsewhere, avoids, avoids_off}
use Rattle.faults.proofs.TwoCalls.{image, old, new, marked, before, saved, stands, replayed, a_word_lem, calls_permitted, old_shown}

-- where no fence was played, the last store may arrive alone
last_alone : (I : Image) (A : Ops) (p w : ℕ) → has_fence (A ++ store p w ∷ []) ≡ false → avoids (p / line_size) A ≡ true → p % word_size ≡ 0
    → CrashImage I (A ++ store p w ∷ []) (replay (store p w ∷ []) I)
last_alone I A p w unfenced a whole = arrives_alone I A (store p w ∷ []) (λ ℓ. apart ℓ (ℕ_discrete ℓ (p / line_size)))
  where
    apart : (ℓ : ℕ) → Dec (ℓ ≡ p / line_size) → Off ℓ A ⊎ (Off ℓ (store p w ∷ []) × KeepsDurable ℓ (A ++ store p w ∷ []) 0)
    apart ℓ (yes here) = inl (λ i e. avoids_off (p / line_size) A a i (e ∙ here))
    apart ℓ (no there) = inr ((λ i e. ((λ low high. there (omega arith)), tt)), durable_unfenced ℓ _ 0 unfenced)

-- ---- from an unpaired main segment

abbrev opened : Point
opened = point_of (standing l111 adr (one unpaired) (replicate 256 40)) (alone l111 0)

starts : begin l111 adr (one unpaired) (lent_long l111) ≡ opened
unfolding model_rules same
starts = started_by l111 adr (one unpaired) (one unpaired) (lent_long l111) (replicate 256 40) refl refl refl

refused : EarlyState opened
unfolding model_rules early_write_ops early_state_ops has_fence avoids elsewhere
refused = (
  a_word_lem,
  record {
    accepted = refl;
    left = apply (store 128 2) (one unpaired);
    crash = last_alone (one unpaired) (take 38 (early_at opened (writes 0 0 a_word))) 128 2 refl refl refl;
    refused = refl;
  },
)

pub early_state_lem : EarlyState (begin l111 adr (one unpaired) (lent_long l111))
early_state_lem = subst EarlyState (sym starts) refused

-- ---- from a paired one

abbrev early : ℕ → Ops
early n = take n (early_at (saved (image 1 2 1 new) marked) (writes 0 8 a_word))

-- the state's line arrives, the copied lines do not
left_behind : CrashImage (image 0 1 0 old) (before ++ early 37) (image 1 2 2 new)
unfolding model_rules early_write_ops early_state_ops has_fence avoids elsewhere same
left_behind =
    subst (λ (H : Image). CrashImage (image 0 1 0 old) (before ++ early 37) H) (same_equal (apply (store 192 2) (image 1 2 1 new)) (image 1 2 2 new) refl)
    (crash_after (image 0 1 0 old) _ before (early 37)
    (subst (λ (I : Image). CrashImage I (early 37) (apply (store 192 2) (image 1 2 1 new))) (sym replayed)
    (last_alone (image 1 2 1 new) (early 36) 192 2 refl refl refl)))

unseen : ShowsBackup (saved (image 1 2 1 new) marked)
unfolding model_rules
unseen = record {
  permitted = (a_word_lem, (λ x. tt), lit< tt);
  left = image 1 2 2 new;
  crash = left_behind;
  accepted = refl;
  page = old;
  shown = old_shown;
  wrong = ⊎_elim (λ e. let z : ◌≡◌ {A = ℕ} 40 1 = ap (λ (P : Page). get_or P 0 0) e in omega arith) (λ w. no_checkpoint w.0.0);
}

pub early_state_unseen_lem : EarlyStateUnseen (begin l111 adr (one 0) (lent_long l111))
early_state_unseen_lem = (calls_permitted (begin l111 adr (one 0) (lent_long l111)), subst ShowsBackup (sym stands) unseen)
