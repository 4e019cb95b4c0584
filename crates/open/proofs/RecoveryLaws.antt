-- Laws of recovery and of an opening: a bound of the number of operations, what the pass over states and pairs gives, and the
-- refusals by the tests that the code makes.
use Prim.Native.Nat.{ℕ, ◌+◌, ◌*◌, ◌≤◌}
use mathlib.Core.Path.{◌≡◌, sym, ap, ◌∙◌}
use mathlib.Core.Bool.{true, false, not, cond}
use mathlib.Core.List.{[], ◌∷◌}
use native.Mathlib.Omega.{arith}
use native.Mathlib.Nat.{mul-le-mul}
use lib.ListN.{length}
use Rattle.std.specs.Prelude.{Err}
use Rattle.model.specs.declared.Layout.{Layout}
use Rattle.model.specs.declared.Refusal.{Refusal}
use Rattle.model.specs.Words.{Image}
use Rattle.model.specs.Layout.{block_ops, most, SizesOk, image_size}
use Rattle.model.specs.Status.{Errors, refusal_number, first_error, served}
use Rattle.model.specs.Container.{active_line, seg_state, backup_to_main, valid_metadata, layout_errors, valid_errors}
use Rattle.model.specs.Ops.{Ops, Trace, for_domain, trace_errors}
use Rattle.model.specs.Open.{recovery_ops, open_status, open_outcome}
use Rattle.model.specs.Session.{fresh_session, zero_session, domain_errors}
use Rattle.model.specs.Clients.{Clients, clients_errors, cleared}
use Rattle.model.specs.Outcome.{Lent, lent, outcome_of, told, Gives}
use Rattle.model.proofs.Laws.Container.{valid_means}
use Rattle.model.proofs.Laws.Status.{first_holds, first_fails, first_of_none, refusal_refuses, stage_refused, after-served}
use Rattle.trace.proofs.CallLaws.{gives_refused}
use Rattle.container.specs.Scan.{ValidWith}
use Rattle.open.specs.Recovery.{ValidBy, PairedSet, recovery_errors, recovery_outcome}

-- ---- the number of operations

-- of so many operations a block
module _ (ops blocks : ℕ) (o : ops ≤ block_ops) (b : blocks ≤ most) where
  pub segment_bound : ops * blocks ≤ block_ops * most
  segment_bound = mul-le-mul {n₁ = ops} {m₁ = blocks} {n₂ = block_ops} {m₂ = most} o b

  pub recovery_bound : (segments : ℕ) → segments ≤ most → ops * blocks * segments ≤ block_ops * most * most
  recovery_bound segments h = mul-le-mul {n₁ = ops * blocks} {m₁ = segments} {n₂ = block_ops * most} {m₂ = most} segment_bound h

-- ---- what the pass over states and pairs gives

pub recovers_by : (l : Layout) (I : Image) (line : ℕ) {set : ℕ} → SizesOk l → length I ≡ image_size l → line + most ≤ length I
    → ValidWith l (seg_state I line) (backup_to_main I) set → ValidBy l I line × PairedSet l I set
recovers_by l I line s e k x = (record { sizes = s; long = e; inside = k; valid = valid_means l _ _ x.valid }, x.paired)

-- ---- refusals and outcome

-- refusal 4 does not apply
pub valid_served : {l : Layout} {st pr : ℕ → ℕ} {set : ℕ} → ValidWith l st pr set → first_error ((4, not (valid_metadata l st pr)) ∷ []) ≡ 0
valid_served x = sym (first_fails 4 0 _ _ (ap not x.valid) first_of_none)

-- an opening that refusals 1 to 3 let pass is recovery by the active line
pub open_recovers : (l : Layout) (d : ℕ) (I : Image) (k : Lent) → 0 ≡ first_error (layout_errors l I) → {line : ℕ} → line ≡ active_line I → recovery_outcome l d I line k ≡ open_outcome l d I k
unfolding open_outcome recovery_outcome open_status
open_recovers l d I k e p =
    ap (λ (m : ℕ). recovery_outcome l d I m k) p
    ∙ ap (λ (m : ℕ). outcome_of m zero_session (fresh_session l d) k.clients (cleared k.clients) d (recovery_ops l I (active_line I)))
    (sym (after-served (layout_errors l I) (recovery_errors l d I (active_line I) k) (omega arith) (sym e)))
