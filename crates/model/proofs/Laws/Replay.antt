-- Every operation that a call writes is well formed, so that replay serves it and plays it (`replay_serves_all`).
pub mod WellFormed
use Prim.Native.Nat.{ℕ, ◌/◌, ◌<◌}
use mathlib.Core.Path.{◌≡◌, sym, subst}
use mathlib.Core.Bool.{cond}
use mathlib.Core.List.{[]}
use native.Mathlib.Omega.{arith}
use lib.ListN.{length}
use borrow.Author.Tests.{leb-false, eqb-true}
use Rattle.model.specs.declared.Layout.{Layout}
use Rattle.model.specs.declared.Session.{Session}
use Rattle.model.specs.Words.{Image}
use Rattle.model.specs.Layout.{line_size}
use Rattle.model.specs.Status.{served}
use Rattle.model.specs.Container.{active_line}
use Rattle.model.specs.Ops.{Ops, for_domain}
use Rattle.model.specs.Outcome.{Lent, outcome_of}
use Rattle.model.specs.Open.{recovery_ops, open_status, open_outcome}
use Rattle.model.specs.Write.{WriteArgs, write_ops, write_errors, write_status, write_outcome}
use Rattle.model.specs.Discard.{discard_ops, discard_errors, discard_status, discard_outcome}
use Rattle.model.specs.Checkpoint.{checkpoint_ops, checkpoint_status, checkpoint_outcome}
use Rattle.model.specs.Reference.{CallArgs, open_args, write_args, discard_args, checkpoint_args}
use Rattle.model.specs.History.{Call, Device, answers, outcome}
use Rattle.model.specs.Sisters.{ReplayServesAll}
use Rattle.model.proofs.Laws.Status.{served_condition}
use Rattle.model.proofs.Laws.Write.{span_good}
use Rattle.model.proofs.Laws.NewBackup.{new_free}
use Rattle.model.proofs.Laws.Container.{container_then}
use Rattle.model.proofs.Laws.Ops.{OpOk, AllOk, all_when, replay_serves, played_ops_lem}
use Rattle.model.proofs.Laws.Domain.{domain_all}
use Rattle.model.proofs.Laws.Replay.WellFormed.{recovery_ok, write_ok, discard_ok, checkpoint_ok}

-- ---- what a call writes, served or not

served_ok : (size e d : ℕ) (O : Ops) → (e ≡ 0 → AllOk size O) → AllOk size (cond (served e) (for_domain d O) [])
served_ok size e d O h = all_when (OpOk size) (served e) (for_domain d O) (λ q. domain_all (OpOk size) d O (h (eqb-true e 0 q)))

pub open_ok : (l : Layout) (d : ℕ) (I : Image) (t : Lent) → AllOk (length I / line_size) (open_outcome l d I t).ops
unfolding open_outcome outcome_of open_status
open_ok l d I t =
    served_ok (length I / line_size) (open_status l d I t) d (recovery_ops l I (active_line I))
    (λ h. subst (λ (n : ℕ). AllOk (n / line_size) (recovery_ops l I (active_line I))) (sym (container_then l I _ h).0.long) (recovery_ok l I (active_line I)))

pub write_outcome_ok : (s : Session) (I : Image) (w : WriteArgs) (t : Lent) → AllOk (length I / line_size) (write_outcome s I w t).ops
unfolding write_outcome outcome_of write_status
write_outcome_ok s I w t = served_ok (length I / line_size) (write_status s I w t) s.domain (write_ops s I w) go
  where
    go : write_status s I w t ≡ 0 → AllOk (length I / line_size) (write_ops s I w)
    go h =
        let c = container_then s.layout I _ h in
        let r = served_condition (write_errors s I w t) (omega arith) h in
        let g = span_good s.layout w (r 8) in
        subst (λ (n : ℕ). AllOk (n / line_size) (write_ops s I w)) (sym c.0.long)
        (write_ok s I w c.0.sizes.0.1 c.0.sizes.1.1 (leb-false _ _ (r 6)) (leb-false _ _ (r 7)) g.0
        g.2 (λ e. (new_free s.layout _ _ c.0.valid e).0))

-- the main segment of a served discard is one of the layout
pub discard_main : (s : Session) (I : Image) (i : ℕ) (t : Lent) → discard_status s I i t ≡ 0 → i < s.layout.mains
unfolding discard_status
discard_main s I i t h = leb-false _ _ (served_condition (discard_errors s I i t) (omega arith) h 6)

pub discard_outcome_ok : (s : Session) (I : Image) (i : ℕ) (t : Lent) → AllOk (length I / line_size) (discard_outcome s I i t).ops
unfolding discard_outcome outcome_of discard_status
discard_outcome_ok s I i t =
    served_ok (length I / line_size) (discard_status s I i t) s.domain (discard_ops s I i)
    (λ h. subst (λ (n : ℕ). AllOk (n / line_size) (discard_ops s I i)) (sym (container_then s.layout I _ h).0.long)
    (discard_ok s I i (discard_main s I i t h)))

pub checkpoint_outcome_ok : (s : Session) (I : Image) (t : Lent) → AllOk (length I / line_size) (checkpoint_outcome s I t).ops
unfolding checkpoint_outcome outcome_of checkpoint_status
checkpoint_outcome_ok s I t =
    served_ok (length I / line_size) (checkpoint_status s I t) s.domain (checkpoint_ops s I)
    (λ h. subst (λ (n : ℕ). AllOk (n / line_size) (checkpoint_ops s I)) (sym (container_then s.layout I _ h).0.long) (checkpoint_ok s I))

-- ---- what a call of a history writes

pub call_ok : (d : Device) (c : Call) → AllOk (length d.image / line_size) (outcome d c).ops
call_ok d c = go c.args
  where
    go : (a : CallArgs) → AllOk (length d.image / line_size) (answers d.session d.image a c.lends).ops
    go (open_args l k) = open_ok l k d.image c.lends
    go (write_args w) = write_outcome_ok d.session d.image w c.lends
    go (discard_args i) = discard_outcome_ok d.session d.image i c.lends
    go checkpoint_args = checkpoint_outcome_ok d.session d.image c.lends

pub replay_serves_all : ReplayServesAll
replay_serves_all d c whole p = (replay_serves _ _ _ p whole (call_ok d c), played_ops_lem _ _ _ p whole (call_ok d c))
