-- Openings outside a history: the one that it starts with, and those after a crash, of which any number may be cut before
-- one finishes and shows the page.
use Prim.Native.Nat.{ℕ, ◌%◌}
use mathlib.Core.Path.{◌≡◌, refl, sym, ap, ◌∙◌, subst}
use mathlib.Core.Logic.{inl}
use mathlib.Core.Bool.{Bool, true, false}
use mathlib.Core.List.{[], ◌++◌}
use native.Mathlib.Omega.{arith}
use lib.ListN.{length, take}
use lib.Seq.{take-length}
use Rattle.model.proofs.Laws.Status.{served_condition}
use Rattle.model.proofs.Laws.Domain.{domain_replay, part_take}
use Rattle.model.specs.Clients.{clients_bad, clients_errors, cleared}
use Rattle.model.specs.Outcome.{Lent}
use Rattle.model.specs.declared.Layout.{Layout}
use Rattle.model.specs.Words.{Image, Bytes}
use Rattle.model.specs.Layout.{line_size}
use Rattle.model.specs.Status.{Errors, first_error}
use Rattle.model.specs.Container.{active_line, checkpoint_bytes}
use Rattle.model.specs.Session.{fresh_session, zero_session, no_domain, domain_errors}
use Rattle.model.specs.Ops.{Ops, trace_short, trace_errors, replay, for_domain, first_part}
use Rattle.model.specs.Open.{recovery_ops, open_status, open_outcome, open_errors}
use Rattle.model.specs.Crash.{CrashImage}
use Rattle.model.specs.Reference.{Page}
use Rattle.model.specs.History.{played_ops, opened_image, start}
use Rattle.model.specs.CrashSafety.{Reads, Recovers, Enough, CutOpenings, none, again, Module, WithinAdr}
use Rattle.model.proofs.Laws.Container.{container_passes}
use Rattle.model.proofs.Laws.Layout.{image_lines_lem}
use Rattle.model.proofs.Laws.Same.{length-checkpoint}
use Rattle.model.proofs.Laws.Ops.{played_ops_lem, replayed_image_lem}
use Rattle.model.proofs.Laws.Replay.{open_ok}
use Rattle.model.proofs.Argument.Persist.{replay_small}
use Rattle.model.proofs.Argument.View.{Recoverable}
use Rattle.model.proofs.Argument.Holds.{Contents}
use Rattle.model.proofs.Argument.Invariant.{Invariant}
use Rattle.model.proofs.Argument.Recovery.Opening.{open_crash, opened_durable}
use Rattle.model.proofs.Argument.Pages.{contents_of, Whole, container_of, checkpoint-holds, checkpoint_is, reads}
use Rattle.model.proofs.Laws.Outcome.{Answered, outcome-served}
use Rattle.model.proofs.Argument.Stands.{Stands}
use Rattle.model.proofs.Argument.OpenCall.{accepted, fresh_sized}

-- the kind of module that a served opening is given is one that there is
pub domain_known : (l : Layout) (d : ℕ) (I : Image) (t : Lent) → open_status l d I t ≡ 0 → no_domain d ≡ false
unfolding open_status
domain_known l d I t h = served_condition (open_errors l d I t) (omega arith) h 5

-- a recoverable image is accepted, with any records that 13 does not refuse and any trace that 11 does not
accepts : (l : Layout) (d : ℕ) (H : Image) (P : Contents) (t : Lent) → no_domain d ≡ false → Recoverable l H P → Enough l d H t → open_status l d H t ≡ 0
unfolding open_status first_error
accepts l d H P t known r h = go (clients_bad l t.clients) (trace_short O t.trace) refl refl
  where
    O : Ops
    O = for_domain d (recovery_ops l H (active_line H))

    later : Errors
    later = domain_errors d ++ clients_errors l t.clients ++ trace_errors O t.trace

    passes : open_status l d H t ≡ first_error later
    passes = container_passes l H later (container_of l H P r)

    go : (c b : Bool) → clients_bad l t.clients ≡ c → trace_short O t.trace ≡ b → open_status l d H t ≡ 0
    go true true x e = absurd (h.1 (passes ∙ rw (known, x)))
    go true false x e = absurd (h.1 (passes ∙ rw (known, x)))
    go false true x e = absurd (h.0 (passes ∙ rw (known, x, e)))
    go false false x e = passes ∙ rw (known, x, e)

-- ---- what a served opening plays and leaves

pub open_served : (l : Layout) (d : ℕ) (I : Image) (t : Lent) → open_status l d I t ≡ 0
    → Answered (open_outcome l d I t) true (fresh_session l d) (for_domain d (recovery_ops l I (active_line I)))
unfolding open_outcome
open_served l d I t h = outcome-served (open_status l d I t) zero_session (fresh_session l d) t.clients (cleared t.clients) d (recovery_ops l I (active_line I)) h

module _ (l : Layout) (d : ℕ) (I : Image) (t : Lent) (h : open_status l d I t ≡ 0) where
  whole_lines : length I % line_size ≡ 0
  whole_lines = omega (arith, (accepted l d I t h).long, image_lines_lem l)

  pub open_played : (p : ℕ) → played_ops I (open_outcome l d I t).ops t.trace p ≡ take p (for_domain d (recovery_ops l I (active_line I)))
  open_played p = played_ops_lem I (open_outcome l d I t).ops t.trace p whole_lines (open_ok l d I t) ∙ ap (take p) (open_served l d I t h).ops

  pub opened_is : opened_image l d I t ≡ replay (recovery_ops l I (active_line I)) I
  unfolding opened_image
  opened_is = replayed_image_lem I (open_outcome l d I t).ops t.trace (length (open_outcome l d I t).ops) whole_lines (open_ok l d I t)
      ∙ ap (λ (X : Ops). replay X I) (take-length (open_outcome l d I t).ops ∙ (open_served l d I t h).ops)
      ∙ domain_replay d (recovery_ops l I (active_line I)) I

-- openings that are cut keep what stands recoverable, on any module whose crash images are among those of kind 0
pub openings_keep : (M : Module) → WithinAdr M → no_domain M.domain ≡ false → {l : Layout} {H H' : Image} (P : Contents)
    → Recoverable l H P → CutOpenings M l H H' → Recoverable l H' P
openings_keep M within known P r none = r
openings_keep M within known {l} P r (again {H = H} {H' = H₁} t p ne c rest) =
    let O = recovery_ops l H (active_line H) in
    let cut = within.opening l H t r.fit.bytes (accepts l M.domain H P t known r ne) p H₁ c in
    let k = length (first_part M.domain p O) in
    openings_keep M within known P (open_crash l H P r k H₁ (subst (λ (X : Ops). CrashImage H X H₁) (part_take M.domain p O) cut)) rest

-- the one that finishes shows the page
pub recovers : (l : Layout) (d : ℕ) (H : Image) (t : Lent) (Q : Page) → no_domain d ≡ false → Whole l Q → Recoverable l H (contents_of l Q) → Enough l d H t → Recovers l d H t Q
recovers l d H t Q known whole r ne =
    let h : open_status l d H t ≡ 0 = accepts l d H (contents_of l Q) t known r ne in
    let inv = opened_durable l H (contents_of l Q) r d in
    record {
      accepted = h;
      shows = subst (λ (K : Image). Reads l K Q Q) (sym (opened_is l d H t h)) (reads l _ Q Q whole whole inv.recovers inv.working);
      begins = checkpoint_is l H (container_of l H (contents_of l Q) r) Q whole r.holds;
    }

-- ---- the start of a history

module _ (l : Layout) (d : ℕ) (I : Image) (t : Lent) (b : Bytes I) (h : open_status l d I t ≡ 0) where
  abbrev P : Page
  P = checkpoint_bytes l I (active_line I)

  -- the image that it is handed recovers to its checkpoint
  pub starting : Recoverable l I (contents_of l (checkpoint_bytes l I (active_line I)))
  starting =
      let c = accepted l d I t h in
      record { fit = record { sizes = c.sizes; long = c.long; bytes = b; header = c.header }; holds = checkpoint-holds l I c }

  pub starting_whole : Whole l (checkpoint_bytes l I (active_line I))
  starting_whole = length-checkpoint l I (accepted l d I t h)

  pub start_stands : Stands (start l d I t)
  unfolding start replay
  start_stands =
      let e : opened_image l d I t ≡ replay (recovery_ops l I (active_line I)) I = opened_is l d I t h in
      record {
        bytes = subst Bytes (sym e) (replay_small (recovery_ops l I (active_line I)) I b);
        image = refl;
        same = λ J. refl;
        session = fresh_session l d;
        sized = (fresh_sized l d).0;
        wide = (fresh_sized l d).1;
        known = inl (open_served l d I t h).session;
        whole_working = starting_whole;
        whole_checkpoint = starting_whole;
        inv = subst (λ (K : Image). Invariant l [] K (fresh_session l d) (contents_of l P) (contents_of l P)) (sym e) (opened_durable l I (contents_of l P) starting d);
      }
