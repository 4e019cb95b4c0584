-- An opening in a history: it is recovery by the active line, with the history's sizes or refused.
use mathlib.Core.Path.{◌≡◌, refl, sym, ap, ◌∙◌, subst}
use mathlib.Core.Logic.{inl, inr}
use mathlib.Core.Bool.{Bool, true}
use native.Mathlib.Omega.{arith}
use lib.ListN.{length}
use Rattle.model.proofs.Laws.Domain.{adr-served}
use Prim.Native.Nat.{ℕ}
use Rattle.model.specs.Clients.{cleared}
use Rattle.model.specs.Outcome.{Lent}
use Rattle.model.specs.declared.Layout.{Layout}
use Rattle.model.specs.Words.{Image}
use Rattle.model.specs.Container.{active_line, active_state, backup_to_main, HeaderOk}
use Rattle.model.specs.Session.{fresh_session, zero_session}
use Rattle.model.specs.Ops.{Ops, for_domain}
use Rattle.model.specs.Open.{recovery_ops, open_status, open_outcome}
use Rattle.model.specs.Reference.{Model, model_step, open_args}
use Rattle.model.specs.History.{Call, Device, State, outcome}
use Rattle.model.proofs.Laws.Container.{ContainerOk, container_then}
use Rattle.model.proofs.Laws.Replay.{open_ok}
use Rattle.model.proofs.Argument.Invariant.{Invariant}
use Rattle.model.proofs.Argument.Recovery.{meta}
use Rattle.model.proofs.Argument.Recovery.Opening.{open_clear, reopen_crash, reopen_done}
use Rattle.model.proofs.Laws.Outcome.{Answered}
use Rattle.model.proofs.Argument.View.{low_epoch, low_states, low_pairs}
use Rattle.model.proofs.Argument.Stands.{image_of, checkpoint_of, working_of, Stands, Argument, Appends, inv_at, by_status}

-- an image that an opening serves
pub accepted : (l : Layout) (d : ℕ) (I : Image) (t : Lent) → open_status l d I t ≡ 0 → ContainerOk l I
unfolding open_status
accepted l d I t h = (container_then l I _ h).0

-- a served opening throws the working page away, and the session is new
model_open : (l k : Layout) (d : ℕ) (m : Model) → model_step l (open_args k d) true m ≡ record { working = m.checkpoint; checkpoint = m.checkpoint }
unfolding model_step
model_open l k d m = refl

pub fresh_sized : (l : Layout) (d : ℕ) → ((fresh_session l d).layout ≡ l) × (length (fresh_session l d).dirty_blocks ≡ 64)
unfolding fresh_session
fresh_sized l d = (refl, refl)

layout_path : (k l : Layout) → k.mains ≡ l.mains → k.backups ≡ l.backups → k.blocks ≡ l.blocks → k ≡ l
layout_path k l p q r = λ i. record { mains = p i; backups = q i; blocks = r i }

module _ (s : State) (st : Stands s) (k : Layout) (n : ℕ) (t : Lent) where
  abbrev d : Device
  d = s.device

  abbrev I : Image
  I = image_of s.device

  abbrev c : Call
  c = record { args = open_args k n; lends = t }

  abbrev E : Ops
  E = recovery_ops k I (active_line I)

  -- the sizes that the image carries are the history's
  pub header_fixed : HeaderOk k d.image → k ≡ d.layout
  header_fixed a =
      let b = subst (λ (J : Image). HeaderOk d.layout J) (sym st.image) st.inv.recovers.fit.header in
      layout_path k d.layout (sym a.0 ∙ b.0) (sym a.1 ∙ b.1) (sym a.2 ∙ b.2)

  -- so are those of an opening that is served
  sizes_fixed : open_status k n d.image t ≡ 0 → k ≡ d.layout
  sizes_fixed h = header_fixed (accepted k n d.image t h).header

  appends : open_status k n d.image t ≡ 0 → Answered (outcome d c) true (fresh_session k n) (for_domain n (recovery_ops k d.image (active_line d.image))) → Appends s c
  appends h a =
      let e : k ≡ d.layout = sizes_fixed h in
      let inv : Invariant k d.adr_played I st.session (checkpoint_of s) (working_of s) = inv_at s st k e in
      record {
        ops = E;
        ops_are = adr-served d c a.status ∙ ap (λ (J : Image). recovery_ops k J (active_line J)) st.image;
        model = record { working = s.model.checkpoint; checkpoint = s.model.checkpoint };
        model_is = ap (λ (b : Bool). model_step d.layout (open_args k n) b s.model) a.status ∙ model_open d.layout k n s.model;
        layout = k;
        layout_is = e;
        session = fresh_session k n;
        sized = (fresh_sized k n).0;
        wide = (fresh_sized k n).1;
        known = inl a.session;
        whole_working = st.whole_checkpoint;
        whole_checkpoint = st.whole_checkpoint;
        inv = reopen_done k d.adr_played d.durable st.session _ _ st.bytes inv n;
        epoch = low_epoch d.durable d.adr_played E (λ n q. open_clear k I _ inv.recovers n (meta (omega arith))) ∙ omega arith;
        states = λ i h. low_states d.durable d.adr_played E (λ n q. open_clear k I _ inv.recovers n (meta (omega arith))) i (omega (arith, inv.recovers.fit.sizes.0))
            ∙ sym (rw a.status (ap (λ (J : Image). active_state J i) st.image));
        pairs = λ j h. low_pairs d.durable d.adr_played E (λ n q r. open_clear k I _ inv.recovers n (meta (omega arith))) j h
            ∙ sym (rw a.status (ap (λ (J : Image). backup_to_main J j) st.image));
        crash = λ p H x. inl (reopen_crash k d.adr_played d.durable st.session _ _ st.bytes inv p H x);
      }

  pub open_argument : Argument s (record { args = open_args k n; lends = t })
  unfolding open_outcome model_step
  open_argument = by_status s st c (open_ok k n d.image t) (open_status k n d.image t) zero_session (fresh_session k n) t.clients (cleared t.clients) n (recovery_ops k d.image (active_line d.image)) refl (inr refl) refl appends
