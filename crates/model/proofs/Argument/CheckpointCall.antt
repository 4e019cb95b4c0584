-- A checkpoint in a history.
use Prim.Native.Nat.{suc, ◌-◌, ◌^◌, ◌<◌}
use mathlib.Core.Path.{◌≡◌, refl, sym, ap, ap₂, ◌∙◌, subst₂, subst}
use mathlib.Core.Logic.{◌≢◌, inl, inr, ⊎_elim}
use mathlib.Core.Bool.{Bool, true}
use native.Mathlib.Omega.{arith}
use borrow.Author.Tests.{eqb-false}
use lib.ListN.{length, take}
use Rattle.model.proofs.Laws.Domain.{adr-served, domain_adr}
use Rattle.model.specs.CrashSafety.{EpochStored}
use Rattle.model.specs.Ops.{for_domain, Ops}
use Rattle.model.specs.Clients.{cleared}
use Rattle.model.specs.Outcome.{Lent}
use Rattle.model.specs.declared.Session.{Session}
use Rattle.model.specs.Range.{one_if}
use Rattle.model.specs.Words.{Image, byte_at, Bytes}
use Rattle.model.specs.Status.{served}
use Rattle.model.specs.Container.{committed_epoch, active_state, backup_to_main}
use Rattle.model.specs.Session.{dirty_segment, with_checkpoint, adr}
use Rattle.model.specs.Checkpoint.{next_state, checkpoint_ops, checkpoint_errors, checkpoint_status, checkpoint_outcome}
use Rattle.model.specs.Reference.{Model, model_step, checkpoint_args}
use Rattle.model.specs.declared.Layout.{Layout}
use Rattle.model.specs.History.{Call, Device, State, outcome}
use Rattle.model.proofs.Laws.Status.{served_condition}
use Rattle.model.proofs.Laws.Open.{zero_checkpoint}
use Rattle.model.proofs.Laws.Words.{word_lt}
use Rattle.model.proofs.Laws.Counts.Checkpoint.{epoch_stored}
use Rattle.model.proofs.Laws.Replay.{checkpoint_outcome_ok}
use Rattle.model.proofs.Argument.Phases.{before_epoch}
use Rattle.model.proofs.Argument.Invariant.{Invariant}
use Rattle.model.proofs.Argument.Checkpoint.{checkpoint_crash, checkpoint_epoch, checkpoint_states, checkpoint_pairs, checkpoint_done}
use Rattle.model.proofs.Laws.Outcome.{Answered}
use Rattle.model.proofs.Argument.Stands.{image_of, checkpoint_of, working_of, Stands, Argument, Appends, inv_at, session_known, by_status}

-- a served checkpoint makes the working page the checkpoint, and keeps the session's sizes
model_checkpoint : (l : Layout) (m : Model) → model_step l checkpoint_args true m ≡ record { working = m.working; checkpoint = m.working }
unfolding model_step
model_checkpoint l m = refl

checkpoint_sized : (s : Session) → ((with_checkpoint s).layout ≡ s.layout) × (length (with_checkpoint s).dirty_blocks ≡ length s.dirty_blocks)
unfolding with_checkpoint
checkpoint_sized s = (refl, refl)

-- its epoch is not the last
epoch_fits : (s : Session) (I : Image) (t : Lent) → Bytes I → checkpoint_status s I t ≡ 0 → suc (committed_epoch I) < 2 ^ 64
unfolding checkpoint_status
epoch_fits s I t b h =
    let ne : committed_epoch I ≢ 2 ^ 64 - 1 = eqb-false _ _ (served_condition (checkpoint_errors s I t) (omega arith) h 10) in
    omega (arith, ne, word_lt (byte_at I) 0 b)

module _ (s : State) (st : Stands s) (t : Lent) where
  abbrev d : Device
  d = s.device

  abbrev I : Image
  I = image_of s.device

  abbrev σ : Session
  σ = st.session

  abbrev c : Call
  c = record { args = checkpoint_args; lends = t }

  appends : checkpoint_status d.session d.image t ≡ 0 → Answered (outcome d c) true (with_checkpoint d.session) (for_domain d.session.domain (checkpoint_ops d.session d.image)) → Appends s c
  appends h a =
      let e : d.session ≡ σ = session_known s st (λ x. checkpoint_status x d.image t) (zero_checkpoint d.image t) (λ x. omega arith) in
      let inv : Invariant σ.layout d.adr_played I σ (checkpoint_of s) (working_of s) = inv_at s st σ.layout st.sized in
      let fits : suc (committed_epoch I) < 2 ^ 64 =
      epoch_fits σ I t inv.recovers.fit.bytes (subst₂ (λ (x : Session) (J : Image). checkpoint_status x J t ≡ 0) e st.image h) in
      let one : one_if (served (outcome d c).status) ≡ 1 = ap (λ (b : Bool). one_if b) a.status in
      record {
        ops = checkpoint_ops σ I;
        ops_are = adr-served d c a.status ∙ ap₂ (λ (x : Session) (J : Image). checkpoint_ops x J) e st.image;
        model = record { working = s.model.working; checkpoint = s.model.working };
        model_is = ap (λ (b : Bool). model_step d.layout checkpoint_args b s.model) a.status ∙ model_checkpoint d.layout s.model;
        layout = σ.layout;
        layout_is = st.sized;
        session = with_checkpoint σ;
        sized = (checkpoint_sized σ).0;
        wide = (checkpoint_sized σ).1 ∙ st.wide;
        known = inl (a.session ∙ ap with_checkpoint e);
        whole_working = st.whole_working;
        whole_checkpoint = st.whole_working;
        inv = checkpoint_done d.adr_played d.durable σ _ _ st.bytes inv fits;
        epoch = checkpoint_epoch d.adr_played d.durable σ _ _ st.bytes inv fits ∙ omega (arith, one);
        states = λ i h. checkpoint_states d.adr_played d.durable σ _ _ st.bytes inv fits i (omega (arith, inv.recovers.fit.sizes.0))
            ∙ sym (rw a.status (ap₂ (λ (x : Session) (J : Image). next_state (active_state J i) (dirty_segment x i)) e st.image));
        pairs = λ j h. checkpoint_pairs d.adr_played d.durable σ _ _ st.bytes inv j h ∙ sym (rw a.status (ap (λ (J : Image). backup_to_main J j) st.image));
        crash = λ p H x. ⊎_elim inl (λ r. inr (refl, subst (λ (X : Ops). EpochStored (take p X)) (domain_adr (checkpoint_ops σ I)) (epoch_stored σ I adr p (omega (arith, r.0, ap length (domain_adr (before_epoch σ I))))), r.1))
            (checkpoint_crash d.adr_played d.durable σ _ _ st.bytes inv p H fits x);
      }

  pub checkpoint_argument : Argument s (record { args = checkpoint_args; lends = t })
  unfolding checkpoint_outcome model_step
  checkpoint_argument =
      by_status s st c (checkpoint_outcome_ok d.session d.image t) (checkpoint_status d.session d.image t) d.session (with_checkpoint d.session) t.clients (cleared t.clients) d.session.domain (checkpoint_ops d.session d.image) refl (inl refl) refl appends
