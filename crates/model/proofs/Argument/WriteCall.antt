-- A write in a history.
use Prim.Native.Nat.{ℕ, ◌+◌, ◌-◌, ◌*◌, ◌<◌}
use mathlib.Core.Path.{◌≡◌, refl, sym, ap, ap₂, ◌∙◌, subst, subst₂}
use mathlib.Core.Logic.{inl}
use mathlib.Core.Bool.{Bool, true, cond, ◌&&◌}
use native.Mathlib.Omega.{arith}
use lib.Dec.{eqb}
use lib.ListN.{length, length-set}
use lib.Seq.{sets, length-sets}
use Rattle.model.proofs.Laws.Domain.{adr-served}
use Rattle.model.specs.Ops.{for_domain}
use Rattle.model.specs.Outcome.{Lent}
use Rattle.model.specs.declared.Layout.{Layout}
use Rattle.model.specs.declared.Session.{Session}
use Rattle.model.specs.Words.{Image, byte_at, Bytes, overlay}
use Rattle.model.specs.Layout.{ss_backup, segment_size, main_at}
use Rattle.model.specs.Container.{active_state, backup_to_main}
use Rattle.model.specs.Session.{with_dirty}
use Rattle.model.specs.Write.{WriteArgs, needs_copy, needs_backup, span_at, write_ops, write_session, write_clients, write_status, write_outcome}
use Rattle.model.specs.Reference.{Page, Model, model_step, write_args, page_at}
use Rattle.model.specs.History.{Call, Device, State, outcome}
use Rattle.model.proofs.Laws.Open.{zero_write}
use Rattle.model.proofs.Laws.Words.{overlay_sets, overlay_shift}
use Rattle.model.proofs.Laws.Write.{new_of, some_free, served_free}
use Rattle.model.proofs.Laws.Replay.{write_outcome_ok}
use Rattle.model.proofs.Argument.Invariant.{Invariant}
use Rattle.model.proofs.Argument.SpanWords.{SpanOk}
use Rattle.model.proofs.Argument.Write.{span_ok, write_low, write_states, write_pairs, write_crash, write_done}
use Rattle.model.proofs.Argument.Pages.{contents_of, block_inside}
use Rattle.model.proofs.Laws.Outcome.{Answered}
use Rattle.model.proofs.Argument.View.{low_epoch}
use Rattle.model.proofs.Argument.Stands.{image_of, checkpoint_of, working_of, Stands, Argument, Appends, inv_at, session_known, by_status}

-- a served write lays its bytes over the working page, and keeps the session's sizes
model_write : (l : Layout) (w : WriteArgs) (m : Model)
    → model_step l (write_args w) true m ≡ record { working = sets m.working (page_at l w.main w.block + w.offset) w.bytes; checkpoint = m.checkpoint }
unfolding model_step
model_write l w m = refl

write_sized : (s : Session) (I : Image) (w : WriteArgs) → ((write_session s I w).layout ≡ s.layout) × (length (write_session s I w).dirty_blocks ≡ length s.dirty_blocks)
unfolding write_session with_dirty
write_sized s I w = (refl, length-set s.dirty_blocks w.main _)

module _ (s : State) (st : Stands s) (w : WriteArgs) (t : Lent) (small : Bytes w.bytes) where
  abbrev d : Device
  d = s.device

  abbrev l : Layout
  l = s.device.layout

  abbrev I : Image
  I = image_of s.device

  abbrev σ : Session
  σ = st.session

  abbrev c : Call
  c = record { args = write_args w; lends = t }

  abbrev page : Page
  page = sets s.model.working (page_at l w.main w.block + w.offset) w.bytes

  -- the working page after a write is the image with the bytes laid over it
  laid_page : SpanOk l w → (u x : ℕ) → u < l.mains → x < segment_size l
      → contents_of l page u x ≡ overlay (byte_at I) (span_at l w) w.bytes (main_at l u + x)
  laid_page ok u x h k =
      overlay_sets s.model.working at w.bytes place (omega (arith, st.whole_working, ok, block_inside l w.main (l.blocks - 1) ok.main (omega (arith, ok.block))))
      ∙ overlay_shift (byte_at s.model.working) (byte_at I) at (span_at l w) w.bytes place (main_at l u + x) 512 (omega arith) (omega arith) (sym (st.inv.working u x h k))
    where
      at : ℕ
      at = page_at l w.main w.block + w.offset

      place : ℕ
      place = 256 * (u * l.blocks) + x

  appends : write_status d.session d.image w t ≡ 0 → Answered (outcome d c) true (write_session d.session d.image w) (for_domain d.session.domain (write_ops d.session d.image w)) → Appends s c
  appends h a =
      let e : d.session ≡ σ = session_known s st (λ x. write_status x d.image w t) (zero_write d.image w t) (λ x. omega arith) in
      let inv : Invariant σ.layout d.adr_played I σ (checkpoint_of s) (working_of s) = inv_at s st σ.layout st.sized in
      let z : write_status σ I w t ≡ 0 = subst₂ (λ (x : Session) (J : Image). write_status x J w t ≡ 0) e st.image h in
      let free : needs_backup σ I w.main ≡ true → some_free σ I ≡ true = served_free σ I w t z in
      let ok : SpanOk σ.layout w = span_ok σ I w t small z in
      let given = subst (λ (k : Layout). (u x : ℕ) → u < k.mains → x < segment_size k → contents_of l page u x ≡ overlay (byte_at I) (span_at k w) w.bytes (main_at k u + x))
      (sym st.sized) (laid_page (subst (λ (k : Layout). SpanOk k w) st.sized ok)) in
      record {
        ops = write_ops σ I w;
        ops_are = adr-served d c a.status ∙ ap₂ (λ (x : Session) (J : Image). write_ops x J w) e st.image;
        model = record { working = page; checkpoint = s.model.checkpoint };
        model_is = ap (λ (b : Bool). model_step l (write_args w) b s.model) a.status ∙ model_write l w s.model;
        layout = σ.layout;
        layout_is = st.sized;
        session = write_session σ I w;
        sized = (write_sized σ I w).0;
        wide = (write_sized σ I w).1 ∙ st.wide;
        known = inl (a.session ∙ ap₂ (λ (x : Session) (J : Image). write_session x J w) e st.image);
        whole_working = length-sets s.model.working (page_at l w.main w.block + w.offset) w.bytes ∙ st.whole_working;
        whole_checkpoint = st.whole_checkpoint;
        inv = write_done d.adr_played d.durable σ _ _ st.bytes inv w ok st.wide free (contents_of l page) given;
        epoch = low_epoch d.durable d.adr_played (write_ops σ I w) (write_low d.adr_played d.durable σ _ _ st.bytes inv w ok st.wide free) ∙ omega arith;
        states = λ i h. write_states d.adr_played d.durable σ _ _ st.bytes inv w ok st.wide free i h
            ∙ sym (rw a.status (ap₂ (λ (x : Session) (J : Image). cond (needs_copy x J w.main && eqb i w.main) ss_backup (active_state J i)) e st.image));
        pairs = λ j h. write_pairs d.adr_played d.durable σ _ _ st.bytes inv w ok st.wide free j h
            ∙ sym (rw a.status (ap₂ (λ (x : Session) (J : Image). cond (needs_backup x J w.main && eqb j (new_of x J)) w.main (backup_to_main J j)) e st.image));
        crash = λ p H x. inl (write_crash d.adr_played d.durable σ _ _ st.bytes inv w ok st.wide free p H x);
      }

  pub write_argument : Argument s (record { args = write_args w; lends = t })
  unfolding write_outcome model_step
  write_argument =
      by_status s st c (write_outcome_ok d.session d.image w t) (write_status d.session d.image w t) d.session (write_session d.session d.image w) t.clients (write_clients d.session d.image w t.clients) d.session.domain (write_ops d.session d.image w) refl (inl refl) refl appends
