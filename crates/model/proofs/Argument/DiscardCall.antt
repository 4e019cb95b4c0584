-- A discard in a history.
use Prim.Native.Nat.{ℕ, ◌+◌, ◌-◌, ◌*◌, ◌≤◌, ◌<◌}
use mathlib.Core.Path.{◌≡◌, refl, sym, ap, ap₂, ◌∙◌, subst, subst₂}
use mathlib.Core.Logic.{◌≢◌, inl, ⊎_elim}
use mathlib.Core.Bool.{Bool, true}
use native.Mathlib.Omega.{arith}
use lib.ListN.{length, get_or, drop, length-drop}
use lib.Seq.{sets, length-sets, length-take-le, get_or-take, get_or-drop}
use Rattle.model.proofs.Laws.Domain.{adr-served}
use Rattle.model.specs.Ops.{for_domain}
use Rattle.model.specs.declared.Layout.{Layout}
use Rattle.model.specs.declared.Session.{Session}
use Rattle.model.specs.Words.{Image}
use Rattle.model.specs.Layout.{segment_size, main_at}
use Rattle.model.specs.Container.{active_state, backup_to_main}
use Rattle.model.specs.Outcome.{Lent}
use Rattle.model.specs.Discard.{discard_ops, discard_status, discard_outcome}
use Rattle.model.specs.Reference.{Page, Model, model_step, discard_args, page_at, page_segment}
use Rattle.model.specs.History.{Call, Device, State, outcome}
use Rattle.model.proofs.Laws.Layout.{apart}
use Rattle.model.proofs.Laws.Words.{sets_at, sets_other}
use Rattle.model.proofs.Laws.Open.{zero_discard}
use Rattle.model.proofs.Laws.Outcome.{Answered}
use Rattle.model.proofs.Laws.Replay.{discard_main, discard_outcome_ok}
use Rattle.model.proofs.Argument.Persist.{Clear}
use Rattle.model.proofs.Argument.View.{low_epoch, low_states, low_pairs}
use Rattle.model.proofs.Argument.Invariant.{Invariant}
use Rattle.model.proofs.Argument.Discard.{discard_clear, discard_crash, discard_done}
use Rattle.model.proofs.Argument.Pages.{contents_of, Whole, block_inside}
use Rattle.model.proofs.Argument.Stands.{image_of, checkpoint_of, working_of, Stands, Argument, Appends, inv_at, session_known, by_status}

-- a served discard lays the checkpoint's bytes of the main segment over the working page
model_discard : (l : Layout) (i : ℕ) (m : Model)
    → model_step l (discard_args i) true m ≡ record { working = sets m.working (page_at l i 0) (page_segment l m.checkpoint i); checkpoint = m.checkpoint }
unfolding model_step
model_discard l i m = refl

-- ---- a page with main segment i as another page has it

module _ (l : Layout) (i : ℕ) (hi : i < l.mains) (some : 0 < l.blocks) (Q R : Page) (whole_q : Whole l Q) (whole_r : Whole l R) where
  -- the segment is inside a page
  segment_ends : (S : Page) → Whole l S → page_at l i 0 + segment_size l ≤ length S
  segment_ends S w = omega (arith, w, block_inside l i (l.blocks - 1) hi (omega arith))

  -- so it is as long as a segment
  long : length (page_segment l R i) ≡ segment_size l
  long = length-take-le (segment_size l) (drop (page_at l i 0) R) (omega (arith, length-drop (page_at l i 0) R, segment_ends R whole_r))

  -- R's segment laid over Q: there R's contents, elsewhere Q's
  laid_here : (x : ℕ) → x < segment_size l → contents_of l (sets Q (page_at l i 0) (page_segment l R i)) i x ≡ contents_of l R i x
  laid_here x h =
      ap (λ (n : ℕ). get_or (sets Q (page_at l i 0) (page_segment l R i)) n 0) (omega arith)
      ∙ sets_at (page_segment l R i) Q (page_at l i 0) x (omega (arith, long, segment_ends Q whole_q)) (omega (arith, long))
      ∙ get_or-take (segment_size l) (drop (page_at l i 0) R) x 0 h ∙ get_or-drop (page_at l i 0) R x 0 ∙ ap (λ (n : ℕ). get_or R n 0) (omega arith)

  laid_other : (u x : ℕ) → x < segment_size l → u ≢ i → contents_of l (sets Q (page_at l i 0) (page_segment l R i)) u x ≡ contents_of l Q u x
  laid_other u x h ne =
      sets_other (page_segment l R i) Q (page_at l i 0) (256 * (u * l.blocks) + x)
      (λ a b. ⊎_elim (λ y. omega arith) (λ y. omega (arith, long)) (apart l i u (main_at l u + x) (λ e. ne (sym e)) (omega arith) (omega arith)))

module _ (s : State) (st : Stands s) (i : ℕ) (t : Lent) where
  abbrev d : Device
  d = s.device

  abbrev l : Layout
  l = s.device.layout

  abbrev I : Image
  I = image_of s.device

  abbrev σ : Session
  σ = st.session

  abbrev c : Call
  c = record { args = discard_args i; lends = t }

  abbrev pub page : Page
  page = sets s.model.working (page_at l i 0) (page_segment l s.model.checkpoint i)

  -- the working page afterwards: the segment as the checkpoint has it, and all others as they were
  pub page_here : i < l.mains → (x : ℕ) → x < segment_size l → contents_of l page i x ≡ checkpoint_of s i x
  page_here h = laid_here l i h (omega (arith, st.inv.recovers.fit.sizes.2)) s.model.working s.model.checkpoint st.whole_working st.whole_checkpoint

  page_others : i < l.mains → (u x : ℕ) → u < l.mains → x < segment_size l → u ≢ i → contents_of l page u x ≡ working_of s u x
  page_others h u x b = laid_other l i h (omega (arith, st.inv.recovers.fit.sizes.2)) s.model.working s.model.checkpoint st.whole_working st.whole_checkpoint u x

  -- what a served discard appends
  appends : discard_status d.session d.image i t ≡ 0 → Answered (outcome d c) true d.session (for_domain d.session.domain (discard_ops d.session d.image i)) → Appends s c
  appends h a =
      let e : d.session ≡ σ = session_known s st (λ x. discard_status x d.image i t) (zero_discard d.image i t) (λ x. omega arith) in
      let inv : Invariant σ.layout d.adr_played I σ (checkpoint_of s) (working_of s) = inv_at s st σ.layout st.sized in
      let hi : i < σ.layout.mains = discard_main σ I i t (subst₂ (λ (x : Session) (J : Image). discard_status x J i t ≡ 0) e st.image h) in
      let low : (k : ℕ) → k < 512 → Clear k (discard_ops σ I i) = (λ k x. discard_clear d.adr_played d.durable σ _ _ st.bytes inv i hi k (inl (omega arith))) in
      let hl : i < l.mains = subst (λ (k : Layout). i < k.mains) st.sized hi in
      record {
        ops = discard_ops σ I i;
        ops_are = adr-served d c a.status ∙ ap₂ (λ (x : Session) (J : Image). discard_ops x J i) e st.image;
        model = record { working = page; checkpoint = s.model.checkpoint };
        model_is = ap (λ (b : Bool). model_step l (discard_args i) b s.model) a.status ∙ model_discard l i s.model;
        layout = σ.layout;
        layout_is = st.sized;
        session = σ;
        sized = refl;
        wide = st.wide;
        known = inl (a.session ∙ e);
        whole_working = length-sets s.model.working (page_at l i 0) (page_segment l s.model.checkpoint i) ∙ st.whole_working;
        whole_checkpoint = st.whole_checkpoint;
        inv = discard_done d.adr_played d.durable σ _ _ st.bytes inv i hi (contents_of l page)
            (subst (λ (k : Layout). (x : ℕ) → x < segment_size k → contents_of l page i x ≡ checkpoint_of s i x) (sym st.sized) (page_here hl))
            (subst (λ (k : Layout). (u x : ℕ) → u < k.mains → x < segment_size k → u ≢ i → contents_of l page u x ≡ working_of s u x) (sym st.sized) (page_others hl));
        epoch = low_epoch d.durable d.adr_played (discard_ops σ I i) (λ k x. low k (omega arith)) ∙ omega arith;
        states = λ u h. low_states d.durable d.adr_played (discard_ops σ I i) (λ k x. low k (omega arith)) u (omega (arith, inv.recovers.fit.sizes.0))
            ∙ sym (rw a.status (ap (λ (J : Image). active_state J u) st.image));
        pairs = λ j h. low_pairs d.durable d.adr_played (discard_ops σ I i) (λ k x y. low k (omega arith)) j h
            ∙ sym (rw a.status (ap (λ (J : Image). backup_to_main J j) st.image));
        crash = λ p H x. inl (discard_crash d.adr_played d.durable σ _ _ st.bytes inv i hi p H x);
      }

  -- A DISCARD meets its argument
  pub discard_argument : Argument s (record { args = discard_args i; lends = t })
  unfolding discard_outcome model_step
  discard_argument =
      by_status s st c (discard_outcome_ok d.session d.image i t) (discard_status d.session d.image i t) d.session d.session t.clients t.clients d.session.domain (discard_ops d.session d.image i) refl (inl refl) refl appends
