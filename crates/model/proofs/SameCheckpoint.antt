-- Which images have the same checkpoint (specs/SameCheckpoint.antt), proved: of any two images from the tests of the comparison, and over
-- histories from the two pages and the states, which each call of a history keeps or not.
use Prim.Native.Nat.{ℕ, zero, suc, ◌+◌, ◌*◌, ◌/◌, ◌%◌, ◌<◌}
use mathlib.Core.Path.{◌≡◌, refl, sym, ap, ◌∙◌, subst}
use mathlib.Core.Logic.{◌↔◌, ◌≢◌, ⊎_elim}
use mathlib.Core.Bool.{Bool, true, false, cond, ◌&&◌, true≢false, false≢true}
use mathlib.Core.List.{[]}
use native.Mathlib.Decide.{ℕ_discrete}
use native.Mathlib.Nat.{mul_assoc, mul_comm, mod-lt, div-add-mod', div-lt_iff_lt-mul}
use native.Mathlib.Omega.{arith}
use lib.Dec.{eqb}
use lib.ListN.{get_or, drop, replicate}
use lib.Seq.{get_or-take, get_or-drop, ext_get_or}
use borrow.Author.Tests.{eq-eqb, ne_eqb}
use Rattle.model.specs.declared.Layout.{Layout}
use Rattle.model.specs.declared.Session.{Session}
use Rattle.model.specs.Words.{Image, Bytes}
use Rattle.model.specs.Layout.{SizesOk, ss_backup, segment_size}
use Rattle.model.specs.Status.{first_error, served}
use Rattle.model.specs.Container.{active_line, active_state, checkpoint_bytes, container_errors}
use Rattle.model.specs.Session.{dirty_segment}
use Rattle.model.specs.Outcome.{Lent, outcome_of}
use Rattle.model.specs.Format.{formatted, format_outcome}
use Rattle.model.specs.Open.{open_status}
use Rattle.model.specs.Write.{needs_copy}
use Rattle.model.specs.Checkpoint.{next_state, checkpoint_status, checkpoint_outcome}
use Rattle.model.specs.Reads.{checkpoint_block}
use Rattle.model.specs.Same.{same_errors, same_initial, same_bytes, same_checkpoint, same_outcome}
use Rattle.model.specs.Reference.{Page, page_at, page_block, Model, CallArgs, open_args, write_args, discard_args, checkpoint_args, model_step}
use Rattle.model.specs.History.{Call, call_checkpoint, State, outcome, device_step, step, opened_image, start, Permitted}
use Rattle.model.specs.EpochCounts.{is_checkpoint}
use Rattle.model.specs.States.{served_state}
use Rattle.model.specs.SameCheckpoint.{Same, Accepted, InitialAgree, SameExactly, SameReads, SameEquivalence, FormatsSame, KeepsCheckpoint, NoneDirty, CheckpointKept}
use Rattle.model.proofs.Allowed.{empty_block}
use Rattle.model.proofs.Laws.Range.{both, and_left, and_right}
use Rattle.model.proofs.Laws.Status.{served_parts}
use Rattle.model.proofs.Laws.Container.{ContainerOk, container_ok, container_passes}
use Rattle.model.proofs.Laws.Format.{formatted_ok, format_served, format_gives}
use Rattle.model.proofs.Laws.Open.{zero_checkpoint}
use Rattle.model.proofs.Laws.Write.{copy_needed}
use Rattle.model.proofs.Laws.Checkpoint.{next_initial, next_clean}
use Rattle.model.proofs.Laws.Same.{length-checkpoint, initial_agree, bytes_agree}
use Rattle.model.proofs.Argument.Pages.{Whole, block_inside, checkpoint-holds, checkpoint_is, container_of, zero_block, saved}
use Rattle.model.proofs.Argument.Stands.{image_of, Stands, session_known}
use Rattle.model.proofs.Argument.Openings.{starting, start_stands}
use Rattle.model.proofs.CrashSafety.{argument, history_stands}
use Rattle.model.proofs.DiscardRestores.{block_same}
use Rattle.model.proofs.States.{opened_states, read_empty}

-- ---- two images

-- what the answer yes says
abbrev Agreed : Layout → Image → Image → Type 0
Agreed l I J = Accepted l I × Accepted l J × InitialAgree l I J × (checkpoint_bytes l I (active_line I) ≡ checkpoint_bytes l J (active_line J))

same_means : (l : Layout) (I J : Image) → Same l I J → Agreed l I J
unfolding same_outcome same_checkpoint
same_means l I J = go (first_error (same_errors l I J)) refl
  where
    states : Bool
    states = same_initial l.mains (active_state I) (active_state J)

    bytes : Bool
    bytes = same_bytes (segment_size l * l.mains) (checkpoint_bytes l I (active_line I)) (checkpoint_bytes l J (active_line J))

    agree : Accepted l I → Accepted l J → (states && bytes) ≡ true → Agreed l I J
    agree a b t = (
      a,
      b,
      (initial_agree l I J).0 (and_left states bytes t),
      (bytes_agree l I J (container_ok l I a) (container_ok l J b)).0 (and_right states bytes t),
    )

    go : (e : ℕ) → first_error (same_errors l I J) ≡ e → cond (served e) (same_checkpoint l I J) false ≡ true → Agreed l I J
    go zero e t = let s = served_parts (container_errors l I) (container_errors l J) (omega arith) e in agree s.0 s.1 t
    go (suc n) e t = absurd (false≢true (rw (ne_eqb (suc n) 0 (omega arith)) at t))

same_test : (l : Layout) (I J : Image) → Agreed l I J → Same l I J
unfolding same_outcome same_checkpoint
same_test l I J (a, b, i, e) =
    rw (container_passes l I (container_errors l J) (container_ok l I a) ∙ b)
    (both ((initial_agree l I J).1 i) ((bytes_agree l I J (container_ok l I a) (container_ok l J b)).1 e))

pub same_exactly : SameExactly
same_exactly l I J = (same_means l I J, same_test l I J)

pub same_equivalence : SameEquivalence
same_equivalence = record {
  reflexive = λ l I a. same_test l I I (a, a, λ i h. (λ x. x, λ x. x), refl);
  symmetric = λ l I J s.
      let x = same_means l I J s in
      same_test l J I (x.1, x.0, λ i h. ((x.2 i h).1, (x.2 i h).0), sym x.3);
  transitive = λ l I J K s t.
      let x = same_means l I J s in
      let y = same_means l J K t in
      same_test l I K (x.0, y.1, λ i h. (λ e. (y.2 i h).0 ((x.2 i h).0 e), λ e. (x.2 i h).1 ((y.2 i h).1 e)), x.3 ∙ y.3);
}

accepted : (l : Layout) (I : Image) → ContainerOk l I → Accepted l I
unfolding first_error
accepted l I c = container_passes l I [] c

pub formats_same : FormatsSame
formats_same l I J h k =
    let x = format_served l I h in
    let y = format_served l J k in
    subst (λ (K : Image). Same l K (format_outcome l J).image) (sym (format_gives l I x.0 x.1).1)
    (subst (Same l (formatted l)) (sym (format_gives l J y.0 y.1).1)
    (same_equivalence.reflexive l (formatted l) (accepted l (formatted l) (formatted_ok l x.0))))

-- ---- what the checkpoint reads tell

-- two whole pages with the same blocks are the same
pages_equal : (l : Layout) (P Q : Page) → SizesOk l → Whole l P → Whole l Q
    → ((i b : ℕ) → i < l.mains → b < l.blocks → page_block l P i b ≡ page_block l Q i b) → P ≡ Q
pages_equal l P Q sizes wp wq same = ext_get_or 0 P Q (wp ∙ sym wq) (λ k h. at k (omega (arith, wp)))
  where
    positive : 0 < l.blocks
    positive = omega (arith, sizes.2)

    -- byte x of block b of main segment i
    byte : (R : Page) (i b x : ℕ) → x < 256 → get_or (page_block l R i b) x 0 ≡ get_or R (256 * (i * l.blocks + b) + x) 0
    byte R i b x h = get_or-take 256 (drop (page_at l i b) R) x 0 h ∙ get_or-drop (page_at l i b) R x 0

    at : (k : ℕ) → k < 256 * l.blocks * l.mains → get_or P k 0 ≡ get_or Q k 0
    at k h =
        let n : ℕ = k / 256 in
        let i : n / l.blocks < l.mains = (div-lt_iff_lt-mul positive).1 (omega (arith, mul_assoc 256 l.blocks l.mains, mul_comm l.blocks l.mains)) in
        let e : 256 * (n / l.blocks * l.blocks + n % l.blocks) + k % 256 ≡ k = ap (λ (m : ℕ). 256 * m + k % 256) (div-add-mod' n l.blocks) ∙ omega arith in
        subst (λ (m : ℕ). get_or P m 0 ≡ get_or Q m 0) e
        (sym (byte P (n / l.blocks) (n % l.blocks) (k % 256) (omega arith))
        ∙ ap (λ (X : Page). get_or X (k % 256) 0) (same (n / l.blocks) (n % l.blocks) i (mod-lt n positive))
        ∙ byte Q (n / l.blocks) (n % l.blocks) (k % 256) (omega arith))

module _ (l : Layout) (I : Image) (a : Accepted l I) (i b : ℕ) (hi : i < l.mains) (hb : b < l.blocks) where
  abbrev page : Page
  page = checkpoint_bytes l I (active_line I)

  ok : ContainerOk l I
  ok = container_ok l I a

  -- a main segment that is not in state 0 reads as the checkpoint has it
  read_full : active_state I i ≢ 0 → checkpoint_block l I i b ≡ page_block l page i b
  read_full n = ⊎_elim (λ e. e) (λ e. absurd (n e.0)) (saved l I ok page (length-checkpoint l I ok) (checkpoint-holds l I ok) i b hi hb)

  -- so one that reads as nothing is in state 0
  none_initial : checkpoint_block l I i b ≡ [] → active_state I i ≡ 0
  none_initial e = go (ℕ_discrete (active_state I i) 0)
    where
      go : Dec (active_state I i ≡ 0) → active_state I i ≡ 0
      go (yes z) = z
      go (no n) = absurd (empty_block l I i b page (omega (arith, length-checkpoint l I ok, block_inside l i b hi hb)) (sym (read_full n) ∙ e))

  page_zero : active_state I i ≡ 0 → page_block l page i b ≡ replicate 256 0
  page_zero = zero_block l I ok page (length-checkpoint l I ok) (checkpoint-holds l I ok) i b hi hb

module _ (l : Layout) (I J : Image) (a : Accepted l I) (b : Accepted l J) where
  -- images that agree are read alike
  agreed_read : Agreed l I J → (i n : ℕ) → i < l.mains → n < l.blocks → checkpoint_block l I i n ≡ checkpoint_block l J i n
  agreed_read x i n hi hn = go (ℕ_discrete (active_state I i) 0)
    where
      go : Dec (active_state I i ≡ 0) → checkpoint_block l I i n ≡ checkpoint_block l J i n
      go (yes e) = read_empty l I i n e ∙ sym (read_empty l J i n ((x.2 i hi).0 e))
      go (no e) =
          read_full l I a i n hi hn e ∙ ap (λ (P : Page). page_block l P i n) x.3
          ∙ sym (read_full l J b i n hi hn (λ z. e ((x.2 i hi).1 z)))

  -- and images that are read alike agree
  module _ (same : (i n : ℕ) → i < l.mains → n < l.blocks → checkpoint_block l I i n ≡ checkpoint_block l J i n) where
    sizes : SizesOk l
    sizes = (container_ok l I a).sizes

    read_initial : InitialAgree l I J
    read_initial i hi =
        let first : 0 < l.blocks = omega (arith, sizes.2) in (
          λ e. none_initial l J b i 0 hi first (sym (same i 0 hi first) ∙ read_empty l I i 0 e),
          λ e. none_initial l I a i 0 hi first (same i 0 hi first ∙ read_empty l J i 0 e),
        )

    read_pages : checkpoint_bytes l I (active_line I) ≡ checkpoint_bytes l J (active_line J)
    read_pages = pages_equal l _ _ sizes (length-checkpoint l I (container_ok l I a)) (length-checkpoint l J (container_ok l J b)) at
      where
        at : (i n : ℕ) → i < l.mains → n < l.blocks → page_block l (checkpoint_bytes l I (active_line I)) i n ≡ page_block l (checkpoint_bytes l J (active_line J)) i n
        at i n hi hn = go (ℕ_discrete (active_state I i) 0)
          where
            go : Dec (active_state I i ≡ 0) → page_block l (checkpoint_bytes l I (active_line I)) i n ≡ page_block l (checkpoint_bytes l J (active_line J)) i n
            go (yes e) = page_zero l I a i n hi hn e ∙ sym (page_zero l J b i n hi hn ((read_initial i hi).0 e))
            go (no e) = sym (read_full l I a i n hi hn e) ∙ same i n hi hn ∙ read_full l J b i n hi hn (λ z. e ((read_initial i hi).1 z))

pub same_reads : SameReads
same_reads l I J = (
  λ s. let x = same_means l I J s in (x.0, x.1, agreed_read l I J x.0 x.1 x),
  λ x. same_test l I J (x.0, x.1, read_initial l I J x.0 x.1 x.2, read_pages l I J x.0 x.1 x.2),
)

-- ---- a history

-- where it stands, the image is accepted and its checkpoint is the page of the model
stands_holds : (s : State) → Stands s
    → Accepted s.device.layout s.device.image × (checkpoint_bytes s.device.layout s.device.image (active_line s.device.image) ≡ s.model.checkpoint)
stands_holds s st =
    let l : Layout = s.device.layout in
    let c = container_of l (image_of s.device) _ st.inv.recovers in
    subst (λ (K : Image). Accepted l K × (checkpoint_bytes l K (active_line K) ≡ s.model.checkpoint)) (sym st.image)
    (accepted l _ c, checkpoint_is l _ c s.model.checkpoint st.whole_checkpoint st.inv.recovers.holds)

-- a call keeps the checkpoint if it keeps the model's page, and which main segments are in state 0
keeps : (s : State) (c : Call) → Stands s → Permitted c
    → ((i : ℕ) → i < s.device.layout.mains
    → (active_state s.device.image i ≡ 0)
    ↔ (cond (served (outcome s.device c).status) (served_state s.device.session s.device.image c.args i) (active_state s.device.image i) ≡ 0))
    → (model_step s.device.layout c.args (served (outcome s.device c).status) s.model).checkpoint ≡ s.model.checkpoint → KeepsCheckpoint s c
unfolding step device_step
keeps s c st permitted states page =
    let a = argument s st c permitted in
    let x = stands_holds s st in
    let y = stands_holds (step s c) a.stands in
    same_test s.device.layout s.device.image (step s c).device.image (
      x.0,
      y.0,
      λ i h. (λ e. a.states i h ∙ (states i h).0 e, λ e. (states i h).1 (sym (a.states i h) ∙ e)),
      x.1 ∙ sym (y.1 ∙ page),
    )

-- a call that is no served checkpoint
model_kept : (l : Layout) (a : CallArgs) (b : Bool) (m : Model) → (is_checkpoint a && b) ≡ false → (model_step l a b m).checkpoint ≡ m.checkpoint
unfolding model_step
model_kept l (open_args k d) true m h = refl
model_kept l (open_args k d) false m h = refl
model_kept l (write_args w) true m h = refl
model_kept l (write_args w) false m h = refl
model_kept l (discard_args i) true m h = refl
model_kept l (discard_args i) false m h = refl
model_kept l checkpoint_args true m h = absurd (true≢false h)
model_kept l checkpoint_args false m h = refl

state_kept : (s : Session) (I : Image) (a : CallArgs) (b : Bool) (i : ℕ) → (is_checkpoint a && b) ≡ false
    → (active_state I i ≡ 0) ↔ (cond b (served_state s I a i) (active_state I i) ≡ 0)
state_kept s I a false i h = (λ e. e, λ e. e)
state_kept s I (open_args k d) true i h = (λ e. e, λ e. e)
state_kept s I (write_args w) true i h = go (needs_copy s I w.main) (ℕ_discrete i w.main) refl
  where
    go : (n : Bool) → Dec (i ≡ w.main) → needs_copy s I w.main ≡ n
        → (active_state I i ≡ 0) ↔ (cond (n && eqb i w.main) ss_backup (active_state I i) ≡ 0)
    go false q e = (λ x. x, λ x. x)
    go true (no q) e = rw (ne_eqb i w.main q) (λ x. x, λ x. x)
    go true (yes q) e = rw (eq-eqb i w.main q)
        (λ x. absurd (omega (arith, ap (active_state I) q, (copy_needed s I w.main e).1)), λ x. absurd (omega arith))
state_kept s I (discard_args n) true i h = (λ e. e, λ e. e)
state_kept s I checkpoint_args true i h = absurd (true≢false h)

-- a served checkpoint while no main segment is dirty
module _ (s : State) (st : Stands s) (k : Lent) (none : NoneDirty s.device) (h : (outcome s.device (call_checkpoint k)).status ≡ 0) where
  abbrev l : Layout
  l = s.device.layout

  known : s.device.session ≡ st.session
  unfolding checkpoint_outcome outcome_of
  known = session_known s st (λ x. checkpoint_status x s.device.image k) (zero_checkpoint s.device.image k) (λ e. omega (arith, e, h))

  -- both pages are the same
  pages_same : s.model.working ≡ s.model.checkpoint
  pages_same = pages_equal l _ _ st.inv.recovers.fit.sizes st.whole_working st.whole_checkpoint (λ i b hi hb.
      block_same l s.model.working s.model.checkpoint st.whole_working st.whole_checkpoint i b hi hb
      (λ x hx. st.inv.clean i x hi hx (ap (λ (z : Session). dirty_segment z i) (sym known) ∙ none i hi)))

  page_kept : (model_step l checkpoint_args (served (outcome s.device (call_checkpoint k)).status) s.model).checkpoint ≡ s.model.checkpoint
  unfolding model_step
  page_kept = rw (eq-eqb _ _ h) pages_same

  states_kept : (i : ℕ) → i < l.mains → (active_state s.device.image i ≡ 0)
      ↔ (cond (served (outcome s.device (call_checkpoint k)).status) (next_state (active_state s.device.image i) (dirty_segment s.device.session i)) (active_state s.device.image i) ≡ 0)
  states_kept i hi = rw (eq-eqb _ _ h, none i hi)
      (λ e. ap (λ (n : ℕ). next_state n false) e ∙ next_clean, λ e. (next_initial (active_state s.device.image i) false e).0)

  clean_keeps : KeepsCheckpoint s (call_checkpoint k)
  clean_keeps = keeps s (call_checkpoint k) st tt states_kept page_kept

-- the opening that a history starts with
opening_keeps : (l : Layout) (d : ℕ) (I : Image) (k : Lent) → Bytes I → open_status l d I k ≡ 0 → Same l I (opened_image l d I k)
unfolding start
opening_keeps l d I k b h =
    let x = stands_holds (start l d I k) (start_stands l d I k b h) in
    let same : (i : ℕ) → i < l.mains → active_state (opened_image l d I k) i ≡ active_state I i = opened_states l d I k b h in
    same_test l I (opened_image l d I k) (
      accepted l I (container_of l I _ (starting l d I k b h)),
      x.0,
      λ i m. (λ e. same i m ∙ e, λ e. sym (same i m) ∙ e),
      sym x.1,
    )

pub checkpoint_kept : CheckpointKept
checkpoint_kept = record {
  opening = opening_keeps;
  others = λ l d I t b h cs permitted c p n.
      keeps _ c (history_stands l d I t b h cs permitted) p (λ i m. state_kept _ _ c.args _ i n) (model_kept _ c.args _ _ n);
  clean = λ l d I t b h cs permitted k none ok. clean_keeps _ (history_stands l d I t b h cs permitted) k none ok;
}
