-- Where a history stands between two calls (`Stands`), and what the crash argument needs of a call (`Argument`): played
-- whole it leaves what stands, crashed anywhere it leaves what recovers to a page that may be shown, it counts for the
-- epoch, and it makes the states and pairs that follow. Each call meets it in its own file, and the induction over histories uses
-- that alone. Calls that play operations on the module as it is meet it by `Appends`, and one that is refused does so once for all.
-- All of it speaks of the operations with the flushes put in, so it holds for calls of any kind of module: a trace without flushes leaves
-- the same image, and its first p operations are those of a first part of the list with them.
use Prim.Native.Nat.{ℕ, ◌+◌, ◌/◌, ◌%◌, ◌<◌}
use mathlib.Core.Path.{◌≡◌, refl, sym, ap, ap₂, ◌∙◌, subst, subst₂}
use mathlib.Core.Logic.{◌≢◌, ◌⊎◌, inl, inr, ⊎_elim}
use mathlib.Core.Bool.{Bool, true, false, ◌&&◌}
use mathlib.Core.List.{[], ◌++◌, append-nil}
use native.Mathlib.Decide.{ℕ_discrete}
use native.Mathlib.Omega.{arith}
use lib.ListN.{length, take}
use lib.Seq.{take-length, take_all}
use Rattle.model.specs.declared.Layout.{Layout}
use Rattle.model.specs.declared.Session.{Session}
use Rattle.model.specs.Range.{one_if}
use Rattle.model.specs.Words.{Image, Bytes}
use Rattle.model.specs.Layout.{line_size, most}
use Rattle.model.specs.Status.{served}
use Rattle.model.specs.Container.{committed_epoch, active_state, backup_to_main}
use Rattle.model.specs.Session.{zero_session}
use Rattle.model.specs.Ops.{Ops, for_domain, replay}
use Rattle.model.specs.Clients.{Clients}
use Rattle.model.specs.Outcome.{outcome_of}
use Rattle.model.specs.Crash.{CrashImage}
use Rattle.model.specs.Reference.{Page, Model, model_step, checkpoint_args}
use Rattle.model.specs.History.{Call, Device, State, outcome, domain_of, adr_ops, called_ops, adr_called_ops, device_step, step}
use Rattle.model.specs.CrashSafety.{Moment, during, adr_played_at, EpochStored, MayShow}
use Rattle.model.specs.EpochCounts.{is_checkpoint}
use Rattle.model.specs.States.{state_after, pair_after}
use Rattle.model.proofs.Laws.Layout.{image_lines_lem}
use Rattle.model.proofs.Laws.Ops.{AllOk, played_ops_lem, replayed_image_lem}
use Rattle.model.proofs.Laws.Domain.{domain_replay, part_holds, part_take, ops_filtered, adr_refused, epoch_kept}
use Rattle.model.proofs.Argument.Persist.{replay_append}
use Rattle.model.proofs.Argument.View.{Recoverable, low_epoch, low_states, low_pairs}
use Rattle.model.proofs.Argument.Holds.{Contents}
use Rattle.model.proofs.Argument.Invariant.{Invariant}
use Rattle.model.proofs.Argument.Recovery.Opening.{reopen_crash}
use Rattle.model.proofs.Argument.Pages.{contents_of, Whole}
use Rattle.model.proofs.Laws.Outcome.{Answered, outcome-served, outcome_refused}

-- the image that the operations played since all was durable leave, with the flushes put in
abbrev pub image_of : Device → Image
image_of d = replay d.adr_played d.durable

-- the contents of the two pages
abbrev pub checkpoint_of : State → Contents
checkpoint_of s = contents_of s.device.layout s.model.checkpoint

abbrev pub working_of : State → Contents
working_of s = contents_of s.device.layout s.model.working

pub record Stands (s : State) : Type 0 where
  pub bytes : Bytes s.device.durable
  pub image : s.device.image ≡ image_of s.device
  -- what was played leaves the same as with the flushes put in
  pub same : (J : Image) → replay s.device.played J ≡ replay s.device.adr_played J
  -- the session of the last served call; a refused opening may have answered zeros since
  pub session : Session
  pub sized : session.layout ≡ s.device.layout
  pub wide : length session.dirty_blocks ≡ 64
  pub known : (s.device.session ≡ session) ⊎ (s.device.session ≡ zero_session)
  pub whole_working : Whole s.device.layout s.model.working
  pub whole_checkpoint : Whole s.device.layout s.model.checkpoint
  pub inv : Invariant s.device.layout s.device.adr_played (image_of s.device) session (checkpoint_of s) (working_of s)

-- H recovers, with the sizes of s, to a page that may be shown after a crash at this moment
abbrev pub Leaves : State → Moment → Image → Type 0
Leaves s m H =
    (Q : Page) × MayShow s m Q × Whole s.device.layout Q × Recoverable s.device.layout H (contents_of s.device.layout Q)

-- WHAT A CALL OWES
pub record Argument (s : State) (c : Call) : Type 0 where
  -- played whole, it leaves what stands
  pub stands : Stands (step s c)
  -- crashed before its last operation, it leaves what recovers to a page that may be shown
  pub crash : (p : ℕ) (H : Image) → p < length (outcome s.device c).ops → CrashImage s.device.durable (adr_played_at s.device (during c p)) H → Leaves s (during c p) H
  -- it raises the epoch by 1 if it is a served checkpoint, and else not
  pub epoch : committed_epoch (step s c).device.image
      ≡ committed_epoch s.device.image + one_if (is_checkpoint c.args && served (outcome s.device c).status)
  -- it makes of the states what it should
  pub states : (i : ℕ) → i < s.device.layout.mains → active_state (step s c).device.image i ≡ state_after s.device c i
  -- and of the pairs
  pub pairs : (j : ℕ) → j < most → backup_to_main (step s c).device.image j ≡ pair_after s.device c j

-- A CRASH between two calls
pub rest_crash : (s : State) → Stands s → (H : Image) → CrashImage s.device.durable s.device.adr_played H
    → Recoverable s.device.layout H (checkpoint_of s)
rest_crash s st H c = reopen_crash s.device.layout s.device.adr_played s.device.durable st.session _ _ st.bytes st.inv 0 H
    (subst (λ (X : Ops). CrashImage s.device.durable X H) (sym (append-nil s.device.adr_played)) c)

-- ---- calls that play operations on the module as it is

-- what such a call makes of it: its operations with the flushes put in, the model, the session, and the layout that these are of, which is the
-- module's; with that, the invariant, the epoch and the crash
pub record Appends (s : State) (c : Call) : Type 0 where
  pub ops : Ops
  pub ops_are : adr_ops s.device c ≡ ops
  pub model : Model
  pub model_is : model_step s.device.layout c.args (served (outcome s.device c).status) s.model ≡ model
  pub layout : Layout
  pub layout_is : layout ≡ s.device.layout
  pub session : Session
  pub sized : session.layout ≡ layout
  pub wide : length session.dirty_blocks ≡ 64
  pub known : ((outcome s.device c).session ≡ session) ⊎ ((outcome s.device c).session ≡ zero_session)
  pub whole_working : Whole s.device.layout model.working
  pub whole_checkpoint : Whole s.device.layout model.checkpoint
  pub inv : Invariant layout (s.device.adr_played ++ ops) (replay (s.device.adr_played ++ ops) s.device.durable) session
      (contents_of s.device.layout model.checkpoint) (contents_of s.device.layout model.working)
  pub epoch : committed_epoch (replay (s.device.adr_played ++ ops) s.device.durable)
      ≡ committed_epoch (image_of s.device) + one_if (is_checkpoint c.args && served (outcome s.device c).status)
  pub states : (i : ℕ) → i < layout.mains → active_state (replay (s.device.adr_played ++ ops) s.device.durable) i ≡ state_after s.device c i
  pub pairs : (j : ℕ) → j < most → backup_to_main (replay (s.device.adr_played ++ ops) s.device.durable) j ≡ pair_after s.device c j
  pub crash : (p : ℕ) (H : Image) → CrashImage s.device.durable (s.device.adr_played ++ take p ops) H
      → Recoverable layout H (checkpoint_of s) ⊎ ((c.args ≡ checkpoint_args) × EpochStored (take p ops) × Recoverable layout H (working_of s))

module _ (s : State) (st : Stands s) where
  abbrev d : Device
  d = s.device

  abbrev l : Layout
  l = s.device.layout

  abbrev I : Image
  I = image_of s.device

  pub whole_lines : length s.device.image % line_size ≡ 0
  whole_lines = omega (arith, ap length st.image, st.inv.recovers.fit.long, image_lines_lem l)

  -- the invariant, for a layout that is the module's
  pub inv_at : (k : Layout) → k ≡ s.device.layout
      → Invariant k s.device.adr_played (image_of s.device) st.session (checkpoint_of s) (working_of s)
  inv_at k e = subst (λ (x : Layout). Invariant x d.adr_played I st.session (checkpoint_of s) (working_of s)) (sym e) st.inv

  -- a call that refuses the session of zeros with 1 gives another number only with the session of the last served call
  pub session_known : (status : Session → ℕ) → status zero_session ≡ 1 → status s.device.session ≢ 1 → s.device.session ≡ st.session
  session_known status refused h = ⊎_elim (λ e. e) (λ e. absurd (h (ap status e ∙ refused))) st.known

  -- the call's operations are well formed on the module's image
  module _ (c : Call) (ok : AllOk (length s.device.image / line_size) (outcome s.device c).ops) where
    -- what is played of its trace is the first part of its operations
    pub called : (p : ℕ) → called_ops s.device c p ≡ take p (outcome s.device c).ops
    called p = played_ops_lem d.image (outcome d c).ops c.lends.trace p whole_lines ok

    pub called_all : called_ops s.device c (length (outcome s.device c).ops) ≡ (outcome s.device c).ops
    called_all = called (length (outcome d c).ops) ∙ take-length (outcome d c).ops

    -- whole, it leaves what the operations with the flushes put in leave
    called_replay : (J : Image) → replay (called_ops s.device c (length (outcome s.device c).ops)) J ≡ replay (adr_ops s.device c) J
    called_replay J = ap (λ (X : Ops). replay X J) (called_all ∙ ops_filtered d c) ∙ domain_replay _ (adr_ops d c) J

    appended_stands : Appends s c → Stands (step s c)
    unfolding step device_step
    appended_stands n =
        let e : adr_ops d c ≡ n.ops = n.ops_are in
        let m : Model = model_step l c.args (served (outcome d c).status) s.model in
        record {
          bytes = st.bytes;
          image = replayed_image_lem d.image (outcome d c).ops c.lends.trace (length (outcome d c).ops) whole_lines ok
              ∙ ap₂ replay (take-length (outcome d c).ops ∙ ops_filtered d c) st.image ∙ domain_replay _ (adr_ops d c) I
              ∙ sym (replay_append d.adr_played (adr_ops d c) d.durable);
          same = λ J. replay_append d.played _ J ∙ called_replay (replay d.played J) ∙ ap (replay (adr_ops d c)) (st.same J)
              ∙ sym (replay_append d.adr_played (adr_ops d c) J);
          session = n.session;
          sized = n.sized ∙ n.layout_is;
          wide = n.wide;
          known = n.known;
          whole_working = subst (λ (x : Model). Whole l x.working) (sym n.model_is) n.whole_working;
          whole_checkpoint = subst (λ (x : Model). Whole l x.checkpoint) (sym n.model_is) n.whole_checkpoint;
          inv = subst₂ (λ (X : Ops) (x : Model). Invariant l (d.adr_played ++ X) (replay (d.adr_played ++ X) d.durable) n.session (contents_of l x.checkpoint) (contents_of l x.working))
              (sym e) (sym n.model_is)
              (subst (λ (k : Layout). Invariant k (d.adr_played ++ n.ops) (replay (d.adr_played ++ n.ops) d.durable) n.session (contents_of l n.model.checkpoint) (contents_of l n.model.working))
              n.layout_is n.inv);
        }

    appended_crash : Appends s c → (p : ℕ) (H : Image) → p < length (outcome d c).ops → CrashImage d.durable (d.adr_played ++ adr_called_ops d c p) H
        → Leaves s (during c p) H
    appended_crash n p H h x = ⊎_elim
        (λ r. (s.model.checkpoint, inl refl, st.whole_checkpoint, subst (λ (k : Layout). Recoverable k H (checkpoint_of s)) n.layout_is r))
        (λ r. (
          s.model.working,
          inr ((r.0, stored r.1, h), refl),
          st.whole_working,
          subst (λ (k : Layout). Recoverable k H (working_of s)) n.layout_is r.2,
        ))
        (n.crash q H (subst (λ (X : Ops). CrashImage d.durable (d.adr_played ++ X) H) first x))
      where
        k : ℕ
        k = domain_of d.session c.args

        q : ℕ
        q = length (adr_called_ops d c p)

        first : adr_called_ops d c p ≡ take q n.ops
        first = part_take k p (adr_ops d c) ∙ ap (take q) n.ops_are

        stored : EpochStored (take q n.ops) → EpochStored (called_ops d c p)
        stored e = subst EpochStored (part_holds k p (adr_ops d c) ∙ ap (take p) (sym (ops_filtered d c)) ∙ sym (called p)) (epoch_kept k (subst EpochStored (sym first) e))

    appended_epoch : Appends s c → committed_epoch (step s c).device.image ≡ committed_epoch d.image + one_if (is_checkpoint c.args && served (outcome d c).status)
    unfolding step device_step
    appended_epoch n =
        ap (λ (J : Image). committed_epoch J) (appended_stands n).image
        ∙ ap (λ (X : Ops). committed_epoch (replay (d.adr_played ++ X) d.durable)) n.ops_are
        ∙ n.epoch ∙ ap (λ (J : Image). committed_epoch J + one_if (is_checkpoint c.args && served (outcome d c).status)) (sym st.image)

    appended_states : Appends s c → (i : ℕ) → i < l.mains → active_state (step s c).device.image i ≡ state_after d c i
    unfolding step device_step
    appended_states n i h =
        ap (λ (J : Image). active_state J i) (appended_stands n).image
        ∙ ap (λ (X : Ops). active_state (replay (d.adr_played ++ X) d.durable) i) n.ops_are
        ∙ n.states i (subst (λ (k : Layout). i < k.mains) (sym n.layout_is) h)

    appended_pairs : Appends s c → (j : ℕ) → j < most → backup_to_main (step s c).device.image j ≡ pair_after d c j
    unfolding step device_step
    appended_pairs n j h =
        ap (λ (J : Image). backup_to_main J j) (appended_stands n).image
        ∙ ap (λ (X : Ops). backup_to_main (replay (d.adr_played ++ X) d.durable) j) n.ops_are ∙ n.pairs j h

    appended : Appends s c → Argument s c
    appended n = record { stands = appended_stands n; crash = appended_crash n; epoch = appended_epoch n; states = appended_states n; pairs = appended_pairs n }

    -- a refused call: nothing is played, and model and session stay, or the session is that of zeros
    refused : (kept : Session) → Answered (outcome d c) false kept [] → (kept ≡ d.session) ⊎ (kept ≡ zero_session)
        → model_step l c.args false s.model ≡ s.model → Appends s c
    refused kept a keeps same = record {
      ops = [];
      ops_are = adr_refused d c a.status;
      model = s.model;
      model_is = ap (λ (b : Bool). model_step l c.args b s.model) a.status ∙ same;
      layout = l;
      layout_is = refl;
      session = st.session;
      sized = st.sized;
      wide = st.wide;
      known = ⊎_elim (λ e. ⊎_elim (λ q. inl (a.session ∙ e ∙ q)) (λ q. inr (a.session ∙ e ∙ q)) st.known) (λ e. inr (a.session ∙ e)) keeps;
      whole_working = st.whole_working;
      whole_checkpoint = st.whole_checkpoint;
      inv = subst (λ (X : Ops). Invariant l X (replay X d.durable) st.session (checkpoint_of s) (working_of s)) (sym (append-nil d.adr_played)) st.inv;
      epoch = low_epoch d.durable d.adr_played [] (λ k h. tt) ∙ rw a.status (no_count (is_checkpoint c.args));
      states = λ i h. low_states d.durable d.adr_played [] (λ k x. tt) i (omega (arith, st.inv.recovers.fit.sizes.0))
          ∙ sym (rw a.status (ap (λ (J : Image). active_state J i) st.image));
      pairs = λ j h. low_pairs d.durable d.adr_played [] (λ k x y. tt) j h ∙ sym (rw a.status (ap (λ (J : Image). backup_to_main J j) st.image));
      crash = λ p H x. inl (reopen_crash l d.adr_played d.durable st.session _ _ st.bytes st.inv 0 H (none p H x));
    }
      where
        no_count : (b : Bool) → committed_epoch I ≡ committed_epoch I + one_if (b && false)
        no_count true = omega arith
        no_count false = omega arith

        none : (p : ℕ) (H : Image) → CrashImage d.durable (d.adr_played ++ take p []) H → CrashImage d.durable (d.adr_played ++ []) H
        none p H x = subst (λ (X : Ops). CrashImage d.durable (d.adr_played ++ X) H) (take_all p [] (omega arith)) x

    -- A CALL by its status: refused, all is said; served, it has to say what it appends
    pub by_status : (e : ℕ) (kept next : Session) (R R' : Clients) (k : ℕ) (O : Ops) → outcome s.device c ≡ outcome_of e kept next R R' k O
        → (kept ≡ s.device.session) ⊎ (kept ≡ zero_session) → model_step s.device.layout c.args false s.model ≡ s.model
        → (e ≡ 0 → Answered (outcome s.device c) true next (for_domain k O) → Appends s c) → Argument s c
    by_status e kept next R R' k O is keeps same serves = appended (go (ℕ_discrete e 0))
      where
        go : Dec (e ≡ 0) → Appends s c
        go (yes h) = serves h (rw is (outcome-served e kept next R R' k O h))
        go (no h) = refused kept (rw is (outcome_refused e kept next R R' k O h)) keeps same
