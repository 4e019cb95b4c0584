-- What a crash inside a checkpoint can leave, and what opening shows of it: by demand 3 before the window and after it, and by two
-- images inside.
use Prim.Native.Nat.{ℕ, ◌+◌, ◌-◌, ◌%◌, ◌≤◌, ◌<◌}
use mathlib.Core.Path.{◌≡◌, refl, sym, ap, ap₂, subst, ◌∙◌}
use mathlib.Core.Logic.{⊎_elim}
use mathlib.Core.Bool.{Bool, true, false, ◌||◌, false≢true}
use mathlib.Core.List.{[], ◌∷◌, ◌++◌}
use native.Mathlib.Omega.{arith}
use lib.Dec.{eqb}
use lib.ListN.{length, take, length-append, length-take}
use lib.Seq.{take-take}
use Rattle.model.specs.declared.Layout.{Layout}
use Rattle.model.specs.declared.Session.{Session}
use Rattle.model.specs.Words.{Image, byte_at}
use Rattle.model.specs.Layout.{line_size, epoch_at}
use Rattle.model.specs.Container.{active_line, checkpoint_bytes}
use Rattle.model.specs.Session.{adr}
use Rattle.model.specs.Clients.{Clients}
use Rattle.model.specs.Ops.{Ops, store, clwb, sfence, replay}
use Rattle.model.specs.Outcome.{Lent, lent, Outcome}
use Rattle.model.specs.Open.{open_status}
use Rattle.model.specs.Write.{WriteArgs}
use Rattle.model.specs.Crash.{CrashImage}
use Rattle.model.specs.Reference.{Page, write_args, checkpoint_args, model_step}
use Rattle.model.specs.History.{Call, State, outcome, played_ops, called_ops, step, Permitted, OwnDomain}
use Rattle.model.specs.CrashSafety.{Recovers, between, during, EpochStored, Window, none, Module, Enough, WithinAdr, adr_module}
use Rattle.model.specs.EpochCounts.{is_checkpoint}
use Rattle.cases.specs.Turns.{Point, call_at, answer_at, turn}
use Rattle.cases.specs.Table.{long_trace, checkpoint}
use Rattle.cases.specs.Cut.{MayLeave, OnlyShows, EitherPage, CutCheckpoint}
use Rattle.model.proofs.Laws.Range.{or_right}
use Rattle.model.proofs.Laws.Ops.{played_ops_lem}
use Rattle.model.proofs.Laws.Replay.{checkpoint_outcome_ok}
use Rattle.model.proofs.Laws.Crash.Images.{newest, crash_after}
use Rattle.model.proofs.Argument.Persist.{length-replay}
use Rattle.model.proofs.Argument.Stands.{Stands, rest_crash}
use Rattle.model.proofs.Argument.Openings.{recovers}
use Rattle.model.proofs.CrashSafety.{argument}
use Rattle.model.proofs.Domains.{adr_within_lem, adr_played_lem}
use Rattle.model.proofs.Sisters.{opening_safety}
use Rattle.cases.proofs.Compute.{same, same_equal, small, small_bytes}
use Rattle.cases.proofs.Starts.{Holds, hold_saved}
use Rattle.cases.proofs.Goes.{At, answer_on, answers_at}

-- ---- an image that a crash may leave, and what opening shows of it

-- a crash may leave what stood before the last two operations, before the last, or at the end: a clwb that has an sfence
-- after it is not among the last
late : (I : Image) (O : Ops) (k : ℕ) (H : Image) → k ≤ length O → length O ≤ k + 2 → replay (take k O) I ≡ H → CrashImage I O H
late I O k H k≤ ≤k e = record {
  long = ap length (sym e) ∙ length-replay (take k O) I;
  lines = λ ℓ. record {
    k = k;
    within = k≤;
    durable = λ A C D p line split. omega (arith, ap length split, length-append (A ++ clwb p ∷ C) (sfence ∷ D), length-append A (clwb p ∷ C));
    agree = λ i line. ap (λ (J : Image). byte_at J i) (sym e);
  };
}

-- what was played leaves what stands
stood : (s : State) → Stands s → replay s.device.played s.device.durable ≡ s.device.image
stood s st = st.same s.device.durable ∙ sym st.image

-- between two calls it may leave that
pub may_leave : (s : State) → Stands s → (H : Image) → s.device.image ≡ H → MayLeave adr_module s between H
may_leave s st H e =
    subst (CrashImage s.device.durable s.device.played) (stood s st ∙ e) (newest s.device.durable s.device.played)

-- what opening shows of an image that it serves, with any trace and any records that are not refused; and with those that were served
pub shows_any : (M : Module) → WithinAdr M → (l : Layout) (H : Image) (k : Lent) (Q : Page) → open_status l M.domain H k ≡ 0 → small H ≡ true
    → same (checkpoint_bytes l H (active_line H)) Q ≡ true → (m : Lent) → Enough l M.domain H m → Recovers l M.domain H m Q
shows_any M within l H k Q served bytes is m enough =
    subst (Recovers l M.domain H m) (same_equal _ _ is) (opening_safety M within l H k (small_bytes H bytes) served H none m enough).0

pub shows : (l : Layout) (H : Image) (k : Lent) (Q : Page) → open_status l adr H k ≡ 0 → small H ≡ true → same (checkpoint_bytes l H (active_line H)) Q ≡ true
    → Recovers l adr H k Q
shows l H k Q served bytes is = shows_any adr_module adr_within_lem l H k Q served bytes is k ((λ e. omega arith), (λ e. omega arith))

-- ---- before the window and after it

unfoldable pub stores_epoch : Ops → Bool
stores_epoch [] = false
stores_epoch (store p w ∷ O) = eqb p epoch_at || stores_epoch O
stores_epoch (clwb p ∷ O) = stores_epoch O
stores_epoch (sfence ∷ O) = stores_epoch O

epoch_stored : (A D : Ops) (w : ℕ) → stores_epoch (A ++ store epoch_at w ∷ D) ≡ true
unfolding stores_epoch
epoch_stored [] D w = refl
epoch_stored (store p v ∷ A) D w = or_right (eqb p epoch_at) (epoch_stored A D w)
epoch_stored (clwb p ∷ A) D w = epoch_stored A D w
epoch_stored (sfence ∷ A) D w = epoch_stored A D w

not_yet : (O : Ops) → stores_epoch O ≡ false → EpochStored O → ⊥
not_yet O none_yet w = false≢true (sym none_yet ∙ ap stores_epoch w.3 ∙ epoch_stored w.0 w.1 w.2)

-- a write is no checkpoint, so that it has no window
pub no_checkpoint : {w : WriteArgs} → write_args w ≡ checkpoint_args → ⊥
no_checkpoint e = false≢true (ap is_checkpoint e)

-- in a call that is made in state s, outside the window
pub shows_during : (s : State) → Holds s → (c : Call) → Permitted c → OwnDomain adr s.device c → (p : ℕ) (Q : Page) → p < length (outcome s.device c).ops
    → (Window s.device c p → ⊥) → s.model.checkpoint ≡ Q → OnlyShows adr_module s (during c p) Q
shows_during s h c permitted own p Q more outside is H crash k enough =
    let played = adr_played_lem s h.stands h.only (during c p) (permitted, own, more) in
    let x = (argument s h.stands c permitted).crash p H more (subst (λ (X : Ops). CrashImage s.device.durable X H) played crash) in
    subst (Recovers s.device.layout adr H k) (⊎_elim (λ e. e ∙ is) (λ w. absurd (outside w.0)) x.1)
    (recovers s.device.layout adr H k x.0 refl x.2 x.3 enough)

-- at rest
pub shows_between : (s : State) → Holds s → (Q : Page) → s.model.checkpoint ≡ Q → OnlyShows adr_module s between Q
shows_between s h Q is H crash k enough =
    subst (Recovers s.device.layout adr H k) is
    (recovers s.device.layout adr H k s.model.checkpoint refl h.stands.whole_checkpoint
    (rest_crash s h.stands H (subst (λ (X : Ops). CrashImage s.device.durable X H) h.only.played crash)) enough)

-- ---- the cut of a checkpoint

-- it is made at a point with the image I, the session x and the records R, and has n operations
module _ (q : Point) (h : Holds q.state) (I : Image) (x : Session) (R : Clients) (n : ℕ) (here : At q I x R)
    (whole : length I % line_size ≡ 0) (enough : 3 ≤ n) where
  abbrev s : State
  s = q.state

  abbrev ops : Ops
  ops = (answer_on x I R checkpoint).ops

  called : (p : ℕ) → called_ops s.device (call_at q checkpoint) p ≡ take p ops
  called p =
      ap₂ (λ (a : Outcome) (J : Image). played_ops J a.ops long_trace p) (answers_at checkpoint q here) here.image
      ∙ played_ops_lem I ops long_trace p whole (checkpoint_outcome_ok x I (lent R long_trace))

  made : length (answer_at q checkpoint).ops ≡ length ops
  made = ap (λ (a : Outcome). length a.ops) (answers_at checkpoint q here)

  -- what stood after k of the p operations that were played
  leaves : (p k : ℕ) (H : Image) → k ≤ p → p ≤ length ops → p ≤ k + 2 → replay (take k ops) I ≡ H → MayLeave adr_module s (during (call_at q checkpoint) p) H
  leaves p k H low high near e =
      subst (λ (X : Ops). CrashImage s.device.durable (s.device.played ++ X) H) (sym (called p))
      (crash_after s.device.durable H s.device.played (take p ops)
      (subst (λ (J : Image). CrashImage J (take p ops) H) (sym (stood s h.stands ∙ here.image))
      (late I (take p ops) k H (omega (arith, length-take p ops)) (omega (arith, length-take p ops))
      (ap (λ (X : Ops). replay X I) (take-take k p ops low) ∙ e))))

  -- before the epoch's store the image old stands, which shows the page P; after it the image new, which shows the page W
  pub cut_checkpoint : (P W : Page) (old new : Image) → (answer_on x I R checkpoint).status ≡ 0 → length ops ≡ n → stores_epoch (take (n - 3) ops) ≡ false
      → same (replay (take (n - 3) ops) I) old ≡ true → same (replay (take (n - 2) ops) I) new ≡ true
      → (k : Lent) → Recovers s.device.layout adr old k P → Recovers s.device.layout adr new k W
      → s.model.checkpoint ≡ P → s.model.working ≡ W → CutCheckpoint n q P W
  unfolding turn step model_step
  cut_checkpoint P W old new served count none_yet before after k shows_old shows_new saved working =
      record {
        count = made ∙ count;
        before =
            shows_during s h (call_at q checkpoint) tt (λ x. tt) (n - 3) P (omega (arith, made, count))
            (λ w. not_yet (take (n - 3) ops) none_yet (subst EpochStored (called (n - 3)) w.1)) saved;
        stored = either (n - 2) (omega arith) (omega (arith, count)) (omega arith);
        flushed = either (n - 1) (omega arith) (omega (arith, count)) (omega arith);
        after =
            shows_between (step s (call_at q checkpoint)) (hold_saved s (call_at q checkpoint).lends h) W
            (rw (ap (λ (a : Outcome). a.status) (answers_at checkpoint q here) ∙ served) working);
      }
    where
      either : (p : ℕ) → n - 2 ≤ p → p ≤ length ops → p ≤ n - 3 + 2 → EitherPage s (during (call_at q checkpoint) p) P W
      either p low high near = record {
        can_old = (old, leaves p (n - 3) old (omega arith) high near (same_equal _ _ before), k, shows_old);
        can_new = (new, leaves p (n - 2) new low high (omega arith) (same_equal _ _ after), k, shows_new);
      }
