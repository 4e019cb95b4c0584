-- The sisters of demand 3 (specs/CrashSafety.antt), proved: the reads follow the model, the same calls on the same board leave the same, a
-- finished opening settles, openings alone are safe, the epoch counts the checkpoints.
use Prim.Native.Nat.{ℕ, ◌+◌}
use mathlib.Core.Path.{◌≡◌, refl, sym, ap, ap₂, ◌∙◌, subst}
use mathlib.Core.Logic.{◌≢◌, ◌⊎◌, inl, inr, ⊎_elim}
use mathlib.Core.Bool.{Bool, true, false, cond}
use mathlib.Core.List.{List, [], ◌∷◌, ◌++◌}
use native.Mathlib.Omega.{arith}
use lib.ListN.{length, take}
use lib.Seq.{take-length}
use Rattle.model.proofs.Laws.Domain.{whole_part}
use Rattle.model.specs.declared.Layout.{Layout}
use Rattle.model.specs.declared.Session.{Session}
use Rattle.model.specs.Words.{Image}
use Rattle.model.specs.Status.{Errors, first_error, served}
use Rattle.model.specs.Container.{committed_epoch, active_state, backup_to_main, active_line, free_backups, checkpoint_bytes, container_errors, main_errors}
use Rattle.model.specs.Session.{fresh_session, zero_session, with_checkpoint, context_errors, domain_errors}
use Rattle.model.specs.Ops.{Ops, Trace, trace_errors, trace_short, replay, for_domain, first_part}
use Rattle.model.specs.Clients.{Clients, clients_errors, share_errors, cleared}
use Rattle.model.specs.Outcome.{Lent, lent, Outcome, outcome_of}
use Rattle.model.specs.Replay.{replay_outcome, replayed_ops}
use Rattle.model.specs.Range.{cat}
use Rattle.model.specs.Open.{recover_segment, recovery_ops, open_status, open_outcome}
use Rattle.model.specs.Write.{copy_plan, copies, write_ops, write_session, write_clients, backup_errors, early_errors, write_status, write_outcome}
use Rattle.model.specs.Discard.{discard_ops, discard_status, discard_outcome}
use Rattle.model.specs.Checkpoint.{checkpoint_ops, lent_errors, epoch_errors, checkpoint_status, checkpoint_outcome}
use Rattle.model.specs.Reference.{CallArgs, open_args, write_args, discard_args, checkpoint_args, model_step}
use Rattle.model.specs.Crash.{CrashImage}
use Rattle.model.specs.History.{Call, Device, State, answers, outcome, reported, played_ops, replayed_image, device_step, step, run, opened_image, start, AllPermitted, rule_ops}
use Rattle.model.specs.CrashSafety.{Reads}
use Rattle.model.specs.EpochCounts.{checkpoints, EpochCounts}
use Rattle.model.specs.Sisters.{ReadsFollowModel, SameCall, SameCalls, SameBoard, OpeningSettles, OpeningSafety}
use Rattle.model.proofs.Laws.Ops.{reported_is}
use Rattle.model.proofs.Argument.Settled.{settled_off}
use Rattle.model.proofs.Laws.Crash.Images.{newest, settled_only}
use Rattle.model.proofs.Argument.Recovery.{meta, recovery_keeps}
use Rattle.model.proofs.Argument.Recovery.Opening.{open_clear}
use Rattle.model.proofs.Argument.Pages.{contents_of, reads}
use Rattle.model.proofs.Argument.View.{low_epoch}
use Rattle.model.proofs.Argument.Stands.{Stands}
use Rattle.model.proofs.Argument.Openings.{open_served, opened_is, openings_keep, recovers, starting, starting_whole, start_stands, domain_known, open_played}
use Rattle.model.proofs.CrashSafety.{argument, history_stands}

-- where a history stands, the two reads give the two pages
pub stands_read : (s : State) → Stands s → Reads s.device.layout s.device.image s.model.working s.model.checkpoint
stands_read s st =
    subst (λ (K : Image). Reads s.device.layout K s.model.working s.model.checkpoint) (sym st.image)
    (reads s.device.layout _ s.model.checkpoint s.model.working st.whole_checkpoint st.whole_working st.inv.recovers st.inv.working)

pub reads_follow_model : ReadsFollowModel
reads_follow_model l d I t b h cs permitted = stands_read (run (start l d I t) cs) (history_stands l d I t b h cs permitted)

-- ---- same board, same tape

-- of two lists of refusals that differ in 11 at their end, neither of which gives 11, both give the same
short_last : (es : Errors) (a b : Bool) → first_error (es ++ (11, a) ∷ []) ≢ 11 → first_error (es ++ (11, b) ∷ []) ≢ 11
    → first_error (es ++ (11, a) ∷ []) ≡ first_error (es ++ (11, b) ∷ [])
unfolding first_error
short_last [] true b x y = absurd (x refl)
short_last [] false true x y = absurd (y refl)
short_last [] false false x y = refl
short_last (e ∷ es) a b x y = go e.1 x y (short_last es a b)
  where
    go : {m n : ℕ} (h : Bool) → cond h e.0 m ≢ 11 → cond h e.0 n ≢ 11 → (m ≢ 11 → n ≢ 11 → m ≡ n) → cond h e.0 m ≡ cond h e.0 n
    go true x y f = refl
    go false x y f = f x y

-- a number that depends on records of clients, with equal records put in their place
swapped : (f : Clients → ℕ) {R R' : Clients} {n : ℕ} → R ≡ R' → f R ≢ 11 → (f R' ≢ 11 → f R' ≡ n) → f R ≡ n
swapped f e x g = ap f e ∙ g (subst (λ (R : Clients). f R ≢ 11) e x)

-- a call looks at nothing of its trace but the length, and only to see whether it is too short
module _ (s : Session) (I : Image) (t u : Lent) where
  long_same : (a : CallArgs) → t.clients ≡ u.clients → length t.trace ≡ length u.trace → answers s I a t ≡ answers s I a u
  unfolding open_outcome open_status write_outcome write_status discard_outcome discard_status checkpoint_outcome checkpoint_status trace_short
  long_same (open_args l d) c e = rw (c, e)
  long_same (write_args w) c e = rw (c, e)
  long_same (discard_args i) c e = rw (c, e)
  long_same checkpoint_args c e = rw (c, e)

  enough_same : (a : CallArgs) → t.clients ≡ u.clients → (answers s I a t).status ≢ 11 → (answers s I a u).status ≢ 11 → answers s I a t ≡ answers s I a u
  unfolding open_outcome open_status write_outcome write_status discard_outcome discard_status checkpoint_outcome checkpoint_status outcome_of
  enough_same (open_args l d) c x y =
      ap₂ (λ (R : Clients) (e : ℕ). outcome_of e zero_session (fresh_session l d) R (cleared R) d (recovery_ops l I (active_line I))) c
      (swapped (λ R. first_error (container_errors l I ++ domain_errors d ++ clients_errors l R ++ trace_errors (for_domain d (recovery_ops l I (active_line I))) t.trace)) c x
      (λ x'. short_last (container_errors l I ++ domain_errors d ++ clients_errors l u.clients) _ _ x' y))
  enough_same (write_args w) c x y =
      ap₂ (λ (R : Clients) (e : ℕ). outcome_of e s (write_session s I w) R (write_clients s I w R) s.domain (write_ops s I w)) c
      (swapped (λ R. write_status s I w (lent R t.trace)) c x
      (λ x'. short_last (early_errors s I u.clients w ++ backup_errors (copy_plan s I w.main) ++ share_errors (copies (copy_plan s I w.main)) u.clients w.client (free_backups s.layout (active_state I) (backup_to_main I))) _ _ x' y))
  enough_same (discard_args i) c x y =
      ap₂ (λ (R : Clients) (e : ℕ). outcome_of e s s R R s.domain (discard_ops s I i)) c (short_last (context_errors s I ++ main_errors s.layout i) _ _ x y)
  enough_same checkpoint_args c x y =
      ap₂ (λ (R : Clients) (e : ℕ). outcome_of e s (with_checkpoint s) R (cleared R) s.domain (checkpoint_ops s I)) c
      (swapped (λ R. checkpoint_status s I (lent R t.trace)) c x
      (λ x'. short_last (lent_errors s I u.clients ++ epoch_errors I) _ _ x' y))

  answers_same : (a : CallArgs) → t.clients ≡ u.clients → (length t.trace ≡ length u.trace) ⊎ (((answers s I a t).status ≢ 11) × ((answers s I a u).status ≢ 11)) → answers s I a t ≡ answers s I a u
  answers_same a c = ⊎_elim (long_same a c) (λ x. enough_same a c x.0 x.1)

outcomes_same : (d : Device) (b c : Call) → SameCall d b c → outcome d b ≡ outcome d c
outcomes_same d b c (e, r, h) =
    let at : outcome d b ≡ answers d.session d.image c.args b.lends = ap (λ (a : CallArgs). answers d.session d.image a b.lends) e in
    at ∙ answers_same d.session d.image b.lends c.lends c.args r (⊎_elim inl (λ x. inr (subst (λ (o : Outcome). o.status ≢ 11) at x.0, x.1)) h)

-- and reports the same, whatever stood on the trace
reported_same : (O : Ops) (t u : Trace) → reported O t ≡ reported O u
reported_same O t u = reported_is O t ∙ sym (reported_is O u)

played_same : (I : Image) (O : Ops) (t u : Trace) (p : ℕ) → played_ops I O t p ≡ played_ops I O u p
unfolding played_ops
played_same I O t u p = ap (λ (x : Trace). replayed_ops x (replay_outcome I x p).played) (reported_same O t u)

image_same : (I : Image) (O : Ops) (t u : Trace) (p : ℕ) → replayed_image I O t p ≡ replayed_image I O u p
unfolding replayed_image
image_same I O t u p = ap (λ (x : Trace). (replay_outcome I x p).image) (reported_same O t u)

step_same : (s : State) (b c : Call) → SameCall s.device b c → step s b ≡ step s c
unfolding step device_step
step_same s b c same =
    let d : Device = s.device in
    let o = outcomes_same d b c same in
    let played = ap (λ (x : Outcome). played_ops d.image x.ops b.lends.trace (length x.ops)) o
    ∙ played_same d.image (outcome d c).ops b.lends.trace c.lends.trace (length (outcome d c).ops) in
    let image = ap (λ (x : Outcome). replayed_image d.image x.ops b.lends.trace (length x.ops)) o
    ∙ image_same d.image (outcome d c).ops b.lends.trace c.lends.trace (length (outcome d c).ops) in
    λ i. record {
      device = record {
        layout = d.layout;
        durable = d.durable;
        played = d.played ++ played i;
        adr_played = d.adr_played ++ cond (served (o i).status) (rule_ops d.session d.image (same.0 i)) [];
        image = image i;
        session = (o i).session;
      };
      model = model_step d.layout (same.0 i) (served (o i).status) s.model;
    }

run_same : (s : State) (bs cs : List Call) → SameCalls s bs cs → run s bs ≡ run s cs
unfolding run
run_same s [] [] same = refl
run_same s [] (c ∷ cs) same = absurd same
run_same s (b ∷ bs) [] same = absurd same
run_same s (b ∷ bs) (c ∷ cs) same = run_same (step s b) bs cs same.1 ∙ ap (λ (x : State). run x cs) (step_same s b c same.0)

opened_same : (l : Layout) (d : ℕ) (I : Image) (t u : Lent) → t.clients ≡ u.clients → (length t.trace ≡ length u.trace) ⊎ ((open_status l d I t ≢ 11) × (open_status l d I u ≢ 11)) → open_outcome l d I t ≡ open_outcome l d I u
unfolding open_outcome outcome_of
opened_same l d I t u r h = answers_same zero_session I t u (open_args l d) r h

start_same : (l : Layout) (d : ℕ) (I : Image) (t u : Lent) → open_outcome l d I t ≡ open_outcome l d I u → start l d I t ≡ start l d I u
unfolding start opened_image
start_same l d I t u e = rw (e, image_same I (open_outcome l d I u).ops t.trace u.trace (length (open_outcome l d I u).ops)) refl

pub same_board : SameBoard
same_board = record {
  calls = λ d b c same.
      let o = outcomes_same d b c same in
      (o, ap (λ (x : Outcome). reported x.ops b.lends.trace) o ∙ reported_same (outcome d c).ops b.lends.trace c.lends.trace);
  histories = λ l d I t u r h bs cs same. run_same (start l d I t) bs cs same ∙ ap (λ (s : State). run s cs) (start_same l d I t u (opened_same l d I t u r h));
}

-- ---- openings

pub opening_settles : OpeningSettles
unfolding recovery_ops
opening_settles M within l I t b h =
    let d : ℕ = M.domain in
    let O = recovery_ops l I (active_line I) in
    let n : ℕ = length (open_outcome l d I t).ops in
    let e : opened_image l d I t ≡ replay O I = opened_is l d I t h in
    let all : (open_outcome l d I t).ops ≡ played_ops I (open_outcome l d I t).ops t.trace n =
    sym (take-length _) ∙ ap (take n) (open_served l d I t h).ops ∙ sym (open_played l d I t h n) in
    let part : first_part d n O ≡ O = whole_part d (cat l.mains (recover_segment l I (active_line I))) n (ap length (open_served l d I t h).ops) in (
      subst (CrashImage I O) (sym e) (newest I O),
      λ H c. settled_only I H O (λ ℓ. recovery_keeps l (active_line I) I ℓ [] (settled_off ℓ [] (λ i e. tt)))
          (subst (λ (X : Ops). CrashImage I X H) part (within.opening l I t b h n H (subst (λ (X : Ops). M.leaves I X H) all c))) ∙ sym e,
    )

pub opening_safety : OpeningSafety
opening_safety M within l I t b h H openings t' ne =
    let d : ℕ = M.domain in
    let P = checkpoint_bytes l I (active_line I) in
    let known = domain_known l d I t h in
    let r = openings_keep M within known (contents_of l P) (starting l d I t b h) openings in
    (recovers l d H t' P known (starting_whole l d I t b h) r ne, r.fit.bytes)

-- every call raises the epoch by the checkpoints that it is
run_epoch : (s : State) (cs : List Call) → Stands s → AllPermitted cs → committed_epoch (run s cs).device.image ≡ committed_epoch s.device.image + checkpoints s cs
unfolding run checkpoints
run_epoch s [] st permitted = omega arith
run_epoch s (c ∷ cs) st permitted =
    let a = argument s st c permitted.0 in
    run_epoch (step s c) cs a.stands permitted.1 ∙ omega (arith, a.epoch)

pub epoch_counts : EpochCounts
unfolding start replay
epoch_counts l d I t b h cs permitted =
    let O = recovery_ops l I (active_line I) in
    run_epoch (start l d I t) cs (start_stands l d I t b h) permitted
    ∙ ap (λ (n : ℕ). n + checkpoints (start l d I t) cs)
    (ap (λ (J : Image). committed_epoch J) (opened_is l d I t h) ∙ low_epoch I [] O (λ k q. open_clear l I _ (starting l d I t b h) k (meta (omega arith))))
