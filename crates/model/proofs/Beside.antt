-- A history of any kinds, and beside it the one of kind 0 with the same served calls (`adr_histories`, specs/Domains.antt): they leave the same
-- image and pages, and what the second plays is what the first has with the flushes put in.
use Prim.Native.Nat.{ℕ, ◌*◌, ◌≤◌}
use mathlib.Core.Path.{◌≡◌, refl, sym, ap, ap₂, ◌∙◌, subst}
use mathlib.Core.Logic.{◌≢◌, ◌⊎◌, inl, inr, ⊎_elim}
use mathlib.Core.Bool.{Bool, true, false}
use mathlib.Core.List.{List, ◌++◌, append-nil}
use native.Mathlib.Omega.{arith}
use lib.ListN.{length}
use borrow.Author.Tests.{eq-eqb, ne_eqb}
use Rattle.model.specs.declared.Layout.{Layout}
use Rattle.model.specs.declared.Session.{Session}
use Rattle.model.specs.Words.{Image, Bytes}
use Rattle.model.specs.Status.{served}
use Rattle.model.specs.Container.{active_line}
use Rattle.model.specs.Session.{adr, fresh_session, zero_session}
use Rattle.model.specs.Ops.{Ops, Trace, replay}
use Rattle.model.specs.Outcome.{Lent, lent, Outcome, outcome_of}
use Rattle.model.specs.Open.{recovery_ops, open_status, open_outcome}
use Rattle.model.specs.Write.{write_outcome}
use Rattle.model.specs.Discard.{discard_outcome}
use Rattle.model.specs.Checkpoint.{checkpoint_outcome}
use Rattle.model.specs.Reference.{Model, CallArgs, open_args, write_args, discard_args, checkpoint_args, model_step}
use Rattle.model.specs.History.{Call, Device, State, answers, outcome, rule_ops, adr_ops, device_step, step, run, start, PermittedArgs, Permitted, AllPermitted, GivenDomain, OwnDomain}
use Rattle.model.specs.Domains.{with_domain, args_with, Beside, done, serves, refuses, AdrHistories}
use Rattle.model.proofs.Laws.Open.{zero_write, zero_discard, zero_checkpoint}
use Rattle.model.proofs.Laws.Domain.{adr-served, adr_refused}
use Rattle.model.proofs.Laws.Traces.{adr_traces}
use Rattle.model.proofs.Argument.Stands.{Stands}
use Rattle.model.proofs.Argument.Openings.{open_served, opened_is, start_stands}
use Rattle.model.proofs.CrashSafety.{argument}
use Rattle.model.proofs.Domains.{AdrOnly, adr_called, adr-step, adr-start}

-- ---- one call

-- the sessions are the same but for the kind, or the first is the zeros of a refused opening, with which nothing but an opening is served
abbrev AlikeSessions : Session → Session → Type 0
AlikeSessions s z = (z ≡ with_domain adr s) ⊎ (s ≡ zero_session)

-- what a served call answers with kind 0
abbrev AnswersAlike : Session → Session → Image → CallArgs → Lent → Trace → Type 0
AnswersAlike s z I a k t =
    let o : Outcome = answers z I (args_with adr a) (lent k.clients t) in
    (o.status ≡ 0) × (o.ops ≡ rule_ops s I a) × (o.session ≡ with_domain adr (answers s I a k).session) × (o.clients ≡ (answers s I a k).clients)

serves_alike : (s z : Session) (I : Image) (a : CallArgs) (k : Lent) (t : Trace) → AlikeSessions s z → (answers s I a k).status ≡ 0
    → 3 * length (rule_ops s I a) ≤ length t → AnswersAlike s z I a k t
unfolding write_outcome discard_outcome checkpoint_outcome outcome_of
serves_alike s z I a k t alike h room = ⊎_elim
    (λ e. subst (λ (x : Session). AnswersAlike s x I a k t) (sym e) whole)
    (λ e. go a whole (λ n. omega (arith, sym h ∙ ap (λ (x : Session). (answers x I a k).status) e ∙ n)))
    alike
  where
    whole : AnswersAlike s (with_domain adr s) I a k t
    whole = adr_traces.whole s I a k h t room

    go : (a : CallArgs) → AnswersAlike s (with_domain adr s) I a k t → ((answers zero_session I a k).status ≡ 1 → ⊥) → AnswersAlike s z I a k t
    go (open_args l d) w n = w
    go (write_args v) w n = absurd (n (zero_write I v k))
    go (discard_args i) w n = absurd (n (zero_discard I i k))
    go checkpoint_args w n = absurd (n (zero_checkpoint I k))

-- a refused call keeps its session, or answers zeros
refused_keeps : (s : Session) (I : Image) (a : CallArgs) (k : Lent) → (answers s I a k).status ≢ 0
    → ((answers s I a k).session ≡ s) ⊎ ((answers s I a k).session ≡ zero_session)
unfolding open_outcome write_outcome discard_outcome checkpoint_outcome outcome_of
refused_keeps s I (open_args l d) k h = inr (rw (ne_eqb _ _ h))
refused_keeps s I (write_args w) k h = inl (rw (ne_eqb _ _ h))
refused_keeps s I (discard_args i) k h = inl (rw (ne_eqb _ _ h))
refused_keeps s I checkpoint_args k h = inl (rw (ne_eqb _ _ h))

-- the model and what is permitted do not look at the kind, and a refused call leaves the model
model_alike : (l : Layout) (a : CallArgs) (b : Bool) (m : Model) → model_step l (args_with adr a) b m ≡ model_step l a b m
unfolding model_step
model_alike l (open_args k d) true m = refl
model_alike l (open_args k d) false m = refl
model_alike l (write_args w) b m = refl
model_alike l (discard_args i) b m = refl
model_alike l checkpoint_args b m = refl

model_kept : (l : Layout) (a : CallArgs) (m : Model) → model_step l a false m ≡ m
unfolding model_step
model_kept l (open_args k d) m = refl
model_kept l (write_args w) m = refl
model_kept l (discard_args i) m = refl
model_kept l checkpoint_args m = refl

permitted_alike : (a : CallArgs) → PermittedArgs a → PermittedArgs (args_with adr a)
permitted_alike (open_args l d) h = tt
permitted_alike (write_args w) h = h
permitted_alike (discard_args i) h = tt
permitted_alike checkpoint_args h = tt

given_alike : (a : CallArgs) → GivenDomain adr (args_with adr a)
given_alike (open_args l d) = refl
given_alike (write_args w) = tt
given_alike (discard_args i) = tt
given_alike checkpoint_args = tt

-- ---- where the two histories stand

record Alike (s z : State) : Type 0 where
  layout : z.device.layout ≡ s.device.layout
  durable : z.device.durable ≡ s.device.durable
  full : z.device.adr_played ≡ s.device.adr_played
  sessions : AlikeSessions s.device.session z.device.session
  model : z.model ≡ s.model
  here : Stands s
  there : Stands z
  only : AdrOnly z

same_image : {s z : State} → Alike s z → z.device.image ≡ s.device.image
same_image a = a.there.image ∙ ap₂ replay a.full a.durable ∙ sym a.here.image

-- a served call, made in both
alike_serves : (s z : State) (c c' : Call) → Alike s z → Permitted c → (outcome s.device c).status ≡ 0
    → c'.args ≡ args_with adr c.args → c'.lends.clients ≡ c.lends.clients
    → 3 * length (rule_ops s.device.session s.device.image c.args) ≤ length c'.lends.trace → Alike (step s c) (step z c')
unfolding step device_step
alike_serves s z c c' a permitted h ea ec room =
    let d : Device = s.device in
    let n : Device = z.device in
    let w = serves_alike d.session n.session d.image c.args c.lends c'.lends.trace a.sessions h room in
    let o : outcome n c' ≡ answers n.session d.image (args_with adr c.args) (lent c.lends.clients c'.lends.trace) =
    (λ i. answers n.session (same_image a i) (ea i) (record { clients = ec i; trace = c'.lends.trace })) in
    let own : OwnDomain adr n c' = (λ x. subst (GivenDomain adr) (sym ea) (given_alike c.args)) in
    let ok : Permitted c' = subst PermittedArgs (sym ea) (permitted_alike c.args permitted) in
    let yes : served (outcome d c).status ≡ true = eq-eqb _ _ h in
    let now : served (outcome n c').status ≡ true = eq-eqb _ _ (ap (λ (x : Outcome). x.status) o ∙ w.0) in
    let ops : adr_ops n c' ≡ adr_ops d c = sym (adr_called n c' a.only.session own 0).0 ∙ ap (λ (x : Outcome). x.ops) o ∙ w.1 ∙ sym (adr-served d c yes) in
    record {
      layout = a.layout;
      durable = a.durable;
      full = ap₂ (λ (X Y : Ops). X ++ Y) a.full ops;
      sessions = inl (ap (λ (x : Outcome). x.session) o ∙ w.2);
      model = (λ i. model_step (a.layout i) (ea i) (served (outcome n c').status) (a.model i)) ∙ model_alike d.layout c.args (served (outcome n c').status) s.model
          ∙ ap (λ (b : Bool). model_step d.layout c.args b s.model) (now ∙ sym yes);
      here = (argument s a.here c permitted).stands;
      there = (argument z a.there c' ok).stands;
      only = adr-step z a.there a.only c' own;
    }

-- a refused one, made in the first alone
alike_refuses : (s z : State) (c : Call) → Alike s z → Permitted c → (outcome s.device c).status ≢ 0 → Alike (step s c) z
unfolding step device_step
alike_refuses s z c a permitted h =
    let d : Device = s.device in
    let no : served (outcome d c).status ≡ false = ne_eqb _ _ h in
    record {
      layout = a.layout;
      durable = a.durable;
      full = a.full ∙ sym (append-nil d.adr_played) ∙ ap (λ (X : Ops). d.adr_played ++ X) (sym (adr_refused d c no));
      sessions = ⊎_elim
          (λ e. ⊎_elim (λ q. inl (q ∙ ap (with_domain adr) (sym e))) (λ q. inr (e ∙ q)) a.sessions)
          (λ e. inr e)
          (refused_keeps d.session d.image c.args c.lends h);
      model = a.model ∙ sym (ap (λ (b : Bool). model_step d.layout c.args b s.model) no ∙ model_kept d.layout c.args s.model);
      here = (argument s a.here c permitted).stands;
      there = a.there;
      only = a.only;
    }

alike_run : (s z : State) (cs cs' : List Call) → Alike s z → AllPermitted cs → Beside s cs cs' → Alike (run s cs) (run z cs')
unfolding run
alike_run s z _ _ a permitted done = a
alike_run s z _ _ a permitted (serves {c = c} {c' = c'} {cs = cs} {cs' = cs'} h ea ec room rest) =
    alike_run (step s c) (step z c') cs cs' (alike_serves s z c c' a permitted.0 h ea ec room) permitted.1 rest
alike_run s z _ _ a permitted (refuses {c = c} {cs = cs} {cs' = cs'} h rest) =
    alike_run (step s c) z cs cs' (alike_refuses s z c a permitted.0 h) permitted.1 rest

-- the starting openings
alike_start : (l : Layout) (d : ℕ) (I : Image) (k k' : Lent) → Bytes I → open_status l d I k ≡ 0 → open_status l adr I k' ≡ 0 → Alike (start l d I k) (start l adr I k')
unfolding start fresh_session
alike_start l d I k k' b h z = record {
  layout = refl;
  durable = opened_is l adr I k' z ∙ sym (opened_is l d I k h);
  full = refl;
  sessions = inl ((open_served l adr I k' z).session ∙ ap (with_domain adr) (sym (open_served l d I k h).session));
  model = refl;
  here = start_stands l d I k b h;
  there = start_stands l adr I k' b z;
  only = adr-start l I k' z;
}

opens_adr : (l : Layout) (d : ℕ) (I : Image) (k k' : Lent) → open_status l d I k ≡ 0 → k'.clients ≡ k.clients → 3 * length (recovery_ops l I (active_line I)) ≤ length k'.trace
    → open_status l adr I k' ≡ 0
unfolding open_outcome outcome_of
opens_adr l d I k k' h ec room =
    (λ i. open_status l adr I (record { clients = ec i; trace = k'.trace })) ∙ (adr_traces.whole zero_session I (open_args l d) k h k'.trace room).0

pub adr_histories : AdrHistories
adr_histories l d I k k' b h ec room cs permitted cs' beside =
    let z : open_status l adr I k' ≡ 0 = opens_adr l d I k k' h ec room in
    let a = alike_run (start l d I k) (start l adr I k') cs cs' (alike_start l d I k k' b h z) permitted beside in
    (same_image a, a.only.played ∙ a.full, a.model)
