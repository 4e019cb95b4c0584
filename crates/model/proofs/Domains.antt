-- The two kinds of module are modules of which demand 3 speaks (`both_kinds`, specs/CrashSafety.antt), and what else specs/Domains.antt
-- says: a module that holds every store is safe whichever kind its openings are given, and kind 1 shows one page.
use Prim.Native.Nat.{ℕ, ◌*◌, ◌+◌, ◌<◌, ◌≤◌}
use mathlib.Core.Path.{◌≡◌, refl, sym, ap, ap₂, ◌∙◌, subst}
use mathlib.Core.Logic.{◌⊎◌, inl, inr, ⊎_elim, ◌≢◌}
use mathlib.Core.Bool.{Bool, true, false, cond, true≢false}
use mathlib.Core.List.{List, [], ◌∷◌, ◌++◌}
use native.Mathlib.Omega.{arith}
use lib.ListN.{length, take}
use lib.Seq.{take-nil}
use Rattle.model.proofs.Laws.Counts.Checkpoint.{window_is, epoch_played, epoch_stored_late}
use native.Mathlib.Decide.{ℕ_discrete, dec_le, dec_lt}
use Rattle.model.proofs.Laws.Outcome.{outcome_refused, outcome-served}
use Rattle.model.proofs.Argument.View.{Recoverable}
use Rattle.model.proofs.Argument.Pages.{contents_of}
use Rattle.model.specs.EpochCounts.{is_checkpoint}
use Rattle.model.specs.Counts.{flushes, dirty_total}
use Rattle.model.specs.declared.Layout.{Layout}
use Rattle.model.specs.declared.Session.{Session}
use Rattle.model.specs.Words.{Image, Bytes}
use Rattle.model.specs.Status.{served}
use Rattle.model.specs.Container.{active_line}
use Rattle.model.specs.Session.{adr, eadr, fresh_session, zero_session, with_dirty, with_checkpoint}
use Rattle.model.specs.Ops.{Ops, for_domain, first_part, replay}
use Rattle.model.specs.Outcome.{Lent, outcome_of}
use Rattle.model.specs.Open.{recovery_ops, open_status, open_outcome}
use Rattle.model.specs.Write.{write_session, write_status, write_outcome}
use Rattle.model.specs.Discard.{discard_status, discard_outcome}
use Rattle.model.specs.Checkpoint.{checkpoint_status, checkpoint_outcome, checkpoint_ops}
use Rattle.model.specs.Crash.{CrashImage, Held}
use Rattle.model.specs.Reference.{CallArgs, open_args, write_args, discard_args, checkpoint_args, Page, model_step, Model}
use Rattle.model.specs.History.{Call, Device, State, answers, outcome, domain_of, adr_ops, called_ops, adr_called_ops, device_step, step, run, start, AllPermitted, GivenDomain, OwnDomain, AllOwnDomain, call_checkpoint, Permitted}
use Rattle.model.specs.CrashSafety.{Moment, between, during, PermittedAt, played_at, adr_played_at, WithinAdr, adr_module, eadr_module, BothKinds, Window, EpochStored, Recovers}
use Rattle.model.specs.Domains.{InDoubtAdr, EadrWindow, EadrShows, Shown}
use Rattle.model.proofs.Laws.Domain.{domain_adr, domain_replay, part_holds, part_adr, ops_filtered, adr_refused, adr-served}
use Rattle.model.proofs.Laws.Crash.Images.{newest}
use Rattle.model.proofs.Laws.Replay.{call_ok}
use Rattle.model.proofs.Argument.Persist.{replay_append}
use Rattle.model.proofs.Argument.Stands.{Stands, called, called_all, image_of, working_of, rest_crash}
use Rattle.model.proofs.Argument.Openings.{open_served, open_played, start_stands, domain_known, openings_keep, recovers}
use Rattle.model.proofs.CrashSafety.{argument, history_stands, crash_safety}

-- what was played at a moment leaves the same as with the flushes put in
pub played_same : (k : ℕ) (s : State) → Stands s → (m : Moment) → PermittedAt k s.device m → (J : Image)
    → replay (played_at s.device m) J ≡ replay (adr_played_at s.device m) J
played_same k s st between permitted J = st.same J
played_same k s st (during c p) permitted J =
    let d : Device = s.device in
    let K : Image = replay d.played J in
    let n : ℕ = domain_of d.session c.args in
    let first : called_ops d c p ≡ for_domain n (adr_called_ops d c p) = called s st c (call_ok d c) p ∙ ap (take p) (ops_filtered d c) ∙ sym (part_holds n p (adr_ops d c)) in
    replay_append d.played (called_ops d c p) J ∙ ap (λ (X : Ops). replay X K) first ∙ domain_replay n (adr_called_ops d c p) K
    ∙ ap (replay (adr_called_ops d c p)) (st.same J) ∙ sym (replay_append d.adr_played (adr_called_ops d c p) J)

-- A MODULE THAT HOLDS EVERY STORE, whichever kind its openings are given: what was played is one of the images that kind 0 allows
pub held_within : (d : ℕ) → WithinAdr (record { domain = d; leaves = Held })
held_within d = record {
  history = λ l I t b h cs permitted own m pm H e.
      let s : State = run (start l d I t) cs in
      let same = played_same d s (history_stands l d I t b h cs permitted) m pm s.device.durable in
      subst (CrashImage s.device.durable (adr_played_at s.device m)) (sym (e ∙ same)) (newest s.device.durable (adr_played_at s.device m));
  opening = λ l I t b h p H e.
      let O : Ops = recovery_ops l I (active_line I) in
      let same = ap (λ (X : Ops). replay X I) (open_played l d I t h p ∙ sym (part_holds d p O)) ∙ domain_replay d (first_part d p O) I in
      subst (CrashImage I (first_part d p O)) (sym (e ∙ same)) (newest I (first_part d p O));
}

-- KIND 0 ITSELF: in its histories every trace is for kind 0, and has all flushes
pub record AdrOnly (s : State) : Type 0 where
  pub session : s.device.session.domain ≡ adr
  pub played : s.device.played ≡ s.device.adr_played

-- the session that a call answers is of kind 0
session_adr : (d : Device) (c : Call) → d.session.domain ≡ adr → OwnDomain adr d c → (outcome d c).session.domain ≡ adr
unfolding open_outcome write_outcome discard_outcome checkpoint_outcome outcome_of fresh_session zero_session write_session with_dirty with_checkpoint
session_adr d c e own = go c.args own
  where
    by : (b : Bool) (next kept : Session) → (b ≡ true → next.domain ≡ adr) → kept.domain ≡ adr → (cond b next kept).domain ≡ adr
    by true next kept x y = x refl
    by false next kept x y = y

    go : (a : CallArgs) → (served (answers d.session d.image a c.lends).status ≡ true → GivenDomain adr a) → (answers d.session d.image a c.lends).session.domain ≡ adr
    go (open_args l k) h = by (served (open_status l k d.image c.lends)) (fresh_session l k) zero_session h refl
    go (write_args w) h = by (served (write_status d.session d.image w c.lends)) _ _ (λ x. e) e
    go (discard_args i) h = by (served (discard_status d.session d.image i c.lends)) _ _ (λ x. e) e
    go checkpoint_args h = by (served (checkpoint_status d.session d.image c.lends)) _ _ (λ x. e) e

-- and what it plays has all flushes: it is for kind 0, or refused
adr_or_none : (d : Device) (c : Call) → d.session.domain ≡ adr → OwnDomain adr d c → (domain_of d.session c.args ≡ adr) ⊎ (adr_ops d c ≡ [])
adr_or_none d c e own = go (served (outcome d c).status) refl c.args own
  where
    kind : (a : CallArgs) → GivenDomain adr a → domain_of d.session a ≡ adr
    kind (open_args l k) h = h
    kind (write_args w) h = e
    kind (discard_args i) h = e
    kind checkpoint_args h = e

    go : (b : Bool) → served (outcome d c).status ≡ b → (a : CallArgs) → (served (outcome d c).status ≡ true → GivenDomain adr a) → (domain_of d.session a ≡ adr) ⊎ (adr_ops d c ≡ [])
    go true x a h = inl (kind a (h x))
    go false x a h = inr (adr_refused d c x)

pub adr_called : (d : Device) (c : Call) → d.session.domain ≡ adr → OwnDomain adr d c → (p : ℕ)
    → ((outcome d c).ops ≡ adr_ops d c) × (adr_called_ops d c p ≡ take p (adr_ops d c))
unfolding for_domain first_part
adr_called d c e own p = ⊎_elim
    (λ k. (ops_filtered d c ∙ ap (λ (n : ℕ). for_domain n (adr_ops d c)) k ∙ domain_adr (adr_ops d c), ap (λ (n : ℕ). first_part n p (adr_ops d c)) k ∙ part_adr p (adr_ops d c)))
    (λ x. (ops_filtered d c ∙ ap (for_domain (domain_of d.session c.args)) x ∙ sym x, ap (first_part (domain_of d.session c.args) p) x ∙ sym (ap (take p) x ∙ take-nil p)))
    (adr_or_none d c e own)

pub adr-step : (s : State) → Stands s → AdrOnly s → (c : Call) → OwnDomain adr s.device c → AdrOnly (step s c)
unfolding step device_step
adr-step s st a c own =
    let d : Device = s.device in
    record {
      session = session_adr d c a.session own;
      played = ap₂ (λ (X Y : Ops). X ++ Y) a.played (called_all s st c (call_ok d c) ∙ (adr_called d c a.session own 0).0);
    }

adr-run : (s : State) (cs : List Call) → Stands s → AdrOnly s → AllPermitted cs → AllOwnDomain adr s cs → AdrOnly (run s cs)
unfolding run
adr-run s [] st a permitted own = a
adr-run s (c ∷ cs) st a permitted own =
    adr-run (step s c) cs (argument s st c permitted.0).stands (adr-step s st a c own.0) permitted.1 own.1

pub adr-start : (l : Layout) (I : Image) (t : Lent) → open_status l adr I t ≡ 0 → AdrOnly (start l adr I t)
unfolding start fresh_session
adr-start l I t h = record { session = ap (λ (s : Session). s.domain) (open_served l adr I t h).session; played = refl }

pub adr-history : (l : Layout) (I : Image) (t : Lent) → Bytes I → open_status l adr I t ≡ 0 → (cs : List Call) → AllPermitted cs → AllOwnDomain adr (start l adr I t) cs
    → AdrOnly (run (start l adr I t) cs)
adr-history l I t b h cs permitted own = adr-run (start l adr I t) cs (start_stands l adr I t b h) (adr-start l I t h) permitted own

-- what was played at a moment is what the flushes are put into
pub adr_played_lem : (s : State) → Stands s → AdrOnly s → (m : Moment) → PermittedAt adr s.device m → played_at s.device m ≡ adr_played_at s.device m
adr_played_lem s st a between permitted = a.played
adr_played_lem s st a (during c p) permitted =
    let d : Device = s.device in
    let x = adr_called d c a.session permitted.1 p in
    ap₂ (λ (X Y : Ops). X ++ Y) a.played (called s st c (call_ok d c) p ∙ ap (take p) x.0 ∙ sym x.1)

pub adr_within_lem : WithinAdr adr_module
adr_within_lem = record {
  history = λ l I t b h cs permitted own m pm H c.
      let s : State = run (start l adr I t) cs in
      subst (λ (X : Ops). CrashImage s.device.durable X H) (adr_played_lem s (history_stands l adr I t b h cs permitted) (adr-history l I t b h cs permitted own) m pm) c;
  opening = λ l I t b h p H c.
      let O : Ops = recovery_ops l I (active_line I) in
      subst (λ (X : Ops). CrashImage I X H) (open_played l adr I t h p ∙ ap (take p) (domain_adr O) ∙ sym (part_adr p O)) c;
}

-- BOTH KINDS
pub both_kinds : BothKinds
both_kinds = record {
  adr_within = adr_within_lem;
  eadr_within = held_within eadr;
  adr_safe = crash_safety adr_module adr_within_lem;
  eadr_safe = crash_safety eadr_module (held_within eadr);
}

-- and, in doubt, kind 0
pub in_doubt_adr : InDoubtAdr
in_doubt_adr = crash_safety (record { domain = adr; leaves = Held }) (held_within adr)

-- ---- the page that kind 1 shows

-- the window in numbers: 11 operations of 12 are played
pub eadr_window : EadrWindow
eadr_window d k p e h = (
  λ w. let n = (window_is d k p h).0 w in omega (arith, n.0, n.1, none 1, none 2, none m),
  λ q. (window_is d k p h).1 (omega (arith, none 1, none m), omega (arith, none 2)),
)
  where
    m : ℕ
    m = 4 * dirty_total d.session.layout d.session.dirty_blocks

    none : (n : ℕ) → flushes d.session.domain n ≡ 0
    none n = ap (λ (x : ℕ). flushes x n) e

-- a refused checkpoint plays nothing
checkpoint_refused : (d : Device) (t : Lent) → checkpoint_status d.session d.image t ≢ 0 → (checkpoint_outcome d.session d.image t).ops ≡ []
unfolding checkpoint_outcome
checkpoint_refused d t n = (outcome_refused _ _ _ _ _ _ _ n).ops

-- a moment of a checkpoint is in the window or not, and one of another call is not
checkpoint_window : (d : Device) (t : Lent) (p : ℕ) → p < length (checkpoint_outcome d.session d.image t).ops → Dec (Window d (call_checkpoint t) p)
checkpoint_window d t p h = go (ℕ_discrete (checkpoint_status d.session d.image t) 0)
  where
    k : ℕ
    k = d.session.domain

    m : ℕ
    m = flushes k (4 * dirty_total d.session.layout d.session.dirty_blocks)

    late : checkpoint_status d.session d.image t ≡ 0 → Dec (m + (11 + flushes k 1) ≤ p) → Dec (p < m + (12 + flushes k 2)) → Dec (Window d (call_checkpoint t) p)
    late z (yes a) (yes b) = yes ((window_is d t p z).1 (a, b))
    late z (yes a) (no b) = no (λ w. b ((window_is d t p z).0 w).1)
    late z (no a) b = no (λ w. a ((window_is d t p z).0 w).0)

    go : Dec (checkpoint_status d.session d.image t ≡ 0) → Dec (Window d (call_checkpoint t) p)
    go (yes z) = late z (dec_le _ p) (dec_lt p _)
    go (no n) = absurd (omega (arith, h, ap length (checkpoint_refused d t n)))

dec_window : (d : Device) (c : Call) (p : ℕ) → p < length (outcome d c).ops → Dec (Window d c p)
dec_window d c p less = go c.args less
  where
    none : (a : CallArgs) → is_checkpoint a ≡ false → a ≡ checkpoint_args → ⊥
    none a x e = true≢false (sym (ap is_checkpoint e) ∙ x)

    go : (a : CallArgs) → p < length (outcome d (record { args = a; lends = c.lends })).ops → Dec (Window d (record { args = a; lends = c.lends }) p)
    go (open_args l k) h = no (λ w. none (open_args l k) refl w.0)
    go (write_args x) h = no (λ w. none (write_args x) refl w.0)
    go (discard_args i) h = no (λ w. none (discard_args i) refl w.0)
    go checkpoint_args h = checkpoint_window d c.lends p h

-- a checkpoint in whose window a moment is was served
window_served : (d : Device) (t : Lent) (p : ℕ) → Window d (call_checkpoint t) p → checkpoint_status d.session d.image t ≡ 0
window_served d t p w = go (ℕ_discrete (checkpoint_status d.session d.image t) 0)
  where
    go : Dec (checkpoint_status d.session d.image t ≡ 0) → checkpoint_status d.session d.image t ≡ 0
    go (yes z) = z
    go (no n) = absurd (omega (arith, w.2, ap length (checkpoint_refused d t n)))

served_now : (d : Device) (t : Lent) → checkpoint_status d.session d.image t ≡ 0 → served (outcome d (call_checkpoint t)).status ≡ true
unfolding checkpoint_outcome
served_now d t z = (outcome-served _ _ _ _ _ _ _ z).status

-- in the window what was played is what the whole checkpoint leaves
window_played : (s : State) → Stands s → (t : Lent) (p : ℕ) → checkpoint_status s.device.session s.device.image t ≡ 0
    → Window s.device (call_checkpoint t) p → replay (played_at s.device (during (call_checkpoint t) p)) s.device.durable ≡ image_of (step s (call_checkpoint t)).device
unfolding step device_step
window_played s st t p h w =
    let d : Device = s.device in
    let c : Call = call_checkpoint t in
    let k : ℕ = d.session.domain in
    let C : Ops = checkpoint_ops d.session d.image in
    let J : Image = image_of d in
    let served-here : served (outcome d c).status ≡ true = served_now d t h in
    let ops : (outcome d c).ops ≡ for_domain k C = ops_filtered d c ∙ ap (for_domain k) (adr-served d c served-here) in
    let first : called_ops d c p ≡ take p (for_domain k C) = called s st c (call_ok d c) p ∙ ap (take p) ops in
    let late = epoch_stored_late d.session d.image k p (subst EpochStored first w.1) in
    replay_append d.played (called_ops d c p) d.durable ∙ ap₂ replay first (st.same d.durable)
    ∙ epoch_played d.session d.image k p J late ∙ domain_replay k C J
    ∙ sym (replay_append d.adr_played (adr_ops d c) d.durable ∙ ap (λ (X : Ops). replay X J) (adr-served d c served-here))

-- so it recovers to the new page
new_page_lem : (s : State) → Stands s → (t : Lent) (p : ℕ) → Window s.device (call_checkpoint t) p → (H : Image)
    → H ≡ replay (played_at s.device (during (call_checkpoint t) p)) s.device.durable → Recoverable s.device.layout H (working_of s)
unfolding step device_step model_step
new_page_lem s st t p w H e =
    let c : Call = call_checkpoint t in
    let z : checkpoint_status s.device.session s.device.image t ≡ 0 = window_served s.device t p w in
    let n : State = step s c in
    subst (λ (m : Model). Recoverable s.device.layout H (contents_of s.device.layout m.checkpoint))
    (ap (λ (b : Bool). model_step s.device.layout checkpoint_args b s.model) (served_now s.device t z))
    (rest_crash n (argument s st c tt).stands H (subst (CrashImage s.device.durable n.device.adr_played) (sym (e ∙ window_played s st t p z w)) (newest s.device.durable n.device.adr_played)))

window_recovers : (s : State) → Stands s → (c : Call) → Permitted c → (p : ℕ) → Window s.device c p → (H : Image)
    → H ≡ replay (played_at s.device (during c p)) s.device.durable → Recoverable s.device.layout H (working_of s)
window_recovers s st c permitted p w H e = go c.args w.0 permitted w e
  where
    go : (a : CallArgs) → a ≡ checkpoint_args → let c₁ : Call = record { args = a; lends = c.lends } in
        Permitted c₁ → Window s.device c₁ p → H ≡ replay (played_at s.device (during c₁ p)) s.device.durable → Recoverable s.device.layout H (working_of s)
    go (open_args l k) x = absurd (true≢false (sym (ap is_checkpoint x)))
    go (write_args v) x = absurd (true≢false (sym (ap is_checkpoint x)))
    go (discard_args i) x = absurd (true≢false (sym (ap is_checkpoint x)))
    go checkpoint_args x = λ permitted w e. new_page_lem s st c.lends p w H e

-- DEMAND 3 FOR KIND 1, with the one page that is shown
pub eadr_shows : EadrShows
eadr_shows l I t b h cs permitted own between pm H e H' openings t' ne = both_kinds.eadr_safe l I t b h cs permitted own between pm H e H' openings t' ne
eadr_shows l I t b h cs permitted own (during c p) pm H e H' openings t' ne = go (dec_window s.device c p pm.2)
  where
    s : State
    s = run (start l eadr I t) cs

    st : Stands s
    st = history_stands l eadr I t b h cs permitted

    go : Dec (Window s.device c p) → (Q : Page) × Shown s (during c p) Q × Recovers s.device.layout eadr H' t' Q × Bytes H'
    go (no n) = let x = both_kinds.eadr_safe l I t b h cs permitted own (during c p) pm H e H' openings t' ne in
        (x.0, ⊎_elim (λ q. inr (n, q)) (λ w. absurd (n w.0)) x.1, x.2, x.3)
    go (yes w) =
        let known = domain_known l eadr I t h in
        let r = openings_keep eadr_module (held_within eadr) known (working_of s) (window_recovers s st c pm.0 p w H e) openings in
        (s.model.working, inl (w, refl), recovers s.device.layout eadr H' t' s.model.working known st.whole_working r ne, r.fit.bytes)
