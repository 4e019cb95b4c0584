-- A program that makes call after call runs a permitted history, so demands 2 and 3 hold of the code, however the calls are made.
use Prim.Native.Nat.{ℕ}
use mathlib.Core.Path.{◌≡◌, refl, sym, ap, ◌∙◌, subst}
use mathlib.Core.Logic.{◌≢◌, ◌⊎◌, inl, inr, ⊎_elim}
use mathlib.Core.List.{List, [], ◌++◌, append-nil}
use native.Mathlib.Omega.{arith}
use lib.ListN.{length}
use Rattle.model.specs.declared.Layout.{Layout}
use Rattle.model.specs.declared.Session.{Session}
use Rattle.model.specs.Words.{Image, Bytes}
use Rattle.model.specs.Status.{served}
use Rattle.model.specs.Container.{active_line, checkpoint_bytes}
use Rattle.model.specs.Ops.{Ops, Trace}
use Rattle.model.specs.Outcome.{Lent, Outcome, outcome_of}
use Rattle.model.specs.Open.{open_status, open_outcome}
use Rattle.model.specs.Reference.{Page, model_step}
use Rattle.model.specs.History.{Call, call_open, Device, State, outcome, adr_ops, reported, device_step, step, run, start, opened_image, AllPermitted, AllOwnDomain}
use Rattle.model.specs.Sisters.{SameCall, SameCalls}
use Rattle.model.specs.CrashSafety.{Moment, PermittedAt, played_at, Enough, CutOpenings, Reads, Recovers, Module}
use Rattle.model.specs.CrashSafety as model
use Rattle.model.proofs.CrashSafety.{crash_safety}
use Rattle.model.proofs.Sisters.{reads_follow_model, same_board, opening_safety}
use Rattle.driver.specs.Stepped.{Report, Reports, Calls, Called, OfLibrary, Stepped}
use Rattle.driver.specs.Driven.{saved_model, opened, after, Driven, done, next, Made, rests, makes, CutDriven, none, again, SameReport, DrivenHistories, DrivenSameBoard, ShowsAfter, DrivenReads, DrivenSafety, DrivenOpeningSafety}
use Rattle.driver.proofs.SteppedLaws.{part_reported, called_carried, stepped_device}

-- ---- the program's state is the history's

-- a step of the code is the step of a history
stepped_state : (s : State) (c : Call) (r : Report) (t : Trace) (I' : Image) → Stepped Called s.device.image s.device.session c r t I'
    → step s c ≡ after s c r t I'
unfolding step device_step
stepped_state s c r t I' k =
    let q = stepped_device s.device c r t I' k in
    let e : served (outcome s.device c).status ≡ served r.number = ap served (sym k.0.1.0) in
    λ i. record {
      device = record {
        layout = s.device.layout;
        durable = s.device.durable;
        played = q.2 i;
        adr_played = s.device.adr_played ++ adr_ops s.device c;
        image = q.0 i;
        session = q.1 i;
      };
      model = model_step s.device.layout c.args (e i) s.model;
    }

-- ---- openings

-- a module at an image and a session
abbrev device_at : Session → Image → Device
device_at x I = record { layout = x.layout; durable = I; played = []; adr_played = []; image = I; session = x }

-- an opening that the code makes has the status of the model's opening
opened_status : (l : Layout) (d : ℕ) (I : Image) (x : Session) (T : Lent) (r : Report) (t : Trace) → Called I x (call_open l d T) r t → r.number ≡ open_status l d I T
unfolding open_outcome outcome_of
opened_status l d I x T r t k = k.1.0

-- what it leaves, replayed, is what the model's opening leaves
opened_image_lem : (l : Layout) (d : ℕ) (I : Image) (x : Session) (T : Lent) (r : Report) (t : Trace) (I₁ : Image) → Stepped Called I x (call_open l d T) r t I₁ → opened_image l d I T ≡ I₁
unfolding opened_image device_step
opened_image_lem l d I x T r t I₁ k = (stepped_device (device_at x I) (call_open l d T) r t I₁ k).0

-- and where the program then stands is the start of a history
opened_starts : (l : Layout) (d : ℕ) (I : Image) (x : Session) (T : Lent) (r : Report) (t : Trace) (I₁ : Image) → Stepped Called I x (call_open l d T) r t I₁
    → start l d I T ≡ opened l I r I₁
unfolding start
opened_starts l d I x T r t I₁ k =
    let e = opened_image_lem l d I x T r t I₁ k in
    let q = sym k.0.1.1 in
    λ i. record {
      device = record { layout = l; durable = e i; played = []; adr_played = []; image = e i; session = q i };
      model = saved_model l I;
    }

-- two openings of the same image with the same sizes are the same call
openings_same : (l : Layout) (d : ℕ) (I : Image) (x : Session) (T U : Lent) → T.clients ≡ U.clients
    → (length T.trace ≡ length U.trace) ⊎ ((open_status l d I T ≢ 11) × (open_status l d I U ≢ 11)) → SameCall (device_at x I) (call_open l d T) (call_open l d U)
unfolding open_outcome outcome_of
openings_same l d I x T U c h = (refl, c, h)

-- ---- reports

-- reports of the same outcome are the same
reports_same : (o p : Outcome) (T U : Trace) (r q : Report) (t u : Trace) → Reports o T r t → Reports p U q u → (o ≡ p) × (reported o.ops T ≡ reported p.ops U)
    → SameReport r t q u
reports_same o p T U r q t u g h e =
    let n = g.0 ∙ ap (λ (x : Outcome). x.status) e.0 ∙ sym h.0 in
    let s = g.1 ∙ ap (λ (x : Outcome). x.session) e.0 ∙ sym h.1 in
    let m = g.2 ∙ ap (λ (x : Outcome). length x.ops) e.0 ∙ sym h.2 in
    let c = g.4 ∙ ap (λ (x : Outcome). x.clients) e.0 ∙ sym h.4 in
    (λ i. record { number = n i; session = s i; clients = c i; ops = m i }, part_reported o T r t g ∙ e.1 ∙ sym (part_reported p U q u h))

-- ---- programs whose calls are the library's, however they make them

module _ (C : Calls) (made : OfLibrary C) where
  by_library : {I : Image} {s : Session} {c : Call} {r : Report} {t : Trace} {I' : Image} → Stepped C I s c r t I' → Stepped Called I s c r t I'
  by_library k = (made _ _ _ _ _ k.0, k.1)

  -- so a program runs a permitted history
  driven_runs : (s s'' : State) (cs : List Call) → Driven C s cs s'' → AllPermitted cs × (run s cs ≡ s'')
  unfolding run
  driven_runs _ _ _ (done s) = (tt, refl)
  driven_runs _ _ _ (next s s'' c cs r t I' k d) =
      let g = by_library k in
      let e = stepped_state s c r t I' g in
      let w = driven_runs (after s c r t I') s'' cs d in
      ((g.0.0, w.0), ap (λ (x : State). run x cs) e ∙ w.1)

  -- openings that the code makes and that are cut are the model's
  cut_openings : (M : Module) {l : Layout} {H H' : Image} → CutDriven C M l H H' → CutOpenings M l H H'
  cut_openings M none = model.none
  cut_openings M {l} (again {H = H} {H' = H₁} x T p r t k ne nc inside c rest) =
      let n : ℕ = M.domain in
      let g = made H x (call_open l n T) r t k in
      model.again T p (λ e. ne (opened_status l n H x T r t g ∙ e), λ e. nc (opened_status l n H x T r t g ∙ e))
      (subst (λ (X : Ops). M.leaves H X H₁) (called_carried (device_at x H) (call_open l n T) r t g p inside) c) (cut_openings M rest)

  -- what the last opening shows
  shows_after : (M : Module) (l : Layout) (H : Image) (May : Page → Type 0)
      → ((H' : Image) → CutOpenings M l H H' → (T : Lent) → Enough l M.domain H' T → (Q : Page) × May Q × Recovers l M.domain H' T Q × Bytes H')
      → ShowsAfter C M l H May
  shows_after M l H May f H' o x T r t I k ne nc =
      let n : ℕ = M.domain in
      let g = by_library k in
      let e = opened_status l n H' x T r t g.0 in
      let y = f H' (cut_openings M o) T (λ z. ne (e ∙ z), λ z. nc (e ∙ z)) in (
        y.0,
        y.1,
        e ∙ y.2.accepted,
        subst (λ (J : Image). Reads l J y.0 y.0) (opened_image_lem l n H' x T r t I g) y.2.shows,
        y.3,
        ap (λ (P : Page). record { working = P; checkpoint = P }) y.2.begins,
      )

  -- ---- the moment of a crash in a call that the code makes

  made_moment : (n : ℕ) (s : State) (m : Moment) (O : Ops) → Made C n s m O → PermittedAt n s.device m × (played_at s.device m ≡ s.device.played ++ O)
  made_moment n s _ _ rests = (tt, sym (append-nil s.device.played))
  made_moment n s _ _ (makes c p r t k own h) =
      let g = made s.device.image s.device.session c r t k in
      ((g.0, own, omega (arith, h, g.1.2)), ap (λ (X : Ops). s.device.played ++ X) (sym (called_carried s.device c r t g p (omega (arith, h)))))

  -- THE PROGRAM'S CALLS are a history
  pub driven_histories : DrivenHistories C
  driven_histories l n I T x r t I₁ k ok cs s d =
      let g = by_library k in
      let e = opened_starts l n I x T r t I₁ g in
      let w = driven_runs (opened l I r I₁) s cs d in (
        sym (opened_status l n I x T r t g.0) ∙ ok,
        w.0,
        e,
        ap (λ (h : State). run h cs) e ∙ w.1,
        λ c q u m. let y = made s.device.image s.device.session c q u m in (y.0, y.1.0, y.1.4),
      )

  -- SAME BOARD, SAME TAPE
  pub driven_same_board : DrivenSameBoard C
  driven_same_board = record {
    calls = λ d b c same r q t u j k.
        reports_same (outcome d b) (outcome d c) b.lends.trace c.lends.trace r q t u (made _ _ b r t j).1 (made _ _ c q u k).1 (same_board.calls d b c same);
    programs = λ l n I T U x r t I₁ j y q u J₁ k alike long bs cs same s s' d f.
        let a = by_library j in
        let b = by_library k in
        let e = opened_starts l n I x T r t I₁ a in
        let h : (length T.trace ≡ length U.trace) ⊎ ((open_status l n I T ≢ 11) × (open_status l n I U ≢ 11)) =
        ⊎_elim inl (λ z. inr (λ m. z.0 (opened_status l n I x T r t a.0 ∙ m), λ m. z.1 (opened_status l n I y U q u b.0 ∙ m))) long in (
          reports_same (open_outcome l n I T) (open_outcome l n I U) T.trace U.trace r q t u a.0.1 b.0.1
              (same_board.calls (device_at x I) (call_open l n T) (call_open l n U) (openings_same l n I x T U alike h)),
          sym (ap (λ (z : State). run z bs) e ∙ (driven_runs (opened l I r I₁) s bs d).1)
              ∙ same_board.histories l n I T U alike h bs cs (subst (λ (z : State). SameCalls z bs cs) (sym e) same)
              ∙ ap (λ (z : State). run z cs) (opened_starts l n I y U q u J₁ b) ∙ (driven_runs (opened l I q J₁) s' cs f).1,
        );
  }

  -- DEMAND 2 OF THE CODE
  pub driven_reads : DrivenReads C
  driven_reads l n I T b x r t I₁ k ok cs s d =
      let w = driven_histories l n I T x r t I₁ k ok cs s d in
      subst (λ (h : State). Reads h.device.layout h.device.image h.model.working h.model.checkpoint) w.3 (reads_follow_model l n I T b w.0 cs w.1)

  -- DEMAND 3 OF THE CODE
  pub driven_safety : DrivenSafety C
  driven_safety M within l I T b x r t I₁ k ok cs own s d m O made H c =
      let n : ℕ = M.domain in
      let w = driven_histories l n I T x r t I₁ k ok cs s d in
      let at = made_moment n s m O made in
      let safe = crash_safety M within l I T b w.0 cs w.1 (subst (λ (h : State). AllOwnDomain n h cs) (sym w.2) own) in
      shows_after M s.device.layout H (model.MayShow s m) (λ H' o T' ne.
      subst (λ (h : State). PermittedAt n h.device m → M.leaves h.device.durable (played_at h.device m) H
      → CutOpenings M h.device.layout H H' → Enough h.device.layout n H' T'
      → (Q : Page) × model.MayShow h m Q × Recovers h.device.layout n H' T' Q × Bytes H')
      w.3 (λ pm x o ne. safe m pm H x H' o T' ne)
      at.0 (subst (λ (X : Ops). M.leaves s.device.durable X H) (sym at.1) c) o ne)

  -- the same of openings alone
  pub driven_opening_safety : DrivenOpeningSafety C
  driven_opening_safety M within l I T b x r t k ok =
      shows_after M l I _ (λ H' o T' ne.
      let y = opening_safety M within l I T b (sym (opened_status l M.domain I x T r t (made I x (call_open l M.domain T) r t k)) ∙ ok) H' o T' ne in
      (checkpoint_bytes l I (active_line I), refl, y.0, y.1))

-- calls of the library itself, as this crate's functions make them
called : OfLibrary Called
called I s c r t k = k

pub called_safety : DrivenReads Called × DrivenSafety Called × DrivenOpeningSafety Called
called_safety = (driven_reads Called called, driven_safety Called called, driven_opening_safety Called called)

pub called_same_board : DrivenSameBoard Called
called_same_board = driven_same_board Called called

pub called_histories : DrivenHistories Called
called_histories = driven_histories Called called
