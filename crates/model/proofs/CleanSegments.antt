-- Main segments that are not dirty (specs/CleanSegments.antt): their lines are settled, by the invariant, and a checkpoint stores to none of
-- them, so that flushes of them count for nothing.
use Prim.Native.Nat.{ℕ, ◌+◌, ◌-◌, ◌*◌, ◌/◌, ◌≤◌, ◌<◌}
use mathlib.Core.Path.{◌≡◌, refl, sym, ap, ◌∙◌, subst, subst₂}
use mathlib.Core.Logic.{◌↔◌, ◌⊎◌, inl, inr, ⊎_elim}
use mathlib.Core.Bool.{Bool, true, false, cond, true≢false}
use mathlib.Core.List.{List, [], ◌∷◌, ◌++◌, append-nil, append_assoc}
use native.Mathlib.Omega.{arith}
use lib.ListN.{length, take, drop, take-append-drop}
use lib.Seq.{take-length, take-append_seam}
use Rattle.model.proofs.Laws.Domain.{domain_replay, ops_filtered}
use Rattle.model.proofs.Domains.{AdrOnly, adr_called, adr-history, adr_played_lem, both_kinds}
use Rattle.model.specs.declared.Layout.{Layout}
use Rattle.model.specs.declared.Session.{Session}
use Rattle.model.specs.Words.{Image, Bytes, byte_at}
use Rattle.model.specs.Layout.{line_size, metadata_size, segment_size, main_at}
use Rattle.model.specs.Session.{dirty_segment, fresh_session, zero_session, adr}
use Rattle.model.specs.Status.{served}
use Rattle.model.specs.Ops.{Ops, replay}
use Rattle.model.specs.Outcome.{Lent}
use Rattle.model.specs.Open.{open_status}
use Rattle.model.specs.Checkpoint.{checkpoint_ops}
use Rattle.model.specs.Crash.{CrashImage}
use Rattle.model.specs.Reference.{Page, CallArgs, open_args, write_args, discard_args, checkpoint_args}
use Rattle.model.specs.History.{Call, Device, State, outcome, called_ops, device_step, step, run, opened_image, start, AllPermitted, adr_ops, call_checkpoint, AllOwnDomain}
use Rattle.model.specs.CrashSafety.{Recovers, Moment, between, during, EpochStored, Enough, CutOpenings, PermittedAt, played_at, adr_module}
use Rattle.model.specs.CleanSegments.{CleanSegment, CleanSettled, lean_checkpoint_ops, in_clean, leave_out, CleanFlushesNeedless, lean_of, lean_ops, lean_played, LeanPermittedAt, lean_played_at, LeanMayShow, LeanSafety}
use Rattle.model.proofs.Laws.CleanSegments.{leave_out_append, leave_out-replay, leave_out_part, leave_out_more, in_clean_lem, clean_found, lean_shorter, lean_fewer}
use Rattle.model.proofs.Laws.Ops.{replayed_image_lem}
use Rattle.model.proofs.Laws.Replay.{call_ok}
use Rattle.model.proofs.Laws.Crash.LeftOut.{crash_left_out}
use Rattle.model.proofs.Argument.Persist.{each_take, replay_append}
use Rattle.model.proofs.Argument.Settled.{Settled, Off, off_append}
use Rattle.model.proofs.Argument.Phases.{epoch_phase, before_epoch, checkpoint_phases}
use Rattle.model.proofs.Argument.Checkpoint.BeforeEpoch.{lines, before_off}
use Rattle.model.proofs.Argument.Stands.{Stands, inv_at, whole_lines, called}
use Rattle.model.proofs.Argument.Openings.{start_stands}
use Rattle.model.proofs.CrashSafety.{argument, history_stands}

-- the session of zeros has no main segment
zero_none : zero_session.layout.mains ≡ 0
unfolding zero_session fresh_session
zero_none = refl

-- every line of a main segment that is not dirty is settled
clean_settled_line : (s : State) → Stands s → (i x : ℕ) → CleanSegment s.device.session i → x < segment_size s.device.session.layout
    → Settled ((main_at s.device.session.layout i + x) / line_size) s.device.adr_played
clean_settled_line s st i x c h = ⊎_elim (λ e. known s.device.session e c h) (λ e. absurd (none e)) st.known
  where
    known : (t : Session) → t ≡ st.session → CleanSegment t i → x < segment_size t.layout → Settled ((main_at t.layout i + x) / line_size) s.device.adr_played
    known t e d k = let inv = inv_at s st t.layout (ap (λ (y : Session). y.layout) e ∙ st.sized) in
        inv.firm_segment i x d.0 k (subst (λ (y : Session). dirty_segment y i ≡ false) e d.1)

    none : s.device.session ≡ zero_session → ⊥
    none e = omega (arith, c.0, ap (λ (y : Session). y.layout.mains) e, zero_none)

pub clean_settled : CleanSettled
clean_settled l d I t b h cs permitted i x clean inside H c =
    let s : State = run (start l d I t) cs in
    let st : Stands s = history_stands l d I t b h cs permitted in
    let p : ℕ = main_at s.device.session.layout i + x in
    let g = c.lines (p / line_size) in
    g.agree p refl ∙ clean_settled_line s st i x clean inside s.device.durable g.k g.within g.durable p refl
    ∙ sym (ap (λ (J : Image). byte_at J p) st.image)

-- ---- a checkpoint without their flushes

-- a checkpoint stores into the metadata alone
checkpoint_off : (s : Session) (I : Image) (ℓ : ℕ) → metadata_size ≤ line_size * ℓ → Off ℓ (checkpoint_ops s I)
checkpoint_off s I ℓ h =
    subst (Off ℓ) (sym (checkpoint_phases s I))
    (off_append ℓ (before_epoch s I) (epoch_phase I) (before_off s I ℓ (λ e. omega (arith, lines s I))) (λ i e. (omega arith, tt)))

module _ (s : State) (st : Stands s) where
  abbrev d : Device
  d = s.device

  abbrev σ : Session
  σ = s.device.session

  abbrev C : Ops
  C = checkpoint_ops s.device.session s.device.image

  -- on every line no flush is left out, or it is settled and the checkpoint does not store to it
  each_line : (ℓ : ℕ) → ((p : ℕ) → p / line_size ≡ ℓ → in_clean σ p ≡ false) ⊎ (Settled ℓ d.adr_played × Off ℓ C)
  each_line ℓ = go (in_clean σ (line_size * ℓ)) refl
    where
      go : (b : Bool) → in_clean σ (line_size * ℓ) ≡ b → ((p : ℕ) → p / line_size ≡ ℓ → in_clean σ p ≡ false) ⊎ (Settled ℓ d.adr_played × Off ℓ C)
      go true e =
          let f = clean_found σ (line_size * ℓ) e in
          let q : (main_at σ.layout f.0 + (line_size * ℓ - main_at σ.layout f.0)) / line_size ≡ ℓ = omega (arith, f.2) in
          inr (
            subst (λ (n : ℕ). Settled n d.adr_played) q (clean_settled_line s st f.0 _ f.1 (omega (arith, f.2))),
            checkpoint_off σ d.image ℓ (omega (arith, f.2)),
          )
      go false e = inl (λ p h. other p h (in_clean σ p) refl)
        where
          other : (p : ℕ) → p / line_size ≡ ℓ → (b : Bool) → in_clean σ p ≡ b → in_clean σ p ≡ false
          other p h true y = let f = clean_found σ p y in absurd (true≢false (sym (in_clean_lem σ f.0 (line_size * ℓ) f.1 (omega (arith, f.2))) ∙ e))
          other p h false y = y

  -- flushes in main segments that are not dirty left out of what a checkpoint plays, whatever is played afterwards
  crash_lean : (F : Ops) → ((ℓ : ℕ) → Off ℓ C → Off ℓ F) → (E : Ops) (H : Image)
      → CrashImage d.durable (d.adr_played ++ leave_out (in_clean σ) F ++ E) H ↔ CrashImage d.durable (d.adr_played ++ F ++ E) H
  crash_lean F off E H =
      let x = crash_left_out (in_clean σ) d.durable H d.adr_played F E (λ ℓ. ⊎_elim inl (λ h. inr (h.0, off ℓ h.1)) (each_line ℓ)) in
      (x.1, x.0)

  abbrev L : Ops
  L = lean_checkpoint_ops s.device.session s.device.image

  crash_cut : (p q : ℕ) → take p L ≡ leave_out (in_clean σ) (take q C)
      → (H : Image) → CrashImage d.durable (d.adr_played ++ take p L) H ↔ CrashImage d.durable (d.adr_played ++ take q C) H
  crash_cut p q e H =
      subst₂ (λ (X Y : Ops). CrashImage d.durable X H ↔ CrashImage d.durable Y H)
      (append-nil _ ∙ ap (λ (X : Ops). d.adr_played ++ X) (sym e)) (append-nil _) (crash_lean (take q C) (λ ℓ o i x. each_take _ q C (o i x)) [] H)

  cut_lean : (p : ℕ) → (q : ℕ) × (q ≤ length C) × (take p L ≡ leave_out (in_clean σ) (take q C))
      × ((H : Image) → CrashImage d.durable (d.adr_played ++ take p L) H ↔ CrashImage d.durable (d.adr_played ++ take q C) H)
  cut_lean p =
      let r = leave_out_part (in_clean σ) C p in
      let e : take p L ≡ leave_out (in_clean σ) (take r.0 C) = ap (take p) (lean_shorter σ d.image) ∙ r.2 in
      (r.0, r.1, e, crash_cut p r.0 e)

  -- the first q operations of the checkpoint, without those flushes, are a first part of the shorter one
  back_lean : (q : ℕ) → (p : ℕ) × (take p L ≡ leave_out (in_clean σ) (take q C))
      × ((H : Image) → CrashImage d.durable (d.adr_played ++ take p L) H ↔ CrashImage d.durable (d.adr_played ++ take q C) H)
  back_lean q =
      let A : Ops = leave_out (in_clean σ) (take q C) in
      let split = lean_shorter σ d.image ∙ ap (leave_out (in_clean σ)) (sym (take-append-drop q C)) ∙ leave_out_append (in_clean σ) (take q C) (drop q C) in
      let e : take (length A) L ≡ A = ap (take (length A)) split ∙ take-append_seam A (leave_out (in_clean σ) (drop q C)) in
      (length A, e, crash_cut (length A) q e)

  later_lean : (E : Ops) (H : Image) → CrashImage d.durable (d.adr_played ++ L ++ E) H ↔ CrashImage d.durable (d.adr_played ++ C ++ E) H
  later_lean E H =
      subst (λ (X : Ops). CrashImage d.durable (d.adr_played ++ X ++ E) H ↔ CrashImage d.durable (d.adr_played ++ C ++ E) H)
      (sym (lean_shorter σ d.image)) (crash_lean C (λ ℓ o. o) E H)

pub clean_flushes_needless : CleanFlushesNeedless
clean_flushes_needless = record {
  shorter = lean_shorter;
  fewer = lean_fewer;
  leaves = λ s I J. ap (λ (X : Ops). replay X J) (lean_shorter s I) ∙ leave_out-replay (in_clean s) (checkpoint_ops s I) J;
  cut = λ l d I t b h cs permitted. cut_lean _ (history_stands l d I t b h cs permitted);
  back = λ l d I t b h cs permitted. back_lean _ (history_stands l d I t b h cs permitted);
  later = λ l d I t b h cs permitted. later_lean _ (history_stands l d I t b h cs permitted);
}

-- ---- a library whose checkpoints all leave them out

-- an epoch store is not left out
epoch_left : (out : ℕ → Bool) (O : Ops) → EpochStored O → EpochStored (leave_out out O)
unfolding leave_out
epoch_left out O h = (leave_out out h.0, leave_out out h.1, h.2, ap (leave_out out) h.3 ∙ leave_out_append out h.0 _)

module _ (s : State) (st : Stands s) where
  -- what a checkpoint plays, served or not
  abbrev checkpointed : Lent → Ops
  checkpointed t = adr_ops s.device (call_checkpoint t)

  checkpointed_off : (t : Lent) (ℓ : ℕ) → Off ℓ (C s st) → Off ℓ (checkpointed t)
  checkpointed_off t ℓ o = go (served (outcome s.device (call_checkpoint t)).status)
    where
      go : (b : Bool) → Off ℓ (cond b (C s st) [])
      go true = o
      go false = λ i e. tt

  -- a call, played whole, and whatever is played afterwards
  crash_call : (c : Call) (E : Ops) (H : Image) → CrashImage s.device.durable (s.device.adr_played ++ lean_ops s.device c ++ E) H
      → CrashImage s.device.durable (s.device.adr_played ++ adr_ops s.device c ++ E) H
  crash_call c E H = go c.args
    where
      go : (a : CallArgs) → let O : Ops = adr_ops s.device (record { args = a; lends = c.lends }) in
          CrashImage s.device.durable (s.device.adr_played ++ lean_of s.device.session a O ++ E) H → CrashImage s.device.durable (s.device.adr_played ++ O ++ E) H
      go (open_args l d) = λ x. x
      go (write_args w) = λ x. x
      go (discard_args i) = λ x. x
      go checkpoint_args = (crash_lean s st (checkpointed c.lends) (checkpointed_off c.lends) E H).0

  -- the first p operations of a call that has more are the first q of the call here, but for those flushes
  abbrev Cut : Call → ℕ → Type 0
  Cut c p =
      (q : ℕ) × (p < length (lean_ops s.device c) → q < length (adr_ops s.device c))
      × (EpochStored (take q (adr_ops s.device c)) → EpochStored (take p (lean_ops s.device c)))
      × ((H : Image) → CrashImage s.device.durable (s.device.adr_played ++ take p (lean_ops s.device c)) H
      → CrashImage s.device.durable (s.device.adr_played ++ take q (adr_ops s.device c)) H)

  cut_call : (c : Call) (p : ℕ) → Cut c p
  cut_call c p = go c.args
    where
      go : (a : CallArgs) → Cut (record { args = a; lends = c.lends }) p
      go (open_args l d) = (p, (λ h. h), (λ h. h), λ H x. x)
      go (write_args w) = (p, (λ h. h), (λ h. h), λ H x. x)
      go (discard_args i) = (p, (λ h. h), (λ h. h), λ H x. x)
      go checkpoint_args =
          let O : Ops = checkpointed c.lends in
          let r = leave_out_part (in_clean s.device.session) O p in (
            r.0,
            leave_out_more (in_clean s.device.session) O p r.0 r.2,
            (λ h. subst EpochStored (sym r.2) (epoch_left (in_clean s.device.session) (take r.0 O) h)),
            λ H x. subst (λ (X : Ops). CrashImage s.device.durable X H) (append-nil _)
                ((crash_lean s st (take r.0 O) (λ ℓ o i e. each_take _ r.0 O (checkpointed_off c.lends ℓ o i e)) [] H).0
                (subst (λ (X : Ops). CrashImage s.device.durable X H) (sym (append-nil _ ∙ ap (λ (X : Ops). s.device.adr_played ++ X) (sym r.2))) x)),
          )

  -- the image that a call leaves here
  called_image : (c : Call) → (step s c).device.image ≡ replay (adr_ops s.device c) s.device.image
  unfolding step device_step
  called_image c =
      let O : Ops = (outcome s.device c).ops in
      replayed_image_lem s.device.image O c.lends.trace (length O) (whole_lines s st) (call_ok s.device c)
      ∙ ap (λ (X : Ops). replay X s.device.image) (take-length O ∙ ops_filtered s.device c) ∙ domain_replay _ (adr_ops s.device c) s.device.image

-- and there
lean_replay : (s : Session) (a : CallArgs) (O : Ops) (I : Image) → replay (lean_of s a O) I ≡ replay O I
lean_replay s (open_args l d) O I = refl
lean_replay s (write_args w) O I = refl
lean_replay s (discard_args i) O I = refl
lean_replay s checkpoint_args O I = leave_out-replay (in_clean s) O I

-- every call of a history
run_crash : (s : State) (cs : List Call) → Stands s → AllPermitted cs → (E : Ops) (H : Image)
    → CrashImage s.device.durable (s.device.adr_played ++ lean_played s cs ++ E) H → CrashImage (run s cs).device.durable ((run s cs).device.adr_played ++ E) H
unfolding run lean_played step device_step
run_crash s [] st permitted E H x = subst (λ (X : Ops). CrashImage s.device.durable (X ++ E) H) (append-nil s.device.adr_played) x
run_crash s (c ∷ cs) st permitted E H x =
    let D : Image = s.device.durable in
    let O : Ops = s.device.adr_played in
    let U : Ops = adr_ops s.device c in
    let L : Ops = lean_ops s.device c in
    let R : Ops = lean_played (step s c) cs in
    let there : O ++ (L ++ R) ++ E ≡ O ++ L ++ (R ++ E) = ap (λ (X : Ops). X ++ E) (sym (append_assoc O L R)) ∙ append_assoc (O ++ L) R E in
    let here : O ++ U ++ (R ++ E) ≡ O ++ U ++ R ++ E = sym (append_assoc (O ++ U) R E) in
    run_crash (step s c) cs (argument s st c permitted.0).stands permitted.1 E H
    (subst (λ (X : Ops). CrashImage D X H) here (crash_call s st c (R ++ E) H (subst (λ (X : Ops). CrashImage D X H) there x)))

run_image : (s : State) (cs : List Call) → Stands s → AllPermitted cs → replay (lean_played s cs) s.device.image ≡ (run s cs).device.image
unfolding run lean_played replay
run_image s [] st permitted = refl
run_image s (c ∷ cs) st permitted =
    let R : Ops = lean_played (step s c) cs in
    let J : Image = s.device.image in
    replay_append (lean_ops s.device c) R J ∙ ap (replay R) (lean_replay s.device.session c.args (adr_ops s.device c) J ∙ sym (called_image s st c))
    ∙ run_image (step s c) cs (argument s st c permitted.0).stands permitted.1

-- demand 3 at a moment of a history on a module of kind 0, where a crash may leave the same there as here
moment_safety : (l : Layout) (I : Image) (t : Lent) → Bytes I → open_status l adr I t ≡ 0 → (cs : List Call) → AllPermitted cs → AllOwnDomain adr (start l adr I t) cs
    → let s : State = run (start l adr I t) cs in
    (O : Ops) → ((E : Ops) (H : Image) → CrashImage (opened_image l adr I t) (O ++ E) H → CrashImage s.device.durable (s.device.adr_played ++ E) H)
    → (m : Moment) → LeanPermittedAt s.device m
    → (H : Image) → CrashImage (opened_image l adr I t) (lean_played_at O s.device m) H
    → (H' : Image) → CutOpenings adr_module s.device.layout H H'
    → (t' : Lent) → Enough s.device.layout adr H' t'
    → (Q : Page) × LeanMayShow s m Q × Recovers s.device.layout adr H' t' Q × Bytes H'
moment_safety l I t b h cs permitted own O same between at H x H' openings t' ne =
    let s : State = run (start l adr I t) cs in
    let y : CrashImage s.device.durable s.device.adr_played H =
    subst (λ (X : Ops). CrashImage s.device.durable X H) (append-nil s.device.adr_played) (same [] H (subst (λ (X : Ops). CrashImage (opened_image l adr I t) X H) (sym (append-nil O)) x)) in
    let e : s.device.played ≡ s.device.adr_played = (adr-history l I t b h cs permitted own).played in
    both_kinds.adr_safe l I t b h cs permitted own between tt H (subst (λ (X : Ops). CrashImage s.device.durable X H) (sym e) y) H' openings t' ne
moment_safety l I t b h cs permitted own O same (during c p) at H x H' openings t' ne =
    let s : State = run (start l adr I t) cs in
    let st : Stands s = history_stands l adr I t b h cs permitted in
    let only : AdrOnly s = adr-history l I t b h cs permitted own in
    let r = cut_call s st c p in
    let q : ℕ = r.0 in
    let k = adr_called s.device c only.session at.1 q in
    let pm : PermittedAt adr s.device (during c q) = (at.0, at.1, subst (λ (X : Ops). q < length X) (sym k.0) (r.1 at.2)) in
    let e : played_at s.device (during c q) ≡ s.device.adr_played ++ take q (adr_ops s.device c) =
    adr_played_lem s st only (during c q) pm ∙ ap (λ (X : Ops). s.device.adr_played ++ X) k.1 in
    let first : called_ops s.device c q ≡ take q (adr_ops s.device c) = called s st c (call_ok s.device c) q ∙ ap (take q) k.0 in
    let z = both_kinds.adr_safe l I t b h cs permitted own (during c q) pm H
    (subst (λ (X : Ops). CrashImage s.device.durable X H) (sym e) (r.3 H (same (take p (lean_ops s.device c)) H x))) H' openings t' ne in
    (z.0, ⊎_elim inl (λ w. inr (w.0.0, r.2 (subst EpochStored first w.0.1), w.1)) z.1, z.2, z.3)

pub lean_safety : LeanSafety
unfolding start
lean_safety l I t b h cs permitted own =
    let st : Stands (start l adr I t) = start_stands l adr I t b h in (
      run_image (start l adr I t) cs st permitted,
      moment_safety l I t b h cs permitted own (lean_played (start l adr I t) cs) (run_crash (start l adr I t) cs st permitted),
    )
