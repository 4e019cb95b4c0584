-- Write, whole: the copy that its plan may ask for, and then the stores of its span.
use Prim.Native.Nat.{ℕ, ◌+◌, ◌-◌, ◌≤◌, ◌<◌}
use mathlib.Core.Path.{◌≡◌, refl, sym, ap, ◌∙◌, subst}
use mathlib.Core.Bool.{Bool, true, false, not, cond, ◌&&◌, true≢false}
use native.Mathlib.Omega.{arith}
use mathlib.Core.Logic.{◌≢◌, ◌⊎◌, inl, inr, ⊎_elim}
use mathlib.Core.List.{[], ◌∷◌, ◌++◌, append_assoc}
use native.Mathlib.Decide.{ℕ_discrete}
use lib.Dec.{eqb}
use borrow.Author.Tests.{leb-false, eq-eqb, ne_eqb}
use lib.ListN.{length, take, length-set}
use lib.Seq.{set-set, get_or-set_same}
use Rattle.model.specs.Outcome.{Lent}
use Rattle.model.specs.declared.Session.{Session}
use Rattle.model.specs.Words.{Image, byte_at, Bytes, overlay}
use Rattle.model.specs.Container.{active_state, backup_to_main, is_paired, paired_backup, Free}
use Rattle.model.specs.Ops.{sfence, Ops, replay}
use Rattle.model.specs.Write.{WriteArgs, needs_copy, needs_backup, copy_plan, copies, backup_ops, copy_on_write_ops, span_at, span_blocks, span_ops, write_ops, write_session, write_errors, write_status}
use Rattle.model.specs.declared.Layout.{Layout}
use Rattle.model.specs.declared.Plan.{Plan}
use Rattle.model.specs.Layout.{ss_backup, segment_size, main_at}
use Rattle.model.specs.Session.{dirty_word, dirty_segment, dirty_block, set_bits, with_dirty}
use Rattle.model.specs.Crash.{CrashImage}
use Rattle.model.proofs.Laws.Status.{served_condition}
use Rattle.model.proofs.Laws.Container.{paired_at, unpaired_none}
use Rattle.model.proofs.Laws.Range.{both}
use Rattle.model.proofs.Argument.Persist.{Misses, Clear, each_append}
use Rattle.model.proofs.Argument.Phases.{state_phase, copy_phases}
use Rattle.model.proofs.Argument.Settled.{crash_seq}
use Rattle.model.proofs.Argument.Runs.{puts_clear}
use Rattle.model.proofs.Argument.View.{Recoverable, low_states, low_pairs}
use Rattle.model.proofs.Argument.Holds.{Contents}
use Rattle.model.proofs.Argument.GivenBackup.{Givable}
use Rattle.model.proofs.Argument.Invariant.{Invariant}
use Rattle.model.proofs.Argument.Span.{marked, span_crash, span_done}
use Rattle.model.proofs.Argument.Copy.{unmarked, pairs_given, copy_done, state_two, state_kept}
use Rattle.model.proofs.Argument.Copy.FirstPart.{Ready, Copying}
use Rattle.model.proofs.Argument.Copy.NewBackup.{ready_new}
use Rattle.model.proofs.Argument.Copy.OwnBackup.{ready_old}
use Rattle.model.proofs.Argument.Copy.Crash.{copy_crash, state_clear, state_crash}
use Rattle.model.proofs.Laws.Write.{copy_needed, new_of, some_free, plan_none, plan_own, plan_new}
use Rattle.model.proofs.Laws.NewBackup.{new_free}
use Rattle.model.proofs.Argument.SpanWords.{SpanOk, span_within, span_inside, span_first, span_wide, span_bounds, span_puts, laid_outside}

-- a write that copies, then marks: no block of the segment is dirty but those of its span
copied_session : (s : Session) (i b c : ℕ) → i < length s.dirty_blocks → marked (unmarked s i) i b c ≡ with_dirty s i b c 0
unfolding with_dirty
copied_session s i b c h = rw (get_or-set_same s.dirty_blocks i 0 0 h, set-set s.dirty_blocks i 0 (set_bits 0 b c))

-- the span of a served write
pub span_ok : (s : Session) (I : Image) (w : WriteArgs) (t : Lent) → Bytes w.bytes → write_status s I w t ≡ 0 → SpanOk s.layout w
unfolding write_status
span_ok s I w t small h =
    let r = served_condition (write_errors s I w t) (omega arith) h in
    span_within s.layout w (leb-false _ _ (r 6)) (leb-false _ _ (r 7)) (r 8) small

module _ (O : Ops) (I₀ : Image) (s : Session) (P W : Contents) (held : Bytes I₀) (inv : Invariant s.layout O (replay O I₀) s P W)
    (w : WriteArgs) (ok : SpanOk s.layout w) (len : length s.dirty_blocks ≡ 64) where
  abbrev l : Layout
  l = s.layout

  abbrev I : Image
  I = replay O I₀

  abbrev i : ℕ
  i = w.main

  abbrev word : ℕ
  word = dirty_word s i

  -- how many blocks the span meets
  abbrev c : ℕ
  c = span_blocks w

  abbrev U : Ops
  U = span_ops l I w

  small : Bytes I
  small = inv.recovers.fit.bytes

  i64 : i < 64
  i64 = omega (arith, ok.main, inv.recovers.fit.sizes.0)

  room : i < length s.dirty_blocks
  room = omega (arith, i64, len)

  -- no copy: the segment is not in state 1
  not_main : needs_copy s I i ≡ false → active_state I i ≢ 1
  unfolding needs_copy
  not_main e q = go (dirty_segment s i) refl
    where
      go : (d : Bool) → dirty_segment s i ≡ d → ⊥
      go true d = inv.moved i d q
      go false d = true≢false (sym (both (ap not d) (rw q refl)) ∙ e)

  -- the backup segment that is taken: its own, or the new one
  givable_new : (j : ℕ) → needs_copy s I i ≡ true → is_paired l (backup_to_main I) i ≡ false → Free l (active_state I) (backup_to_main I) j → Givable l (active_state I) (backup_to_main I) i j
  givable_new j e q f = record {
    main = ok.main;
    below = f.0;
    holds = (copy_needed s I i e).1;
    free = λ u h p two. ⊎_elim (λ x. omega (arith, inv.recovers.fit.sizes.0)) (λ x. x (subst (λ (n : ℕ). active_state I n ≡ 2) (sym p) two)) f.1;
    sole = λ k h ne. unpaired_none l (backup_to_main I) i q k h;
  }

  givable_own : needs_copy s I i ≡ true → is_paired l (backup_to_main I) i ≡ true → Givable l (active_state I) (backup_to_main I) i (paired_backup l (backup_to_main I) i)
  givable_own e q =
      let p = paired_at l (backup_to_main I) i q in
      let one : active_state I i ≡ 1 = (copy_needed s I i e).1 in
      record {
        main = ok.main;
        below = p.0;
        holds = one;
        free = λ u h d two. let g : u ≡ i = sym d ∙ p.1 in let g' : active_state I u ≡ active_state I i = ap (active_state I) g in omega arith;
        sole = λ k h ne d. ne (inv.recovers.holds.valid.once k (paired_backup l (backup_to_main I) i) h p.0 (omega (arith, ok.main)) (d ∙ sym p.1));
      }

  -- the first part of a plan that copies makes a backup segment ready, in either way
  record Prepared (p : Plan) : Type 0 where
    backup : ℕ
    givable : Givable l (active_state I) (backup_to_main I) i backup
    copies : copies p ≡ true
    -- its own, or the new one
    which : ((needs_backup s I i ≡ false) × (backup_to_main I backup ≡ i)) ⊎ ((needs_backup s I i ≡ true) × (backup ≡ new_of s I))
    ready : Ready l I i backup (backup_ops l I word i p ++ sfence ∷ [])

  prepared : needs_copy s I i ≡ true → (needs_backup s I i ≡ true → some_free s I ≡ true) → Prepared (copy_plan s I i)
  unfolding backup_ops
  prepared e free = go (is_paired l (backup_to_main I) i) refl
    where
      sizes64 : (k : ℕ) → k < l.backups → k < 64
      sizes64 k h = omega (arith, inv.recovers.fit.sizes.1)

      go : (b : Bool) → is_paired l (backup_to_main I) i ≡ b → Prepared (copy_plan s I i)
      go true q =
          let p = paired_at l (backup_to_main I) i q in
          subst Prepared (sym (plan_own s I i e q)) (record {
            backup = paired_backup l (backup_to_main I) i;
            givable = givable_own e q;
            copies = refl;
            which = inl (unfold needs_backup in (rw (e, q)), p.1);
            ready = ready_old l I word i (paired_backup l (backup_to_main I) i) small inv.recovers.fit.long ok.main p.0 (sizes64 _ p.0) p.1
                (λ x h d. inv.twin i (paired_backup l (backup_to_main I) i) x ok.main p.0 h p.1 (unfold dirty_block in d));
          })
      go false q =
          let n : needs_backup s I i ≡ true = unfold needs_backup in (both e (ap not q)) in
          let j : ℕ = new_of s I in
          let f : Free l (active_state I) (backup_to_main I) j = new_free l (active_state I) (backup_to_main I) inv.recovers.holds.valid (free n) in
          subst Prepared (sym (plan_new s I i n (free n))) (record {
            backup = j;
            givable = givable_new j e q f;
            copies = refl;
            which = inr (n, refl);
            ready = ready_new l I i j small inv.recovers.fit.long (sizes64 j f.0) (omega (arith, i64)) ok.main f.0;
          })

  module _ (free : needs_backup s I i ≡ true → some_free s I ≡ true) where
    abbrev plan : Plan
    plan = copy_plan s I i

    abbrev A : Ops
    A = backup_ops l I word i plan ++ sfence ∷ []

    abbrev X : Ops
    X = A ++ state_phase I i

    -- the operations, in either case
    plain_ops : needs_copy s I i ≡ false → write_ops s I w ≡ U
    unfolding write_ops copy_on_write_ops
    plain_ops e = rw (plan_none s I i e)

    copy_ops_lem : Prepared plan → write_ops s I w ≡ X ++ U
    unfolding write_ops
    copy_ops_lem p = rw (copy_phases, p.copies)

    cow : (p : Prepared plan) → Copying l O I₀ s P W i p.backup A
    cow p = record { held = held; inv = inv; givable = p.givable; ready = p.ready }

    -- after the copy: the invariant, and state 2
    after_copy : Prepared plan → Invariant l (O ++ X) (replay (O ++ X) I₀) (unmarked s i) P W
    after_copy p = copy_done (cow p)

    turned : (p : Prepared plan) → active_state (replay (O ++ X) I₀) i ≢ 1
    turned p e = omega (arith, state_two (cow p))

    -- the stores of the span leave the metadata alone
    span_low : (k : ℕ) → k < 512 → Clear k U
    span_low k h = puts_clear (span_puts l I w ok small) k (inl (omega (arith, span_bounds l w ok)))

    -- the epoch's line is not stored to
    pub write_low : (k : ℕ) → k < 64 → Clear k (write_ops s I w)
    write_low k h = go (needs_copy s I i) refl
      where
        span : Clear k U
        span = span_low k (omega arith)

        go : (b : Bool) → needs_copy s I i ≡ b → Clear k (write_ops s I w)
        go true e =
            let p = prepared e free in
            subst (λ (Y : Ops). Clear k Y) (sym (copy_ops_lem p))
            (each_append (Misses k) X U
            (each_append (Misses k) A (state_phase I i) (p.ready.clear k (inl (omega arith)))
            (state_clear (cow p) k (inl (omega arith)))) span)
        go false e = subst (λ (Y : Ops). Clear k Y) (sym (plain_ops e)) span

    -- the state of the segment that is copied becomes 2, and all others stay
    pub write_states : (u : ℕ) → u < l.mains → active_state (replay (O ++ write_ops s I w) I₀) u ≡ cond (needs_copy s I i && eqb u i) ss_backup (active_state I u)
    write_states u h = go (needs_copy s I i) refl
      where
        u64 : u < 64
        u64 = omega (arith, inv.recovers.fit.sizes.0)

        copied : (p : Prepared plan) → Dec (u ≡ i) → active_state (replay (O ++ X) I₀) u ≡ cond (eqb u i) ss_backup (active_state I u)
        copied p (yes e) = rw (eq-eqb u i e) (subst (λ (k : ℕ). active_state (replay (O ++ X) I₀) k ≡ 2) (sym e) (state_two (cow p)))
        copied p (no e) = rw (ne_eqb u i e) (state_kept (cow p) u u64 e)

        go : (b : Bool) → needs_copy s I i ≡ b → active_state (replay (O ++ write_ops s I w) I₀) u ≡ cond (b && eqb u i) ss_backup (active_state I u)
        go true e =
            let p = prepared e free in
            ap (λ (Y : Ops). active_state (replay Y I₀) u) (ap (λ (Y : Ops). O ++ Y) (copy_ops_lem p) ∙ sym (append_assoc O X U))
            ∙ low_states I₀ (O ++ X) U (λ k x. span_low k (omega arith)) u u64 ∙ copied p (ℕ_discrete u i)
        go false e =
            ap (λ (Y : Ops). active_state (replay (O ++ Y) I₀) u) (plain_ops e) ∙ low_states I₀ O U (λ k x. span_low k (omega arith)) u u64

    -- the new backup segment is given to the segment, if it needs one, and all other pairs stay
    pub write_pairs : (t : ℕ) → t < 64 → backup_to_main (replay (O ++ write_ops s I w) I₀) t ≡ cond (needs_backup s I i && eqb t (new_of s I)) i (backup_to_main I t)
    write_pairs t h = go (needs_copy s I i) refl
      where
        given : (p : Prepared plan) → Dec (t ≡ p.backup) → backup_to_main (replay (O ++ X) I₀) t ≡ cond (needs_backup s I i && eqb t (new_of s I)) i (backup_to_main I t)
        given p (yes e) =
            ap (backup_to_main (replay (O ++ X) I₀)) e ∙ (pairs_given (cow p)).0
            ∙ ⊎_elim (λ own. rw own.0 (sym (ap (backup_to_main I) e ∙ own.1))) (λ new. rw (new.0, eq-eqb t (new_of s I) (e ∙ new.1))) p.which
        given p (no e) =
            (pairs_given (cow p)).1 t h e
            ∙ ⊎_elim (λ own. rw own.0) (λ new. rw (new.0, ne_eqb t (new_of s I) (λ q. e (q ∙ sym new.1)))) p.which

        go : (b : Bool) → needs_copy s I i ≡ b → backup_to_main (replay (O ++ write_ops s I w) I₀) t ≡ cond (needs_backup s I i && eqb t (new_of s I)) i (backup_to_main I t)
        go true e =
            let p = prepared e free in
            ap (λ (Y : Ops). backup_to_main (replay Y I₀) t) (ap (λ (Y : Ops). O ++ Y) (copy_ops_lem p) ∙ sym (append_assoc O X U))
            ∙ low_pairs I₀ (O ++ X) U (λ k x y. span_low k (omega arith)) t h ∙ given p (ℕ_discrete t p.backup)
        go false e =
            let none : needs_backup s I i ≡ false = unfold needs_backup in (rw e) in
            ap (λ (Y : Ops). backup_to_main (replay (O ++ Y) I₀) t) (plain_ops e) ∙ low_pairs I₀ O U (λ k x y. span_low k (omega arith)) t h ∙ sym (rw none)

    -- CRASHED: the same contents
    pub write_crash : (n : ℕ) (H : Image) → CrashImage I₀ (O ++ take n (write_ops s I w)) H → Recoverable l H P
    write_crash n H crash = go (needs_copy s I i) refl
      where
        copied : Prepared plan → CrashImage I₀ (O ++ take n (X ++ U)) H → Recoverable l H P
        copied p x = ⊎_elim
            (λ q. ⊎_elim
            (λ r. copy_crash (cow p) n H r.1)
            (λ r. state_crash (cow p) (n - length A) H r.1)
            (crash_seq I₀ H O A (state_phase I i) n q.1))
            (λ q. span_crash l (O ++ X) I₀ (unmarked s i) P W held (after_copy p) i w.block c ok.main (span_inside l w ok) (turned p)
            U _ _ _ (span_puts l I w ok small) (span_bounds l w ok).0 (span_bounds l w ok).1 (n - length X) H q.1)
            (crash_seq I₀ H O X U n x)

        go : (b : Bool) → needs_copy s I i ≡ b → Recoverable l H P
        go true e = let p = prepared e free in copied p (subst (λ (Y : Ops). CrashImage I₀ (O ++ take n Y) H) (copy_ops_lem p) crash)
        go false e = span_crash l O I₀ s P W held inv i w.block c ok.main (span_inside l w ok) (not_main e)
            U _ _ _ (span_puts l I w ok small) (span_bounds l w ok).0 (span_bounds l w ok).1 n H (subst (λ (Y : Ops). CrashImage I₀ (O ++ take n Y) H) (plain_ops e) crash)

    -- PLAYED WHOLE: the bytes are laid over the working contents
    pub write_done : (W' : Contents) → ((u x : ℕ) → u < l.mains → x < segment_size l → W' u x ≡ overlay (byte_at I) (span_at l w) w.bytes (main_at l u + x))
        → Invariant l (O ++ write_ops s I w) (replay (O ++ write_ops s I w) I₀) (write_session s I w) P W'
    write_done W' given = go (needs_copy s I i) refl
      where
        outside : (u x : ℕ) → u < l.mains → x < segment_size l → (main_at l u + x < span_first l w) ⊎ (span_first l w + span_wide l w ≤ main_at l u + x) → W' u x ≡ W u x
        outside u x h k y = given u x h k ∙ laid_outside l I w ok (main_at l u + x) y ∙ inv.working u x h k

        result : (Y : Ops) (t : Session) → Invariant l (O ++ Y) (replay (O ++ Y) I₀) t P W' → write_ops s I w ≡ Y → write_session s I w ≡ t
            → Invariant l (O ++ write_ops s I w) (replay (O ++ write_ops s I w) I₀) (write_session s I w) P W'
        result Y t h p q = subst (λ (Z : Ops). Invariant l (O ++ Z) (replay (O ++ Z) I₀) (write_session s I w) P W') (sym p)
            (subst (λ (u : Session). Invariant l (O ++ Y) (replay (O ++ Y) I₀) u P W') (sym q) h)

        copied : Prepared plan → Invariant l (O ++ (X ++ U)) (replay (O ++ (X ++ U)) I₀) (marked (unmarked s i) i w.block c) P W'
        copied p = subst (λ (R : Ops). Invariant l R (replay R I₀) (marked (unmarked s i) i w.block c) P W') (append_assoc O X U)
            (span_done l (O ++ X) I₀ (unmarked s i) P W held (after_copy p) i w.block c ok.main (span_inside l w ok) (turned p)
            U _ _ _ (span_puts l I w ok small) (span_bounds l w ok).0 (span_bounds l w ok).1 (omega (arith, room, length-set s.dirty_blocks i 0)) W' outside (λ u x h k y z. sym (given u x h k)))

        go : (b : Bool) → needs_copy s I i ≡ b → Invariant l (O ++ write_ops s I w) (replay (O ++ write_ops s I w) I₀) (write_session s I w) P W'
        go true e = let p = prepared e free in result (X ++ U) _ (copied p) (copy_ops_lem p) (unfold write_session in (rw e (sym (copied_session s i w.block c room))))
        go false e = result U (marked s i w.block c)
            (span_done l O I₀ s P W held inv i w.block c ok.main (span_inside l w ok) (not_main e)
            U _ _ _ (span_puts l I w ok small) (span_bounds l w ok).0 (span_bounds l w ok).1 room W' outside (λ u x h k y z. sym (given u x h k)))
            (plain_ops e) (unfold write_session in (rw e))
