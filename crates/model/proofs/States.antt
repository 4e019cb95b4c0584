-- Segment states and pairs over histories (specs/States.antt), proved: each call makes the states and pairs that it should (`Argument`),
-- and a segment that is empty stays empty until it is written.
use Prim.Native.Nat.{ℕ, ◌<◌}
use mathlib.Core.Path.{◌≡◌, refl, sym, ap, ap₂, ◌∙◌, subst}
use mathlib.Core.Logic.{◌≢◌}
use mathlib.Core.Bool.{Bool, true, false, cond, ◌&&◌, and-true, and-false}
use mathlib.Core.List.{List, [], ◌∷◌}
use native.Mathlib.Omega.{arith}
use native.Mathlib.Decide.{ℕ_discrete}
use lib.Dec.{eqb}
use borrow.Author.Tests.{eqb-false, eq-eqb, ne_eqb, not-true}
use Rattle.model.specs.declared.Layout.{Layout}
use Rattle.model.specs.declared.Session.{Session}
use Rattle.model.specs.Words.{Image, Bytes}
use Rattle.model.specs.Layout.{layout_of}
use Rattle.model.specs.Status.{served}
use Rattle.model.specs.Container.{active_state, active_line, backup_to_main, Valid, new_backup, by_state, checkpoint_located}
use Rattle.model.specs.Session.{dirty_segment, fresh_session, zero_session, with_checkpoint}
use Rattle.model.specs.Ops.{replay}
use Rattle.model.specs.Outcome.{Lent, outcome_of}
use Rattle.model.specs.Open.{recovery_ops, open_status, open_outcome}
use Rattle.model.specs.Write.{WriteArgs, needs_copy, needs_backup, span_blocks, write_session, write_status, write_outcome}
use Rattle.model.specs.Discard.{discard_status, discard_outcome}
use Rattle.model.specs.Checkpoint.{next_state, checkpoint_status, checkpoint_outcome}
use Rattle.model.specs.Reads.{read_status, no_part, located_part, part_of, checkpoint_part, checkpoint_block}
use Rattle.model.specs.Reference.{CallArgs, open_args, write_args, discard_args, checkpoint_args}
use Rattle.model.specs.History.{Call, call_write, Device, State, answers, outcome, device_step, step, run, opened_image, start, AllPermitted}
use Rattle.model.specs.States.{served_state, StatesFollow, PairsFollow, TakenUnpaired, is_write_to, writes_to, Empty, EmptyStays}
use Rattle.model.specs.NewBackup.{TakenNew}
use Rattle.model.proofs.Laws.Range.{and_right, no_one}
use Rattle.model.proofs.Laws.Container.{unpaired_none}
use Rattle.model.proofs.Laws.Open.{zero_write}
use Rattle.model.proofs.Laws.NewBackup.{new_backup_exactly}
use Rattle.model.proofs.Laws.Session.{dirty_segment_other, checkpoint_segment_lem, fresh_segment}
use Rattle.model.proofs.Laws.Checkpoint.{next_clean}
use Rattle.model.proofs.Argument.Recovery.{meta}
use Rattle.model.proofs.Argument.Recovery.Opening.{open_clear}
use Rattle.model.proofs.Argument.View.{low_states, low_pairs}
use Rattle.model.proofs.Argument.Stands.{Stands, session_known}
use Rattle.model.proofs.Argument.Openings.{opened_is, starting}
use Rattle.model.proofs.CrashSafety.{argument, history_stands}

-- the opening that a history starts with keeps the states
pub opened_states : (l : Layout) (dom : ℕ) (I : Image) (t : Lent) → Bytes I → open_status l dom I t ≡ 0
    → (i : ℕ) → i < l.mains → active_state (opened_image l dom I t) i ≡ active_state I i
unfolding replay
opened_states l dom I t b h i m =
    let r = starting l dom I t b h in
    ap (λ (J : Image). active_state J i) (opened_is l dom I t h)
    ∙ low_states I [] (recovery_ops l I (active_line I)) (λ k q. open_clear l I _ r k (meta (omega arith))) i (omega (arith, r.fit.sizes.0))

pub states_follow : StatesFollow
states_follow = record {
  opening = opened_states;
  calls = λ l dom I t b h cs permitted c p i m. (argument _ (history_stands l dom I t b h cs permitted) c p).states i m;
}

-- ---- the pairs

pub pairs_follow : PairsFollow
unfolding replay
pairs_follow = record {
  opening = λ l dom I t b h j m.
      let r = starting l dom I t b h in
      ap (λ (J : Image). backup_to_main J j) (opened_is l dom I t h)
      ∙ low_pairs I [] (recovery_ops l I (active_line I)) (λ k p q. open_clear l I _ r k (meta (omega arith))) j m;
  calls = λ l dom I t b h cs permitted c p j m. (argument _ (history_stands l dom I t b h cs permitted) c p).pairs j m;
}

module _ (s : State) (st : Stands s) (w : WriteArgs) (t : Lent) (small : Bytes w.bytes) (h : (outcome s.device (call_write w t)).status ≡ 0)
    (needs : needs_backup s.device.session s.device.image w.main ≡ true) where
  abbrev d : Device
  d = s.device

  abbrev pr : ℕ → ℕ
  pr = backup_to_main d.image

  -- the session is that of the last served call, so its sizes are the module's
  sized : d.session.layout ≡ d.layout
  unfolding write_outcome outcome_of
  sized = ap (λ (x : Session). x.layout) (session_known s st (λ x. write_status x d.image w t) (zero_write d.image w t) (λ x. omega (arith, h, x))) ∙ st.sized

  valid : Valid d.layout (active_state d.image) pr
  valid = subst (λ (J : Image). Valid d.layout (active_state J) (backup_to_main J)) (sym st.image) st.inv.recovers.holds.valid

  -- the main segment that is written has no backup segment
  bare : (k : ℕ) → k < d.layout.backups → pr k ≢ w.main
  unfolding needs_backup
  bare = subst (λ (l : Layout). (k : ℕ) → k < l.backups → pr k ≢ w.main) sized
      (unpaired_none d.session.layout pr w.main (not-true _ (and_right (needs_copy d.session d.image w.main) _ needs)))

  taken_unpaired_here : (j : ℕ) → TakenNew d.layout (active_state d.image) pr j → pr j < d.layout.mains
      → (k : ℕ) → k < d.layout.backups → backup_to_main (step s (call_write w t)).device.image k ≢ pr j
  taken_unpaired_here j taken main k b e = go (ℕ_discrete k j)
    where
      new : (new_backup d.session.layout (active_state d.image) pr ≡ j) × (j < d.layout.backups)
      new = let n = (new_backup_exactly d.layout (active_state d.image) pr j).1 taken in (ap (λ (l : Layout). new_backup l (active_state d.image) pr) sized ∙ n.0, n.1)

      -- the pair of k afterwards
      after : cond (eqb k j) w.main (pr k) ≡ pr j
      after =
          sym (rw (eq-eqb _ _ h, needs, new.0) at ((argument s st (call_write w t) small).pairs k (omega (arith, b, st.inv.recovers.fit.sizes.1)))) ∙ e

      go : Dec (k ≡ j) → ⊥
      go (yes q) = bare j new.1 (sym (rw (eq-eqb k j q) at after))
      go (no q) = q (sym (valid.once j k new.1 b main (sym (rw (ne_eqb k j q) at after))))

pub taken_unpaired : TakenUnpaired
taken_unpaired l dom I t b h cs permitted w u small ok needs = taken_unpaired_here _ (history_stands l dom I t b h cs permitted) w u small ok needs

-- ---- empty stays empty

-- a served call that does not write main segment i leaves it in state 0
empty_served : (s : Session) (I : Image) (a : CallArgs) (i : ℕ) → active_state I i ≡ 0 → dirty_segment s i ≡ false → is_write_to i a ≡ false → served_state s I a i ≡ 0
empty_served s I (open_args l dom) i e d n = e
empty_served s I (write_args w) i e d n = rw (ne_eqb i w.main (λ q. eqb-false _ _ n (sym q)), and-false (needs_copy s I w.main)) e
empty_served s I (discard_args u) i e d n = e
empty_served s I checkpoint_args i e d n = ap₂ next_state e d ∙ next_clean

-- a call that does not, or is refused, does not make it dirty
not_dirtied : (s : Session) (I : Image) (a : CallArgs) (t : Lent) (i : ℕ) → dirty_segment s i ≡ false
    → (is_write_to i a && served (answers s I a t).status) ≡ false → dirty_segment (answers s I a t).session i ≡ false
unfolding open_outcome write_outcome discard_outcome checkpoint_outcome outcome_of
not_dirtied s I (open_args l dom) t i d n = go (served (open_status l dom I t))
  where
    go : (b : Bool) → dirty_segment (cond b (fresh_session l dom) zero_session) i ≡ false
    go true = fresh_segment l dom i
    go false = unfold zero_session in (fresh_segment (layout_of 0 0 0) 0 i)
not_dirtied s I (write_args w) t i d n = go (served (write_status s I w t)) n
  where
    go : (b : Bool) → (eqb w.main i && b) ≡ false → dirty_segment (cond b (write_session s I w) s) i ≡ false
    go true q = unfold write_session in (dirty_segment_other s w.main w.block (span_blocks w) _ i (λ e. eqb-false _ _ (sym (and-true _) ∙ q) (sym e)) ∙ d)
    go false q = d
not_dirtied s I (discard_args u) t i d n = go (served (discard_status s I u t))
  where
    go : (b : Bool) → dirty_segment (cond b s s) i ≡ false
    go true = d
    go false = d
not_dirtied s I checkpoint_args t i d n = go (served (checkpoint_status s I t))
  where
    go : (b : Bool) → dirty_segment (cond b (with_checkpoint s) s) i ≡ false
    go true = checkpoint_segment_lem s i
    go false = d

run_empty : (s : State) (cs : List Call) (i : ℕ) → Stands s → AllPermitted cs → i < s.device.layout.mains → Empty s.device i → writes_to i s cs ≡ 0
    → Empty (run s cs).device i
unfolding run writes_to step device_step
run_empty s [] i st permitted m e none = e
run_empty s (c ∷ cs) i st permitted m e none =
    let a = argument s st c permitted.0 in
    run_empty (step s c) cs i a.stands permitted.1 m
    (record {
      state = a.states i m ∙ go (served (outcome s.device c).status) clear;
      clean = not_dirtied s.device.session s.device.image c.args c.lends i e.clean clear;
    })
    (omega (arith, none))
  where
    clear : (is_write_to i c.args && served (outcome s.device c).status) ≡ false
    clear = no_one _ (omega (arith, none))

    go : (b : Bool) → (is_write_to i c.args && b) ≡ false → cond b (served_state s.device.session s.device.image c.args i) (active_state s.device.image i) ≡ 0
    go true n = empty_served s.device.session s.device.image c.args i e.state e.clean (sym (and-true _) ∙ n)
    go false n = e.state

-- the checkpoint read of a main segment in state 0
pub read_empty : (l : Layout) (I : Image) (i b : ℕ) → active_state I i ≡ 0 → checkpoint_block l I i b ≡ []
unfolding checkpoint_part checkpoint_located by_state
read_empty l I i b e = go (served (read_status l I i b))
  where
    go : (c : Bool) → part_of I (cond c (located_part (checkpoint_located l I (active_line I) i) b) no_part) ≡ []
    go true = rw e refl
    go false = refl

pub empty_stays : EmptyStays
empty_stays l dom I t b h cs permitted i m e ds rest none =
    let s = run (start l dom I t) cs in
    let r = run_empty s ds i (history_stands l dom I t b h cs permitted) rest m e none in
    (r, λ k. read_empty s.device.layout (run s ds).device.image i k r.state)
