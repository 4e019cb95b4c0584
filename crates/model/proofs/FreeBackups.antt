-- Backup segments over histories (specs/FreeBackups.antt), proved: each call makes the states that it should (`Argument`), so
-- the main segments in state 2 can be counted along a history.
use Prim.Native.Nat.{ℕ, ◌+◌, ◌<◌}
use mathlib.Core.Path.{◌≡◌, refl, sym, ap, ◌∙◌, subst}
use mathlib.Core.Logic.{◌≢◌, inl, inr, ⊎_elim}
use mathlib.Core.Bool.{Bool, true, false, cond, ◌&&◌, true≢false, and-true, and-false}
use mathlib.Core.List.{List, [], ◌∷◌}
use native.Mathlib.Omega.{arith}
use lib.Dec.{eqb}
use borrow.Author.Tests.{eqb-true, eq-eqb, ne_eqb, leb-false}
use Rattle.model.specs.declared.Layout.{Layout}
use Rattle.model.specs.declared.Session.{Session}
use Rattle.model.specs.Range.{one_if}
use Rattle.model.specs.Words.{Image}
use Rattle.model.specs.Status.{served}
use Rattle.model.specs.Container.{active_state, backup_to_main, Valid}
use Rattle.model.specs.Session.{dirty_segment}
use Rattle.model.specs.Outcome.{Lent, outcome_of}
use Rattle.model.specs.Write.{WriteArgs, needs_copy, write_errors, write_status, write_outcome}
use Rattle.model.specs.Checkpoint.{next_state}
use Rattle.model.specs.Reference.{CallArgs, open_args, write_args, discard_args, checkpoint_args}
use Rattle.model.specs.History.{Call, call_write, call_checkpoint, Device, State, answers, outcome, device_step, step, run, start, Permitted, AllPermitted}
use Rattle.model.specs.EpochCounts.{is_checkpoint, checkpoints}
use Rattle.model.specs.States.{served_state}
use Rattle.model.specs.FreeBackups.{mains_in_backup, in_backup, in_use, NoNine, Frees, CheckpointFrees, NineOnlyFull, is_copying, copying_writes, SinceOpening, SinceCheckpoint, Counted, CopiesCounted, NotYet, NoneRefusedYet}
use Rattle.model.proofs.Laws.Range.{no_one}
use Rattle.model.proofs.Laws.Status.{served_condition}
use Rattle.model.proofs.Laws.Open.{zero_write}
use Rattle.model.proofs.Laws.Write.{copy_needed}
use Rattle.model.proofs.Laws.Checkpoint.{next_most}
use Rattle.model.proofs.Laws.FreeBackups.{in_backup_same, in_backup_more, in_backup_none, in_use_counted, nine_exactly}
use Rattle.model.proofs.Argument.Stands.{Stands, session_known}
use Rattle.model.proofs.Argument.Openings.{start_stands}
use Rattle.model.proofs.CrashSafety.{argument, run_stands, history_stands}
use Rattle.model.proofs.States.{opened_states}

-- ---- where a history stands

module _ (s : State) (st : Stands s) where
  abbrev there : Device
  there = s.device

  pub valid : Valid there.layout (active_state there.image) (backup_to_main there.image)
  valid = subst (λ (J : Image). Valid there.layout (active_state J) (backup_to_main J)) (sym st.image) st.inv.recovers.holds.valid

  in_use_lem : in_use there ≡ in_backup there
  in_use_lem = (in_use_counted there.layout _ _ st.inv.recovers.fit.sizes valid).0

  -- a write that is refused with 9 has the session of the last served call, so the module's states tell
  pub nine_full : (w : WriteArgs) (t : Lent) → (outcome there (call_write w t)).status ≡ 9 → in_backup there ≡ there.layout.backups
  unfolding write_outcome outcome_of
  nine_full w t h =
      let q = session_known s st (λ x. write_status x there.image w t) (zero_write there.image w t) (λ x. omega (arith, h, x)) in
      subst (λ (l : Layout). mains_in_backup l (active_state there.image) ≡ l.backups) (ap (λ (x : Session). x.layout) q ∙ st.sized)
      ((nine_exactly there.session there.image w t).0 h).2

  no_nine : in_backup there < there.layout.backups → NoNine there
  no_nine h w t e = omega (arith, h, nine_full w t e)

pub nine_only_full : NineOnlyFull
nine_only_full l dom I t b h cs permitted = nine_full _ (history_stands l dom I t b h cs permitted)

-- ---- main segments in state 2 after a call

-- one that is served and no checkpoint: one more if it copies
copied-served : (l : Layout) (s : Session) (I : Image) (a : CallArgs) (st : ℕ → ℕ) → is_checkpoint a ≡ false
    → ((w : WriteArgs) → a ≡ write_args w → w.main < l.mains)
    → ((i : ℕ) → i < l.mains → st i ≡ served_state s I a i) → mains_in_backup l st ≡ mains_in_backup l (active_state I) + one_if (is_copying s I a)
copied-served l s I (open_args k dom) st e inside h = omega (arith, in_backup_same l (active_state I) st h)
copied-served l s I (write_args w) st e inside h = go (needs_copy s I w.main) refl h
  where
    go : (b : Bool) → needs_copy s I w.main ≡ b → ((i : ℕ) → i < l.mains → st i ≡ cond (b && eqb i w.main) 2 (active_state I i))
        → mains_in_backup l st ≡ mains_in_backup l (active_state I) + one_if b
    go true c g =
        let one : active_state I w.main ≡ 1 = (copy_needed s I w.main c).1 in
        omega (
          arith,
          in_backup_more l (active_state I) st w.main (inside w refl) (λ two. omega (arith, one, two))
              (g w.main (inside w refl) ∙ rw (eq-eqb w.main w.main refl)) (λ k x n. g k x ∙ rw (ne_eqb k w.main n)),
        )
    go false c g = omega (arith, in_backup_same l (active_state I) st g)
copied-served l s I (discard_args n) st e inside h = omega (arith, in_backup_same l (active_state I) st h)
copied-served l s I checkpoint_args st e inside h = absurd (true≢false e)

module _ (s : State) (st : Stands s) (c : Call) (p : Permitted c) where
  abbrev d : Device
  d = s.device

  -- a served write is to a main segment of the module
  write_inside : (outcome d c).status ≡ 0 → (w : WriteArgs) → c.args ≡ write_args w → w.main < d.layout.mains
  unfolding write_outcome outcome_of write_status
  write_inside h w e =
      let z : write_status d.session d.image w c.lends ≡ 0 =
      subst (λ (a : CallArgs). (answers d.session d.image a c.lends).status ≡ 0) e h in
      let q : d.session ≡ st.session =
      session_known s st (λ x. write_status x d.image w c.lends) (zero_write d.image w c.lends) (λ x. omega arith) in
      let m = leb-false d.session.layout.mains w.main (served_condition (write_errors d.session d.image w c.lends) (omega arith) z 6) in
      omega (arith, m, ap (λ (x : Session). x.layout.mains) q, ap (λ (x : Layout). x.mains) st.sized)

  pub copied-step : (is_checkpoint c.args && served (outcome d c).status) ≡ false
      → in_backup (step s c).device ≡ in_backup d + one_if (is_copying d.session d.image c.args && served (outcome d c).status)
  unfolding step device_step
  copied-step e = go (served (outcome d c).status) refl e (argument s st c p).states
    where
      go : (b : Bool) → served (outcome d c).status ≡ b → (is_checkpoint c.args && b) ≡ false
          → ((i : ℕ) → i < d.layout.mains → active_state (step s c).device.image i ≡ cond b (served_state d.session d.image c.args i) (active_state d.image i))
          → in_backup (step s c).device ≡ in_backup d + one_if (is_copying d.session d.image c.args && b)
      go true q e h =
          copied-served d.layout d.session d.image c.args _ (sym (and-true _) ∙ e) (write_inside (eqb-true _ _ q)) h
          ∙ ap (λ (b : Bool). in_backup d + one_if b) (sym (and-true (is_copying d.session d.image c.args)))
      go false q e h = in_backup_same d.layout (active_state d.image) _ h ∙ rw (and-false (is_copying d.session d.image c.args)) (omega arith)

run-copied : (s : State) (cs : List Call) → Stands s → AllPermitted cs → checkpoints s cs ≡ 0 → in_backup (run s cs).device ≡ in_backup s.device + copying_writes s cs
unfolding run checkpoints copying_writes
run-copied s [] st permitted none = omega arith
run-copied s (c ∷ cs) st permitted none =
    let a = argument s st c permitted.0 in
    let first : one_if (is_checkpoint c.args && served (outcome s.device c).status) ≡ 0 = omega (arith, none) in
    run-copied (step s c) cs a.stands permitted.1 (omega (arith, none))
    ∙ omega (arith, copied-step s st c permitted.0 (no_one _ first))

-- ---- after a served checkpoint

module _ (s : State) (st : Stands s) (t : Lent) (h : (outcome s.device (call_checkpoint t)).status ≡ 0) where
  abbrev after : State
  after = step s (call_checkpoint t)

  pub stands_after : Stands after
  stands_after = (argument s st (call_checkpoint t) tt).stands

  -- no main segment is in state 2
  none_two : (i : ℕ) → i < s.device.layout.mains → active_state after.device.image i ≢ 2
  none_two i m two =
      let e : active_state after.device.image i ≡ next_state (active_state s.device.image i) (dirty_segment s.device.session i) =
      (argument s st (call_checkpoint t) tt).states i m ∙ rw (eq-eqb _ _ h) in
      omega (arith, two, e, next_most (active_state s.device.image i) (dirty_segment s.device.session i))

  pub none_in_backup : in_backup after.device ≡ 0
  unfolding step device_step
  none_in_backup = in_backup_none s.device.layout _ none_two

  frees : Frees after.device
  unfolding step device_step
  frees = (
    none_in_backup,
    λ j b. (b, ⊎_elim inl (λ m. inr (none_two _ m)) ((valid after stands_after).pairs j b)),
    no_nine after stands_after (omega (arith, none_in_backup, st.inv.recovers.fit.sizes.1)),
  )

pub checkpoint_frees : CheckpointFrees
checkpoint_frees l dom I t b h cs permitted u served = frees _ (history_stands l dom I t b h cs permitted) u served

-- ---- counted along a history

-- where a history stands with n main segments in state 2
module _ (s : State) (st : Stands s) (n : ℕ) (is : in_backup s.device ≡ n) where
  counted : Counted s.device n
  counted = (is, in_use_lem s st ∙ is)

  not_yet : NotYet s.device n
  not_yet few = no_nine s st (omega (arith, few, is))

-- what holds there holds with n counted from the opening, and from a served checkpoint, which leaves none
module _ (P : Device → ℕ → Type 0) (holds : (s : State) → Stands s → (n : ℕ) → in_backup s.device ≡ n → P s.device n) where
  from_state : (s : State) → Stands s → (cs : List Call) → AllPermitted cs → checkpoints s cs ≡ 0 → (n : ℕ) → in_backup s.device + copying_writes s cs ≡ n → P (run s cs).device n
  from_state s st cs permitted none n is = holds (run s cs) (run_stands s cs st permitted) n (run-copied s cs st permitted none ∙ is)

  since_opening : SinceOpening P
  unfolding start
  since_opening l dom I t b h cs permitted none =
      from_state (start l dom I t) (start_stands l dom I t b h) cs permitted none _ (omega (arith, in_backup_same l (active_state I) _ (opened_states l dom I t b h)))

  since_checkpoint : SinceCheckpoint P
  since_checkpoint l dom I t b h cs permitted u served ds rest none =
      let st = history_stands l dom I t b h cs permitted in
      from_state _ (stands_after _ st u served) ds rest none _ (omega (arith, none_in_backup _ st u served))

pub copies_counted : CopiesCounted
copies_counted = (since_opening Counted counted, since_checkpoint Counted counted)

pub none_refused_yet : NoneRefusedYet
none_refused_yet = (since_opening NotYet not_yet, since_checkpoint NotYet not_yet)
