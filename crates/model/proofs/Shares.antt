-- What a share guarantees (specs/Shares.antt), proved: along calls that share one run, the backup segments in use and what all clients have
-- unused are together at most all backup segments.
use Prim.Native.Nat.{ℕ, suc, ◌+◌, ◌≤◌, ◌<◌}
use mathlib.Core.Path.{◌≡◌, refl, sym, ap, ◌∙◌, subst, subst₂}
use mathlib.Core.Logic.{◌≢◌}
use mathlib.Core.Bool.{Bool, true, false, cond, ◌&&◌, ◌||◌, true≢false, false≢true, and-true, and-false}
use mathlib.Core.List.{List, [], ◌∷◌}
use native.Mathlib.Omega.{arith}
use native.Mathlib.Decide.{dec_lt, ℕ_discrete}
use lib.Dec.{leb}
use lib.ListN.{length}
use borrow.Author.Tests.{leb-true, leb-false, le-ltb, eq-eqb, ne_eqb, not-false}
use Rattle.model.specs.declared.Layout.{Layout}
use Rattle.model.specs.declared.Session.{Session}
use Rattle.model.specs.declared.Client.{Client}
use Rattle.model.specs.declared.Plan.{Plan}
use Rattle.model.specs.Range.{any_b, sum_to, one_if}
use Rattle.model.specs.Words.{Image}
use Rattle.model.specs.Status.{Errors, first_error, served}
use Rattle.model.specs.Container.{active_state, backup_to_main, free_backups}
use Rattle.model.specs.Clients.{Clients, client_at, with_used, charged, cleared, unused, unused_total, unused_of_others, clients_bad, quota_reached, all_reserved}
use Rattle.model.specs.Outcome.{Lent, lent, outcome_of}
use Rattle.model.specs.Open.{open_status, open_outcome, open_errors}
use Rattle.model.specs.Write.{WriteArgs, needs_copy, copy_plan, copies, none_free, early_errors, write_errors, write_status, write_outcome, write_clients}
use Rattle.model.specs.Discard.{discard_errors, discard_status, discard_outcome}
use Rattle.model.specs.Checkpoint.{checkpoint_errors, checkpoint_status, checkpoint_outcome}
use Rattle.model.specs.Reference.{CallArgs, open_args, write_args, discard_args, checkpoint_args}
use Rattle.model.specs.History.{Call, call_open, call_write, call_discard, call_checkpoint, Device, State, answers, outcome, device_step, step, run, start, Permitted, AllPermitted}
use Rattle.model.specs.EpochCounts.{is_checkpoint}
use Rattle.model.specs.FreeBackups.{mains_in_backup, in_backup, is_copying}
use Rattle.model.specs.Shares.{OneRun, clients_left, is_opening, judges_clients, NoneOpens, SameClients, WithinQuotas, SharesHold, SharesKept, alone, ByFirst, AllByFirst, NoShareRefuses, AloneUnhindered}
use Rattle.model.proofs.Laws.Range.{or_none}
use Rattle.model.proofs.Laws.Status.{condition, served_condition, given_condition, given_later, given_earlier}
use Rattle.model.proofs.Laws.Container.{header_ok_lem}
use Rattle.model.proofs.Laws.Clients.{length-charged, charged_same, charged_other, charged_past, others_split, unused-charged, length-cleared, cleared_at, unused-cleared, ClientsOk, clients_ok}
use Rattle.model.proofs.Laws.Open.{zero_write, zero_checkpoint}
use Rattle.model.proofs.Laws.Write.{plan_copies}
use Rattle.model.proofs.Laws.FreeBackups.{in_use_counted, nine_exactly}
use Rattle.model.proofs.Argument.Stands.{Stands, session_known}
use Rattle.model.proofs.Argument.OpenCall.{header_fixed}
use Rattle.model.proofs.Argument.Openings.{start_stands}
use Rattle.model.proofs.CrashSafety.{argument, history_stands}
use Rattle.model.proofs.FreeBackups.{valid, nine_full, copied-step, none_in_backup, stands_after}

-- ---- limits

-- a served write: what refusals 13, 14 and 15 ruled out
module _ (s : Session) (I : Image) (w : WriteArgs) (k : Lent) (h : write_status s I w k ≡ 0) where
  abbrev R : Clients
  R = k.clients

  passed : (n : ℕ) → condition n (write_errors s I w k) ≡ false
  unfolding write_status
  passed = served_condition (write_errors s I w k) (omega arith) h

  write-named : w.client < length R
  write-named = leb-false _ _ (or_none (leb (length R) w.client) (clients_bad s.layout R) (passed 13)).0

  write_clients_lem : ClientsOk s.layout R
  write_clients_lem = clients_ok s.layout R (or_none (leb (length R) w.client) (clients_bad s.layout R) (passed 13)).1

  -- where it copies, its client is below its limit, and more backup segments are free than the others have unused
  module _ (c : needs_copy s I w.main ≡ true) where
    copied : copies (copy_plan s I w.main) ≡ true
    copied = plan_copies s I w.main (passed 9) ∙ c

    write_below : (client_at R w.client).used < (client_at R w.client).quota
    write_below = leb-false _ _ (sym (rw copied) ∙ passed 14)

    write_spares : unused_of_others R w.client < free_backups s.layout (active_state I) (backup_to_main I)
    write_spares = leb-false _ _ (sym (rw copied) ∙ passed 15)

within-cleared : (R : Clients) → WithinQuotas (cleared R)
within-cleared R k h = omega (arith, ap (λ c. c.used) (cleared_at R k))

within-charged : (R : Clients) (k : ℕ) → k < length R → (client_at R k).used < (client_at R k).quota → WithinQuotas R → WithinQuotas (charged R k)
within-charged R k b below within j h = go (ℕ_discrete j k)
  where
    go : Dec (j ≡ k) → (client_at (charged R k) j).used ≤ (client_at (charged R k) j).quota
    go (yes e) = rw (e, charged_same R k b) (omega (arith, below))
    go (no n) = rw (charged_other R k b j n) (within j (omega (arith, h, length-charged R k)))

-- the records that a served call leaves
module _ (d : Device) (k : Lent) where
  open_left : (l : Layout) (dom : ℕ) → open_status l dom d.image k ≡ 0 → (open_outcome l dom d.image k).clients ≡ cleared k.clients
  unfolding open_outcome outcome_of
  open_left l dom h = rw (eq-eqb _ _ h)

  checkpoint_left : checkpoint_status d.session d.image k ≡ 0 → (checkpoint_outcome d.session d.image k).clients ≡ cleared k.clients
  unfolding checkpoint_outcome outcome_of
  checkpoint_left h = rw (eq-eqb _ _ h)

  write_left : (w : WriteArgs) → write_status d.session d.image w k ≡ 0
      → (write_outcome d.session d.image w k).clients ≡ cond (needs_copy d.session d.image w.main) (charged k.clients w.client) k.clients
  unfolding write_outcome outcome_of write_clients
  write_left w h = rw (eq-eqb _ _ h)

  within-write : (w : WriteArgs) → write_status d.session d.image w k ≡ 0 → WithinQuotas (write_outcome d.session d.image w k).clients
  within-write w h = subst WithinQuotas (sym (write_left w h)) (go (needs_copy d.session d.image w.main) refl)
    where
      was : WithinQuotas k.clients
      was = (write_clients_lem d.session d.image w k h).quotas

      go : (b : Bool) → needs_copy d.session d.image w.main ≡ b → WithinQuotas (cond b (charged k.clients w.client) k.clients)
      go true c = within-charged k.clients w.client (write-named d.session d.image w k h) (write_below d.session d.image w k h c) was
      go false c = was

quotas_kept : (d : Device) (c : Call) → judges_clients c.args ≡ true → (outcome d c).status ≡ 0 → WithinQuotas (outcome d c).clients
unfolding open_outcome write_outcome checkpoint_outcome outcome_of
quotas_kept d c = go c.args
  where
    go : (a : CallArgs) → judges_clients a ≡ true → (answers d.session d.image a c.lends).status ≡ 0
        → WithinQuotas (answers d.session d.image a c.lends).clients
    go (open_args l dom) j h = subst WithinQuotas (sym (open_left d c.lends l dom h)) (within-cleared c.lends.clients)
    go (write_args w) j h = within-write d c.lends w h
    go (discard_args i) j h = absurd (false≢true j)
    go checkpoint_args j h = subst WithinQuotas (sym (checkpoint_left d c.lends h)) (within-cleared c.lends.clients)

-- a discard leaves the records as they were
discard_left : (d : Device) (k : Lent) (i : ℕ) → (discard_outcome d.session d.image i k).clients ≡ k.clients
unfolding discard_outcome outcome_of
discard_left d k i = go (served (discard_status d.session d.image i k))
  where
    go : (b : Bool) → cond b k.clients k.clients ≡ k.clients
    go true = refl
    go false = refl

unjudged_clients : (d : Device) (c : Call) → judges_clients c.args ≡ false → (outcome d c).clients ≡ c.lends.clients
unjudged_clients d c = go c.args
  where
    go : (a : CallArgs) → judges_clients a ≡ false → (answers d.session d.image a c.lends).clients ≡ c.lends.clients
    go (open_args l dom) j = absurd (true≢false j)
    go (write_args w) j = absurd (true≢false j)
    go (discard_args i) j = discard_left d c.lends i
    go checkpoint_args j = absurd (true≢false j)

-- and so does a refused call
refused_clients : (d : Device) (c : Call) → (outcome d c).status ≢ 0 → (outcome d c).clients ≡ c.lends.clients
unfolding open_outcome write_outcome checkpoint_outcome outcome_of
refused_clients d c = go c.args
  where
    go : (a : CallArgs) → (answers d.session d.image a c.lends).status ≢ 0 → (answers d.session d.image a c.lends).clients ≡ c.lends.clients
    go (open_args l dom) h = rw (ne_eqb _ _ h)
    go (write_args w) h = rw (ne_eqb _ _ h)
    go (discard_args i) h = discard_left d c.lends i
    go checkpoint_args h = rw (ne_eqb _ _ h)

-- ---- shares and limits stay

same_cleared : (R : Clients) → SameClients R (cleared R)
same_cleared R = record {
  many = length-cleared R;
  reserved = λ k. ap (λ c. c.reserved) (cleared_at R k);
  quota = λ k. ap (λ c. c.quota) (cleared_at R k);
}

same_charged : (R : Clients) (k : ℕ) → SameClients R (charged R k)
same_charged R k = record {
  many = length-charged R k;
  reserved = λ j. go (λ c. c.reserved) (λ n c. refl) j (dec_lt k (length R)) (ℕ_discrete j k);
  quota = λ j. go (λ c. c.quota) (λ n c. refl) j (dec_lt k (length R)) (ℕ_discrete j k);
}
  where
    go : (f : Client → ℕ) → ((n : ℕ) (c : Client) → f (with_used n c) ≡ f c) → (j : ℕ) → Dec (k < length R) → Dec (j ≡ k) → f (client_at (charged R k) j) ≡ f (client_at R j)
    go f stays j (yes h) (yes e) = rw (e, charged_same R k h) (stays _ _)
    go f stays j (yes h) (no n) = ap f (charged_other R k h j n)
    go f stays j (no h) d = ap (λ (S : Clients). f (client_at S j)) (charged_past R k (omega arith))

same_clients : (d : Device) (c : Call) → SameClients c.lends.clients (outcome d c).clients
unfolding open_outcome write_outcome checkpoint_outcome outcome_of write_clients
same_clients d c = go c.args
  where
    R₁ : Clients
    R₁ = c.lends.clients

    same : SameClients R₁ R₁
    same = record { many = refl; reserved = λ k. refl; quota = λ k. refl }

    by_status : (b : Bool) {R' : Clients} → SameClients R₁ R' → SameClients R₁ (cond b R' R₁)
    by_status true s = s
    by_status false s = same

    go : (a : CallArgs) → SameClients R₁ (answers d.session d.image a c.lends).clients
    go (open_args l dom) = by_status (served (open_status l dom d.image c.lends)) (same_cleared R₁)
    go (write_args w) =
        by_status (served (write_status d.session d.image w c.lends)) (by_status (needs_copy d.session d.image w.main) (same_charged R₁ w.client))
    go (discard_args i) = subst (SameClients R₁) (sym (discard_left d c.lends i)) same
    go checkpoint_args = by_status (served (checkpoint_status d.session d.image c.lends)) (same_cleared R₁)

within-run : (s : State) (R : Clients) (cs : List Call) → WithinQuotas R → OneRun s R cs → WithinQuotas (clients_left s R cs)
unfolding clients_left
within-run s R [] h one = h
within-run s R (c ∷ cs) h one = within-run (step s c) (outcome s.device c).clients cs
    (go (judges_clients c.args) refl (ℕ_discrete (outcome s.device c).status 0)) one.1
  where
    go : (b : Bool) → judges_clients c.args ≡ b → Dec ((outcome s.device c).status ≡ 0) → WithinQuotas (outcome s.device c).clients
    go true j (yes z) = quotas_kept s.device c j z
    go false j d = subst WithinQuotas (sym (unjudged_clients s.device c j ∙ one.0)) h
    go true j (no n) = subst WithinQuotas (sym (refused_clients s.device c n ∙ one.0)) h

-- a test that is made only where another holds
and_cond : (a b : Bool) → cond a b false ≡ true → b ≡ true
and_cond true b h = h
and_cond false b h = absurd (false≢true h)

cond_test : (a b : Bool) → cond a b false ≡ true → a ≡ true
cond_test true b h = refl
cond_test false b h = absurd (false≢true h)

-- ---- shares

-- THE INVARIANT: the backup segments in use, and what all have unused, are together at most all
abbrev Covered : Device → Clients → Type 0
Covered d R = unused_total R + in_backup d ≤ d.layout.backups

module _ (s : State) (st : Stands s) where
  abbrev d₀ : Device
  d₀ = s.device

  -- the free ones and those in use are all
  all_counted : (l : Layout) → l ≡ d₀.layout → free_backups l (active_state d₀.image) (backup_to_main d₀.image) + in_backup d₀ ≡ d₀.layout.backups
  all_counted l e =
      subst (λ (x : Layout). free_backups x (active_state d₀.image) (backup_to_main d₀.image) + in_backup d₀ ≡ d₀.layout.backups) (sym e)
      (in_use_counted d₀.layout _ _ st.inv.recovers.fit.sizes (valid s st)).1

  -- a write or a checkpoint that is not refused with 1 has the module's sizes
  write_sized : (w : WriteArgs) (k : Lent) → write_status d₀.session d₀.image w k ≢ 1 → d₀.session.layout ≡ d₀.layout
  write_sized w k h =
      ap (λ (x : Session). x.layout) (session_known s st (λ x. write_status x d₀.image w k) (zero_write d₀.image w k) h) ∙ st.sized

  checkpoint_sized : (k : Lent) → checkpoint_status d₀.session d₀.image k ≢ 1 → d₀.session.layout ≡ d₀.layout
  checkpoint_sized k h =
      ap (λ (x : Session). x.layout) (session_known s st (λ x. checkpoint_status x d₀.image k) (zero_checkpoint d₀.image k) h) ∙ st.sized

  -- where it holds, no write by a client below its share is refused with 9, 14 or 15
  holds_there : (R : Clients) → Covered d₀ R → SharesHold d₀ R
  unfolding write_outcome outcome_of write_status
  holds_there R cov w t below = (
    λ h. omega (arith, nine_full s st w (lent R t) h, cov, split, below.1),
    λ h. omega (arith, reached h, below.1, (named h).shares w.client below.0),
    λ h. omega (arith, reserved h, cov, split, below.1, all_counted d₀.session.layout (write_sized w (lent R t) (λ e. omega (arith, e, h)))),
  )
    where
      split : unused_total R ≡ unused_of_others R w.client + unused (client_at R w.client)
      split = others_split R w.client below.0

      p : Plan
      p = copy_plan d₀.session d₀.image w.main

      free : ℕ
      free = free_backups d₀.session.layout (active_state d₀.image) (backup_to_main d₀.image)

      reached : first_error (write_errors d₀.session d₀.image w (lent R t)) ≡ 14 → (client_at R w.client).quota ≤ (client_at R w.client).used
      reached h = leb-true _ _ (and_cond (copies p) (quota_reached R w.client) (given_condition 14 _ (omega arith) h))

      reserved : first_error (write_errors d₀.session d₀.image w (lent R t)) ≡ 15 → free ≤ unused_of_others R w.client
      reserved h = leb-true _ _ (and_cond (copies p) (all_reserved R w.client free) (given_condition 15 _ (omega arith) h))

      named : first_error (write_errors d₀.session d₀.image w (lent R t)) ≡ 14 → ClientsOk d₀.session.layout R
      named h = clients_ok d₀.session.layout R (or_none (leb (length R) w.client) (clients_bad d₀.session.layout R) (given_earlier 14 _ (omega arith) h 13)).1

  step_sized : (c : Call) → (step s c).device.layout.backups ≡ d₀.layout.backups
  unfolding step device_step
  step_sized c = refl

  -- one more is in use after a served write that copies, and no more after a refused call or a discard
  write_more : (w : WriteArgs) (k : Lent) → Permitted (call_write w k) → (outcome d₀ (call_write w k)).status ≡ 0
      → in_backup (step s (call_write w k)).device ≡ in_backup d₀ + one_if (needs_copy d₀.session d₀.image w.main)
  write_more w k p h = copied-step s st (call_write w k) p refl
      ∙ ap (λ (b : Bool). in_backup d₀ + one_if (needs_copy d₀.session d₀.image w.main && b)) (eq-eqb _ _ h)
      ∙ ap (λ (b : Bool). in_backup d₀ + one_if b) (and-true (needs_copy d₀.session d₀.image w.main))

  refused_same : (c : Call) → Permitted c → (outcome d₀ c).status ≢ 0 → in_backup (step s c).device ≡ in_backup d₀ + 0
  refused_same c p n =
      copied-step s st c p (unserved (is_checkpoint c.args)) ∙ ap (λ (b : Bool). in_backup d₀ + one_if b) (unserved (is_copying d₀.session d₀.image c.args))
    where
      unserved : (b : Bool) → (b && served (outcome d₀ c).status) ≡ false
      unserved b = rw (ne_eqb _ _ n) (and-false b)

  discard_same : (i : ℕ) (k : Lent) → in_backup (step s (call_discard i k)).device ≡ in_backup d₀ + 0
  discard_same i k = copied-step s st (call_discard i k) tt refl

  -- a served checkpoint makes it hold
  covered_checkpoint : (k : Lent) → (outcome d₀ (call_checkpoint k)).status ≡ 0 → Covered (step s (call_checkpoint k)).device (outcome d₀ (call_checkpoint k)).clients
  unfolding checkpoint_outcome checkpoint_status outcome_of
  covered_checkpoint k h =
      subst (Covered (step s (call_checkpoint k)).device) (sym (checkpoint_left d₀ k h))
      (omega (arith, unused-cleared k.clients, none_in_backup s st k h, ok.total, sized, step_sized (call_checkpoint k)))
    where
      ok : ClientsOk d₀.session.layout k.clients
      ok = clients_ok d₀.session.layout k.clients (served_condition (checkpoint_errors d₀.session d₀.image k) (omega arith) h 13)

      sized : d₀.session.layout.backups ≡ d₀.layout.backups
      sized = ap (λ (x : Layout). x.backups) (checkpoint_sized k (λ e. omega (arith, e, h)))

  -- a served write keeps it: where it copies, one more is in use
  covered_write : (w : WriteArgs) (k : Lent) → Permitted (call_write w k) → Covered d₀ k.clients → (outcome d₀ (call_write w k)).status ≡ 0
      → Covered (step s (call_write w k)).device (outcome d₀ (call_write w k)).clients
  unfolding write_outcome outcome_of write_clients
  covered_write w k p cov h = subst (Covered (step s (call_write w k)).device) (sym (write_left d₀ k w h)) (go copies refl)
    where
      R₀ : Clients
      R₀ = k.clients

      copies : Bool
      copies = needs_copy d₀.session d₀.image w.main

      named : w.client < length R₀
      named = write-named d₀.session d₀.image w k h

      go : (b : Bool) → copies ≡ b → unused_total (cond b (charged R₀ w.client) R₀) + in_backup (step s (call_write w k)).device ≤ (step s (call_write w k)).device.layout.backups
      go true c = omega (
        arith,
        cov,
        others_split R₀ w.client named,
        unused-charged R₀ w.client named,
        write_spares d₀.session d₀.image w k h c,
        all_counted d₀.session.layout (write_sized w k (λ e. omega (arith, e, h))),
        write_more w k p h ∙ ap (λ (b : Bool). in_backup d₀ + one_if b) c,
        step_sized (call_write w k),
      )
      go false c = omega (arith, cov, write_more w k p h ∙ ap (λ (b : Bool). in_backup d₀ + one_if b) c, step_sized (call_write w k))

  -- a call that changes neither keeps it: a refused one, and a discard
  covered_same : (c : Call) → Covered d₀ c.lends.clients → (outcome d₀ c).clients ≡ c.lends.clients → in_backup (step s c).device ≡ in_backup d₀ + 0
      → Covered (step s c).device (outcome d₀ c).clients
  covered_same c cov left same = subst (Covered (step s c).device) (sym left) (omega (arith, cov, same, step_sized c))

  -- so every call keeps it but a served opening
  covered_step : (c : Call) → Permitted c → Covered d₀ c.lends.clients → (is_opening c.args && served (outcome d₀ c).status) ≡ false
      → Covered (step s c).device (outcome d₀ c).clients
  covered_step c p cov none = go c.args p none (ℕ_discrete (outcome d₀ c).status 0)
    where
      go : (a : CallArgs) → let c₁ : Call = record { args = a; lends = c.lends } in
          Permitted c₁ → (is_opening a && served (outcome d₀ c₁).status) ≡ false → Dec ((outcome d₀ c₁).status ≡ 0)
          → Covered (step s c₁).device (outcome d₀ c₁).clients
      go a p none (no n) =
          let c₁ : Call = record { args = a; lends = c.lends } in covered_same c₁ cov (refused_clients d₀ c₁ n) (refused_same c₁ p n)
      go (open_args l dom) p none (yes z) =
          let refused : served (outcome d₀ (call_open l dom c.lends)).status ≡ false = none in
          absurd (true≢false (sym (eq-eqb _ _ z) ∙ refused))
      go (write_args w) p none (yes z) = covered_write w c.lends p cov z
      go (discard_args i) p none (yes z) = covered_same (call_discard i c.lends) cov (discard_left d₀ c.lends i) (discard_same i c.lends)
      go checkpoint_args p none (yes z) = covered_checkpoint c.lends z

covered_run : (s : State) (R : Clients) (cs : List Call) → Stands s → Covered s.device R → AllPermitted cs → OneRun s R cs → NoneOpens s cs
    → SharesHold (run s cs).device (clients_left s R cs)
unfolding run clients_left
covered_run s R [] st cov permitted one none = holds_there s st R cov
covered_run s R (c ∷ cs) st cov permitted one none =
    let first = subst (Covered s.device) (sym one.0) cov in
    covered_run (step s c) (outcome s.device c).clients cs (argument s st c permitted.0).stands
    (covered_step s st c permitted.0 first none.0) permitted.1 one.1 none.1

pub shares_kept : SharesKept
shares_kept = record {
  shares = λ l dom I t b h bs before k z cs permitted one none.
      let st = history_stands l dom I t b h bs before in
      covered_run _ _ cs (stands_after _ st k z) (covered_checkpoint _ st k z) permitted one none;
  agreed = same_clients;
  quotas = quotas_kept;
  unjudged = unjudged_clients;
  quotas_ever = λ l dom I k h cs one. within-run (start l dom I k) (cleared k.clients) cs (within-cleared k.clients) one;
}

-- ---- one client alone

pub alone_ok : (l : Layout) (n : ℕ) → n ≤ l.backups → clients_bad l (alone l n) ≡ false
unfolding clients_bad any_b sum_to
alone_ok l n h = rw (le-ltb l.backups l.backups (omega arith), le-ltb l.backups n h) (le-ltb l.backups (0 + l.backups) (omega arith))

alone-charged : (l : Layout) (n : ℕ) → charged (alone l n) 0 ≡ alone l (suc n)
unfolding charged
alone-charged l n = refl

alone-cleared : (l : Layout) (n : ℕ) → cleared (alone l n) ≡ alone l 0
unfolding cleared
alone-cleared l n = refl

alone_others : (l : Layout) (n : ℕ) → unused_of_others (alone l n) 0 ≡ 0
unfolding sum_to
alone_others l n = refl

-- THE INVARIANT: the run is that client's, and it has taken no more than are in use
abbrev Alone : Device → Clients → Type 0
Alone d R = (n : ℕ) × (R ≡ alone d.layout n) × (n ≤ in_backup d)

module _ (s : State) (st : Stands s) where
  abbrev d₁ : Device
  d₁ = s.device

  -- as many at most are in use as there are
  in_use-most : in_backup d₁ ≤ d₁.layout.backups
  in_use-most = omega (arith, all_counted s st d₁.layout refl)

  -- the run that a call leaves is that client's
  alone_left : (c : Call) (n : ℕ) → (outcome d₁ c).clients ≡ alone d₁.layout n → n ≤ in_backup (step s c).device → Alone (step s c).device (outcome d₁ c).clients
  unfolding step device_step
  alone_left c n is few = (n, is, few)

  alone-write : (w : WriteArgs) (k : Lent) → Permitted (call_write w k) → w.client ≡ 0 → Alone d₁ k.clients → (outcome d₁ (call_write w k)).status ≡ 0
      → Alone (step s (call_write w k)).device (outcome d₁ (call_write w k)).clients
  unfolding write_outcome outcome_of
  alone-write w k p f (n, is, few) h = go (needs_copy d₁.session d₁.image w.main) refl
    where
      more : (b : Bool) → needs_copy d₁.session d₁.image w.main ≡ b → in_backup (step s (call_write w k)).device ≡ in_backup d₁ + one_if b
      more b c = write_more s st w k p h ∙ ap (λ (x : Bool). in_backup d₁ + one_if x) c

      left : (b : Bool) → needs_copy d₁.session d₁.image w.main ≡ b
          → (outcome d₁ (call_write w k)).clients ≡ cond b (charged (alone d₁.layout n) 0) (alone d₁.layout n)
      left b c = write_left d₁ k w h ∙ rw (c, is, f) refl

      go : (b : Bool) → needs_copy d₁.session d₁.image w.main ≡ b → Alone (step s (call_write w k)).device (outcome d₁ (call_write w k)).clients
      go true c = alone_left (call_write w k) (suc n) (left true c ∙ alone-charged d₁.layout n) (omega (arith, few, more true c))
      go false c = alone_left (call_write w k) n (left false c) (omega (arith, few, more false c))

  -- a call keeps it
  alone-step : (c : Call) → Permitted c → ByFirst c.args → Alone d₁ c.lends.clients → Alone (step s c).device (outcome d₁ c).clients
  unfolding open_outcome checkpoint_outcome outcome_of
  alone-step c p first (n, is, few) = go c.args p first (ℕ_discrete (outcome d₁ c).status 0)
    where
      none : cleared c.lends.clients ≡ alone d₁.layout 0
      none = ap cleared is ∙ alone-cleared d₁.layout n

      go : (a : CallArgs) → let c₁ : Call = record { args = a; lends = c.lends } in
          Permitted c₁ → ByFirst a → Dec ((outcome d₁ c₁).status ≡ 0) → Alone (step s c₁).device (outcome d₁ c₁).clients
      go a p f (no z) =
          let c₁ : Call = record { args = a; lends = c.lends } in
          alone_left c₁ n (refused_clients d₁ c₁ z ∙ is) (omega (arith, few, refused_same s st c₁ p z))
      go (open_args l dom) p f (yes z) = alone_left (call_open l dom c.lends) 0 (open_left d₁ c.lends l dom z ∙ none) (omega arith)
      go (write_args w) p f (yes z) = alone-write w c.lends p f (n, is, few) z
      go (discard_args i) p f (yes z) = alone_left (call_discard i c.lends) n (discard_left d₁ c.lends i ∙ is) (omega (arith, few, discard_same s st i c.lends))
      go checkpoint_args p f (yes z) = alone_left (call_checkpoint c.lends) 0 (checkpoint_left d₁ c.lends z ∙ none) (omega arith)

  -- where it holds, 13 does not come, and neither do 14 and 15: they would come only where as many as there are are in use, and 9 comes
  -- before them
  module _ (k : Lent) (n : ℕ) (is : k.clients ≡ alone d₁.layout n) (few : n ≤ in_backup d₁) where
    good : (l : Layout) → l ≡ d₁.layout → clients_bad l k.clients ≡ false
    good l e = rw (e, is) (alone_ok d₁.layout n (omega (arith, few, in_use-most)))

    open_unhindered : (l : Layout) (dom : ℕ) → NoShareRefuses d₁ (call_open l dom k)
    unfolding open_outcome open_status outcome_of
    open_unhindered l dom = (
      λ h. false≢true (sym (good l (sized h)) ∙ given_condition 13 (open_errors l dom d₁.image k) (omega arith) h),
      λ h. false≢true (given_condition 14 (open_errors l dom d₁.image k) (omega arith) h),
      λ h. false≢true (given_condition 15 (open_errors l dom d₁.image k) (omega arith) h),
    )
      where
        sized : first_error (open_errors l dom d₁.image k) ≡ 13 → l ≡ d₁.layout
        sized h = header_fixed s st l dom k ((header_ok_lem l d₁.image).0 (not-false _ (given_earlier 13 (open_errors l dom d₁.image k) (omega arith) h 3)))

    discard_unhindered : (i : ℕ) → NoShareRefuses d₁ (call_discard i k)
    unfolding discard_outcome discard_status outcome_of
    discard_unhindered i = (
      λ h. false≢true (given_condition 13 (discard_errors d₁.session d₁.image i k) (omega arith) h),
      λ h. false≢true (given_condition 14 (discard_errors d₁.session d₁.image i k) (omega arith) h),
      λ h. false≢true (given_condition 15 (discard_errors d₁.session d₁.image i k) (omega arith) h),
    )

    checkpoint_unhindered : NoShareRefuses d₁ (call_checkpoint k)
    unfolding checkpoint_outcome checkpoint_status outcome_of
    checkpoint_unhindered = (
      λ h. false≢true (sym (good d₁.session.layout (checkpoint_sized s st k (λ e. omega (arith, e, h)))) ∙ given_condition 13 (checkpoint_errors d₁.session d₁.image k) (omega arith) h),
      λ h. false≢true (given_condition 14 (checkpoint_errors d₁.session d₁.image k) (omega arith) h),
      λ h. false≢true (given_condition 15 (checkpoint_errors d₁.session d₁.image k) (omega arith) h),
    )

    module _ (w : WriteArgs) (f : w.client ≡ 0) where
      abbrev errors : Errors
      errors = write_errors d₁.session d₁.image w k

      abbrev early : Errors
      early = early_errors d₁.session d₁.image k.clients w

      abbrev plan : Plan
      plan = copy_plan d₁.session d₁.image w.main

      abbrev free : ℕ
      free = free_backups d₁.session.layout (active_state d₁.image) (backup_to_main d₁.image)

      sized : first_error errors ≢ 1 → d₁.session.layout ≡ d₁.layout
      sized h = unfold write_status in write_sized s st w k h

      -- a write that copies finds 9 before them where all are in use
      not_all : (m : ℕ) → m ≢ 0 → m ≢ 1 → m ≢ 9 → condition m early ≡ false → first_error errors ≡ m → none_free plan ≡ false → copies plan ≡ true
          → in_backup d₁ ≢ d₁.layout.backups
      unfolding write_status
      not_all m a b c none h some copied full =
          let e = sized (λ x. b (sym h ∙ x)) in
          let nine = (nine_exactly d₁.session d₁.image w k).1 (
            given_later m early _ a none h,
            sym (plan_copies d₁.session d₁.image w.main some) ∙ copied,
            subst (λ (x : Layout). mains_in_backup x (active_state d₁.image) ≡ x.backups) (sym e) full,
          ) in
          c (sym h ∙ nine)

      write_unhindered : NoShareRefuses d₁ (call_write w k)
      unfolding write_outcome write_status outcome_of
      write_unhindered = (no_thirteen, no_fourteen, no_fifteen)
        where
          no_thirteen : first_error errors ≢ 13
          no_thirteen h = false≢true (sym none ∙ given_condition 13 errors (omega arith) h)
            where
              none : (leb (length k.clients) w.client || clients_bad d₁.session.layout k.clients) ≡ false
              none = rw (good d₁.session.layout (sized (λ e. omega (arith, e, h))), is, f)

          no_fourteen : first_error errors ≢ 14
          no_fourteen h =
              let test = given_condition 14 errors (omega arith) h in
              let full : d₁.layout.backups ≤ n =
              leb-true _ _ (subst₂ (λ (R : Clients) (c : ℕ). quota_reached R c ≡ true) is f (and_cond (copies plan) (quota_reached k.clients w.client) test)) in
              not_all 14 (omega arith) (omega arith) (omega arith) refl h (given_earlier 14 errors (omega arith) h 9) (cond_test (copies plan) (quota_reached k.clients w.client) test)
              (omega (arith, full, few, in_use-most))

          no_fifteen : first_error errors ≢ 15
          no_fifteen h =
              let test = given_condition 15 errors (omega arith) h in
              let none : free ≤ unused_of_others (alone d₁.layout n) 0 =
              leb-true _ _ (subst₂ (λ (R : Clients) (c : ℕ). all_reserved R c free ≡ true) is f (and_cond (copies plan) (all_reserved k.clients w.client free) test)) in
              not_all 15 (omega arith) (omega arith) (omega arith) refl h (given_earlier 15 errors (omega arith) h 9) (cond_test (copies plan) (all_reserved k.clients w.client free) test)
              (omega (arith, none, alone_others d₁.layout n, all_counted s st d₁.session.layout (sized (λ e. omega (arith, e, h)))))

  unhindered : (c : Call) → ByFirst c.args → Alone d₁ c.lends.clients → NoShareRefuses d₁ c
  unhindered c first (n, is, few) = go c.args first
    where
      go : (a : CallArgs) → ByFirst a → NoShareRefuses d₁ (record { args = a; lends = c.lends })
      go (open_args l dom) f = open_unhindered c.lends n is few l dom
      go (write_args w) f = write_unhindered c.lends n is few w f
      go (discard_args i) f = discard_unhindered c.lends n is few i
      go checkpoint_args f = checkpoint_unhindered c.lends n is few

alone-run : (s : State) (R : Clients) (cs : List Call) → Stands s → Alone s.device R → AllPermitted cs → AllByFirst cs → OneRun s R cs
    → Stands (run s cs) × Alone (run s cs).device (clients_left s R cs)
unfolding run clients_left
alone-run s R [] st is permitted first one = (st, is)
alone-run s R (c ∷ cs) st is permitted first one =
    alone-run (step s c) (outcome s.device c).clients cs (argument s st c permitted.0).stands
    (alone-step s st c permitted.0 first.0 (subst (Alone s.device) (sym one.0) is)) permitted.1 first.1 one.1

pub alone_unhindered : AloneUnhindered
alone_unhindered l dom I k n is b h cs permitted first one c p f lends =
    let started : Alone (start l dom I k).device (cleared k.clients) = unfold start in (0, ap cleared is ∙ alone-cleared l n, omega arith) in
    let r = alone-run (start l dom I k) (cleared k.clients) cs (start_stands l dom I k b h) started permitted first one in
    unhindered (run (start l dom I k) cs) r.0 c f (subst (Alone (run (start l dom I k) cs).device) (sym lends) r.1)
