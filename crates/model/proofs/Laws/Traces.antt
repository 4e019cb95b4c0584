-- The traces of kind 0 for the same calls (`adr_traces`), and how many operations a trace has for kind 1 (`eadr-counts`): specs/Domains.antt.
use Prim.Native.Nat.{ℕ, ◌*◌, ◌≤◌}
use mathlib.Core.Path.{◌≡◌, refl, ap, ap₂, ◌∙◌}
use mathlib.Core.Bool.{Bool, true, false, not, cond, and-eq-true_iff}
use mathlib.Core.List.{[]}
use native.Mathlib.Omega.{arith}
use lib.ListN.{length}
use borrow.Author.Tests.{eq-eqb, le-ltb, not-false}
use Rattle.model.specs.declared.Layout.{Layout}
use Rattle.model.specs.declared.Session.{Session}
use Rattle.model.specs.declared.Plan.{Plan}
use Rattle.model.specs.Words.{Image}
use Rattle.model.specs.Session.{adr, eadr, dirty_segment, dirty_word, fresh_session, with_dirty, with_checkpoint, valid_session}
use Rattle.model.specs.Ops.{Ops, Trace, for_domain, trace_short}
use Rattle.model.specs.Outcome.{Lent, lent, outcome_of}
use Rattle.model.specs.Container.{active_line, active_state}
use Rattle.model.specs.Open.{recovery_ops, open_outcome, open_status, open_errors}
use Rattle.model.specs.Write.{WriteArgs, needs_copy, copy_plan, write_ops, write_session, write_clients, write_errors, write_status, write_outcome}
use Rattle.model.specs.Discard.{discard_ops, discard_errors, discard_status, discard_outcome}
use Rattle.model.specs.Checkpoint.{checkpoint_ops, checkpoint_errors, checkpoint_status, checkpoint_outcome}
use Rattle.model.specs.Reference.{CallArgs, open_args, write_args, discard_args, checkpoint_args}
use Rattle.model.specs.History.{answers, domain_of, rule_ops}
use Rattle.model.specs.Domains.{with_domain, args_with, AdrTraces, EadrCounts}
use Rattle.model.proofs.Laws.Domain.{domain_adr, answers_filtered}
use Rattle.model.proofs.Laws.Refusals.{served_exactly}
use Rattle.model.proofs.Laws.Counts.{count_recovery}
use Rattle.model.proofs.Laws.Counts.Write.{copy_count, count_write}
use Rattle.model.proofs.Laws.Counts.Discard.{count_discard}
use Rattle.model.proofs.Laws.Counts.Checkpoint.{count_checkpoint}

-- ---- counts

pub eadr-counts : EadrCounts
eadr-counts = record {
  opening = λ l I line. count_recovery eadr l I line;
  new_backup = λ s I w j e. omega (arith, count_write eadr s I w, by_plan s w e);
  own_backup = λ s I w j e. omega (arith, count_write eadr s I w, by_plan s w e);
  no_copy = λ s I w e. omega (arith, count_write eadr s I w, by_plan s w e);
  discard = λ s I i e. count_discard eadr s I i ∙ rw e;
  checkpoint = λ s I. count_checkpoint s I eadr;
}
  where
    by_plan : (s : Session) (w : WriteArgs) {p q : Plan} → p ≡ q → copy_count eadr s.layout (dirty_word s w.main) p ≡ copy_count eadr s.layout (dirty_word s w.main) q
    by_plan s w e = ap (copy_count eadr s.layout (dirty_word s w.main)) e

-- ---- the traces of kind 0

-- a long enough trace is not too short for kind 0
long : (O : Ops) (t : Trace) → 3 * length O ≤ length t → trace_short (for_domain adr O) t ≡ false
unfolding trace_short
long O t h = le-ltb (length t) (3 * length (for_domain adr O)) (omega (arith, ap length (domain_adr O)))

-- a valid session is valid with kind 0
valid_adr : (s : Session) (st : ℕ → ℕ) → not (valid_session s st) ≡ false → not (valid_session (with_domain adr s) st) ≡ false
unfolding valid_session dirty_segment
valid_adr s st h =
    let v : valid_session s st ≡ true = not-false (valid_session s st) h in
    let k = simp and-eq-true_iff at v in
    let w : valid_session (with_domain adr s) st ≡ true = simp and-eq-true_iff (k.0, refl) in
    ap not w

-- each call: what refuses it does not look at its kind but for 5 and 11
module _ (s : Session) (I : Image) (k : Lent) (t : Trace) where
  abbrev z : Session
  z = with_domain adr s

  open_adr : (l : Layout) (d : ℕ) → open_status l d I k ≡ 0 → 3 * length (recovery_ops l I (active_line I)) ≤ length t → open_status l adr I (lent k.clients t) ≡ 0
  unfolding open_status
  open_adr l d h room =
      let n = (served_exactly (open_errors l d I k) (omega arith)).0 h in
      (served_exactly (open_errors l adr I (lent k.clients t)) (omega arith)).1
      (n.0, (n.1.0, (n.1.1.0, (n.1.1.1.0, (refl, (n.1.1.1.1.1.0, (long (recovery_ops l I (active_line I)) t room, tt)))))))

  write-adr : (w : WriteArgs) → write_status s I w k ≡ 0 → 3 * length (write_ops s I w) ≤ length t → write_status z I w (lent k.clients t) ≡ 0
  unfolding write_status write_ops copy_plan needs_copy dirty_segment
  write-adr w h room =
      let n = (served_exactly (write_errors s I w k) (omega arith)).0 h in
      let five = n.1.1.1.1 in
      let eight = five.1.1.1.1 in
      (served_exactly (write_errors z I w (lent k.clients t)) (omega arith)).1 (
        n.0,
        (
          n.1.0,
          (
            n.1.1.0,
            (
              n.1.1.1.0,
              (
                valid_adr s (active_state I) five.0,
                (
                  five.1.0,
                  (
                    five.1.1.0,
                    (
                      five.1.1.1.0,
                      (eight.0, (eight.1.0, (eight.1.1.0, (eight.1.1.1.0, (long (write_ops z I w) t room, tt))))),
                    ),
                  ),
                ),
              ),
            ),
          ),
        ),
      )

  discard-adr : (i : ℕ) → discard_status s I i k ≡ 0 → 3 * length (discard_ops s I i) ≤ length t → discard_status z I i (lent k.clients t) ≡ 0
  unfolding discard_status discard_ops dirty_segment
  discard-adr i h room =
      let n = (served_exactly (discard_errors s I i k) (omega arith)).0 h in
      let five = n.1.1.1.1 in
      (served_exactly (discard_errors z I i (lent k.clients t)) (omega arith)).1
      (n.0, (n.1.0, (n.1.1.0, (n.1.1.1.0, (valid_adr s (active_state I) five.0, (five.1.0, (long (discard_ops z I i) t room, tt)))))))

  checkpoint-adr : checkpoint_status s I k ≡ 0 → 3 * length (checkpoint_ops s I) ≤ length t → checkpoint_status z I (lent k.clients t) ≡ 0
  unfolding checkpoint_status checkpoint_ops
  checkpoint-adr h room =
      let n = (served_exactly (checkpoint_errors s I k) (omega arith)).0 h in
      let five = n.1.1.1.1 in
      (served_exactly (checkpoint_errors z I (lent k.clients t)) (omega arith)).1
      (n.0, (n.1.0, (n.1.1.0, (n.1.1.1.0, (valid_adr s (active_state I) five.0, (five.1.0, (five.1.1.0, (long (checkpoint_ops z I) t room, tt))))))))

  status_adr : (a : CallArgs) → (answers s I a k).status ≡ 0 → 3 * length (rule_ops s I a) ≤ length t → (answers z I (args_with adr a) (lent k.clients t)).status ≡ 0
  unfolding open_outcome write_outcome discard_outcome checkpoint_outcome outcome_of
  status_adr (open_args l d) = open_adr l d
  status_adr (write_args w) = write-adr w
  status_adr (discard_args i) = discard-adr i
  status_adr checkpoint_args = checkpoint-adr

-- the rule does not look at the kind
rule_adr : (s : Session) (I : Image) (a : CallArgs) → (domain_of (with_domain adr s) (args_with adr a) ≡ adr) × (rule_ops (with_domain adr s) I (args_with adr a) ≡ rule_ops s I a)
unfolding write_ops copy_plan needs_copy discard_ops checkpoint_ops dirty_segment
rule_adr s I (open_args l d) = (refl, refl)
rule_adr s I (write_args w) = (refl, refl)
rule_adr s I (discard_args i) = (refl, refl)
rule_adr s I checkpoint_args = (refl, refl)

-- what a served call writes
served_filtered : (s : Session) (I : Image) (a : CallArgs) (k : Lent) → (answers s I a k).status ≡ 0 → (answers s I a k).ops ≡ for_domain (domain_of s a) (rule_ops s I a)
served_filtered s I a k h = answers_filtered s I a k ∙ ap (λ (b : Bool). for_domain (domain_of s a) (cond b (rule_ops s I a) [])) (eq-eqb (answers s I a k).status 0 h)

-- and what it answers besides
answers-adr : (s : Session) (I : Image) (a : CallArgs) (k : Lent) (t : Trace) → (answers s I a k).status ≡ 0
    → (answers (with_domain adr s) I (args_with adr a) (lent k.clients t)).status ≡ 0
    → ((answers (with_domain adr s) I (args_with adr a) (lent k.clients t)).session ≡ with_domain adr (answers s I a k).session)
    × ((answers (with_domain adr s) I (args_with adr a) (lent k.clients t)).clients ≡ (answers s I a k).clients)
unfolding open_outcome write_outcome discard_outcome checkpoint_outcome outcome_of fresh_session write_session with_dirty with_checkpoint write_clients needs_copy dirty_segment
answers-adr s I (open_args l d) k t h z = rw (eq-eqb _ _ h, eq-eqb _ _ z) (refl, refl)
answers-adr s I (write_args w) k t h z = rw (eq-eqb _ _ h, eq-eqb _ _ z) (refl, refl)
answers-adr s I (discard_args i) k t h z = rw (eq-eqb _ _ h, eq-eqb _ _ z) (refl, refl)
answers-adr s I checkpoint_args k t h z = rw (eq-eqb _ _ h, eq-eqb _ _ z) (refl, refl)

pub adr_traces : AdrTraces
adr_traces = record {
  filtered = served_filtered;
  whole = λ s I a k h t room.
      let e = rule_adr s I a in
      let z = status_adr s I k t a h room in
      let r = answers-adr s I a k t h z in
      (z, served_filtered (with_domain adr s) I (args_with adr a) (lent k.clients t) z ∙ ap₂ for_domain e.0 e.1 ∙ domain_adr (rule_ops s I a), r.0, r.1);
}
