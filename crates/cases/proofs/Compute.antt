-- What a computed case needs: a name that opens every definition of `model`, and tests which the checker computes in one pass: for equal
-- lists of numbers, for bytes, and for calls that demand 3 speaks of.
use Prim.Native.Nat.{ℕ, zero, suc}
use mathlib.Core.Path.{◌≡◌, refl, ap₂}
use mathlib.Core.Bool.{Bool, true, false, ◌&&◌, ◌||◌}
use mathlib.Core.List.{List, [], ◌∷◌}
use lib.Dec.{eqb, ltb, lit<}
use borrow.Author.Tests.{eqb-true, ltb-true}
use Rattle.model.specs.Range.{cat, all_b, any_b, or_next, first_b, sum_to}
use Rattle.model.specs.Words.{Bytes, little_endian, word_of, bytes_of, store_word, overlay}
use Rattle.model.specs.Layout.{in_range, sizes_ok, image_size, state_line}
use Rattle.model.specs.Status.{served, first_error}
use Rattle.model.specs.Container.{is_paired, valid_metadata, paired_backup, is_free, any_free, free_backups, new_backup, by_state, checkpoint_located, checkpoint_segment, checkpoint_bytes, header_ok}
use Rattle.model.specs.Session.{no_domain, bit, set_bit, set_bits, dirty_segment, dirty_block, fresh_session, zero_session, with_dirty, with_checkpoint, valid_session}
use Rattle.model.specs.Ops.{encode, op_of, decode, written, trace_short, apply, replay, stores, clwbs, put_block, persist_copy, persist_zero, copy_segment, zero_segment, for_domain}
use Rattle.model.specs.Clients.{charged, cleared, clients_bad}
use Rattle.model.specs.Outcome.{outcome_of}
use Rattle.model.specs.Replay.{well_formed, all_well_formed, replay_count, replayed_ops, replay_status, replay_outcome}
use Rattle.model.specs.Format.{container, formatted, format_outcome}
use Rattle.model.specs.Open.{recovery_action, action_ops, recover_segment, recovery_ops, open_status, open_outcome}
use Rattle.model.specs.Write.{needs_copy, needs_backup, copy_plan, pair_ops, copy_dirty, backup_ops, state_ops, copy_on_write_ops, span_ops, write_ops, write_session, write_clients, span_bad, write_status, write_outcome}
use Rattle.model.specs.Discard.{restore_dirty, discard_ops, discard_status, discard_outcome}
use Rattle.model.specs.Checkpoint.{flush_dirty, next_state, states_ops, epoch_ops, checkpoint_ops, checkpoint_status, checkpoint_outcome}
use Rattle.model.specs.Reads.{read_status, working_part, checkpoint_part}
use Rattle.model.specs.Same.{same_initial, same_bytes, same_checkpoint, same_outcome}
use Rattle.model.specs.Reference.{CallArgs, open_args, write_args, discard_args, checkpoint_args, model_step}
use Rattle.model.specs.History.{Call, Device, answers, reported, played_ops, replayed_image, device_step, step, run, opened_image, start, PermittedArgs, GivenDomain, OwnDomain}
use Rattle.cases.specs.Turns.{Point, Turn, call_at, turn, made, Supposed}
use Rattle.model.proofs.Laws.Range.{and_left, and_right, or_else}
use Rattle.model.proofs.Argument.Openings.{domain_known}

unfoldable pub model_rules : Unit {0}
unfolding cat all_b any_b or_next first_b sum_to little_endian word_of bytes_of store_word overlay in_range sizes_ok image_size state_line first_error is_paired valid_metadata paired_backup is_free any_free free_backups new_backup by_state checkpoint_located checkpoint_segment checkpoint_bytes header_ok bit set_bit set_bits dirty_segment dirty_block fresh_session zero_session with_dirty with_checkpoint valid_session encode op_of decode written trace_short apply replay stores clwbs put_block persist_copy persist_zero copy_segment zero_segment for_domain charged cleared clients_bad outcome_of well_formed all_well_formed replay_count replayed_ops replay_status replay_outcome container formatted format_outcome recovery_action action_ops recover_segment recovery_ops open_status open_outcome needs_copy needs_backup copy_plan pair_ops copy_dirty backup_ops state_ops copy_on_write_ops span_ops write_ops write_session write_clients span_bad write_status write_outcome restore_dirty discard_ops discard_status discard_outcome flush_dirty next_state states_ops epoch_ops checkpoint_ops checkpoint_status checkpoint_outcome read_status working_part checkpoint_part same_initial same_bytes same_checkpoint same_outcome model_step reported played_ops replayed_image device_step step run opened_image start
model_rules = tt

unfoldable pub same : List ℕ → List ℕ → Bool
same [] [] = true
same [] (y ∷ ys) = false
same (x ∷ xs) [] = false
same (x ∷ xs) (y ∷ ys) = eqb x y && same xs ys

pub same_equal : (xs ys : List ℕ) → same xs ys ≡ true → xs ≡ ys
unfolding same
same_equal [] [] e = refl
same_equal [] (y ∷ ys) e = cc
same_equal (x ∷ xs) [] e = cc
same_equal (x ∷ xs) (y ∷ ys) e =
    ap₂ ◌∷◌ (eqb-true x y (and_left (eqb x y) (same xs ys) e)) (same_equal xs ys (and_right (eqb x y) (same xs ys) e))

unfoldable pub small : List ℕ → Bool
small [] = true
small (x ∷ xs) = ltb x 256 && small xs

pub small_bytes : (xs : List ℕ) → small xs ≡ true → Bytes xs
unfolding small
small_bytes [] e i = lit< tt
small_bytes (x ∷ xs) e zero = ltb-true x 256 (and_left (ltb x 256) (small xs) e)
small_bytes (x ∷ xs) e (suc i) = small_bytes xs (and_right (ltb x 256) (small xs) e) i

-- what a call is given to write are bytes, and an opening is given the kind d of module, or one that there is not and so is refused; this of
-- every call of a story, and then they are such as demand 3 supposes
unfoldable pub fit_args : ℕ → CallArgs → Bool
fit_args d (open_args l k) = no_domain k || eqb k d
fit_args d (write_args w) = small w.bytes
fit_args d (discard_args i) = true
fit_args d checkpoint_args = true

unfoldable pub fit_turns : ℕ → List Turn → Bool
fit_turns d [] = true
fit_turns d (c ∷ cs) = fit_args d c.args && fit_turns d cs

fit_permitted : (d : ℕ) (a : CallArgs) → fit_args d a ≡ true → PermittedArgs a
unfolding fit_args
fit_permitted d (open_args l k) e = tt
fit_permitted d (write_args w) e = small_bytes w.bytes e
fit_permitted d (discard_args i) e = tt
fit_permitted d checkpoint_args e = tt

fit_own : (d : ℕ) (v : Device) (c : Call) → fit_args d c.args ≡ true → OwnDomain d v c
unfolding fit_args open_outcome outcome_of
fit_own d v c = go c.args
  where
    go : (a : CallArgs) → fit_args d a ≡ true → served (answers v.session v.image a c.lends).status ≡ true → GivenDomain d a
    go (open_args l k) e x = eqb-true k d (or_else (no_domain k) (eqb k d) e (domain_known l k v.image c.lends (eqb-true _ _ x)))
    go (write_args w) e x = tt
    go (discard_args i) e x = tt
    go checkpoint_args e x = tt

pub all_supposed : (d : ℕ) (p : Point) (cs : List Turn) → fit_turns d cs ≡ true → Supposed d p cs
unfolding fit_turns made turn
all_supposed d p [] e = (tt, tt)
all_supposed d p (c ∷ cs) e =
    let here = and_left (fit_args d c.args) (fit_turns d cs) e in
    let later = all_supposed d (turn p c) cs (and_right (fit_args d c.args) (fit_turns d cs) e) in
    ((fit_permitted d c.args here, later.0), (fit_own d p.state.device (call_at p c) here, later.1))

-- a list computed before it is handed on
unfoldable pub known : {A : Type 0} → List ℕ → (List ℕ → A) → A
known [] k = k []
known (x ∷ xs) k = known xs (λ ys. k (x ∷ ys))

pub known_same : {A : Type 0} (xs : List ℕ) (k : List ℕ → A) → known xs k ≡ k xs
unfolding known
known_same [] k = refl
known_same (x ∷ xs) k = known_same xs (λ ys. k (x ∷ ys))
