-- Laws of a whole write: what the refusals leave that do not depend on the plan, the status by its two halves, and the outcome.
use Prim.Native.Nat.{ℕ, suc, ◌+◌, ◌≤◌, ◌<◌}
use mathlib.Core.Path.{◌≡◌, refl, sym, ap, ap₂, ◌∙◌}
use mathlib.Core.Bool.{Bool, true, false, cond}
use mathlib.Core.List.{◌++◌}
use native.Mathlib.Omega.{arith}
use lib.ListN.{length, set}
use borrow.Author.Tests.{leb-false, not-false}
use Rattle.std.specs.Prelude.{Result, Ok, Err}
use Rattle.model.specs.declared.Session.{Session}
use Rattle.model.specs.declared.Refusal.{Refusal}
use Rattle.model.specs.declared.Plan.{Plan}
use Rattle.model.specs.Words.{Image}
use Rattle.model.specs.Layout.{most, image_size}
use Rattle.model.specs.Status.{Errors, refusal_number, first_error}
use Rattle.model.specs.Container.{active_state, backup_to_main, free_backups, main_errors, block_errors}
use Rattle.model.specs.Session.{set_bit, set_bits, dirty_word, with_dirty, context_errors}
use Rattle.model.specs.Ops.{Ops, Trace, for_domain, trace_errors}
use Rattle.model.specs.Clients.{Clients, client_at, with_used, client_errors, share_errors}
use Rattle.model.specs.Outcome.{lent, told, Gives}
use Rattle.model.specs.Write.{WriteArgs, needs_copy, copies, none_free, copy_plan, copy_on_write_ops, span_at, span_words, span_blocks, span_stores, span_ops, write_ops, write_session, write_clients, span_bad, span_errors, early_errors, late_errors, write_status, write_outcome}
use Rattle.model.proofs.Laws.Layout.{image_lines_lem, metadata_inside, segment_in_image}
use Rattle.model.proofs.Laws.Status.{first_fails, first_of_none, served_condition, after-served, refusal_refuses, stage_refused}
use Rattle.model.proofs.Laws.Container.{container_then}
use Rattle.model.proofs.Laws.Write.{plan_copies, span_good}
use Rattle.model.proofs.Laws.Domain.{domain_stores}
use Rattle.model.proofs.Laws.Counts.{length-stores, count_append}
use Rattle.trace.specs.declared.Writer.{Writer}
use Rattle.trace.specs.Emit.{Begun, Emitted}
use Rattle.trace.proofs.EmitLaws.{emitted_as}
use Rattle.trace.proofs.CallLaws.{gives_refused, gives_served}
use Rattle.session.specs.Parts.{session_of}
use Rattle.session.proofs.SessionLaws.{words_within}
use Rattle.clients.proofs.RunLaws.{put_used}
use Rattle.places.proofs.PlaceLaws.{image_bound}
use Rattle.write.specs.declared.Written.{Written}
use Rattle.write.specs.Steps.{SpanWritable}
use Rattle.write.specs.Written.{written_session, written_answer, written_clients}

-- ---- refusals 1 to 8

-- those of them that know nothing of the records
abbrev plain_errors : Session → Image → WriteArgs → Errors
plain_errors s I w = context_errors s I ++ main_errors s.layout w.main ++ block_errors s.layout w.block ++ span_errors s.layout w

-- what they leave, where the code found none of them
writable : (s : Session) (I : Image) (w : WriteArgs) → first_error (plain_errors s I w) ≡ 0 → SpanWritable s I w
unfolding image_size
writable s I w h =
    let c = (container_then s.layout I _ h).0 in
    let r = served_condition (plain_errors s I w) (omega arith) h in
    let g = span_good s.layout w (r 8) in
    let m : w.main < s.layout.mains = leb-false _ _ (r 6) in
    record {
      sizes = c.sizes;
      segment = record {
        mains = omega arith;
        backups = omega arith;
        some = omega arith;
        blocks = omega arith;
        main = m;
        metadata = omega (arith, metadata_inside s.layout);
        size = omega (arith, image_bound s.layout.blocks (s.layout.mains + s.layout.backups) (omega arith) (omega arith));
        lines = omega (arith, image_lines_lem s.layout);
        inside = omega (arith, segment_in_image s.layout w.main (omega arith));
        valid = c.valid;
      };
      block = leb-false _ _ (r 7);
      some = omega arith;
      offset = g.1;
      span = g.2;
      word = words_within s (active_state I) (omega arith) (not-false _ (r 5)) w.main m;
    }

-- by refusals 1 to 5, 6 and 7, and 8
module _ (s : Session) (I : Image) (w : WriteArgs) (x : 0 ≡ first_error (context_errors s I)) (z : 0 ≡ first_error (main_errors s.layout w.main ++ block_errors s.layout w.block)) where
  pub block_lt_blocks : (w.block < s.layout.blocks) × (s.layout.blocks ≤ most)
  block_lt_blocks = (leb-false _ _ (served_condition (main_errors s.layout w.main ++ block_errors s.layout w.block) (omega arith) (sym z) 7), (container_then s.layout I _ (sym x)).0.sizes.2.1)

  pub early_writable : span_bad s.layout w ≡ false → SpanWritable s I w
  early_writable h = writable s I w (after-served _ _ (omega arith) (sym x) ∙ after-served _ _ (omega arith) (sym z) ∙ sym (first_fails 8 0 _ _ h first_of_none))

-- ---- the operations

module _ (s : Session) (I : Image) (w : WriteArgs) (p : Plan) (at : ℕ) where
  -- as the code writes them
  abbrev pub ops : Ops
  ops = copy_on_write_ops s.layout I (dirty_word s w.main) w.main p ++ span_stores I at w.bytes

  -- those of them that the trace has
  abbrev pub on_trace : Ops
  on_trace = for_domain s.domain ops

  -- as many as it counts
  pub length_ops : (m n : ℕ) → m ≡ length (for_domain s.domain (copy_on_write_ops s.layout I (dirty_word s w.main) w.main p)) → n ≡ span_words at (length w.bytes)
      → length on_trace ≡ m + n
  length_ops m n x y =
      count_append s.domain (copy_on_write_ops s.layout I (dirty_word s w.main) w.main p) (span_stores I at w.bytes)
      ∙ ap₂ ◌+◌ (sym x) (ap length (domain_stores _ _ _ _) ∙ length-stores _ _ _ ∙ sym y)

  write_ops_lem : p ≡ copy_plan s I w.main → at ≡ span_at s.layout w → ops ≡ write_ops s I w
  unfolding write_ops span_ops
  write_ops_lem plan place = rw (place, plan)

-- ---- status and outcome

module _ (s : Session) (I : Image) (R : Clients) (w : WriteArgs) (t : Trace) where
  -- what an answer of the code gives
  abbrev Given : Result Written Refusal → Trace → Type 0
  Given a after = Gives (write_outcome s I w (lent R t)) t (told s (written_answer s w.main a)) after (written_clients R w.client a)

  -- how many backup segments are free
  abbrev free : ℕ
  free = free_backups s.layout (active_state I) (backup_to_main I)

  module _ (p : Plan) (at : ℕ) (early : 0 ≡ first_error (early_errors s I R w)) (plan : p ≡ copy_plan s I w.main) (place : at ≡ span_at s.layout w) where
    pub status_late : first_error (late_errors p R w.client free (on_trace s I w p at) t) ≡ write_status s I w (lent R t)
    unfolding write_status
    status_late =
        ap₂ (λ (q : Plan) (O : Ops). first_error (late_errors q R w.client free (for_domain s.domain O) t)) plan (write_ops_lem s I w p at plan place)
        ∙ sym (after-served (early_errors s I R w) (late_errors (copy_plan s I w.main) R w.client free (for_domain s.domain (write_ops s I w)) t) (omega arith) (sym early))

    module _ (z : 0 ≡ first_error (late_errors p R w.client free (on_trace s I w p at) t)) where
      -- the segment is copied exactly if it must be
      copied : copies p ≡ needs_copy s I w.main
      copied =
          ap copies plan ∙ plan_copies s I w.main
          (sym (ap none_free plan) ∙ served_condition (late_errors p R w.client free (on_trace s I w p at) t) (omega arith) (sym z) 9)

      -- the records with what the code says that the client has taken
      clients_left_lem : (n : ℕ) → n ≡ cond (copies p) (suc (client_at R w.client).used) (client_at R w.client).used
          → set R w.client (with_used n (client_at R w.client)) ≡ write_clients s I w R
      unfolding write_clients
      clients_left_lem n u =
          ap (λ (m : ℕ). set R w.client (with_used m (client_at R w.client))) (u ∙ ap (λ (b : Bool). cond b (suc (client_at R w.client).used) (client_at R w.client).used) copied)
          ∙ put_used R w.client (needs_copy s I w.main)

      pub served-write : (a : Written) {after : Trace} {b v : Writer} → Begun s.domain t b → 0 ≡ first_error (trace_errors (on_trace s I w p at) t)
          → a.dirty_segments ≡ set_bit s.dirty_segments w.main
          → a.word ≡ set_bits (cond (copies p) 0 (dirty_word s w.main)) w.block (span_blocks w)
          → a.used ≡ cond (copies p) (suc (client_at R w.client).used) (client_at R w.client).used → a.ops ≡ length (on_trace s I w p at)
          → Emitted b (ops s I w p at) v → after ≡ v.trace.now → Given (Ok a) after
      unfolding write_outcome write_session with_dirty
      served-write a g room x y u m e left =
          let same = write_ops_lem s I w p at plan place in
          let h = gives_served _ s _ R (write_clients s I w R) s.domain (write_ops s I w) t {a = record { session = written_session s w.main a; ops = a.ops }} (sym status_late ∙ sym z)
          (ap₂ (λ (segments word : ℕ). session_of s.layout segments (set s.dirty_blocks w.main word) s.domain) x
          (y ∙ ap (λ (b : Bool). set_bits (cond b 0 (dirty_word s w.main)) w.block (span_blocks w)) copied)) (m ∙ ap (λ (O : Ops). length (for_domain s.domain O)) same) g
          (room ∙ ap (λ (O : Ops). first_error (trace_errors (for_domain s.domain O) t)) same) (emitted_as e same) left in
          (h.0, h.1, h.2, h.3, clients_left_lem a.used u ∙ h.4)
