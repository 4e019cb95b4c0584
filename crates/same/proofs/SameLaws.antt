-- Laws of equality of two checkpoints: what an accepted image holds, where a segment's checkpoint stands, one segment and all of them.
use Prim.Native.Nat.{ℕ, zero, suc, ◌+◌, ◌-◌, ◌*◌, ◌≤◌, ◌<◌}
use mathlib.Core.Path.{◌≡◌, refl, sym, ap, ap₂, ◌∙◌, subst}
use mathlib.Core.Logic.{◌≢◌}
use mathlib.Core.Bool.{Bool, true, false, ◌&&◌, beq}
use native.Mathlib.Omega.{arith}
use native.Mathlib.Nat.{add-sub_cancel_left, mul_assoc, mul_comm}
use lib.Dec.{eqb}
use lib.ListN.{length, get_or, take, drop, replicate, length-take, length-drop}
use lib.Seq.{get_or-take, get_or-drop}
use borrow.Author.Tests.{eq-eqb, ne_eqb}
use Rattle.model.specs.declared.Layout.{Layout}
use Rattle.model.specs.declared.Refusal.{Refusal}
use Rattle.std.specs.Prelude.{None, Some}
use Rattle.model.specs.Range.{all_b}
use Rattle.model.specs.Words.{Image, byte_at}
use Rattle.model.specs.Layout.{ss_initial, segment_size, main_at, backup_at}
use Rattle.model.specs.Status.{refusal_number, first_error}
use Rattle.model.specs.Container.{active_line, active_state, seg_state, backup_to_main, paired_backup, by_state, checkpoint_located, checkpoint_segment, checkpoint_bytes, container_errors}
use Rattle.model.specs.Same.{same_initial, same_bytes, same_status, same_checkpoint}
use Rattle.model.proofs.Laws.Range.{all_from, all_ext}
use Rattle.model.proofs.Laws.Layout.{metadata_inside}
use Rattle.model.proofs.Laws.Status.{stage_refused, after-served, served_parts, refusal_refuses}
use Rattle.model.proofs.Laws.Container.{container_ok}
use Rattle.model.proofs.Argument.Pages.{checkpoint_at}
use Rattle.metadata.proofs.LocatedLaws.{Inside, located_nowhere, located_inside}
use Rattle.same.specs.Accepted.{Accepted}
use Rattle.same.specs.Segment.{same_segment}
use Rattle.same.proofs.TestLaws.{runs, all_both}

-- ---- the status: refused for the first image, or judged by the second

module _ (l : Layout) (I J : Image) where
  pub first_refused : (r : Refusal) → refusal_number r ≡ first_error (container_errors l I) → refusal_number r ≡ same_status l I J
  first_refused r e = stage_refused _ (container_errors l I) (container_errors l J) e (refusal_refuses r)

  pub first_passed : (n : ℕ) → 0 ≡ first_error (container_errors l I) → n ≡ first_error (container_errors l J) → n ≡ same_status l I J
  first_passed n e h = h ∙ sym (after-served (container_errors l I) (container_errors l J) (omega arith) (sym e))

-- ---- one image

module _ (l : Layout) (I : Image) where
  accepted : first_error (container_errors l I) ≡ 0 → Accepted l I
  accepted h =
      let ok = container_ok l I h in
      record { sizes = ok.sizes; long = ok.long; room = omega (arith, ok.long, metadata_inside l); header = ok.header; valid = ok.valid }

  module _ (i : ℕ) where
    -- the checkpoint of a main segment stands nowhere only if the segment is in state 0
    pub nowhere : None ≡ checkpoint_located l I (active_line I) i → active_state I i ≡ ss_initial
    unfolding checkpoint_located by_state
    nowhere e = go (active_state I i) refl e
      where
        go : (n : ℕ) → active_state I i ≡ n → None ≡ by_state n None (Some (main_at l i)) (Some (backup_at l (paired_backup l (backup_to_main I) i)))
            → active_state I i ≡ ss_initial
        go zero e q = e
        go (suc zero) e q = cc
        go (suc (suc n)) e q = cc

    module _ (p : ℕ) (at : Some p ≡ checkpoint_located l I (active_line I) i) where
      pub somewhere : active_state I i ≢ ss_initial
      somewhere e = let n = located_nowhere l I (active_line I) i e in cc

      pub inside : Accepted l I → i < l.mains → p + segment_size l ≤ length I
      inside a h = subst (Inside l I) (sym at) (located_inside l I (active_line I) i a.valid h a.long)

      -- the part of the image that holds it
      pub its_bytes : take (p + segment_size l - p) (drop p I) ≡ checkpoint_segment l I (active_line I) i
      unfolding checkpoint_segment
      its_bytes = ap (λ (n : ℕ). take n (drop p I)) (add-sub_cancel_left p (segment_size l)) ∙ rw (← at)

      pub its_length : Accepted l I → i < l.mains → length (take (p + segment_size l - p) (drop p I)) ≡ segment_size l
      its_length a h = let e = inside a h in simp (length-take, length-drop) (omega arith)

    -- and then it is all zeros
    none_bytes : active_state I i ≡ ss_initial → replicate (segment_size l) 0 ≡ checkpoint_segment l I (active_line I) i
    unfolding checkpoint_segment
    none_bytes e = rw (← located_nowhere l I (active_line I) i e)

-- ---- two images

pub both_accepted : (l : Layout) (I J : Image) → 0 ≡ same_status l I J → Accepted l I × Accepted l J
both_accepted l I J e =
    let s = served_parts (container_errors l I) (container_errors l J) (omega arith) (sym e) in
    (accepted l I s.0, accepted l J s.1)

module _ (l : Layout) (I J : Image) where
  -- a main segment that is in state 0 in both, in one alone, in none
  module _ (i : ℕ) where
    pub both_none : active_state I i ≡ ss_initial → active_state J i ≡ ss_initial → true ≡ same_segment l I J i
    unfolding same_segment same_bytes
    both_none p q =
        rw (eq-eqb _ 0 p, eq-eqb _ 0 q, ← none_bytes l I i p, ← none_bytes l J i q) (sym (all_from (segment_size l) _ (λ k h. eq-eqb _ _ refl)))

    pub second_none : active_state I i ≢ ss_initial → active_state J i ≡ ss_initial → false ≡ same_segment l I J i
    unfolding same_segment
    second_none p q = rw (ne_eqb _ 0 p, eq-eqb _ 0 q)

    pub first_none : active_state I i ≡ ss_initial → active_state J i ≢ ss_initial → false ≡ same_segment l I J i
    unfolding same_segment
    first_none p q = rw (eq-eqb _ 0 p, ne_eqb _ 0 q)

    pub both_there : active_state I i ≢ ss_initial → active_state J i ≢ ss_initial
        → same_bytes (segment_size l) (checkpoint_segment l I (active_line I) i) (checkpoint_segment l J (active_line J) i) ≡ same_segment l I J i
    unfolding same_segment
    both_there p q = rw (ne_eqb _ 0 p, ne_eqb _ 0 q)

-- ---- all main segments

-- byte k of segment i among all bytes
byte_of : (l : Layout) (I : Image) → Accepted l I → (i k : ℕ) → i < l.mains → k < segment_size l
    → get_or (checkpoint_segment l I (active_line I) i) k 0 ≡ get_or (checkpoint_bytes l I (active_line I)) (segment_size l * i + k) 0
byte_of l I a i k h m =
    let place : 256 * (i * l.blocks) ≡ 256 * l.blocks * i = ap (λ (n : ℕ). 256 * n) (mul_comm i l.blocks) ∙ sym (mul_assoc 256 l.blocks i) in
    sym (checkpoint_at l I (record { sizes = a.sizes; long = a.long; header = a.header; valid = a.valid }) i k h m) ∙ ap (λ (n : ℕ). get_or (checkpoint_bytes l I (active_line I)) (n + k) 0) place

module _ (l : Layout) (I J : Image) where
  abbrev states : Bool
  states = same_initial l.mains (active_state I) (active_state J)

  abbrev bytes : Bool
  bytes = same_bytes (segment_size l * l.mains) (checkpoint_bytes l I (active_line I)) (checkpoint_bytes l J (active_line J))

  all_segments : Accepted l I → Accepted l J → all_b l.mains (same_segment l I J) ≡ (states && bytes)
  unfolding same_segment same_initial same_bytes
  all_segments p q =
      all_both l.mains _ _
      ∙ ap (λ (b : Bool). states && b) (
      all_ext l.mains _ _ (λ i h. all_ext (segment_size l) _ _ (λ k m. ap₂ (λ (x y : ℕ). eqb x y) (byte_of l I p i k h m) (byte_of l J q i k h m)))
      ∙ sym (runs (segment_size l) l.mains _))

  -- what the code's test of the states says, of the parts of the two images that hold them
  pub states_tested : (x y : ℕ) {r : Bool} → x ≡ active_line I → y ≡ active_line J → x + l.mains ≤ length I
      → r ≡ same_initial (length (take (x + l.mains - x) (drop x I))) (byte_at (take (x + l.mains - x) (drop x I))) (byte_at (take (y + l.mains - y) (drop y J))) → r ≡ states
  unfolding same_initial
  states_tested x y p q h e =
      e
      ∙ ap (λ (n : ℕ). all_b n (λ i. beq (eqb (byte_at (take (x + l.mains - x) (drop x I)) i) ss_initial) (eqb (byte_at (take (y + l.mains - y) (drop y J)) i) ss_initial)))
      (simp (length-take, length-drop) (omega arith))
      ∙ all_ext l.mains _ _ (λ i m. ap₂ (λ (s t : ℕ). beq (eqb s ss_initial) (eqb t ss_initial))
      (state I x i m ∙ ap (λ (n : ℕ). seg_state I n i) p) (state J y i m ∙ ap (λ (n : ℕ). seg_state J n i) q))
    where
      state : (K : Image) (x i : ℕ) → i < l.mains → get_or (take (x + l.mains - x) (drop x K)) i 0 ≡ seg_state K x i
      state K x i m =
          ap (λ (n : ℕ). get_or (take n (drop x K)) i 0) (add-sub_cancel_left x l.mains) ∙ get_or-take l.mains (drop x K) i 0 m ∙ get_or-drop x K i 0

  -- decided by the states, or by the segments
  pub unlike_by_states : false ≡ states → false ≡ same_checkpoint l I J
  unfolding same_checkpoint
  unlike_by_states e = rw (← e)

  pub decided_by_segments : true ≡ states → Accepted l I → Accepted l J → all_b l.mains (same_segment l I J) ≡ same_checkpoint l I J
  unfolding same_checkpoint
  decided_by_segments e p q = all_segments p q
