-- The two reads and the comparison answer the same on images that agree on the named bytes.
use Prim.Native.Nat.{ℕ, zero, suc, ◌+◌, ◌*◌, ◌≤◌, ◌<◌}
use mathlib.Core.Path.{◌≡◌, refl, ap, ap₂, ◌∙◌}
use mathlib.Core.Bool.{Bool, true, false, cond, ◌&&◌, beq}
use mathlib.Core.List.{[], ◌++◌}
use native.Mathlib.Omega.{arith}
use lib.Dec.{eqb}
use borrow.Author.Tests.{eqb-true, leb-false}
use Rattle.model.specs.declared.Layout.{Layout}
use Rattle.std.specs.Prelude.{Option, None, Some}
use Rattle.model.specs.Words.{Image}
use Rattle.model.specs.Layout.{block_size, metadata_size, most, ss_initial, SizesOk, segment_size, main_at, backup_at}
use Rattle.model.specs.Status.{first_error, served}
use Rattle.model.specs.Container.{active_line, active_state, seg_state, backup_to_main, paired_backup, by_state, checkpoint_located, located_bytes, checkpoint_segment, checkpoint_bytes, container_errors}
use Rattle.model.specs.Reads.{read_errors, read_status, Part, part_of, no_part, block_part, located_part, working_part, checkpoint_part, working_block, checkpoint_block}
use Rattle.model.specs.Same.{same_initial, same_bytes, same_checkpoint, same_outcome}
use Rattle.model.specs.Unread.{AgreeNamed}
use Rattle.model.proofs.Laws.Range.{cat_ext, all_ext}
use Rattle.model.proofs.Laws.Status.{served_condition}
use Rattle.model.proofs.Laws.Container.{container_then}
use Rattle.model.proofs.Laws.Unread.Metadata.{cond_cong, state_same, segment_part, errors_same, backup_same}

module _ {I J : Image} (same : AgreeNamed I J) where
  -- ---- where a checkpoint stands

  pub located_same : (l : Layout) (i : ℕ) → SizesOk l → i < l.mains → checkpoint_located l I (active_line I) i ≡ checkpoint_located l J (active_line J) i
  unfolding checkpoint_located
  located_same l i sizes h = ap₂ (λ (n j : ℕ). by_state n None (Some (main_at l i)) (Some (backup_at l j))) (state_same same i (omega arith)) (backup_same same l sizes i)

  -- in a segment, if anywhere
  abbrev pub InSegments : Option ℕ → Type 0
  InSegments None = Unit {0}
  InSegments (Some p) = metadata_size ≤ p

  pub located_in : (l : Layout) (i : ℕ) → InSegments (checkpoint_located l I (active_line I) i)
  unfolding checkpoint_located by_state
  located_in l i = go (seg_state I (active_line I) i)
    where
      go : (n : ℕ) → InSegments (by_state n None (Some (main_at l i)) (Some (backup_at l (paired_backup l (backup_to_main I) i))))
      go zero = tt
      go (suc zero) = omega arith
      go (suc (suc n)) = omega arith

  -- ---- the reads

  pub read_status_unread : (l : Layout) (i b : ℕ) → read_status l I i b ≡ read_status l J i b
  unfolding read_status
  read_status_unread l i b = errors_same same l _ _ (λ sizes v. refl)

  pub working_part_unread : (l : Layout) (i b : ℕ) → working_part l I i b ≡ working_part l J i b
  unfolding working_part
  working_part_unread l i b = ap (λ (e : ℕ). cond (served e) (block_part (main_at l i) b) no_part) (read_status_unread l i b)

  pub checkpoint_part_unread : (l : Layout) (i b : ℕ) → checkpoint_part l I i b ≡ checkpoint_part l J i b
  unfolding checkpoint_part read_status
  checkpoint_part_unread l i b = cond_cong _ _ (ap served (read_status_unread l i b))
      (λ z. let e = eqb-true _ 0 z in
      ap (λ (x : Option ℕ). located_part x b) (located_same l i (container_then l I _ e).0.sizes (leb-false _ _ (served_condition (read_errors l I i b) (omega arith) e 6))))
      (λ z. refl)

  block_same : (at b : ℕ) → metadata_size ≤ at → part_of I (block_part at b) ≡ part_of J (block_part at b)
  block_same at b h = segment_part same block_size (at + block_size * b) (omega arith)

  located_block_same : (x : Option ℕ) (b : ℕ) → InSegments x → part_of I (located_part x b) ≡ part_of J (located_part x b)
  located_block_same None b h = refl
  located_block_same (Some p) b h = block_same p b h

  choice_same : (c : Bool) (p : Part) → part_of I p ≡ part_of J p → part_of I (cond c p no_part) ≡ part_of J (cond c p no_part)
  choice_same true p e = e
  choice_same false p e = refl

  -- and the bytes that they find
  pub working_block_unread : (l : Layout) (i b : ℕ) → working_block l I i b ≡ working_block l J i b
  unfolding working_part
  working_block_unread l i b =
      choice_same (served (read_status l I i b)) (block_part (main_at l i) b) (block_same (main_at l i) b (omega arith))
      ∙ ap (part_of J) (working_part_unread l i b)

  pub checkpoint_block_unread : (l : Layout) (i b : ℕ) → checkpoint_block l I i b ≡ checkpoint_block l J i b
  unfolding checkpoint_part
  checkpoint_block_unread l i b =
      let x : Option ℕ = checkpoint_located l I (active_line I) i in
      choice_same (served (read_status l I i b)) (located_part x b) (located_block_same x b (located_in l i))
      ∙ ap (part_of J) (checkpoint_part_unread l i b)

  -- ---- the checkpoint

  located_bytes_same : (l : Layout) (x : Option ℕ) → InSegments x → located_bytes l I x ≡ located_bytes l J x
  located_bytes_same l None h = refl
  located_bytes_same l (Some p) h = segment_part same (segment_size l) p h

  checkpoint_same : (l : Layout) → SizesOk l → checkpoint_bytes l I (active_line I) ≡ checkpoint_bytes l J (active_line J)
  unfolding checkpoint_bytes checkpoint_segment
  checkpoint_same l sizes = cat_ext l.mains _ _ (λ i h.
      located_bytes_same l (checkpoint_located l I (active_line I) i) (located_in l i)
      ∙ ap (λ (x : Option ℕ). located_bytes l J x) (located_same l i sizes h))

initial_unread : {I J K L : Image} → AgreeNamed I J → AgreeNamed K L → (n : ℕ) → n ≤ most
    → same_initial n (active_state I) (active_state K) ≡ same_initial n (active_state J) (active_state L)
unfolding same_initial
initial_unread a b n room = all_ext n _ _ (λ i h.
    ap₂ (λ (m n : ℕ). beq (eqb m ss_initial) (eqb n ss_initial)) (state_same a i (omega arith)) (state_same b i (omega arith)))

pub same_unread : {I J K L : Image} → AgreeNamed I J → AgreeNamed K L → (l : Layout) → same_outcome l I K ≡ same_outcome l J L
unfolding same_outcome same_checkpoint
same_unread {I} {J} {K} {L} a b l = λ i. record { status = status i; same = answer i }
  where
    status : first_error (container_errors l I ++ container_errors l K) ≡ first_error (container_errors l J ++ container_errors l L)
    status = errors_same a l _ _ (λ sizes v. errors_same b l [] [] (λ z x. refl))

    answer : cond (served (first_error (container_errors l I ++ container_errors l K))) (same_checkpoint l I K) false
        ≡ cond (served (first_error (container_errors l J ++ container_errors l L))) (same_checkpoint l J L) false
    answer = cond_cong _ _ (ap served status)
        (λ z. let sizes : SizesOk l = (container_then l I _ (eqb-true _ 0 z)).0.sizes in
        ap₂ (λ (x y : Bool). x && y) (initial_unread a b _ (omega (arith, sizes.0))) (ap₂ (same_bytes (segment_size l * l.mains)) (checkpoint_same a l sizes) (checkpoint_same b l sizes)))
        (λ z. refl)
