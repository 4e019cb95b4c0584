-- What calls read of the metadata and of the segments is the same on two images that agree on the named bytes; so are
-- refusals 1 to 5.
use Prim.Native.Nat.{ℕ, suc, ◌+◌, ◌-◌, ◌*◌, ◌≤◌, ◌<◌}
use mathlib.Core.Path.{◌≡◌, refl, sym, ap, ap₂, ◌∙◌}
use mathlib.Core.Logic.{⊎_elim}
use mathlib.Core.Bool.{Bool, true, false, not, cond, ◌&&◌, ◌||◌}
use mathlib.Core.List.{[], ◌∷◌, ◌++◌}
use native.Mathlib.Omega.{arith}
use borrow.Author.Tests.{not-false, eqb-false, eq-eqb}
use lib.Dec.{leb, ltb, eqb}
use lib.ListN.{take, drop, length-drop}
use lib.Seq.{ext_get_or, get_or-drop}
use Rattle.model.specs.declared.Layout.{Layout}
use Rattle.model.specs.declared.Session.{Session}
use Rattle.model.specs.Words.{Image, byte_at, word_at}
use Rattle.model.specs.Layout.{word_size, line_size, metadata_size, most, epoch_at, mains_at, backups_at, blocks_at, pairs_at, unpaired, ss_initial, ss_main, ss_backup, SizesOk, image_size, state_line}
use Rattle.model.specs.Range.{any_b, one_if}
use Rattle.model.specs.Status.{Errors, first_error}
use Rattle.model.specs.Container.{committed_epoch, active_line, seg_state, backup_to_main, Valid, is_paired, valid_metadata, paired_backup, is_free, any_free, free_backups, new_backup, header_ok, container_errors}
use Rattle.model.specs.Session.{dirty_segment, valid_session}
use Rattle.model.specs.Ops.{store, stores}
use Rattle.model.specs.Unread.{AgreeNamed}
use Rattle.model.proofs.Laws.Range.{cat_ext, all_ext, any_none, any_ext, first_ext, sum_ext}
use Rattle.model.proofs.Laws.Words.{word_cong}
use Rattle.model.proofs.Laws.Container.{sizes_ok_lem, valid_means}
use Rattle.model.proofs.Laws.Layout.{state_line_is, state_line_low, state_line_high, state_line_next}

-- ---- tests and choices of equal things are equal

pub cond_cong : {A : Type 0} {x y u v : A} (a b : Bool) → a ≡ b → (a ≡ true → x ≡ u) → (a ≡ false → y ≡ v) → cond a x y ≡ cond b u v
cond_cong {u = u} {v = v} true b e p q = p refl ∙ ap (λ (c : Bool). cond c u v) e
cond_cong {u = u} {v = v} false b e p q = q refl ∙ ap (λ (c : Bool). cond c u v) e

pub stores_ext : (n a : ℕ) (v w : ℕ → ℕ) → ((k : ℕ) → k < n → v k ≡ w k) → stores n a v ≡ stores n a w
unfolding stores
stores_ext n a v w h = cat_ext n _ _ (λ k l. ap (λ (x : ℕ). store (a + word_size * k) x ∷ []) (h k l))

-- one refusal more; the later ones matter only where it does not apply
pub error_ext : (n : ℕ) (a b : Bool) (es fs : Errors) → a ≡ b → (a ≡ false → first_error es ≡ first_error fs)
    → first_error ((n, a) ∷ es) ≡ first_error ((n, b) ∷ fs)
unfolding first_error
error_ext n a b es fs e h = cond_cong a b e (λ x. refl) h

-- ---- what is read of the metadata and of the segments

module _ {I J : Image} (same : AgreeNamed I J) where
  pub epoch_same : committed_epoch I ≡ committed_epoch J
  epoch_same = word_cong (byte_at I) (byte_at J) epoch_at
      (λ i a b. same.bytes i (omega arith) (omega arith) (omega arith) (omega (arith, state_line_low (suc (committed_epoch I)))))

  header_same : (p : ℕ) → mains_at ≤ p → p + word_size ≤ 88 → word_at I p ≡ word_at J p
  header_same p h k = word_cong (byte_at I) (byte_at J) p
      (λ i a b. same.bytes i (omega arith) (omega arith) (omega arith) (omega (arith, state_line_low (suc (committed_epoch I)))))

  pub active_byte : (i : ℕ) → active_line I ≤ i → i < active_line I + line_size → byte_at I i ≡ byte_at J i
  active_byte i h k =
      let e : ℕ = committed_epoch I in
      same.bytes i (omega (arith, state_line_low e)) (omega (arith, state_line_low e)) (omega (arith, state_line_high e))
      (⊎_elim (λ q x y. omega (arith, q, state_line_next e)) (λ q x y. omega (arith, q, state_line_next e)) (state_line_is e))

  pub pair_byte : (i : ℕ) → pairs_at ≤ i → i < pairs_at + line_size → byte_at I i ≡ byte_at J i
  pair_byte i h k = same.bytes i (omega arith) (omega arith) (omega arith) (omega (arith, state_line_high (suc (committed_epoch I))))

  pub segment_byte : (i : ℕ) → metadata_size ≤ i → byte_at I i ≡ byte_at J i
  segment_byte i h = same.bytes i (omega arith) (omega arith) (omega arith) (omega (arith, state_line_high (suc (committed_epoch I))))

  pub state_same : (i : ℕ) → i < most → seg_state I (active_line I) i ≡ seg_state J (active_line J) i
  state_same i h = active_byte (active_line I + i) (omega arith) (omega arith) ∙ ap (λ (e : ℕ). byte_at J (state_line e + i)) epoch_same

  pair_same : (j : ℕ) → j < most → backup_to_main I j ≡ backup_to_main J j
  pair_same j h = pair_byte (pairs_at + j) (omega arith) (omega arith)

  pub segment_word : (p : ℕ) → metadata_size ≤ p → word_at I p ≡ word_at J p
  segment_word p h = word_cong (byte_at I) (byte_at J) p (λ i a b. segment_byte i (omega arith))

  pub segment_part : (n p : ℕ) → metadata_size ≤ p → take n (drop p I) ≡ take n (drop p J)
  segment_part n p h = ap (take n) (ext_get_or 0 (drop p I) (drop p J)
      (length-drop p I ∙ ap (λ (m : ℕ). m - p) same.long ∙ sym (length-drop p J))
      (λ i l. get_or-drop p I i 0 ∙ segment_byte (p + i) (omega arith) ∙ sym (get_or-drop p J i 0)))

  module _ (l : Layout) (sizes : SizesOk l) where
    pub paired_same : (i : ℕ) → is_paired l (backup_to_main I) i ≡ is_paired l (backup_to_main J) i
    unfolding is_paired
    paired_same i = any_ext l.backups _ _ (λ j h. ap (λ (n : ℕ). eqb n i) (pair_same j (omega arith)))

    pub backup_same : (i : ℕ) → paired_backup l (backup_to_main I) i ≡ paired_backup l (backup_to_main J) i
    unfolding paired_backup
    backup_same i = first_ext l.backups _ _ (λ j h. ap (λ (n : ℕ). eqb n i) (pair_same j (omega arith)))

    valid_same : valid_metadata l (seg_state I (active_line I)) (backup_to_main I) ≡ valid_metadata l (seg_state J (active_line J)) (backup_to_main J)
    unfolding valid_metadata
    valid_same =
        ap₂ ◌&&◌ (ap₂ ◌&&◌ (ap₂ ◌&&◌ (ap₂ ◌&&◌ (ap₂ ◌&&◌ (ap₂ ◌&&◌
        (all_ext l.mains _ _ (λ i h. ap (λ (n : ℕ). leb n ss_backup) (state_same i (omega arith))))
        (all_ext most _ _ (λ i h. ap (λ (n : ℕ). ltb i l.mains || eqb n ss_initial) (state_same i h))))
        (all_ext l.backups _ _ (λ j h. ap (λ (n : ℕ). eqb n unpaired || ltb n l.mains) (pair_same j (omega arith)))))
        (all_ext most _ _ (λ j h. ap (λ (n : ℕ). ltb j l.backups || eqb n unpaired) (pair_same j h))))
        (all_ext l.backups _ _ (λ j h. all_ext l.backups _ _
        (λ k g. ap₂ (λ (m n : ℕ). not (ltb m l.mains) || not (eqb m n) || eqb j k) (pair_same j (omega arith)) (pair_same k (omega arith))))))
        (all_ext l.mains _ _ (λ i h. ap₂ (λ (n : ℕ) (b : Bool). not (eqb n ss_backup) || b) (state_same i (omega arith)) (paired_same i))))
        (all_ext l.mains _ _ (λ i h. ap₂ (λ (n : ℕ) (b : Bool). not (eqb n ss_initial) || not b) (state_same i (omega arith)) (paired_same i)))

    -- in valid metadata a pair is a main segment, or the state is not read
    free_same : Valid l (seg_state I (active_line I)) (backup_to_main I) → (j : ℕ) → j < l.backups
        → is_free (seg_state I (active_line I)) (backup_to_main I) j ≡ is_free (seg_state J (active_line J)) (backup_to_main J) j
    unfolding is_free
    free_same v j h =
        ⊎_elim
        (λ q. rw (eq-eqb (backup_to_main I j) unpaired q, eq-eqb (backup_to_main J j) unpaired (sym pair ∙ q)))
        (λ q. ap₂ (λ (m n : ℕ). eqb m unpaired || not (eqb n ss_backup)) pair
        (state_same (backup_to_main I j) (omega arith) ∙ ap (seg_state J (active_line J)) pair))
        (v.pairs j h)
      where
        pair : backup_to_main I j ≡ backup_to_main J j
        pair = pair_same j (omega arith)

    pub any_free_same : Valid l (seg_state I (active_line I)) (backup_to_main I)
        → any_free l (seg_state I (active_line I)) (backup_to_main I) ≡ any_free l (seg_state J (active_line J)) (backup_to_main J)
    unfolding any_free
    any_free_same v = any_ext l.backups _ _ (free_same v)

    pub count_free_same : Valid l (seg_state I (active_line I)) (backup_to_main I)
        → free_backups l (seg_state I (active_line I)) (backup_to_main I) ≡ free_backups l (seg_state J (active_line J)) (backup_to_main J)
    unfolding free_backups
    count_free_same v = sum_ext l.backups _ _ (λ j h. ap one_if (free_same v j h))

    -- where all are paired, each pair is a main segment
    pub new_same : Valid l (seg_state I (active_line I)) (backup_to_main I)
        → new_backup l (seg_state I (active_line I)) (backup_to_main I) ≡ new_backup l (seg_state J (active_line J)) (backup_to_main J)
    unfolding new_backup
    new_same v = cond_cong _ _ (any_ext l.backups _ _ alone) (λ a. first_ext l.backups _ _ alone) (λ a. first_ext l.backups _ _ (settled a))
      where
        alone : (j : ℕ) → j < l.backups → eqb (backup_to_main I j) unpaired ≡ eqb (backup_to_main J j) unpaired
        alone j h = ap (λ (n : ℕ). eqb n unpaired) (pair_same j (omega arith))

        settled : any_b l.backups (λ k. eqb (backup_to_main I k) unpaired) ≡ false → (j : ℕ) → j < l.backups
            → eqb (seg_state I (active_line I) (backup_to_main I j)) ss_main ≡ eqb (seg_state J (active_line J) (backup_to_main J j)) ss_main
        settled a j h =
            ⊎_elim
            (λ q. absurd (eqb-false _ _ (any_none l.backups _ a j h) q))
            (λ q. ap (λ (n : ℕ). eqb n ss_main) (state_same (backup_to_main I j) (omega arith) ∙ ap (seg_state J (active_line J)) (pair_same j (omega arith))))
            (v.pairs j h)

  pub session_same : (s : Session) → SizesOk s.layout → valid_session s (seg_state I (active_line I)) ≡ valid_session s (seg_state J (active_line J))
  unfolding valid_session
  session_same s sizes = rw (all_ext s.layout.mains (λ i. not (dirty_segment s i && eqb (seg_state I (active_line I) i) ss_main))
      (λ i. not (dirty_segment s i && eqb (seg_state J (active_line J) i) ss_main))
      (λ i h. ap (λ (n : ℕ). not (dirty_segment s i && eqb n ss_main)) (state_same i (omega arith))))

  header_ok_same : (l : Layout) → header_ok l I ≡ header_ok l J
  unfolding header_ok
  header_ok_same l = rw (header_same mains_at (omega arith) (omega arith), header_same backups_at (omega arith) (omega arith), header_same blocks_at (omega arith) (omega arith))

  -- refusals 1 to 4, and the later ones of a call on a container that passes them
  pub errors_same : (l : Layout) (es fs : Errors)
      → (SizesOk l → Valid l (seg_state I (active_line I)) (backup_to_main I) → first_error es ≡ first_error fs)
      → first_error (container_errors l I ++ es) ≡ first_error (container_errors l J ++ fs)
  errors_same l es fs h =
      error_ext 1 _ _ _ _ refl (λ a. let sizes : SizesOk l = (sizes_ok_lem l).0 (not-false _ a) in
      error_ext 2 _ _ _ _ (ap (λ (n : ℕ). not (eqb n (image_size l))) same.long) (λ b.
      error_ext 3 _ _ _ _ (ap not (header_ok_same l)) (λ c.
      error_ext 4 _ _ _ _ (ap not (valid_same l sizes)) (λ d. h sizes (valid_means l _ _ (not-false _ d))))))
