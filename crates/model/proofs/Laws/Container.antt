-- The tests of a container's metadata and the plain statements that they stand for, both ways.
use Prim.Native.Nat.{ℕ, ◌<◌}
use mathlib.Core.Path.{◌≡◌, refl, sym, ap, ◌∙◌}
use mathlib.Core.Logic.{◌↔◌, ◌≢◌, ◌⊎◌, inl, inr, ⊎_elim}
use mathlib.Core.Bool.{Bool, true, false, not, ◌||◌, and-eq-true_iff}
use mathlib.Core.List.{◌++◌}
use native.Mathlib.Omega.{arith}
use lib.Dec.{ltb, eqb}
use lib.ListN.{length}
use borrow.Author.Tests.{lt-ltb, le-ltb, ltb-true, ltb-false, leb-true, le-leb, eqb-true, eqb-false, eq-eqb, ne_eqb, not-true, not-false}
use Rattle.model.specs.declared.Layout.{Layout}
use Rattle.model.specs.Range.{first_b}
use Rattle.model.specs.Words.{Image}
use Rattle.model.specs.Layout.{most, unpaired, ss_initial, ss_backup, InRange, SizesOk, in_range, sizes_ok, image_size}
use Rattle.model.specs.Status.{Errors, first_error}
use Rattle.model.specs.Container.{active_line, seg_state, backup_to_main, Valid, is_paired, valid_metadata, paired_backup, Free, is_free, any_free, HeaderOk, header_ok, container_errors}
use Rattle.model.specs.Refusals.{NoneHolds}
use Rattle.model.proofs.Laws.Range.{or_left, or_right, or_else, all_at, all_from, any_at, any_none, first_some, or_none}
use Rattle.model.proofs.Laws.Status.{after_none, served_parts, served_condition}

-- ---- sizes and header

pub in_range_lem : (n : ℕ) → (in_range n ≡ true) ↔ InRange n
unfolding in_range
in_range_lem n = (
  λ h. let k = simp and-eq-true_iff at h in (leb-true 1 n k.0, leb-true n most k.1),
  λ r. simp and-eq-true_iff (le-leb 1 n r.0, le-leb n most r.1),
)

pub sizes_ok_lem : (l : Layout) → (sizes_ok l ≡ true) ↔ SizesOk l
unfolding sizes_ok
sizes_ok_lem l = (
  λ h. let k = simp and-eq-true_iff at h in ((in_range_lem _).0 k.0.0, (in_range_lem _).0 k.0.1, (in_range_lem _).0 k.1),
  λ r. simp and-eq-true_iff (((in_range_lem _).1 r.0, (in_range_lem _).1 r.1), (in_range_lem _).1 r.2),
)

pub header_ok_lem : (l : Layout) (I : Image) → (header_ok l I ≡ true) ↔ HeaderOk l I
unfolding header_ok
header_ok_lem l I = (
  λ h. let k = simp and-eq-true_iff at h in (eqb-true _ _ k.0.0, eqb-true _ _ k.0.1, eqb-true _ _ k.1),
  λ r. simp and-eq-true_iff ((eq-eqb _ _ r.0, eq-eqb _ _ r.1), eq-eqb _ _ r.2),
)

-- ---- pairs

module _ (l : Layout) (pr : ℕ → ℕ) (i : ℕ) where
  pub paired_at : is_paired l pr i ≡ true → (paired_backup l pr i < l.backups) × (pr (paired_backup l pr i) ≡ i)
  unfolding is_paired paired_backup
  paired_at h = let s = first_some l.backups (λ (j : ℕ). eqb (pr j) i) h in (s.0, eqb-true _ _ s.1)

  pub unpaired_none : is_paired l pr i ≡ false → (j : ℕ) → j < l.backups → pr j ≢ i
  unfolding is_paired
  unpaired_none h j b = eqb-false _ _ (any_none l.backups (λ (j : ℕ). eqb (pr j) i) h j b)

  pub paired_by : (j : ℕ) → j < l.backups → pr j ≡ i → is_paired l pr i ≡ true
  unfolding is_paired
  paired_by j b e = any_at l.backups (λ (j : ℕ). eqb (pr j) i) j b (eq-eqb _ _ e)

  -- a main segment in state 2 has a backup
  pub kept_at : {st : ℕ → ℕ} → Valid l st pr → i < l.mains → st i ≡ ss_backup → (paired_backup l pr i < l.backups) × (pr (paired_backup l pr i) ≡ i)
  kept_at v h two = let k = v.kept i h two in paired_at (paired_by k.0 k.1 k.2)

  -- and has one backup only
  pub paired_once : {st : ℕ → ℕ} → Valid l st pr → (j : ℕ) → j < l.backups → pr j ≡ i → i < l.mains → paired_backup l pr i ≡ j
  paired_once v j b e m =
      let p = paired_at (paired_by j b e) in
      v.once (paired_backup l pr i) j p.0 b (omega (arith, p.1)) (p.1 ∙ sym e)

-- ---- valid metadata

-- of two tests the second need hold only where the first fails
or_test : (a b : Bool) → (a ≡ false → b ≡ true) → (a || b) ≡ true
or_test true b f = refl
or_test false b f = f refl

pub valid_means : (l : Layout) (st pr : ℕ → ℕ) → valid_metadata l st pr ≡ true → Valid l st pr
unfolding valid_metadata
valid_means l st pr h =
    let k = simp and-eq-true_iff at h in
    record {
      states = λ i b. leb-true _ _ (all_at l.mains _ k.0.0.0.0.0.0 i b);
      states_rest = λ i a b. eqb-true _ _ (or_else (ltb i l.mains) (eqb (st i) ss_initial) (all_at most _ k.0.0.0.0.0.1 i b) (le-ltb _ _ a));
      pairs = λ j b. pair j (eqb (pr j) unpaired) refl (all_at l.backups _ k.0.0.0.0.1 j b);
      pairs_rest = λ j a b. eqb-true _ _ (or_else (ltb j l.backups) (eqb (pr j) unpaired) (all_at most _ k.0.0.0.1 j b) (le-ltb _ _ a));
      once = λ i j a b m e.
          eqb-true _ _
          (or_else (not (ltb (pr i) l.mains) || not (eqb (pr i) (pr j))) (eqb i j)
          (all_at l.backups _ (all_at l.backups _ k.0.0.1 i a) j b)
          (rw (lt-ltb _ _ m, eq-eqb _ _ e)));
      kept = λ i b e.
          let p = paired_at l pr i (or_else (not (eqb (st i) ss_backup)) (is_paired l pr i) (all_at l.mains _ k.0.1 i b) (rw (eq-eqb _ _ e))) in
          (paired_backup l pr i, p.0, p.1);
      bare = λ i b e.
          unpaired_none l pr i
          (not-true _ (or_else (not (eqb (st i) ss_initial)) (not (is_paired l pr i)) (all_at l.mains _ k.1 i b) (rw (eq-eqb _ _ e))));
    }
  where
    pair : (j : ℕ) (a : Bool) → eqb (pr j) unpaired ≡ a → (a || ltb (pr j) l.mains) ≡ true → (pr j ≡ unpaired) ⊎ (pr j < l.mains)
    pair j true e t = inl (eqb-true _ _ e)
    pair j false e t = inr (ltb-true _ _ t)

pub valid_test : (l : Layout) (st pr : ℕ → ℕ) → Valid l st pr → valid_metadata l st pr ≡ true
unfolding valid_metadata
valid_test l st pr v =
    simp and-eq-true_iff (
      (
        (
          (
            (
              (
                all_from l.mains _ (λ i b. le-leb _ _ (v.states i b)),
                all_from most _ (λ i b. or_test (ltb i l.mains) _ (λ n. eq-eqb _ _ (v.states_rest i (ltb-false _ _ n) b))),
              ),
              all_from l.backups _ (λ j b. ⊎_elim (λ e. or_left _ (eq-eqb _ _ e)) (λ m. or_right (eqb (pr j) unpaired) (lt-ltb _ _ m)) (v.pairs j b)),
            ),
            all_from most _ (λ j b. or_test (ltb j l.backups) _ (λ n. eq-eqb _ _ (v.pairs_rest j (ltb-false _ _ n) b))),
          ),
          all_from l.backups _ (λ i a. all_from l.backups _ (λ j b. or_test (not (ltb (pr i) l.mains) || not (eqb (pr i) (pr j))) _ (λ n.
              let o = or_none (not (ltb (pr i) l.mains)) (not (eqb (pr i) (pr j))) n in
              eq-eqb _ _ (v.once i j a b (ltb-true _ _ (not-false _ o.0)) (eqb-true _ _ (not-false _ o.1)))))),
        ),
        all_from l.mains _ (λ i b. or_test (not (eqb (st i) ss_backup)) _ (λ n.
            let p = v.kept i b (eqb-true _ _ (not-false _ n)) in paired_by l pr i p.0 p.1 p.2)),
      ),
      all_from l.mains _ (λ i b. or_test (not (eqb (st i) ss_initial)) _ (λ n. bare i b (is_paired l pr i) refl (eqb-true _ _ (not-false _ n)))),
    )
  where
    bare : (i : ℕ) → i < l.mains → (a : Bool) → is_paired l pr i ≡ a → st i ≡ ss_initial → not a ≡ true
    bare i b true e s = let p = paired_at l pr i e in absurd (v.bare i b s (paired_backup l pr i) p.0 p.1)
    bare i b false e s = refl

-- ---- free backups

pub free_test : (st pr : ℕ → ℕ) (j : ℕ) → (is_free st pr j ≡ true) ↔ ((pr j ≡ unpaired) ⊎ (st (pr j) ≢ ss_backup))
unfolding is_free
free_test st pr j = (
  go (eqb (pr j) unpaired) refl,
  ⊎_elim (λ e. or_left _ (eq-eqb _ _ e)) (λ n. or_right (eqb (pr j) unpaired) (ap not (ne_eqb _ _ n))),
)
  where
    go : (a : Bool) → eqb (pr j) unpaired ≡ a → (a || not (eqb (st (pr j)) ss_backup)) ≡ true → (pr j ≡ unpaired) ⊎ (st (pr j) ≢ ss_backup)
    go true e t = inl (eqb-true _ _ e)
    go false e t = inr (eqb-false _ _ (not-true _ t))

pub any_free_lem : (l : Layout) (st pr : ℕ → ℕ) → (any_free l st pr ≡ true) ↔ ((j : ℕ) × Free l st pr j)
unfolding any_free
any_free_lem l st pr = (
  λ h. let s = first_some l.backups (is_free st pr) h in (first_b l.backups (is_free st pr), (s.0, (free_test st pr _).0 s.1)),
  λ f. any_at l.backups (is_free st pr) f.0 f.1.0 ((free_test st pr f.0).1 f.1.1),
)

-- ---- refusals 1 to 4

pub record ContainerOk (l : Layout) (I : Image) : Type 0 where
  pub sizes : SizesOk l
  pub long : length I ≡ image_size l
  pub header : HeaderOk l I
  pub valid : Valid l (seg_state I (active_line I)) (backup_to_main I)

module _ (l : Layout) (I : Image) where
  pub container_ok : first_error (container_errors l I) ≡ 0 → ContainerOk l I
  container_ok h =
      let r = served_condition (container_errors l I) (omega arith) h in
      record {
        sizes = (sizes_ok_lem l).0 (not-false _ (r 1));
        long = eqb-true _ _ (not-false _ (r 2));
        header = (header_ok_lem l I).0 (not-false _ (r 3));
        valid = valid_means l _ _ (not-false _ (r 4));
      }

  container_none : ContainerOk l I → NoneHolds (container_errors l I)
  container_none c =
      (ap not ((sizes_ok_lem l).1 c.sizes), (ap not (eq-eqb _ _ c.long), (ap not ((header_ok_lem l I).1 c.header), (ap not (valid_test l _ _ c.valid), tt))))

  -- the same where a call has more refusals
  pub container_then : (es : Errors) → first_error (container_errors l I ++ es) ≡ 0 → ContainerOk l I × (first_error es ≡ 0)
  container_then es h = let s = served_parts (container_errors l I) es (omega arith) h in (container_ok s.0, s.1)

  pub container_passes : (es : Errors) → ContainerOk l I → first_error (container_errors l I ++ es) ≡ first_error es
  container_passes es c = after_none (container_errors l I) es (container_none c)
