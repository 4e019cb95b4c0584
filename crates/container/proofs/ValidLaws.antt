-- The passes over pairs and states test what model's `valid_metadata` says, and find the paired main segments.
use Rattle.std.proofs.Common.{◌≡◌, ℕ, suc, ◌+◌, ◌*◌, ◌/◌, ◌-◌, subst, cond, ◌^◌, ◌<◌, ◌≤◌, Bool, true, false, ◌&&◌, ◌||◌, eqb, ltb, ◌≢◌, ◌⊎◌, sym, refl, ap, ap₂, ◌∙◌, inl, inr, ⊎_elim, arith, ltb-true, le-ltb, lt-ltb, eq-eqb, eqb-true}
use Rattle.std.specs.Prelude.{Result, Ok, Err}
use mathlib.Core.Bool.{and-eq-true_iff}
use native.Mathlib.Decide.{dec_lt}
use lib.Count.{ones}
use borrow.Author.Tests.{eqb-false}
use Rattle.model.specs.declared.Layout.{Layout}
use Rattle.model.specs.Range.{all_b, any_b, first_b}
use Rattle.model.specs.Layout.{word_size, unpaired, ss_initial, ss_backup}
use Rattle.model.specs.Session.{bit, is_dirty}
use Rattle.model.specs.Container.{Valid, is_paired, valid_metadata, paired_backup}
use Rattle.model.proofs.Laws.Range.{both, or_left, or_right, or_else, all_at, all_from, any_at, first_some, same_test}
use Rattle.model.proofs.Laws.Session.{bit_lt, bits_below}
use Rattle.model.proofs.Laws.Container.{paired_at, unpaired_none, paired_by, valid_means, valid_test}
use Rattle.container.specs.declared.Paired.{Paired}
use Rattle.container.specs.Scan.{lay_pairs, state_fits, ExaminedBy}
use Rattle.container.proofs.LineLaws.{fits_means, fits_from}
use Rattle.container.proofs.PairLaws.{Fine, named, set_small, counted_fine, fine_counted}

-- the numbers from n on have this value
abbrev pub rest_is : ℕ → ℕ → (ℕ → ℕ) → Bool
rest_is n v f = all_b 64 (λ (i : ℕ). ltb i n || eqb (f i) v)

rest_at : (n v : ℕ) (f : ℕ → ℕ) → rest_is n v f ≡ true → (i : ℕ) → n ≤ i → i < 64 → f i ≡ v
rest_at n v f h i a b = eqb-true _ _ (or_else (ltb i n) (eqb (f i) v) (all_at 64 _ h i b) (le-ltb _ _ a))

rest_from : (n v : ℕ) (f : ℕ → ℕ) → ((i : ℕ) → n ≤ i → i < 64 → f i ≡ v) → rest_is n v f ≡ true
rest_from n v f h = all_from 64 _ (λ i b. go i b (dec_lt i n))
  where
    go : (i : ℕ) → i < 64 → Dec (i < n) → (ltb i n || eqb (f i) v) ≡ true
    go i b (yes a) = or_left _ (lt-ltb _ _ a)
    go i b (no a) = or_right (ltb i n) (eq-eqb _ _ (h i (omega arith) b))

-- p pairs and q states are looked at, in whole words: no fewer than there are, and no more than a line has
module _ (l : Layout) (st pr : ℕ → ℕ) (p q : ℕ) (backups : l.backups ≤ p) (mains : l.mains ≤ q) (pairs_most : p ≤ 64) (states_most : q ≤ 64) where
  abbrev set : ℕ
  set = (lay_pairs pr p).set

  -- the tests of the passes
  abbrev pub counted : Bool
  counted = eqb (ones set) (lay_pairs pr p).count

  abbrev pub inside : Bool
  inside = ltb set (2 ^ l.mains)

  abbrev pub fitting : Bool
  fitting = all_b q (λ (i : ℕ). state_fits (bit set i) (st i))

  abbrev pub tested : Bool
  tested = ((counted && inside) && fitting) && (rest_is l.backups unpaired pr && rest_is l.mains ss_initial st)

  -- a bit of the set, where the pairs from the last backup segment on are unpaired
  set_paired : rest_is l.backups unpaired pr ≡ true → (i : ℕ) → i < 64 → is_dirty set i ≡ is_paired l pr i
  unfolding is_paired
  set_paired r i b = named pr p i b ∙ same_test _ _ less more
    where
      less : any_b p (λ j. eqb (pr j) i) ≡ true → any_b l.backups (λ j. eqb (pr j) i) ≡ true
      less h =
          let s = first_some p (λ j. eqb (pr j) i) h in
          let j = first_b p (λ j. eqb (pr j) i) in
          go j s.0 (eqb-true _ _ s.1) (dec_lt j l.backups)
        where
          go : (j : ℕ) → j < p → pr j ≡ i → Dec (j < l.backups) → any_b l.backups (λ j. eqb (pr j) i) ≡ true
          go j c e (yes d) = any_at l.backups (λ j. eqb (pr j) i) j d (eq-eqb _ _ e)
          go j c e (no d) = let u = rest_at l.backups unpaired pr r j (omega arith) (omega arith) in absurd (omega arith)

      more : any_b l.backups (λ j. eqb (pr j) i) ≡ true → any_b p (λ j. eqb (pr j) i) ≡ true
      more h =
          let s = first_some l.backups (λ j. eqb (pr j) i) h in
          any_at p (λ j. eqb (pr j) i) (first_b l.backups (λ j. eqb (pr j) i)) (omega (arith, s.0)) s.1

  -- a bit of the set is 1 exactly if its main segment is paired
  bit-one : (i : ℕ) → is_dirty set i ≡ true → bit set i ≡ 1
  bit-one i e = eqb-true _ _ e

  bit_none : (i : ℕ) → is_dirty set i ≡ false → bit set i ≡ 0
  bit_none i e = let n = eqb-false (bit set i) 1 e in omega (arith, bit_lt set i)

  tested_means : tested ≡ true → Valid l st pr
  tested_means h =
      let k = simp and-eq-true_iff at h in
      let fine = counted_fine pr p (eqb-true _ _ k.0.0.0) in
      let in' = ltb-true _ _ k.0.0.1 in
      let fits = all_at q (λ (i : ℕ). state_fits (bit set i) (st i)) k.0.1 in
      record {
        states = λ i b. states i (fits_means _ _ (fits i (omega arith)));
        states_rest = rest_at l.mains ss_initial st k.1.1;
        pairs = λ j b. pair in' j (omega arith) (fine j (omega arith));
        pairs_rest = rest_at l.backups unpaired pr k.1.0;
        once = λ i j a b m e. once fine i j (omega arith) (omega arith) m e (dec_lt i j) (dec_lt j i);
        kept = λ i b e. kept k.1.0 i (omega arith) (fits_means _ _ (fits i (omega arith))) e (is_paired l pr i) refl;
        bare = λ i b e j a c. bare k.1.0 i (omega arith) (fits_means _ _ (fits i (omega arith))) e (paired_by l pr i j a c);
      }
    where
      states : (i : ℕ) → (bit set i ≤ st i) × (st i ≤ suc (bit set i)) → st i ≤ ss_backup
      states i f = omega (arith, f.1, bit_lt set i)

      pair : set < 2 ^ l.mains → (j : ℕ) → j < p → Fine pr j → (pr j ≡ unpaired) ⊎ (pr j < l.mains)
      pair i j b (inl e) = inl e
      pair i j b (inr f) = inr ((bits_below set l.mains).0 i (pr j) (eqb-true _ _ (named pr p (pr j) f.0 ∙ any_at p (λ k. eqb (pr k) (pr j)) j b (eq-eqb (pr j) (pr j) refl))))

      once : ((j : ℕ) → j < p → Fine pr j) → (i j : ℕ) → i < p → j < p → pr i < l.mains → pr i ≡ pr j → Dec (i < j) → Dec (j < i) → i ≡ j
      once f i j a b m e (yes c) d = absurd (⊎_elim (λ u. omega arith) (λ g. g.1 i c e) (f j b))
      once f i j a b m e (no c) (yes d) = absurd (⊎_elim (λ u. omega arith) (λ g. g.1 j d (sym e)) (f i a))
      once f i j a b m e (no c) (no d) = omega arith

      kept : rest_is l.backups unpaired pr ≡ true → (i : ℕ) → i < 64 → (bit set i ≤ st i) × (st i ≤ suc (bit set i)) → st i ≡ ss_backup → (a : Bool) → is_paired l pr i ≡ a
          → (j : ℕ) × (j < l.backups) × (pr j ≡ i)
      kept r i b f e true g = let s = paired_at l pr i g in (paired_backup l pr i, s.0, s.1)
      kept r i b f e false g = let z = bit_none i (set_paired r i b ∙ g) in absurd (omega (arith, f.1))

      bare : rest_is l.backups unpaired pr ≡ true → (i : ℕ) → i < 64 → (bit set i ≤ st i) × (st i ≤ suc (bit set i)) → st i ≡ ss_initial → is_paired l pr i ≡ true → ⊥
      bare r i b f e g = let o = bit-one i (set_paired r i b ∙ g) in omega (arith, f.0)

  means_tested : Valid l st pr → tested ≡ true
  means_tested v =
      both (both (both (eq-eqb _ _ (fine_counted pr p fine)) (lt-ltb _ _ below)) (all_from q _ (λ i b. fits i b (dec_lt i l.mains))))
      (both rest (rest_from l.mains ss_initial st v.states_rest))
    where
      rest : rest_is l.backups unpaired pr ≡ true
      rest = rest_from l.backups unpaired pr v.pairs_rest

      fine : (j : ℕ) → j < p → Fine pr j
      fine j b = go (dec_lt j l.backups)
        where
          go : Dec (j < l.backups) → Fine pr j
          go (yes c) = ⊎_elim (λ e. inl e) (λ m. inr (omega arith, λ k d e. let z = v.once k j (omega arith) c (omega arith) e in omega arith)) (v.pairs j c)
          go (no c) = inl (v.pairs_rest j (omega arith) (omega arith))

      below : set < 2 ^ l.mains
      below = (bits_below set l.mains).1 (λ i e. go i e (dec_lt i 64))
        where
          go : (i : ℕ) → bit set i ≡ 1 → Dec (i < 64) → i < l.mains
          go i e (no c) = absurd (c ((bits_below set 64).0 (set_small pr p) i e))
          go i e (yes c) =
              let s = paired_at l pr i (sym (set_paired rest i c) ∙ eq-eqb _ _ e) in
              ⊎_elim (λ u. absurd (omega (arith, s.1))) (λ m. omega (arith, s.1)) (v.pairs (paired_backup l pr i) s.0)

      fits : (i : ℕ) → i < q → Dec (i < l.mains) → state_fits (bit set i) (st i) ≡ true
      fits i b (no c) =
          let z : bit set i ≢ 1 = (λ e. c ((bits_below set l.mains).0 below i e)) in
          fits_from (bit set i) 0 (st i) (omega arith) (omega (arith, v.states_rest i (omega arith) (omega arith), bit_lt set i))
      fits i b (yes c) = go (is_paired l pr i) refl
        where
          go : (a : Bool) → is_paired l pr i ≡ a → state_fits (bit set i) (st i) ≡ true
          go true e =
              let o = bit-one i (set_paired rest i (omega arith) ∙ e) in
              let s = paired_at l pr i e in
              let n : st i ≢ 0 = (λ z. v.bare i c z (paired_backup l pr i) s.0 s.1) in
              fits_from (bit set i) (st i - 1) (st i) (omega (arith, v.states i c)) (omega arith)
          go false e =
              let o = bit_none i (set_paired rest i (omega arith) ∙ e) in
              let n : st i ≢ 2 = (λ z. let w = v.kept i c z in unpaired_none l pr i e w.0 w.1 w.2) in
              fits_from (bit set i) (st i) (st i) (omega (arith, v.states i c)) (omega arith)

  -- what the code tests is this, by what each of its parts answers
  pub tested_by : {x : Paired} {n : ℕ} {w s a b : Bool} → x ≡ lay_pairs pr p → n ≡ ones x.set → w ≡ ltb x.set (2 ^ l.mains)
      → s ≡ all_b q (λ (i : ℕ). state_fits (bit x.set i) (st i)) → a ≡ rest_is l.backups unpaired pr → b ≡ rest_is l.mains ss_initial st
      → (((eqb n x.count && w) && s) && (a && b)) ≡ tested
  tested_by e n w s a b =
      ap₂ ◌&&◌
      (ap₂ ◌&&◌ (ap₂ ◌&&◌ (ap₂ eqb (n ∙ ap (λ (x : Paired). ones x.set) e) (ap (λ (x : Paired). x.count) e)) (w ∙ ap (λ (x : Paired). ltb x.set (2 ^ l.mains)) e))
      (s ∙ ap (λ (x : Paired). all_b q (λ (i : ℕ). state_fits (bit x.set i) (st i))) e))
      (ap₂ ◌&&◌ a b)

  -- the passes test exactly what makes metadata valid
  pub tested_valid : tested ≡ valid_metadata l st pr
  tested_valid = same_test _ _ (λ h. valid_test l st pr (tested_means h)) (λ h. means_tested (valid_means l st pr h))

  -- and then the set has the paired main segments
  pub tested_paired : tested ≡ true → (i : ℕ) → i < l.mains → is_dirty set i ≡ is_paired l pr i
  tested_paired h i b = let k = simp and-eq-true_iff at h in set_paired k.1.0 i (omega arith)

-- what the passes answer
pub examined : (l : Layout) (st pr : ℕ → ℕ) (b : Bool) (s : ℕ) {r : Result ℕ ℕ} → r ≡ cond b (Ok s) (Err s) → b ≡ valid_metadata l st pr
    → s ≡ (lay_pairs pr (word_size * ((l.backups + 7) / word_size))).set → (b ≡ true → (i : ℕ) → i < l.mains → is_dirty s i ≡ is_paired l pr i) → ExaminedBy l st pr r
examined l st pr true s e v laid p = subst (ExaminedBy l st pr) (sym e) (record { valid = sym v; laid = laid; paired = p refl })
examined l st pr false s e v laid p = subst (ExaminedBy l st pr) (sym e) (record { invalid = sym v; laid = laid })
