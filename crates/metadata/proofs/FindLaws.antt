-- Laws of backup segments: what a search for one answers, a search by words, that the two searches for a new one find it, and how many are free.
use Prim.Native.Nat.{ℕ, ◌+◌, ◌-◌, ◌≤◌, ◌<◌}
use mathlib.Core.Path.{◌≡◌, refl, sym, ap, ◌∙◌}
use mathlib.Core.Logic.{⊎_elim}
use mathlib.Core.Bool.{Bool, true, false}
use native.Mathlib.Omega.{arith}
use native.Mathlib.Decide.{dec_lt}
use lib.Dec.{ltb, eqb}
use borrow.Author.Tests.{lt-ltb, le-ltb}
use Rattle.model.specs.declared.Layout.{Layout}
use Rattle.model.specs.Range.{first_b}
use Rattle.model.specs.Layout.{pairs_at, unpaired, ss_main, SizesOk}
use Rattle.model.specs.Words.{Image, byte_at, word_of, word_at}
use Rattle.model.specs.Container.{active_line, active_state, seg_state, backup_to_main, Valid, is_paired, paired_backup, free_backups, new_backup}
use Rattle.model.specs.FreeBackups.{mains_in_backup}
use Rattle.model.proofs.Laws.FreeBackups.{in_use_counted}
use Rattle.model.proofs.Laws.Range.{any_first, first_some, first_none, first_found, first_before}
use Rattle.model.proofs.Laws.Words.{word_moved}
use Rattle.model.proofs.Laws.Container.{unpaired_none}
use Rattle.model.proofs.Laws.NewBackup.{new_alone, new_unused}
use Rattle.std.specs.Prelude.{Option, None, Some, MatchOption}
use Rattle.metadata.specs.Find.{found_below}

-- a main segment is paired exactly if the search for its backup segment finds one
pub is_paired_lem : (l : Layout) (pr : ℕ → ℕ) (i : ℕ) → is_paired l pr i ≡ ltb (paired_backup l pr i) l.backups
unfolding is_paired paired_backup
is_paired_lem l pr i = any_first l.backups (λ (j : ℕ). eqb (pr j) i)

-- ---- what a search answers

module _ (n k : ℕ) where
  pub found_at : (j : ℕ) → j < n → k ≡ j → Some j ≡ found_below n k
  unfolding found_below
  found_at j h e = rw (e, lt-ltb j n h)

  pub found_none : n ≤ k → None ≡ found_below n k
  unfolding found_below
  found_none h = rw (le-ltb k n h)

  pub found_backup : (j : ℕ) → Some j ≡ found_below n k → (j ≡ k) × (k < n)
  found_backup j h = go (dec_lt k n)
    where
      go : Dec (k < n) → (j ≡ k) × (k < n)
      go (yes b) = let e = found_at k b refl in (cc, b)
      go (no b) = let e = found_none (omega arith) in absurd (cc)

  pub found_missing : None ≡ found_below n k → n ≤ k
  found_missing h = go (dec_lt k n)
    where
      go : Dec (k < n) → n ≤ k
      go (yes b) = let e = found_at k b refl in absurd (cc)
      go (no b) = omega arith

-- the first number below n that passes, as an iterator finds it, is what a search below n finds
pub found_first : (n : ℕ) (P : ℕ → Bool) (r : Option ℕ)
    → MatchOption r ((k : ℕ) → 0 ≤ k → k < n → P k ≡ false) (λ j. (0 ≤ j) × (j < n) × (P j ≡ true) × ((k : ℕ) → 0 ≤ k → k < j → P k ≡ false))
    → r ≡ found_below n (first_b n P)
found_first n P None h = found_none _ _ (omega (arith, first_none n P (λ k l. h k (omega arith) l)))
found_first n P (Some j) h = found_at _ _ j h.1 (first_found n P j h.1 (λ k l. h.3 k (omega arith) l) h.2)

-- ---- a search by words

module _ (P : ℕ → Bool) (j : ℕ) (none : (k : ℕ) → k < j → P k ≡ false) where
  -- the first of the word from j on
  abbrev in_word : ℕ
  in_word = first_b 8 (λ k. P (j + k))

  -- no number before it passes
  pub none_before : (k : ℕ) → k < j + in_word → P k ≡ false
  none_before k h = go (dec_lt k j)
    where
      go : Dec (k < j) → P k ≡ false
      go (yes l) = none k l
      go (no l) = let e : k ≡ j + (k - j) = omega arith in ap P e ∙ first_before 8 (λ i. P (j + i)) (k - j) (omega arith)

  -- it is the one that a search below n finds
  pub found_in_word : (n : ℕ) → in_word < 8 → found_below n (j + in_word) ≡ found_below n (first_b n P)
  found_in_word n h = go (dec_lt (j + in_word) n)
    where
      passes : P (j + in_word) ≡ true
      passes = (first_some 8 (λ k. P (j + k)) (any_first 8 (λ k. P (j + k)) ∙ lt-ltb _ _ h)).1

      go : Dec (j + in_word < n) → found_below n (j + in_word) ≡ found_below n (first_b n P)
      go (yes l) = ap (found_below n) (sym (first_found n P (j + in_word) l none_before passes))
      go (no l) =
          sym (found_none n (j + in_word) (omega arith))
          ∙ found_none n (first_b n P) (omega (arith, first_none n P (λ k b. none_before k (omega arith))))

-- the bytes of a word of pairs are the main segments of eight backup segments
pub pairs_word : (I : Image) (j : ℕ) → word_at I (pairs_at + j) ≡ word_of (λ k. backup_to_main I (j + k)) 0
pairs_word I j = word_moved (byte_at I) (λ k. backup_to_main I (j + k)) (pairs_at + j) 0 (λ k l. ap (byte_at I) (omega arith))

-- ---- the new backup segment

module _ (l : Layout) (st pr : ℕ → ℕ) where
  abbrev pub alone : ℕ
  alone = paired_backup l pr unpaired

  -- where none is unpaired, each has a main segment
  pub none_alone : Valid l st pr → l.backups ≤ alone → (j : ℕ) → j < l.backups → pr j < l.mains
  none_alone v b j h = ⊎_elim (λ e. absurd (unpaired_none l pr unpaired (is_paired_lem l pr unpaired ∙ le-ltb _ _ b) j h e)) (λ m. m) (v.pairs j h)

  -- it is what the first of two searches finds, else what the second does
  pub first_search : alone < l.backups → new_backup l st pr ≡ alone
  unfolding is_paired paired_backup
  first_search h = new_alone l st pr (is_paired_lem l pr unpaired ∙ lt-ltb _ _ h)

  pub second_search : l.backups ≤ alone → new_backup l st pr ≡ first_b l.backups (λ j. eqb (st (pr j)) ss_main)
  unfolding is_paired paired_backup
  second_search h = new_unused l st pr (is_paired_lem l pr unpaired ∙ le-ltb _ _ h)

-- ---- free backup segments

-- those that are free are all but n, as many as main segments are in state 2 by the active line
pub free_others : (l : Layout) (I : Image) (line n : ℕ) → SizesOk l → Valid l (active_state I) (backup_to_main I) → line ≡ active_line I → n ≡ mains_in_backup l (seg_state I line)
    → (n ≤ l.backups) × (l.backups - n ≡ free_backups l (active_state I) (backup_to_main I))
free_others l I line n s v a e =
    let all = (in_use_counted l (active_state I) (backup_to_main I) s v).1 in
    let m : n ≡ mains_in_backup l (active_state I) = e ∙ ap (λ (at : ℕ). mains_in_backup l (seg_state I at)) a in
    (omega arith, omega arith)
