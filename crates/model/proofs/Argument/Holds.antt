-- Which contents a container's checkpoint has, said of its metadata and bytes as functions (`Holds`), with two laws: it
-- depends on what counts only; what the states are after a checkpoint.
use Prim.Native.Nat.{ℕ, ◌+◌, ◌≤◌, ◌<◌}
use mathlib.Core.Path.{◌≡◌, refl, sym, ap₂, ◌∙◌}
use mathlib.Core.Bool.{Bool, true, false}
use native.Mathlib.Omega.{arith}
use Rattle.model.specs.declared.Layout.{Layout}
use Rattle.model.specs.Layout.{SizesOk, segment_size, main_at, backup_at}
use Rattle.model.specs.Container.{Valid}
use Rattle.model.specs.Checkpoint.{next_state}
use Rattle.model.proofs.Laws.Checkpoint.{next_most, next_initial, next_clean}

-- the bytes of the main segments: segment i, byte x of it
abbrev pub Contents : Type 0
Contents = ℕ → ℕ → ℕ

-- states st and pairs pr are valid, and by them the bytes hold the checkpoint P
pub record Holds (l : Layout) (st pr byte : ℕ → ℕ) (P : Contents) : Type 0 where
  pub valid : Valid l st pr
  pub initial : (i x : ℕ) → i < l.mains → x < segment_size l → st i ≡ 0 → P i x ≡ 0
  pub own : (i x : ℕ) → i < l.mains → x < segment_size l → st i ≡ 1 → byte (main_at l i + x) ≡ P i x
  pub backup : (i j x : ℕ) → i < l.mains → j < l.backups → x < segment_size l → st i ≡ 2 → pr j ≡ i → byte (backup_at l j + x) ≡ P i x

module _ (l : Layout) (most : SizesOk l) (st pr byte st' pr' byte' : ℕ → ℕ) (P : Contents) (h : Holds l st pr byte P) where
  valid : Valid l st pr
  valid = h.valid

  main64 : (i : ℕ) → i < l.mains → i < 64
  main64 i x = omega (arith, most.0)

  backup64 : (j : ℕ) → j < l.backups → j < 64
  backup64 j x = omega (arith, most.1)

  -- LAW 1: only what counts
  pub holds_cong : ((i : ℕ) → i < 64 → st' i ≡ st i) → ((j : ℕ) → j < 64 → pr' j ≡ pr j)
      → ((i x : ℕ) → i < l.mains → x < segment_size l → st i ≡ 1 → byte' (main_at l i + x) ≡ byte (main_at l i + x))
      → ((i j x : ℕ) → i < l.mains → j < l.backups → x < segment_size l → st i ≡ 2 → pr j ≡ i → byte' (backup_at l j + x) ≡ byte (backup_at l j + x))
      → Holds l st' pr' byte' P
  holds_cong sts prs owns backups = record {
    valid = record {
      states = λ i x. rw (s i x) (valid.states i x);
      states_rest = λ i x y. sts i y ∙ valid.states_rest i x y;
      pairs = λ j x. rw (p j x) (valid.pairs j x);
      pairs_rest = λ j x y. prs j y ∙ valid.pairs_rest j x y;
      once = λ j k x y z e. valid.once j k x y (omega (arith, p j x)) (sym (p j x) ∙ e ∙ p k y);
      kept = λ i x e. let w = valid.kept i x (sym (s i x) ∙ e) in (w.0, w.1, p w.0 w.1 ∙ w.2);
      bare = λ i x e j y c. valid.bare i x (sym (s i x) ∙ e) j y (sym (p j y) ∙ c);
    };
    initial = λ i x a b e. h.initial i x a b (sym (s i a) ∙ e);
    own = λ i x a b e. let q = sym (s i a) ∙ e in owns i x a b q ∙ h.own i x a b q;
    backup = λ i j x a c b e d. let q = sym (s i a) ∙ e in let r = sym (p j c) ∙ d in backups i j x a c b q r ∙ h.backup i j x a c b q r;
  }
    where
      s : (i : ℕ) → i < l.mains → st' i ≡ st i
      s i x = sts i (main64 i x)

      p : (j : ℕ) → j < l.backups → pr' j ≡ pr j
      p j x = prs j (backup64 j x)

  -- LAW 2: a checkpoint turns the state of every segment to 1 that had a checkpoint or is dirty
  pub holds_next : (dirty : ℕ → Bool) (W : Contents) → ((i : ℕ) → dirty i ≡ true → i < l.mains)
      → ((i : ℕ) → i < 64 → st' i ≡ next_state (st i) (dirty i)) → ((j : ℕ) → j < 64 → pr' j ≡ pr j)
      → ((i x : ℕ) → i < l.mains → x < segment_size l → byte' (main_at l i + x) ≡ W i x)
      → ((i x : ℕ) → i < l.mains → x < segment_size l → dirty i ≡ false → W i x ≡ P i x)
      → Holds l st' pr' byte' W
  holds_next dirty W low sts prs mains clean = record {
    valid = record {
      states = λ i x. omega (arith, sts i (main64 i x), next_most (st i) (dirty i));
      states_rest = λ i x y. sts i y ∙ ap₂ next_state (valid.states_rest i x y) (not_dirty i x) ∙ next_clean;
      pairs = λ j x. rw (p j x) (valid.pairs j x);
      pairs_rest = λ j x y. prs j y ∙ valid.pairs_rest j x y;
      once = λ j k x y z e. valid.once j k x y (omega (arith, p j x)) (sym (p j x) ∙ e ∙ p k y);
      kept = λ i x e. absurd (omega (arith, sts i (main64 i x), next_most (st i) (dirty i)));
      bare = λ i x e j y c. valid.bare i x (initial i x e).0 j y (sym (p j y) ∙ c);
    };
    initial = λ i x a b e. let y = initial i a e in clean i x a b y.1 ∙ h.initial i x a b y.0;
    own = λ i x a b e. mains i x a b;
    backup = λ i j x a c b e d. absurd (omega (arith, sts i (main64 i a), next_most (st i) (dirty i)));
  }
    where
      p : (j : ℕ) → j < l.backups → pr' j ≡ pr j
      p j x = prs j (backup64 j x)

      not_dirty : (i : ℕ) → l.mains ≤ i → dirty i ≡ false
      not_dirty i x = go (dirty i) refl
        where
          go : (b : Bool) → dirty i ≡ b → dirty i ≡ false
          go true e = absurd (omega (arith, low i e))
          go false e = e

      -- a segment that is without a checkpoint then was so before, and is not dirty
      initial : (i : ℕ) → i < l.mains → st' i ≡ 0 → (st i ≡ 0) × (dirty i ≡ false)
      initial i x e = next_initial (st i) (dirty i) (sym (sts i (main64 i x)) ∙ e)
