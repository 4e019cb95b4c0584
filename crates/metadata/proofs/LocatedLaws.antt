-- Laws of the place of a checkpoint: it goes by the state of its main segment, and lies inside the image.
use Prim.Native.Nat.{ℕ, zero, suc, ◌+◌, ◌≤◌, ◌<◌}
use mathlib.Core.Path.{◌≡◌, refl, subst}
use native.Mathlib.Omega.{arith}
use lib.ListN.{length}
use Rattle.model.specs.declared.Layout.{Layout}
use Rattle.std.specs.Prelude.{Option, None, Some}
use Rattle.model.specs.Layout.{ss_initial, ss_main, ss_backup, image_size, segment_size, main_at, backup_at}
use Rattle.model.specs.Words.{Image}
use Rattle.model.specs.Container.{seg_state, backup_to_main, Valid, paired_backup, by_state, checkpoint_located}
use Rattle.model.proofs.Laws.Layout.{segment_in_image}
use Rattle.model.proofs.Laws.Container.{kept_at}

-- a segment that starts there ends inside the image
abbrev pub Inside : Layout → Image → Option ℕ → Type 0
Inside l I None = Unit {0}
Inside l I (Some p) = p + segment_size l ≤ length I

module _ (l : Layout) (I : Image) (line i : ℕ) where
  -- by the state of the main segment
  pub located_nowhere : seg_state I line i ≡ ss_initial → None ≡ checkpoint_located l I line i
  unfolding checkpoint_located by_state
  located_nowhere h = rw h

  pub located_main : seg_state I line i ≡ ss_main → Some (main_at l i) ≡ checkpoint_located l I line i
  unfolding checkpoint_located by_state
  located_main h = rw h

  pub located_backup : seg_state I line i ≡ ss_backup → Some (backup_at l (paired_backup l (backup_to_main I) i)) ≡ checkpoint_located l I line i
  unfolding checkpoint_located by_state
  located_backup h = rw h

  module _ (v : Valid l (seg_state I line) (backup_to_main I)) (b : i < l.mains) where
    -- a main segment in state 2 has a backup segment
    pub backup_there : seg_state I line i ≡ ss_backup → paired_backup l (backup_to_main I) i < l.backups
    backup_there h = (kept_at l (backup_to_main I) i v b h).0

    -- a checkpoint that stands somewhere stands inside the image
    pub located_inside : length I ≡ image_size l → Inside l I (checkpoint_located l I line i)
    located_inside e = go (seg_state I line i) refl (v.states i b)
      where
        go : (s : ℕ) → seg_state I line i ≡ s → s ≤ ss_backup → Inside l I (checkpoint_located l I line i)
        go zero q k = subst (Inside l I) (located_nowhere q) tt
        go (suc zero) q k = subst (Inside l I) (located_main q) (omega (arith, segment_in_image l i (omega arith)))
        go (suc (suc zero)) q k =
            subst (Inside l I) (located_backup q)
            (omega (arith, segment_in_image l (l.mains + paired_backup l (backup_to_main I) i) (omega (arith, backup_there q))))
        go (suc (suc (suc s))) q k = let z : ⊥ = omega arith in absurd z
