-- The first part of a copy to the backup segment that the main segment has: the blocks that are dirty by a word (`ready_old`).
use Prim.Native.Nat.{ℕ, ◌+◌, ◌-◌, ◌*◌, ◌/◌, ◌≤◌, ◌<◌}
use mathlib.Core.Path.{◌≡◌, ap, ◌∙◌}
use mathlib.Core.Logic.{◌⊎◌, inl, ⊎_elim}
use mathlib.Core.Bool.{Bool, true, false, cond}
use mathlib.Core.List.{[], ◌∷◌, ◌++◌}
use native.Mathlib.Omega.{arith}
use lib.ListN.{length, take}
use Rattle.model.specs.declared.Layout.{Layout}
use Rattle.model.specs.Words.{Image, byte_at, Bytes}
use Rattle.model.specs.Layout.{image_size, segment_size, main_at, backup_at}
use Rattle.model.specs.Container.{backup_to_main}
use Rattle.model.specs.Session.{is_dirty}
use Rattle.model.specs.Ops.{sfence, Ops, replay, persist_copy}
use Rattle.model.specs.Write.{copy_dirty}
use Rattle.model.proofs.Laws.Words.{byte_of_word}
use Rattle.model.proofs.Argument.Persist.{Misses, Clear, each_append, each_take, replay_clear, replay_append}
use Rattle.model.proofs.Argument.Runs.{Puts, puts_block, dirty_clear, dirty_leaves, Neat, neat_nil, neat_cat, neat_block, neat_keeps}
use Rattle.model.proofs.Laws.Layout.{segment_in_image}
use Rattle.model.proofs.Argument.Copy.FirstPart.{Ready}

module _ (l : Layout) (I : Image) (word i j : ℕ) (small : Bytes I) (long : length I ≡ image_size l)
    (hi : i < l.mains) (hj : j < l.backups) (j64 : j < 64) (mine : backup_to_main I j ≡ i)
    (twin : (x : ℕ) → x < segment_size l → is_dirty word (x / 256) ≡ false → byte_at I (backup_at l j + x) ≡ byte_at I (main_at l i + x)) where
  abbrev to : ℕ
  to = backup_at l j

  -- block b copied
  abbrev copy_block : ℕ → Ops
  copy_block b = persist_copy I (main_at l i + 256 * b) (to + 256 * b)

  block_puts : (b : ℕ) → Puts (copy_block b) (to + 256 * b) 256 (λ k. byte_at I (main_at l i + (k - to)))
  unfolding persist_copy
  block_puts b = puts_block true (to + 256 * b) _ _ (λ k m x y. byte_of_word (byte_at I) (main_at l i + 256 * b + 8 * k) m small y ∙ ap (λ (n : ℕ). byte_at I n) (omega arith))

  abbrev old_ops : Ops
  old_ops = copy_dirty l I word i j ++ sfence ∷ []

  block_neat : (b : ℕ) (d : Bool) → Neat (cond d (copy_block b) [])
  unfolding persist_copy
  block_neat b true = neat_block (to + 256 * b) _ (omega arith)
  block_neat b false = neat_nil

  old_clear : (k : ℕ) → (k < to) ⊎ (to + segment_size l ≤ k) → Clear k old_ops
  unfolding copy_dirty
  old_clear k h = each_append (Misses k) (copy_dirty l I word i j) (sfence ∷ []) (dirty_clear word to l.blocks copy_block (λ x. byte_at I (main_at l i + x)) (λ b x. block_puts b) l.blocks k (omega arith) h) tt

  pub ready_old : Ready l I i j old_ops
  unfolding copy_dirty
  ready_old = record {
    clear = λ k h. old_clear k (⊎_elim (λ q. inl (omega arith)) (λ q. q.1) h);
    copy = λ x k. ap (λ (X : Image). byte_at X (to + x)) (replay_append (copy_dirty l I word i j) (sfence ∷ []) I)
        ∙ replay_clear (sfence ∷ []) _ (to + x) tt
        ∙ dirty_leaves word to l.blocks copy_block (λ y. byte_at I (main_at l i + y)) (λ b y. block_puts b) I (omega (arith, long, segment_in_image l (l.mains + j) (omega arith)))
        twin l.blocks (omega arith) x k;
    paired = (same j j64 ∙ mine, λ t h ne. same t h);
    keeps = neat_keeps (copy_dirty l I word i j) (neat_cat l.blocks _ (λ b h. block_neat b (is_dirty word b)));
    part = λ n H st. inl (λ t h. st.agree (256 + t) (omega arith) ∙ replay_clear (take st.k (take n old_ops)) I (256 + t)
        (each_take (Misses (256 + t)) st.k _ (each_take (Misses (256 + t)) n _ (low t h))));
  }
    where
      low : (t : ℕ) → t < 64 → Clear (256 + t) old_ops
      low t h = old_clear (256 + t) (inl (omega arith))

      same : (t : ℕ) → t < 64 → backup_to_main (replay old_ops I) t ≡ backup_to_main I t
      same t h = replay_clear old_ops I (256 + t) (low t h)
