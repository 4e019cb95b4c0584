-- The first part of a copy to a new backup segment: its pair byte, then all blocks (`ready_new`).
use Prim.Native.Nat.{ℕ, zero, suc, ◌+◌, ◌-◌, ◌≤◌, ◌<◌}
use mathlib.Core.Path.{◌≡◌, refl, sym, ap, ◌∙◌}
use mathlib.Core.Logic.{◌⊎◌, inl, inr, ⊎_elim}
use mathlib.Core.List.{[], ◌∷◌, ◌++◌}
use native.Mathlib.Decide.{ℕ_discrete}
use native.Mathlib.Omega.{arith}
use lib.ListN.{length, take}
use Rattle.model.specs.declared.Layout.{Layout}
use Rattle.model.specs.Words.{Image, byte_at, Bytes}
use Rattle.model.specs.Layout.{image_size, segment_size, main_at, backup_at}
use Rattle.model.specs.Container.{backup_to_main}
use Rattle.model.specs.Ops.{clwb, sfence, Ops, apply, replay, copy_segment, word_place, store_byte}
use Rattle.model.specs.Write.{pair_ops}
use Rattle.model.specs.Crash.{Stage}
use Rattle.model.proofs.Laws.Words.{overlay_same, overlay_other}
use Rattle.model.proofs.Argument.Persist.{Misses, Clear, each_append, each_take, length-apply, replay_clear, replay_append}
use Rattle.model.proofs.Argument.Settled.{Off, Flushed, stage_held, stage_one}
use Rattle.model.proofs.Argument.Runs.{Puts, puts_clear, Neat, neat_append, neat_keeps}
use Rattle.model.proofs.Laws.Layout.{metadata_inside, segment_in_image}
use Rattle.model.proofs.Argument.Recovery.Segment.{puts_copy, neat_copy}
use Rattle.model.proofs.Argument.Copy.Byte.{with_byte, byte_stored}
use Rattle.model.proofs.Argument.Copy.FirstPart.{Given, Ready}

module _ (l : Layout) (I : Image) (i j : ℕ) (small : Bytes I) (long : length I ≡ image_size l) (j64 : j < 64) (i256 : i < 256) (hi : i < l.mains) (hj : j < l.backups) where
  abbrev copy_ops : Ops
  copy_ops = copy_segment l I (main_at l i) (backup_at l j)

  abbrev new_ops : Ops
  new_ops = (pair_ops I i j ++ copy_ops) ++ sfence ∷ []

  copy_puts : Puts copy_ops (backup_at l j) (segment_size l) (λ k. byte_at I (main_at l i + (k - backup_at l j)))
  copy_puts = puts_copy l I (main_at l i) (backup_at l j) small

  pair_stored : Given I i j (apply (store_byte I (256 + j) i) I)
  pair_stored = (at j ∙ overlay_same (byte_at I) (256 + j) i, λ t h ne. at t ∙ overlay_other (byte_at I) (256 + j) i (256 + t) (λ q. ne (omega arith)))
    where
      at : (t : ℕ) → backup_to_main (apply (store_byte I (256 + j) i) I) t ≡ with_byte I (256 + j) i (256 + t)
      at t = byte_stored I I (256 + j) i (256 + t) small i256 (omega (arith, long, metadata_inside l)) (λ m x y. refl)

  new_clear : (k : ℕ) → (k < 256) ⊎ ((320 ≤ k) × ((k < backup_at l j) ⊎ (backup_at l j + segment_size l ≤ k))) → Clear k new_ops
  unfolding pair_ops
  new_clear k h = each_append (Misses k) (pair_ops I i j ++ copy_ops) (sfence ∷ [])
      (each_append (Misses k) (pair_ops I i j) copy_ops
      ((λ x y. ⊎_elim (λ q. omega arith) (λ q. omega arith) h), tt)
      (⊎_elim (λ q. puts_clear copy_puts k (inl (omega arith))) (λ q. puts_clear copy_puts k q.1) h)) tt

  new_replay : (k : ℕ) → byte_at (replay new_ops I) k ≡ byte_at (replay copy_ops (apply (store_byte I (256 + j) i) I)) k
  unfolding pair_ops replay apply
  new_replay k = ap (λ (X : Image). byte_at X k) (replay_append (pair_ops I i j ++ copy_ops) (sfence ∷ []) I ∙ replay_append (pair_ops I i j) copy_ops I)

  pair_neat : Neat (pair_ops I i j)
  unfolding pair_ops
  pair_neat ℓ = go (ℕ_discrete ℓ 4)
    where
      go : Dec (ℓ ≡ 4) → Off ℓ (pair_ops I i j) ⊎ Flushed ℓ (pair_ops I i j)
      go (yes e) = inr (record { A = store_byte I (256 + j) i ∷ []; C = []; p = 256; place = sym e; off = λ k q. tt; is = refl })
      go (no e) = inl (λ k q. ((λ x y. e (omega arith)), tt))

  new_part : (n : ℕ) (H : Image) → Stage 4 I (take n new_ops) H → ((t : ℕ) → t < 64 → backup_to_main H t ≡ backup_to_main I t) ⊎ Given I i j H
  unfolding pair_ops
  new_part zero H st = inl (λ t h. stage_held st (256 + t) (omega arith))
  new_part (suc n) H st = ⊎_elim
      (λ e. inl (λ t h. e (256 + t) (omega arith)))
      (λ e. inr (e (256 + j) (omega arith) ∙ pair_stored.0, λ t h ne. e (256 + t) (omega arith) ∙ pair_stored.1 t h ne))
      (stage_one 4 I H [] (take n R) (word_place (256 + j)) _ (λ k e. tt)
      (λ k e. each_take (Misses k) n R (each_append (Misses k) copy_ops (sfence ∷ []) (puts_clear copy_puts k (inl (omega arith))) tt)) st)
    where
      R : Ops
      R = clwb 256 ∷ (copy_ops ++ sfence ∷ [])

  pub ready_new : Ready l I i j new_ops
  ready_new = record {
    clear = new_clear;
    copy = λ x k. new_replay _ ∙ copy_puts.leaves (apply (store_byte I (256 + j) i) I) _
        (omega (arith, long, length-apply (store_byte I (256 + j) i) I, segment_in_image l (l.mains + j) (omega arith))) (omega arith) (omega arith)
        ∙ ap (λ (n : ℕ). byte_at I n) (omega arith);
    paired = (at j j64 ∙ pair_stored.0, λ t h ne. at t h ∙ pair_stored.1 t h ne);
    keeps = neat_keeps (pair_ops I i j ++ copy_ops) (neat_append (pair_ops I i j) copy_ops pair_neat (neat_copy l I (main_at l i) (backup_at l j) (omega arith)));
    part = new_part;
  }
    where
      at : (t : ℕ) → t < 64 → backup_to_main (replay new_ops I) t ≡ backup_to_main (apply (store_byte I (256 + j) i) I) t
      at t h = new_replay (256 + t) ∙ replay_clear copy_ops _ (256 + t) (puts_clear copy_puts (256 + t) (inl (omega arith)))
