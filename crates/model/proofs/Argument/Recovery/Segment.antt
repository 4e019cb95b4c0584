-- What recovery does about one main segment, by a line of states: its turn writes the contents into itself or into its backup,
-- or does nothing (`turn-treated`).
use Prim.Native.Nat.{ℕ, zero, suc, ◌+◌, ◌-◌, ◌*◌, ◌%◌, ◌≤◌, ◌<◌}
use mathlib.Core.Path.{◌≡◌, refl, sym, ap, ◌∙◌}
use mathlib.Core.Logic.{◌≢◌}
use mathlib.Core.Bool.{Bool, true, false}
use mathlib.Core.List.{[]}
use native.Mathlib.Omega.{arith}
use Rattle.model.specs.declared.Layout.{Layout}
use Rattle.model.specs.declared.Action.{Action}
use Rattle.model.specs.declared.Action.TheVariants.{Nothing, ZeroMain, CopyToBackup, CopyToMain}
use Rattle.model.specs.Words.{Image, byte_at, Bytes, word_at}
use Rattle.model.specs.Layout.{segment_size, main_at, backup_at}
use Rattle.model.specs.Container.{seg_state, backup_to_main, is_paired, paired_backup, Valid, by_state}
use Rattle.model.specs.Ops.{Ops, persist_copy, persist_zero, copy_segment, zero_segment}
use Rattle.model.specs.Open.{recovery_action, action_ops, recover_segment}
use Rattle.model.proofs.Laws.Words.{byte_of_word, byte_of_zero}
use Rattle.model.proofs.Argument.Settled.{Flushed}
use Rattle.model.proofs.Argument.Runs.{Puts, puts_as, puts_blocks, Neat, neat_nil, neat_blocks, flushed_blocks}
use Rattle.model.proofs.Laws.Container.{paired_at, unpaired_none}
use Rattle.model.proofs.Argument.View.{RecoverableBy}
use Rattle.model.proofs.Argument.Holds.{Contents}

-- ---- a segment copied, and filled with zeros

pub puts_copy : (l : Layout) (I : Image) (from to : ℕ) → Bytes I → Puts (copy_segment l I from to) to (segment_size l) (λ i. byte_at I (from + (i - to)))
unfolding copy_segment persist_copy
puts_copy l I from to h =
    puts_blocks l.blocks to (λ m k. word_at I (from + 256 * m + 8 * k)) (λ i. byte_at I (from + (i - to)))
    (λ m k b x y z. byte_of_word (byte_at I) (from + 256 * m + 8 * k) b h z ∙ ap (λ (n : ℕ). byte_at I n) (omega arith))

puts_zero : (l : Layout) (to : ℕ) → Puts (zero_segment l to) to (segment_size l) (λ i. 0)
unfolding zero_segment persist_zero
puts_zero l to = puts_blocks l.blocks to (λ m k. 0) (λ i. 0) (λ m k b x y z. byte_of_zero b)

pub neat_copy : (l : Layout) (I : Image) (from to : ℕ) → to % 64 ≡ 0 → Neat (copy_segment l I from to)
unfolding copy_segment persist_copy
neat_copy l I from to h = neat_blocks l.blocks to (λ m k. word_at I (from + 256 * m + 8 * k)) h

neat_zero : (l : Layout) (to : ℕ) → to % 64 ≡ 0 → Neat (zero_segment l to)
unfolding zero_segment persist_zero
neat_zero l to h = neat_blocks l.blocks to (λ m k. 0) h

flushed_copy : (l : Layout) (I : Image) (from to ℓ : ℕ) → to % 64 ≡ 0 → to ≤ 64 * ℓ → 64 * ℓ < to + segment_size l → Flushed ℓ (copy_segment l I from to)
unfolding copy_segment persist_copy
flushed_copy l I from to ℓ h x y = flushed_blocks ℓ l.blocks to (λ m k. word_at I (from + 256 * m + 8 * k)) h x y

flushed_zero : (l : Layout) (to ℓ : ℕ) → to % 64 ≡ 0 → to ≤ 64 * ℓ → 64 * ℓ < to + segment_size l → Flushed ℓ (zero_segment l to)
unfolding zero_segment persist_zero
flushed_zero l to ℓ h x y = flushed_blocks ℓ l.blocks to (λ m k. 0) h x y

-- ---- what recovery does about one main segment

-- its turn writes the contents P into itself (and writes that back), or into its backup, or does nothing
pub data Treated (l : Layout) (line : ℕ) (I : Image) (P : Contents) (i : ℕ) (O : Ops) : Type 0 where
  main : seg_state I line i ≢ 1 → Puts O (main_at l i) (segment_size l) (λ k. P i (k - main_at l i))
      → ((ℓ : ℕ) → main_at l i ≤ 64 * ℓ → 64 * ℓ < main_at l i + segment_size l → Flushed ℓ O) → Treated l line I P i O
  backup : (j : ℕ) → j < l.backups → seg_state I line i ≡ 1 → backup_to_main I j ≡ i
      → Puts O (backup_at l j) (segment_size l) (λ k. P i (k - backup_at l j)) → Treated l line I P i O
  idle : seg_state I line i ≡ 1 → ((j : ℕ) → j < l.backups → backup_to_main I j ≢ i) → O ≡ [] → Treated l line I P i O

abbrev pub turn : Layout → ℕ → Image → ℕ → Ops
turn l line I i = recover_segment l I line i

-- every turn writes back what it stores
neat_action : (l : Layout) (I : Image) (i j : ℕ) (a : Action) → Neat (action_ops l I i j a)
unfolding action_ops
neat_action l I i j Nothing = neat_nil
neat_action l I i j ZeroMain = neat_zero l (main_at l i) (omega arith)
neat_action l I i j CopyToBackup = neat_copy l I (main_at l i) (backup_at l j) (omega arith)
neat_action l I i j CopyToMain = neat_copy l I (backup_at l j) (main_at l i) (omega arith)

pub neat_turn : (l : Layout) (line : ℕ) (I : Image) (i : ℕ) → Neat (turn l line I i)
unfolding recover_segment
neat_turn l line I i = neat_action l I i (paired_backup l (backup_to_main I) i) (recovery_action (seg_state I line i) (is_paired l (backup_to_main I) i))

module _ (l : Layout) (line : ℕ) (I : Image) (P : Contents) (r : RecoverableBy l line I P) where
  pub turn-treated : (i : ℕ) → i < l.mains → Treated l line I P i (turn l line I i)
  unfolding recover_segment
  turn-treated i h = go (seg_state I line i) (is_paired l (backup_to_main I) i) refl refl
    where
      pr : ℕ → ℕ
      pr = backup_to_main I

      j : ℕ
      j = paired_backup l pr i

      v : Valid l (seg_state I line) (backup_to_main I)
      v = r.holds.valid

      go : (st : ℕ) (b : Bool) → seg_state I line i ≡ st → is_paired l (backup_to_main I) i ≡ b → Treated l line I P i (action_ops l I i j (recovery_action st b))
      go zero true e q = let k = paired_at l (backup_to_main I) i q in absurd (v.bare i h e j k.0 k.1)
      go (suc zero) true e q = unfold recovery_action by_state action_ops in (let k = paired_at l (backup_to_main I) i q in
          backup j k.0 e k.1 (puts_as _ (puts_copy l I (main_at l i) (backup_at l j) r.fit.bytes) (λ n x y. r.holds.own i (n - backup_at l j) h (omega arith) e)))
      go (suc (suc n)) true e q = unfold recovery_action by_state action_ops in (let k = paired_at l (backup_to_main I) i q in
          let two : seg_state I line i ≡ 2 = omega (arith, v.states i h) in
          main (λ c. omega arith)
          (puts_as _ (puts_copy l I (backup_at l j) (main_at l i) r.fit.bytes) (λ n x y. r.holds.backup i j (n - main_at l i) h k.0 (omega arith) two k.1))
          (λ ℓ x y. flushed_copy l I (backup_at l j) (main_at l i) ℓ (omega arith) x y))
      go zero false e q = unfold recovery_action by_state action_ops in (main (λ c. omega arith)
          (puts_as _ (puts_zero l (main_at l i)) (λ n x y. sym (r.holds.initial i (n - main_at l i) h (omega arith) e)))
          (λ ℓ x y. flushed_zero l (main_at l i) ℓ (omega arith) x y))
      go (suc zero) false e q = unfold recovery_action by_state action_ops in (idle e (λ k x. unpaired_none l (backup_to_main I) i q k x) refl)
      go (suc (suc n)) false e q = let k = v.kept i h (omega (arith, v.states i h)) in absurd (unpaired_none l (backup_to_main I) i q k.0 k.1 k.2)
