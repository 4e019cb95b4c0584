-- How many operations runs of stores and recovery have on the trace for a kind of module, in closed form, and how dirty blocks are counted.
pub mod Write
pub mod Discard
pub mod Checkpoint
use Prim.Native.Nat.{ℕ, zero, suc, ◌+◌, ◌*◌, ◌<◌, ◌/◌, ◌%◌, ◌^◌, ◌≤◌}
use mathlib.Core.Path.{◌≡◌, refl, sym, ap₂, ◌∙◌, ap}
use mathlib.Core.Bool.{Bool, true, false, cond}
use mathlib.Core.List.{[], ◌∷◌, ◌++◌}
use native.Mathlib.Omega.{arith}
use native.Mathlib.Decide.{ℕ_discrete}
use native.Mathlib.Nat.{mul-zero, mul-one, mul_comm, mul-add, mul-le-mul_left, div-one, div-div-eq-div-mul, div-eq_of_lt, pow-suc}
use lib.ListN.{length, length-append}
use borrow.Author.Tests.{eq-eqb, ne_eqb}
use lib.Count.{ones, ones_step}
use lib.Dec.{eqb}
use Rattle.model.specs.Range.{sum_to, cat, one_if}
use Rattle.model.specs.declared.Layout.{Layout}
use Rattle.model.specs.declared.Action.{Action}
use Rattle.model.specs.declared.Action.TheVariants.{Nothing, ZeroMain, CopyToBackup, CopyToMain}
use Rattle.model.specs.Words.{Image}
use Rattle.model.specs.Layout.{block_words, block_lines}
use Rattle.model.specs.Container.{seg_state, backup_to_main, is_paired}
use Rattle.model.specs.Session.{adr, bit, is_dirty}
use Rattle.model.specs.Ops.{clwb, sfence, Ops, for_domain, stores, clwbs, put_block, persist_copy, persist_zero, copy_segment, zero_segment, each_dirty}
use Rattle.model.specs.Open.{recovery_action, action_ops, recover_segment, recovery_ops}
use Rattle.model.specs.Counts.{flushes, copied_ops, acts, treated, dirty_count}
use Rattle.model.proofs.Laws.Range.{length-cat, sum_ext, sum-most}
use Rattle.model.proofs.Laws.Domain.{domain_append, domain_cat, domain_when, domain_stores, domain_adr}

-- joined lists of k * g 0, k * g 1, .. operations
pub length-cat-sum : (n k : ℕ) (g : ℕ → ℕ) (f : ℕ → Ops) → ((i : ℕ) → i < n → length (f i) ≡ k * g i) → length (cat n f) ≡ k * sum_to n g
unfolding cat sum_to
length-cat-sum zero k g f h = sym (mul-zero k)
length-cat-sum (suc n) k g f h =
    length-append (cat n f) (f n) ∙ ap₂ ◌+◌ (length-cat-sum n k g f (λ i l. h i (omega arith))) (h n (omega arith)) ∙ sym (mul-add k (sum_to n g) (g n))

-- the same on the trace for a kind: one run after another, a run for each number
pub count_append : (d : ℕ) (A B : Ops) → length (for_domain d (A ++ B)) ≡ length (for_domain d A) + length (for_domain d B)
count_append d A B = ap length (domain_append d A B) ∙ length-append (for_domain d A) (for_domain d B)

count_cat : (d n k : ℕ) (f : ℕ → Ops) → ((i : ℕ) → i < n → length (for_domain d (f i)) ≡ k) → length (for_domain d (cat n f)) ≡ k * n
count_cat d n k f h = ap length (domain_cat d n f) ∙ length-cat n k _ h ∙ mul_comm n k

pub count_cat_sum : (d n k : ℕ) (g : ℕ → ℕ) (f : ℕ → Ops) → ((i : ℕ) → i < n → length (for_domain d (f i)) ≡ k * g i) → length (for_domain d (cat n f)) ≡ k * sum_to n g
count_cat_sum d n k g f h = ap length (domain_cat d n f) ∙ length-cat-sum n k g _ h

-- those of kind 0 are all
pub count_adr : (O : Ops) {n : ℕ} → length (for_domain adr O) ≡ n → length O ≡ n
count_adr O h = ap length (sym (domain_adr O)) ∙ h

length_when : (k : ℕ) (b : Bool) (O : Ops) → length O ≡ k → length (cond b O []) ≡ k * one_if b
length_when k true O h = h ∙ sym (mul-one k)
length_when k false O h = sym (mul-zero k)

-- ---- runs of operations

pub length-stores : (n a : ℕ) (w : ℕ → ℕ) → length (stores n a w) ≡ n
unfolding stores
length-stores n a w = length-cat n 1 _ (λ i l. refl) ∙ mul-one n

-- a line written back, and more of them
pub count_flush : (d p : ℕ) → length (for_domain d (clwb p ∷ [])) ≡ flushes d 1
unfolding for_domain
count_flush d p = go (eqb d adr)
  where
    go : (b : Bool) → length (cond b (clwb p ∷ []) []) ≡ cond b 1 0
    go true = refl
    go false = refl

pub flushes_times : (d k n : ℕ) → flushes d k * n ≡ flushes d (k * n)
flushes_times d k n = go (eqb d adr)
  where
    go : (b : Bool) → cond b k 0 * n ≡ cond b (k * n) 0
    go true = refl
    go false = omega arith

pub count_clwbs : (d n a : ℕ) → length (for_domain d (clwbs n a)) ≡ flushes d n
unfolding clwbs
count_clwbs d n a = count_cat d n (flushes d 1) _ (λ i h. count_flush d _) ∙ flushes_times d 1 n ∙ ap (flushes d) (omega arith)

pub count_block : (d a : ℕ) (w : ℕ → ℕ) → length (for_domain d (put_block true a w)) ≡ copied_ops d
unfolding put_block
count_block d a w =
    count_append d (stores block_words a w) (clwbs block_lines a)
    ∙ ap₂ ◌+◌ (ap length (domain_stores d block_words a w) ∙ length-stores block_words a w) (count_clwbs d block_lines a)

pub count_copy_segment : (d : ℕ) (l : Layout) (I : Image) (from to : ℕ) → length (for_domain d (copy_segment l I from to)) ≡ copied_ops d * l.blocks
unfolding copy_segment persist_copy
count_copy_segment d l I from to = count_cat d l.blocks (copied_ops d) _ (λ i h. count_block d _ _)

count_zero_segment : (d : ℕ) (l : Layout) (to : ℕ) → length (for_domain d (zero_segment l to)) ≡ copied_ops d * l.blocks
unfolding zero_segment persist_zero
count_zero_segment d l to = count_cat d l.blocks (copied_ops d) _ (λ i h. count_block d _ _)

-- ---- recovery

count_action : (d : ℕ) (l : Layout) (I : Image) (i j : ℕ) (a : Action) → length (for_domain d (action_ops l I i j a)) ≡ copied_ops d * l.blocks * acts a
unfolding action_ops acts for_domain
count_action d l I i j Nothing = sym (mul-zero (copied_ops d * l.blocks))
count_action d l I i j ZeroMain = count_zero_segment d l _ ∙ sym (mul-one (copied_ops d * l.blocks))
count_action d l I i j CopyToBackup = count_copy_segment d l I _ _ ∙ sym (mul-one (copied_ops d * l.blocks))
count_action d l I i j CopyToMain = count_copy_segment d l I _ _ ∙ sym (mul-one (copied_ops d * l.blocks))

-- a fence is on every trace
pub count_fence : (d : ℕ) → length (for_domain d (sfence ∷ [])) ≡ 1
unfolding for_domain
count_fence d = refl

pub count_recovery : (d : ℕ) (l : Layout) (I : Image) (line : ℕ) → length (for_domain d (recovery_ops l I line)) ≡ copied_ops d * l.blocks * treated l I line + 1
unfolding recovery_ops recover_segment treated
count_recovery d l I line =
    count_append d (cat l.mains (recover_segment l I line)) (sfence ∷ [])
    ∙ ap₂ ◌+◌ (count_cat_sum d l.mains (copied_ops d * l.blocks) _ _ (λ i h. count_action d l I i _ _)) (count_fence d)

acts-most : (a : Action) → acts a ≤ 1
unfolding acts
acts-most Nothing = omega arith
acts-most ZeroMain = omega arith
acts-most CopyToBackup = omega arith
acts-most CopyToMain = omega arith

pub treated-most : (l : Layout) (I : Image) (line : ℕ) → treated l I line ≤ l.mains
unfolding treated
treated-most l I line = omega (arith, sum-most l.mains 1 (λ i. acts (recovery_action (seg_state I line i) (is_paired l (backup_to_main I) i))) (λ i h. acts-most _))

pub recovery_most : (l : Layout) (I : Image) (line : ℕ) → length (recovery_ops l I line) ≤ 36 * l.blocks * l.mains + 1
recovery_most l I line = omega (arith, count_adr (recovery_ops l I line) (count_recovery adr l I line), mul-le-mul_left (36 * l.blocks) (treated-most l I line))

-- ---- dirty blocks

-- operations for each dirty block
pub count_dirty : (d word n k : ℕ) (f : ℕ → Ops) → ((b : ℕ) → length (for_domain d (f b)) ≡ k) → length (for_domain d (each_dirty word n f)) ≡ k * dirty_count word n
unfolding dirty_count
count_dirty d word n k f h =
    count_cat_sum d n k _ _ (λ b l. ap length (domain_when d (is_dirty word b) (f b)) ∙ length_when k (is_dirty word b) (for_domain d (f b)) (h b))

-- the ones of m are those below n and those of the rest
ones_split : (m n : ℕ) → ones m ≡ sum_to n (bit m) + ones (m / 2 ^ n)
unfolding sum_to bit
ones_split m zero = omega (arith, ap ones (div-one m))
ones_split m (suc n) =
    let e : m / 2 ^ n / 2 ≡ m / 2 ^ suc n = div-div-eq-div-mul m (2 ^ n) 2 ∙ ap (λ (k : ℕ). m / k) (sym (pow-suc 2 n)) in
    omega (arith, ones_split m n, ones_step (m / 2 ^ n), ap ones e)

bit_test : (m b : ℕ) → one_if (eqb (bit m b) 1) ≡ bit m b
unfolding bit
bit_test m b = go (ℕ_discrete (m / 2 ^ b % 2) 1)
  where
    go : Dec (m / 2 ^ b % 2 ≡ 1) → one_if (eqb (m / 2 ^ b % 2) 1) ≡ m / 2 ^ b % 2
    go (yes e) = rw (eq-eqb (m / 2 ^ b % 2) 1 e) (sym e)
    go (no e) = rw (ne_eqb (m / 2 ^ b % 2) 1 e) (omega arith)

-- the dirty blocks of a segment are the ones of its word, if no bit is set beyond the blocks
pub dirty_ones : (word n : ℕ) → word < 2 ^ n → dirty_count word n ≡ ones word
unfolding dirty_count ones
dirty_ones word n h = sum_ext n _ (bit word) (λ b l. bit_test word b) ∙ omega (arith, ones_split word n, ap ones (div-eq_of_lt h))
