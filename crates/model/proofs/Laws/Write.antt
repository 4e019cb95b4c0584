-- The plan of a write's copy, what it says of refusal 9, and what a span says that 8 does not refuse.
use Prim.Native.Nat.{ℕ, ◌+◌, ◌-◌, ◌*◌, ◌≤◌, ◌<◌}
use mathlib.Core.Path.{◌≡◌, refl, sym, ◌∙◌}
use mathlib.Core.Logic.{◌≢◌}
use mathlib.Core.Bool.{Bool, true, false, not, cond, ◌&&◌, true≢false, ◌||◌}
use native.Mathlib.Omega.{arith}
use borrow.Author.Tests.{leb-false, ltb-false, eqb-false, eqb-true, not-true, not-false}
use lib.ListN.{length}
use lib.Dec.{leb, eqb}
use Rattle.model.specs.Outcome.{Lent}
use Rattle.model.specs.declared.Session.{Session}
use Rattle.model.specs.declared.Plan.{Plan}
use Rattle.model.specs.declared.Plan.TheVariants.{NoCopy, OwnBackup, NewBackup, NoneFree}
use Rattle.model.specs.Words.{Image}
use Rattle.model.specs.Container.{active_state, backup_to_main, is_paired, paired_backup, any_free, new_backup}
use Rattle.model.specs.Write.{WriteArgs, needs_copy, needs_backup, copy_plan, copies, none_free, write_errors, write_status, span_bad}
use Rattle.model.specs.declared.Layout.{Layout}
use Rattle.model.specs.Layout.{block_size}
use Rattle.model.specs.Session.{dirty_segment}
use Rattle.model.proofs.Laws.Status.{served_condition}
use Rattle.model.proofs.Laws.Container.{paired_at}
use Rattle.model.proofs.Laws.Range.{and_left, and_right}

-- ---- the plan of the copy

-- a copy is needed: the segment is not dirty and in state 1
pub copy_needed : (s : Session) (I : Image) (i : ℕ) → needs_copy s I i ≡ true → (dirty_segment s i ≡ false) × (active_state I i ≡ 1)
unfolding needs_copy
copy_needed s I i e = (not-true _ (and_left _ _ e), eqb-true _ _ (and_right (not (dirty_segment s i)) _ e))

-- a new backup segment is needed where a copy is and no backup segment is the segment's
pub backup_needed : (s : Session) (I : Image) (i : ℕ) → dirty_segment s i ≡ false → active_state I i ≡ 1
    → ((k : ℕ) → k < s.layout.backups → backup_to_main I k ≢ i) → needs_backup s I i ≡ true
unfolding needs_backup needs_copy
backup_needed s I i clean one bare = rw (clean, one) (go (is_paired s.layout (backup_to_main I) i) refl)
  where
    go : (b : Bool) → is_paired s.layout (backup_to_main I) i ≡ b → not b ≡ true
    go false e = refl
    go true e = let p = paired_at s.layout (backup_to_main I) i e in absurd (bare _ p.0 p.1)

-- the new backup segment by the active line, and whether one is free
abbrev pub new_of : Session → Image → ℕ
new_of s I = new_backup s.layout (active_state I) (backup_to_main I)

abbrev pub some_free : Session → Image → Bool
some_free s I = any_free s.layout (active_state I) (backup_to_main I)

-- the plan: no copy; the segment's own backup; a new one
pub plan_none : (s : Session) (I : Image) (i : ℕ) → needs_copy s I i ≡ false → copy_plan s I i ≡ NoCopy
unfolding copy_plan
plan_none s I i e = rw e

pub plan_own : (s : Session) (I : Image) (i : ℕ) → needs_copy s I i ≡ true → is_paired s.layout (backup_to_main I) i ≡ true
    → copy_plan s I i ≡ OwnBackup (paired_backup s.layout (backup_to_main I) i)
unfolding copy_plan
plan_own s I i e q = rw (e, q)

pub plan_new : (s : Session) (I : Image) (i : ℕ) → needs_backup s I i ≡ true → some_free s I ≡ true → copy_plan s I i ≡ NewBackup (new_of s I)
unfolding copy_plan needs_backup
plan_new s I i e f =
    let c = and_left (needs_copy s I i) (not (is_paired s.layout (backup_to_main I) i)) e in
    let q = not-true (is_paired s.layout (backup_to_main I) i) (and_right (needs_copy s I i) _ e) in
    rw (c, q, f)

-- the plan finds none free exactly if a new one is needed and none is free by the active line
pub plan_none_free : (s : Session) (I : Image) (i : ℕ) → none_free (copy_plan s I i) ≡ (needs_backup s I i && not (some_free s I))
unfolding copy_plan needs_backup
plan_none_free s I i = go (needs_copy s I i) (is_paired s.layout (backup_to_main I) i) (some_free s I)
  where
    go : (a b c : Bool) → none_free (cond a (cond b (OwnBackup (paired_backup s.layout (backup_to_main I) i)) (cond c (NewBackup (new_of s I)) NoneFree)) NoCopy) ≡ (a && not b && not c)
    go false b c = refl
    go true true c = refl
    go true false true = refl
    go true false false = refl

-- where it does not, the segment is copied exactly if it must be
pub plan_copies : (s : Session) (I : Image) (i : ℕ) → none_free (copy_plan s I i) ≡ false → copies (copy_plan s I i) ≡ needs_copy s I i
unfolding copy_plan
plan_copies s I i h = go (needs_copy s I i) (is_paired s.layout (backup_to_main I) i) (some_free s I) h
  where
    plan_by : Bool → Bool → Bool → Plan
    plan_by a b c = cond a (cond b (OwnBackup (paired_backup s.layout (backup_to_main I) i)) (cond c (NewBackup (new_of s I)) NoneFree)) NoCopy

    go : (a b c : Bool) → none_free (plan_by a b c) ≡ false → copies (plan_by a b c) ≡ a
    go false b c h = refl
    go true true c h = refl
    go true false true h = refl
    go true false false h = absurd (true≢false h)

-- so a served write that needs a new one finds one free
pub served_free : (s : Session) (I : Image) (w : WriteArgs) (t : Lent) → write_status s I w t ≡ 0 → needs_backup s I w.main ≡ true → some_free s I ≡ true
unfolding write_status
served_free s I w t h n =
    let none : (needs_backup s I w.main && not (some_free s I)) ≡ false =
    sym (plan_none_free s I w.main) ∙ served_condition (write_errors s I w t) (omega arith) h 9 in
    not-false (some_free s I) (rw n at none)

-- ---- the span

-- three tests, none of which holds
none_of_lem : (a b c : Bool) → (a || b || c) ≡ false → (a ≡ false) × (b ≡ false) × (c ≡ false)
none_of_lem false false false h = (refl, refl, refl)
none_of_lem false false true h = absurd (true≢false h)
none_of_lem false true c h = absurd (true≢false h)
none_of_lem true b c h = absurd (true≢false h)

-- what a span says that 8 does not refuse
pub span_good : (l : Layout) (w : WriteArgs) → span_bad l w ≡ false
    → (0 < length w.bytes) × (w.offset < block_size) × (w.offset + length w.bytes ≤ block_size * (l.blocks - w.block))
unfolding span_bad
span_good l w h =
    let n = none_of_lem (eqb (length w.bytes) 0) (leb block_size w.offset) _ h in
    (let e = eqb-false (length w.bytes) 0 n.0 in omega arith, leb-false _ _ n.1, ltb-false _ _ n.2)
