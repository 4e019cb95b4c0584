-- How many operations a discard has: 32 for each dirty block of a dirty main segment, none for one that is not dirty.
use Prim.Native.Nat.{ℕ, ◌*◌}
use mathlib.Core.Path.{◌≡◌, refl, ap, ◌∙◌}
use mathlib.Core.Bool.{Bool, true, false, cond}
use mathlib.Core.List.{[], ◌++◌}
use native.Mathlib.Omega.{arith}
use lib.ListN.{length, length-append}
use Rattle.model.specs.declared.Layout.{Layout}
use Rattle.model.specs.declared.Session.{Session}
use Rattle.std.specs.Prelude.{Option}
use Rattle.model.specs.Words.{Image}
use Rattle.model.specs.Layout.{block_words}
use Rattle.model.specs.Container.{active_line, checkpoint_located}
use Rattle.model.specs.Session.{dirty_segment, dirty_word}
use Rattle.model.specs.Ops.{Ops, for_domain, put_block, stores}
use Rattle.model.specs.Discard.{restore_dirty, discard_ops}
use Rattle.model.specs.Counts.{dirty_count}
use Rattle.model.proofs.Laws.Domain.{domain_append, domain_stores}
use Rattle.model.proofs.Laws.Counts.{length-stores, count_dirty}

-- a block that is not written back: the same on every trace
pub domain_unflushed : (d a : ℕ) (w : ℕ → ℕ) → for_domain d (put_block false a w) ≡ put_block false a w
unfolding put_block for_domain
domain_unflushed d a w = domain_append d (stores block_words a w) [] ∙ ap (λ (X : Ops). X ++ []) (domain_stores d block_words a w)

count_unflushed : (d a : ℕ) (w : ℕ → ℕ) → length (for_domain d (put_block false a w)) ≡ 32
unfolding put_block
count_unflushed d a w = ap length (domain_unflushed d a w) ∙ length-append (stores block_words a w) [] ∙ omega (arith, length-stores block_words a w)

pub count_restore : (d : ℕ) (l : Layout) (I : Image) (word i : ℕ) (from : Option ℕ)
    → length (for_domain d (restore_dirty l I word i from)) ≡ 32 * dirty_count word l.blocks
unfolding restore_dirty
count_restore d l I word i from = count_dirty d word l.blocks 32 _ (λ b. count_unflushed d _ _)

pub count_discard : (d : ℕ) (s : Session) (I : Image) (i : ℕ)
    → length (for_domain d (discard_ops s I i)) ≡ cond (dirty_segment s i) (32 * dirty_count (dirty_word s i) s.layout.blocks) 0
unfolding discard_ops for_domain
count_discard d s I i = go (dirty_segment s i)
  where
    from : Option ℕ
    from = checkpoint_located s.layout I (active_line I) i

    go : (b : Bool) → length (for_domain d (cond b (restore_dirty s.layout I (dirty_word s i) i from) [])) ≡ cond b (32 * dirty_count (dirty_word s i) s.layout.blocks) 0
    go true = count_restore d s.layout I (dirty_word s i) i from
    go false = refl
