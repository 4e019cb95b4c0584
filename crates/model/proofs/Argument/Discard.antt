-- Discard: its stores put the bytes of the checkpoint into the dirty blocks of one main segment, which then has all of them; a main
-- segment that is not dirty has them without a store.
use Prim.Native.Nat.{ℕ, zero, suc, ◌+◌, ◌-◌, ◌*◌, ◌/◌, ◌<◌}
use mathlib.Core.Path.{◌≡◌, refl, sym, ap, ◌∙◌, subst}
use mathlib.Core.Logic.{◌≢◌}
use mathlib.Core.Bool.{Bool, true, false}
use mathlib.Core.List.{[], ◌++◌}
use native.Mathlib.Decide.{ℕ_discrete}
use native.Mathlib.Omega.{arith}
use lib.ListN.{get_or, take}
use Rattle.model.specs.declared.Layout.{Layout}
use Rattle.model.specs.declared.Session.{Session}
use Rattle.std.specs.Prelude.{Option}
use Rattle.model.specs.Words.{Image, byte_at, bytes_of, Bytes}
use Rattle.model.specs.Layout.{segment_size, main_at, backup_at}
use Rattle.model.specs.Container.{active_state, active_line, backup_to_main, paired_backup, by_state, checkpoint_located}
use Rattle.model.specs.Session.{is_dirty, dirty_word, dirty_segment, dirty_block}
use Rattle.model.specs.Ops.{Ops, replay, put_block, each_dirty}
use Rattle.model.specs.Discard.{located_word, restore_dirty, discard_ops}
use Rattle.model.specs.Crash.{CrashImage}
use Rattle.model.proofs.Laws.Words.{byte_of_word, byte_of_zero}
use Rattle.model.proofs.Laws.Layout.{segment_in_image, apart}
use Rattle.model.proofs.Laws.Container.{kept_at}
use Rattle.model.proofs.Argument.Persist.{Clear, replay_clear}
use Rattle.model.proofs.Argument.Runs.{Puts, puts_block, dirty_clear, clean_clear, dirty_leaves}
use Rattle.model.proofs.Argument.View.{Recoverable}
use Rattle.model.proofs.Argument.Holds.{Contents}
use Rattle.model.proofs.Argument.Invariant.{Invariant}
use Rattle.model.proofs.Argument.Stores.{Outside, stores_crash, stores_done}

module _ (O : Ops) (I₀ : Image) (s : Session) (P W : Contents) (held : Bytes I₀) (inv : Invariant s.layout O (replay O I₀) s P W)
    (i : ℕ) (hi : i < s.layout.mains) where
  abbrev l : Layout
  l = s.layout

  abbrev I : Image
  I = replay O I₀

  abbrev word : ℕ
  word = dirty_word s i

  -- where the checkpoint of the segment stands
  abbrev from : Option ℕ
  from = checkpoint_located l I (active_line I) i

  -- the operations
  abbrev E : Ops
  E = discard_ops s I i

  -- ---- a dirty segment

  module _ (dirty : dirty_segment s i ≡ true) where
    -- it is in state 0 or 2
    by_place : {A : Type 0} → (active_state I i ≡ 0 → A) → (active_state I i ≡ 2 → A) → A
    by_place {A} empty backed = go (active_state I i) refl
      where
        go : (st : ℕ) → active_state I i ≡ st → A
        go zero e = empty e
        go (suc zero) e = absurd (inv.moved i dirty e)
        go (suc (suc n)) e = backed (omega (arith, inv.recovers.holds.valid.states i hi))

    -- a word of what stands there has the bytes of the checkpoint
    located_bytes_lem : (b k m : ℕ) → b < l.blocks → k < 32 → m < 8 → get_or (bytes_of 8 (located_word I from b k)) m 0 ≡ P i (256 * b + 8 * k + m)
    unfolding checkpoint_located by_state
    located_bytes_lem b k m hb hk hm = by_place
        (λ e. rw e (byte_of_zero m ∙ sym (inv.recovers.holds.initial i (256 * b + 8 * k + m) hi (omega arith) e)))
        (λ e. let p = kept_at l (backup_to_main I) i inv.recovers.holds.valid hi e in
        rw e (byte_of_word (byte_at I) (backup_at l (paired_backup l (backup_to_main I) i) + 256 * b + 8 * k) m inv.recovers.fit.bytes hm
        ∙ ap (λ (n : ℕ). byte_at I n) (omega arith)
        ∙ inv.recovers.holds.backup i (paired_backup l (backup_to_main I) i) (256 * b + 8 * k + m) hi p.0 (omega arith) e p.1))

    -- and so has a block that is not dirty
    clean_bytes : (x : ℕ) → x < segment_size l → is_dirty word (x / 256) ≡ false → byte_at I (main_at l i + x) ≡ P i x
    unfolding dirty_block
    clean_bytes x h d = by_place
        (λ e. inv.blank i x hi h e d ∙ sym (inv.recovers.holds.initial i x hi h e))
        (λ e. let k = inv.recovers.holds.valid.kept i hi e in
        sym (inv.twin i k.0 x hi k.1 h k.2 d) ∙ inv.recovers.holds.backup i k.0 x hi k.1 h e k.2)

    -- block b stored again
    abbrev block : ℕ → Ops
    block b = put_block false (main_at l i + 256 * b) (located_word I from b)

    -- it leaves the checkpoint's bytes
    block_puts : (b : ℕ) → b < l.blocks → Puts (block b) (main_at l i + 256 * b) 256 (λ k. P i (k - main_at l i))
    block_puts b h = puts_block false (main_at l i + 256 * b) _ _ (λ k m x y. located_bytes_lem b k m h x y ∙ ap (P i) (omega arith))

    -- the operations are these blocks, where dirty
    dirty_ops_lem : E ≡ each_dirty word l.blocks block
    unfolding discard_ops restore_dirty
    dirty_ops_lem = rw dirty refl

  -- ---- a segment, dirty or not

  -- without a dirty segment there are none
  clean_ops : dirty_segment s i ≡ false → E ≡ []
  unfolding discard_ops
  clean_ops e = rw e

  -- what is to be shown of the operations, in either case
  by_dirty : (Q : Ops → Type 0) → ((d : dirty_segment s i ≡ true) → Q (each_dirty word l.blocks (block d))) → (dirty_segment s i ≡ false → Q []) → Q E
  by_dirty Q stored none = go (dirty_segment s i) refl
    where
      go : (b : Bool) → dirty_segment s i ≡ b → Q E
      go true d = subst Q (sym (dirty_ops_lem d)) (stored d)
      go false d = subst Q (sym (clean_ops d)) (none d)

  -- they store into the segment,
  pub discard_clear : (k : ℕ) → Outside l i k → Clear k (discard_ops s (replay O I₀) i)
  discard_clear k h = by_dirty (Clear k)
      (λ d. dirty_clear word (main_at l i) l.blocks (block d) (P i) (block_puts d) l.blocks k (omega arith) h) (λ d. tt)

  -- there into no block that is not dirty,
  block_clear : (x : ℕ) → dirty_block s i (x / 256) ≡ false → Clear (main_at l i + x) E
  unfolding dirty_block
  block_clear x e = by_dirty (Clear (main_at l i + x)) (λ d. clean_clear word (main_at l i) l.blocks (block d) (P i) (block_puts d) x e) (λ d. tt)

  -- nothing if the segment is not dirty,
  none_clear : dirty_segment s i ≡ false → (x : ℕ) → Clear (main_at l i + x) E
  none_clear e x = subst (Clear (main_at l i + x)) (sym (clean_ops e)) tt

  -- and so nothing if it holds its checkpoint itself
  own_clear : active_state I i ≡ 1 → (x : ℕ) → Clear (main_at l i + x) E
  own_clear e x = by_dirty (Clear (main_at l i + x)) (λ d. absurd (inv.moved i d e)) (λ d. tt)

  -- the segment has the bytes of the checkpoint then
  restored : (x : ℕ) → x < segment_size l → byte_at (replay E I) (main_at l i + x) ≡ P i x
  restored x h = by_dirty (λ (Y : Ops). byte_at (replay Y I) (main_at l i + x) ≡ P i x)
      (λ d. dirty_leaves word (main_at l i) l.blocks (block d) (P i) (block_puts d) I
      (omega (arith, inv.recovers.fit.long, segment_in_image l i (omega arith))) (clean_bytes d) l.blocks (omega arith) x h)
      (λ d. replay_clear [] I (main_at l i + x) tt ∙ inv.working i x hi h ∙ inv.clean i x hi h d)

  -- CRASHED: the same contents
  pub discard_crash : (n : ℕ) (H : Image) → CrashImage I₀ (O ++ take n (discard_ops s (replay O I₀) i)) H → Recoverable s.layout H P
  discard_crash = stores_crash l O I₀ s P W held inv i hi E discard_clear own_clear

  -- PLAYED WHOLE: the working contents of the segment become the checkpoint's
  pub discard_done : (W' : Contents) → ((x : ℕ) → x < segment_size l → W' i x ≡ P i x)
      → ((u x : ℕ) → u < l.mains → x < segment_size l → u ≢ i → W' u x ≡ W u x)
      → Invariant s.layout (O ++ discard_ops s (replay O I₀) i) (replay (O ++ discard_ops s (replay O I₀) i) I₀) s P W'
  discard_done W' here others = stores_done l O I₀ s P W held inv i hi E discard_clear own_clear s inv.low inv.moved
      (λ u e. (e, λ q. none_clear (subst (λ (w : ℕ). dirty_segment s w ≡ false) q e)))
      (λ u b e. (e, λ q x z. block_clear x (rw z (subst (λ (w : ℕ). dirty_block s w b ≡ false) q e)))) W' worked
    where
      worked : (u x : ℕ) → u < l.mains → x < segment_size l → byte_at (replay E I) (main_at l u + x) ≡ W' u x
      worked u x h k = go (ℕ_discrete u i)
        where
          go : Dec (u ≡ i) → byte_at (replay E I) (main_at l u + x) ≡ W' u x
          go (yes q) = subst (λ (w : ℕ). byte_at (replay E I) (main_at l w + x) ≡ W' w x) (sym q) (restored x k ∙ sym (here x k))
          go (no q) =
              replay_clear E I _ (discard_clear _ (apart l i u (main_at l u + x) (λ e. q (sym e)) (omega arith) (omega arith)))
              ∙ inv.working u x h k ∙ sym (others u x h k q)
