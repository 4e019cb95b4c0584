-- Stores into a run of blocks of a main segment that does not hold its checkpoint: no stage of them matters to recovery, and
-- played whole they leave the invariant with those blocks dirty.
use Prim.Native.Nat.{ℕ, ◌+◌, ◌*◌, ◌/◌, ◌≤◌, ◌<◌}
use mathlib.Core.Path.{◌≡◌, sym, ◌∙◌, subst}
use mathlib.Core.Logic.{◌≢◌, ◌⊎◌, inl, inr, ⊎_elim}
use mathlib.Core.Bool.{Bool, true, false, true≢false}
use mathlib.Core.List.{◌++◌}
use native.Mathlib.Decide.{dec_lt, ℕ_discrete}
use native.Mathlib.Omega.{arith}
use lib.ListN.{length, take}
use Rattle.model.specs.declared.Layout.{Layout}
use Rattle.model.specs.declared.Session.{Session}
use Rattle.model.specs.Words.{Image, byte_at, Bytes}
use Rattle.model.specs.Layout.{segment_size, main_at}
use Rattle.model.specs.Container.{active_state}
use Rattle.model.specs.Session.{dirty_segment, dirty_block, dirty_word, with_dirty}
use Rattle.model.specs.Ops.{Ops, replay}
use Rattle.model.specs.Crash.{CrashImage}
use Rattle.model.proofs.Argument.Persist.{Clear, replay_clear}
use Rattle.model.proofs.Argument.Runs.{Puts, puts_clear}
use Rattle.model.proofs.Laws.Layout.{segment_in_image}
use Rattle.model.proofs.Laws.Session.{dirty_segment_same, dirty_segment_other, dirty_block_same, dirty_block_rest, dirty_block_other}
use Rattle.model.proofs.Argument.View.{Recoverable}
use Rattle.model.proofs.Argument.Holds.{Contents}
use Rattle.model.proofs.Argument.Invariant.{Invariant}
use Rattle.model.proofs.Argument.Stores.{Outside, stores_crash, stores_done}

-- ---- the session with the c blocks from block b on of main segment i dirty

abbrev pub marked : Session → ℕ → ℕ → ℕ → Session
marked s i b c = with_dirty s i b c (dirty_word s i)

-- block k is not one of the c blocks from block b on
abbrev NotAmong : ℕ → ℕ → ℕ → Type 0
NotAmong b c k = (k < b) ⊎ (b + c ≤ k)

module _ (s : Session) (i b c : ℕ) where
  -- of another segment than i nothing changes, and segment i is dirty
  marked_segment : (u : ℕ) (d : Bool) → u ≢ i → dirty_segment (marked s i b c) u ≡ d → dirty_segment s u ≡ d
  marked_segment u d ne e = sym (dirty_segment_other s i b c (dirty_word s i) u ne) ∙ e

  marked_clean_lem : (u : ℕ) → dirty_segment (marked s i b c) u ≡ false → (u ≢ i) × (dirty_segment s u ≡ false)
  marked_clean_lem u e = (ne, marked_segment u false ne e)
    where
      ne : u ≢ i
      ne q = true≢false (sym (dirty_segment_same s i b c (dirty_word s i)) ∙ subst (λ (n : ℕ). dirty_segment (marked s i b c) n ≡ false) q e)

  marked_block : i < length s.dirty_blocks → (u k : ℕ) → dirty_block (marked s i b c) u k ≡ false → (dirty_block s u k ≡ false) × (u ≡ i → NotAmong b c k)
  marked_block h u k e = go (ℕ_discrete u i) (dec_lt k b) (dec_lt k (b + c))
    where
      m : ℕ
      m = dirty_word s i

      here : u ≡ i → dirty_block (marked s i b c) i k ≡ false
      here q = subst (λ (n : ℕ). dirty_block (marked s i b c) n k ≡ false) q e

      rest : u ≡ i → NotAmong b c k → (dirty_block s u k ≡ false) × (u ≡ i → NotAmong b c k)
      rest q o = (
        subst (λ (n : ℕ). dirty_block s n k ≡ false) (sym q) (unfold dirty_block in (sym (dirty_block_rest s i b c m h k o) ∙ here q)),
        λ x. o,
      )

      go : Dec (u ≡ i) → Dec (k < b) → Dec (k < b + c) → (dirty_block s u k ≡ false) × (u ≡ i → NotAmong b c k)
      go (no q) x y = (sym (dirty_block_other s i b c m u q k) ∙ e, λ z. absurd (q z))
      go (yes q) (yes x) y = rest q (inl x)
      go (yes q) (no x) (no y) = rest q (inr (omega arith))
      go (yes q) (no x) (yes y) = absurd (true≢false (sym (dirty_block_same s i b c m h k (omega arith) y) ∙ here q))

-- ---- stores E into the c blocks from block b on of main segment i, leaving g in a stretch of them

module _ (l : Layout) (O : Ops) (I₀ : Image) (s : Session) (P W : Contents) (held : Bytes I₀) (inv : Invariant l O (replay O I₀) s P W)
    (i b c : ℕ) (hi : i < l.mains) (hc : b + c ≤ l.blocks) (ne : active_state (replay O I₀) i ≢ 1)
    (E : Ops) (a n : ℕ) (g : ℕ → ℕ) (puts : Puts E a n g) (from : main_at l i + 256 * b ≤ a) (upto : a + n ≤ main_at l i + 256 * (b + c)) where
  abbrev I : Image
  I = replay O I₀

  -- E stores into the segment, and there into the blocks
  within : (k : ℕ) → Outside l i k → Clear k E
  within k h = puts_clear puts k (⊎_elim (λ x. inl (omega arith)) (λ x. inr (omega arith)) h)

  other_blocks : (x : ℕ) → NotAmong b c (x / 256) → Clear (main_at l i + x) E
  other_blocks x h = puts_clear puts (main_at l i + x) (⊎_elim (λ y. inl (omega arith)) (λ y. inr (omega arith)) h)

  -- CRASHED: the same contents
  pub span_crash : (p : ℕ) (H : Image) → CrashImage I₀ (O ++ take p E) H → Recoverable l H P
  span_crash = stores_crash l O I₀ s P W held inv i hi E within (λ e. absurd (ne e))

  module _ (len : i < length s.dirty_blocks) (W' : Contents)
      (outside : (u x : ℕ) → u < l.mains → x < segment_size l → (main_at l u + x < a) ⊎ (a + n ≤ main_at l u + x) → W' u x ≡ W u x)
      (inside : (u x : ℕ) → u < l.mains → x < segment_size l → a ≤ main_at l u + x → main_at l u + x < a + n → g (main_at l u + x) ≡ W' u x) where
    worked : (u x : ℕ) → u < l.mains → x < segment_size l → byte_at (replay E I) (main_at l u + x) ≡ W' u x
    worked u x h k = go (dec_lt (main_at l u + x) a) (dec_lt (main_at l u + x) (a + n))
      where
        left : (main_at l u + x < a) ⊎ (a + n ≤ main_at l u + x) → byte_at (replay E I) (main_at l u + x) ≡ W' u x
        left y = replay_clear E I _ (puts_clear puts _ y) ∙ inv.working u x h k ∙ sym (outside u x h k y)

        go : Dec (main_at l u + x < a) → Dec (main_at l u + x < a + n) → byte_at (replay E I) (main_at l u + x) ≡ W' u x
        go (yes y) t = left (inl y)
        go (no y) (no t) = left (inr (omega arith))
        go (no y) (yes t) =
            puts.leaves I (main_at l u + x) (omega (arith, inv.recovers.fit.long, segment_in_image l i (omega arith))) (omega arith) t
            ∙ inside u x h k (omega arith) t

    below : (u : ℕ) → dirty_segment (marked s i b c) u ≡ true → u < l.mains
    below u e = go (ℕ_discrete u i)
      where
        go : Dec (u ≡ i) → u < l.mains
        go (yes q) = omega arith
        go (no q) = inv.low u (marked_segment s i b c u true q e)

    not_main : (u : ℕ) → dirty_segment (marked s i b c) u ≡ true → active_state I u ≢ 1
    not_main u e q = go (ℕ_discrete u i)
      where
        go : Dec (u ≡ i) → ⊥
        go (yes y) = ne (subst (λ (w : ℕ). active_state I w ≡ 1) y q)
        go (no y) = inv.moved u (marked_segment s i b c u true y e) q

    -- PLAYED WHOLE: the working contents become W'
    pub span_done : Invariant l (O ++ E) (replay (O ++ E) I₀) (marked s i b c) P W'
    span_done = stores_done l O I₀ s P W held inv i hi E within (λ e. absurd (ne e)) (marked s i b c) below not_main
        (λ u e. let y = marked_clean_lem s i b c u e in (y.1, λ q. absurd (y.0 q)))
        (λ u k d. let y = marked_block s i b c len u k d in (y.0, λ q x e. other_blocks x (subst (NotAmong b c) (sym e) (y.1 q)))) W' worked
