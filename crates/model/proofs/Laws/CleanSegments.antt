-- Laws of a checkpoint that leaves out the flushes in main segments that are not dirty: which places lie in one, and that what is left out of
-- the operations of a checkpoint is just that.
use Prim.Native.Nat.{ℕ, zero, suc, ◌+◌, ◌*◌, ◌≤◌, ◌<◌}
use mathlib.Core.Path.{◌≡◌, refl, sym, ap, ap₂, ◌∙◌}
use mathlib.Core.Logic.{⊎_elim}
use mathlib.Core.Bool.{Bool, true, false, not, cond, true≢false, and-eq-true_iff}
use mathlib.Core.List.{[], ◌∷◌, ◌++◌}
use native.Mathlib.Decide.{dec_lt, ℕ_discrete}
use native.Mathlib.Omega.{arith}
use borrow.Author.Tests.{leb-true, ltb-true, le-leb, lt-ltb, not-true}
use lib.ListN.{length, take, length-append}
use lib.Seq.{length-take-le, take_all}
use Rattle.model.specs.declared.Layout.{Layout}
use Rattle.model.specs.declared.Session.{Session}
use Rattle.model.specs.Range.{cat, sum_to, one_if}
use Rattle.model.specs.Words.{Image}
use Rattle.model.specs.Layout.{line_size, block_size, metadata_size, line_words, block_lines, segment_size, main_at}
use Rattle.model.specs.Container.{committed_epoch, inactive_line}
use Rattle.model.specs.Session.{is_dirty, dirty_word, dirty_segment, dirty_block, adr}
use Rattle.model.specs.Ops.{store, clwb, sfence, Ops, apply, replay, stores, clwbs, each_dirty}
use Rattle.model.specs.Checkpoint.{flush_dirty, states_ops, epoch_ops, checkpoint_ops}
use Rattle.model.specs.CrashExact.{Each}
use Rattle.model.specs.Counts.{dirty_count}
use Rattle.model.specs.CleanSegments.{CleanSegment, flush_dirty_segments, lean_checkpoint_ops, marked_clean, in_clean, leave_out}
use Rattle.model.proofs.Laws.Range.{both, cat_none, any_at, first_some, sum_ext, sum_add}
use Rattle.model.proofs.Laws.Layout.{apart, state_line_high}
use Rattle.model.proofs.Laws.Counts.{length-cat-sum, count_adr, count_clwbs, count_dirty}

-- ---- operations without some flushes

module _ (out : ℕ → Bool) where
  pub leave_out_append : (O E : Ops) → leave_out out (O ++ E) ≡ leave_out out O ++ leave_out out E
  unfolding leave_out
  leave_out_append [] E = refl
  leave_out_append (store p w ∷ O) E = ap (λ (X : Ops). store p w ∷ X) (leave_out_append O E)
  leave_out_append (sfence ∷ O) E = ap (λ (X : Ops). sfence ∷ X) (leave_out_append O E)
  leave_out_append (clwb p ∷ O) E = rw (leave_out_append O E) (go (out p))
    where
      go : (b : Bool) → cond b (leave_out out O ++ leave_out out E) (clwb p ∷ (leave_out out O ++ leave_out out E)) ≡ cond b (leave_out out O) (clwb p ∷ leave_out out O) ++ leave_out out E
      go true = refl
      go false = refl

  pub leave_out-replay : (O : Ops) (I : Image) → replay (leave_out out O) I ≡ replay O I
  unfolding leave_out replay apply
  leave_out-replay [] I = refl
  leave_out-replay (store p w ∷ O) I = leave_out-replay O _
  leave_out-replay (sfence ∷ O) I = leave_out-replay O I
  leave_out-replay (clwb p ∷ O) I = go (out p) (leave_out-replay O I)
    where
      go : (b : Bool) → replay (leave_out out O) I ≡ replay O I → replay (cond b (leave_out out O) (clwb p ∷ leave_out out O)) I ≡ replay O I
      go true e = e
      go false e = e

  -- no store is left out
  pub each_leave_out : (Q : ℕ → Type 0) (O : Ops) → Each Q O → Each Q (leave_out out O)
  unfolding leave_out
  each_leave_out Q [] h = tt
  each_leave_out Q (store p w ∷ O) h = (h.0, each_leave_out Q O h.1)
  each_leave_out Q (sfence ∷ O) h = each_leave_out Q O h
  each_leave_out Q (clwb p ∷ O) h = go (out p) (each_leave_out Q O h)
    where
      go : (b : Bool) → Each Q (leave_out out O) → Each Q (cond b (leave_out out O) (clwb p ∷ leave_out out O))
      go true e = e
      go false e = e

  -- a first part of what is left is a first part of all, without them
  pub leave_out_part : (O : Ops) (p : ℕ) → (q : ℕ) × (q ≤ length O) × (take p (leave_out out O) ≡ leave_out out (take q O))
  unfolding leave_out
  leave_out_part O zero = (0, omega arith, refl)
  leave_out_part [] (suc p) = (0, omega arith, refl)
  leave_out_part (store x w ∷ O) (suc p) = let r = leave_out_part O p in (suc r.0, omega (arith, r.1), ap (λ (X : Ops). store x w ∷ X) r.2)
  leave_out_part (sfence ∷ O) (suc p) = let r = leave_out_part O p in (suc r.0, omega (arith, r.1), ap (λ (X : Ops). sfence ∷ X) r.2)
  leave_out_part (clwb x ∷ O) (suc p) = go (out x) refl (leave_out_part O (suc p)) (leave_out_part O p)
    where
      go : (b : Bool) → out x ≡ b → (q : ℕ) × (q ≤ length O) × (take (suc p) (leave_out out O) ≡ leave_out out (take q O))
          → (q : ℕ) × (q ≤ length O) × (take p (leave_out out O) ≡ leave_out out (take q O))
          → (q : ℕ) × (q ≤ suc (length O)) × (take (suc p) (cond b (leave_out out O) (clwb x ∷ leave_out out O)) ≡ leave_out out (take q (clwb x ∷ O)))
      go true e r t = (suc r.0, omega (arith, r.1), r.2 ∙ sym (rw e))
      go false e r t = (suc t.0, omega (arith, t.1), ap (λ (X : Ops). clwb x ∷ X) t.2 ∙ sym (rw e))

  -- and one that is not all of it is not all
  pub leave_out_more : (O : Ops) (p q : ℕ) → take p (leave_out out O) ≡ leave_out out (take q O) → p < length (leave_out out O) → q < length O
  leave_out_more O p q e h = go (dec_lt q (length O))
    where
      go : Dec (q < length O) → q < length O
      go (yes d) = d
      go (no d) = absurd (omega (arith, ap length e, ap (λ (X : Ops). length (leave_out out X)) (take_all q O (omega arith)), length-take-le p (leave_out out O) (omega arith)))

  leave_out-cat : (n : ℕ) (f g : ℕ → Ops) → ((i : ℕ) → i < n → leave_out out (f i) ≡ g i) → leave_out out (cat n f) ≡ cat n g
  unfolding leave_out cat
  leave_out-cat zero f g h = refl
  leave_out-cat (suc n) f g h = leave_out_append (cat n f) (f n) ∙ ap₂ (λ (X Y : Ops). X ++ Y) (leave_out-cat n f g (λ i l. h i (omega arith))) (h n (omega arith))

  leave_out-stores : (n a : ℕ) (w : ℕ → ℕ) → leave_out out (stores n a w) ≡ stores n a w
  unfolding stores leave_out
  leave_out-stores n a w = leave_out-cat n _ _ (λ k l. refl)

  -- flushes of a run of lines, none of them left out, or all
  flushes_kept : (n a : ℕ) → ((k : ℕ) → k < n → out (a + line_size * k) ≡ false) → leave_out out (clwbs n a) ≡ clwbs n a
  unfolding clwbs leave_out
  flushes_kept n a h = leave_out-cat n _ _ (λ k l. rw (h k l))

  flushes_gone : (n a : ℕ) → ((k : ℕ) → k < n → out (a + line_size * k) ≡ true) → leave_out out (clwbs n a) ≡ []
  unfolding clwbs leave_out
  flushes_gone n a h = leave_out-cat n _ (λ k. []) (λ k l. rw (h k l)) ∙ cat_none n

-- ---- places

module _ (s : Session) where
  abbrev l : Layout
  l = s.layout

  -- a place lies in main segment i
  abbrev Inside : ℕ → ℕ → Type 0
  Inside i p = (main_at l i ≤ p) × (p < main_at l i + segment_size l)

  pub in_clean_lem : (i p : ℕ) → CleanSegment s i → Inside i p → in_clean s p ≡ true
  unfolding in_clean
  in_clean_lem i p c h = any_at l.mains _ i c.0 (both (both (ap not c.1) (le-leb _ _ h.0)) (lt-ltb _ _ h.1))

  pub clean_found : (p : ℕ) → in_clean s p ≡ true → (i : ℕ) × CleanSegment s i × Inside i p
  unfolding in_clean
  clean_found p h = let f = first_some l.mains _ h in let k = simp and-eq-true_iff at f.1 in
      (_, (f.0, not-true _ k.0.0), (leb-true _ _ k.0.1, ltb-true _ _ k.1))

  not_clean : (p : ℕ) → ((i : ℕ) → CleanSegment s i → Inside i p → ⊥) → in_clean s p ≡ false
  not_clean p h = go (in_clean s p) refl
    where
      go : (b : Bool) → in_clean s p ≡ b → in_clean s p ≡ false
      go true e = let f = clean_found p e in absurd (h f.0 f.1 f.2)
      go false e = e

  -- the metadata lie in no segment
  low_not_clean : (p : ℕ) → p < metadata_size → in_clean s p ≡ false
  low_not_clean p h = not_clean p (λ i c x. omega arith)

  -- a place in a dirty segment lies in no other
  dirty_not_clean : (i p : ℕ) → dirty_segment s i ≡ true → Inside i p → in_clean s p ≡ false
  dirty_not_clean i p d h = not_clean p (λ u c x. go u c x (ℕ_discrete u i))
    where
      go : (u : ℕ) → CleanSegment s u → Inside u p → Dec (u ≡ i) → ⊥
      go u c x (yes e) = true≢false (sym d ∙ ap (dirty_segment s) (sym e) ∙ c.1)
      go u c x (no e) = ⊎_elim (λ q. omega arith) (λ q. omega arith) (apart l u i p e h.0 h.1)

  -- ---- the operations of a checkpoint

  abbrev out : ℕ → Bool
  out = in_clean s

  abbrev segment_ops : ℕ → Ops
  segment_ops i = each_dirty (dirty_word s i) l.blocks (λ b. clwbs block_lines (main_at l i + block_size * b))

  segment_kept : (i : ℕ) → dirty_segment s i ≡ true → leave_out out (segment_ops i) ≡ segment_ops i
  unfolding leave_out
  segment_kept i d = leave_out-cat out l.blocks _ _ (λ b h. go b h (is_dirty (dirty_word s i) b))
    where
      go : (b : ℕ) → b < l.blocks → (m : Bool) → leave_out out (cond m (clwbs block_lines (main_at l i + block_size * b)) []) ≡ cond m (clwbs block_lines (main_at l i + block_size * b)) []
      go b h true = flushes_kept out block_lines (main_at l i + block_size * b) (λ k x. dirty_not_clean i _ d (omega arith))
      go b h false = refl

  segment_gone : (i : ℕ) → CleanSegment s i → leave_out out (segment_ops i) ≡ []
  unfolding leave_out
  segment_gone i c = leave_out-cat out l.blocks _ (λ b. []) (λ b h. go b h (is_dirty (dirty_word s i) b)) ∙ cat_none l.blocks
    where
      go : (b : ℕ) → b < l.blocks → (m : Bool) → leave_out out (cond m (clwbs block_lines (main_at l i + block_size * b)) []) ≡ []
      go b h true = flushes_gone out block_lines (main_at l i + block_size * b) (λ k x. in_clean_lem i _ c (omega arith))
      go b h false = refl

  flush_shorter : leave_out out (flush_dirty l s.dirty_blocks) ≡ flush_dirty_segments s
  unfolding flush_dirty flush_dirty_segments
  flush_shorter = leave_out-cat out l.mains segment_ops _ (λ i h. go i h (dirty_segment s i) refl)
    where
      go : (i : ℕ) → i < l.mains → (d : Bool) → dirty_segment s i ≡ d → leave_out out (segment_ops i) ≡ cond d (segment_ops i) []
      go i h true e = segment_kept i e
      go i h false e = segment_gone i (h, e)

  states_kept : (I : Image) → leave_out out (states_ops I s.dirty_segments) ≡ states_ops I s.dirty_segments
  unfolding states_ops leave_out
  states_kept I =
      leave_out_append out (stores line_words (inactive_line I) _) (clwb (inactive_line I) ∷ [])
      ∙ ap₂ (λ (X Y : Ops). X ++ Y) (leave_out-stores out line_words (inactive_line I) _)
      (rw (low_not_clean (inactive_line I) (omega (arith, state_line_high (suc (committed_epoch I))))))

  epoch_kept : (I : Image) → leave_out out (epoch_ops I) ≡ epoch_ops I
  unfolding epoch_ops leave_out
  epoch_kept I = rw (low_not_clean 0 (omega arith))

  pub lean_shorter : (I : Image) → lean_checkpoint_ops s I ≡ leave_out (in_clean s) (checkpoint_ops s I)
  unfolding lean_checkpoint_ops checkpoint_ops leave_out
  lean_shorter I =
      let F : Ops = flush_dirty l s.dirty_blocks in
      let S : Ops = states_ops I s.dirty_segments in
      sym (leave_out_append out (F ++ sfence ∷ S ++ sfence ∷ epoch_ops I) (sfence ∷ [])
      ∙ ap (λ (X : Ops). X ++ sfence ∷ []) (leave_out_append out (F ++ sfence ∷ S) (sfence ∷ epoch_ops I)
      ∙ ap₂ (λ (X Y : Ops). X ++ sfence ∷ Y) (leave_out_append out F (sfence ∷ S) ∙ ap₂ (λ (X Y : Ops). X ++ sfence ∷ Y) flush_shorter (states_kept I)) (epoch_kept I)))

  -- ---- how many

  marks : ℕ → ℕ
  marks i = sum_to l.blocks (λ b. one_if (dirty_block s i b))

  length_segment : (i : ℕ) → length (segment_ops i) ≡ 4 * marks i
  unfolding marks dirty_count dirty_block
  length_segment i = count_adr _ (count_dirty adr (dirty_word s i) l.blocks 4 _ (λ b. count_clwbs adr block_lines _))

  length-flushes : length (flush_dirty l s.dirty_blocks) ≡ length (flush_dirty_segments s) + 4 * marked_clean s
  unfolding flush_dirty flush_dirty_segments marked_clean marks
  length-flushes =
      let n : length (cat l.mains segment_ops) ≡ 4 * sum_to l.mains marks = length-cat-sum l.mains 4 marks segment_ops (λ i h. length_segment i) in
      let m : length (flush_dirty_segments s) ≡ 4 * sum_to l.mains (λ i. cond (dirty_segment s i) (marks i) 0) =
      length-cat-sum l.mains 4 (λ i. cond (dirty_segment s i) (marks i) 0) _ (λ i h. when i (dirty_segment s i)) in
      let e : sum_to l.mains marks ≡ sum_to l.mains (λ i. cond (dirty_segment s i) (marks i) 0) + marked_clean s =
      sum_ext l.mains marks _ (λ i h. either i (dirty_segment s i)) ∙ sum_add l.mains (λ i. cond (dirty_segment s i) (marks i) 0) (λ i. cond (dirty_segment s i) 0 (marks i)) in
      omega arith
    where
      when : (i : ℕ) (d : Bool) → length (cond d (segment_ops i) []) ≡ 4 * cond d (marks i) 0
      when i true = length_segment i
      when i false = omega arith

      either : (i : ℕ) (d : Bool) → marks i ≡ cond d (marks i) 0 + cond d 0 (marks i)
      either i true = omega arith
      either i false = omega arith

  pub lean_fewer : (I : Image) → length (checkpoint_ops s I) ≡ length (lean_checkpoint_ops s I) + block_lines * marked_clean s
  unfolding checkpoint_ops lean_checkpoint_ops
  lean_fewer I =
      let F : Ops = flush_dirty l s.dirty_blocks in
      let S : Ops = states_ops I s.dirty_segments in
      let E : Ops = epoch_ops I in
      omega (
        arith,
        length-flushes,
        length-append (F ++ sfence ∷ S ++ sfence ∷ E) (sfence ∷ []),
        length-append (F ++ sfence ∷ S) (sfence ∷ E),
        length-append F (sfence ∷ S),
        length-append (flush_dirty_segments s ++ sfence ∷ S ++ sfence ∷ E) (sfence ∷ []),
        length-append (flush_dirty_segments s ++ sfence ∷ S) (sfence ∷ E),
        length-append (flush_dirty_segments s) (sfence ∷ S),
      )
