-- The operations of opening, write, discard and checkpoint are well formed, whatever the image and the session.
use Prim.Native.Nat.{ℕ, zero, suc, ◌+◌, ◌-◌, ◌*◌, ◌/◌, ◌%◌, ◌≤◌, ◌<◌}
use mathlib.Core.Path.{◌≡◌, refl, sym, subst}
use mathlib.Core.Bool.{Bool, true, false, cond}
use mathlib.Core.List.{[], ◌∷◌, ◌++◌}
use native.Mathlib.Omega.{arith}
use lib.ListN.{length}
use Rattle.model.specs.declared.Layout.{Layout}
use Rattle.model.specs.declared.Session.{Session}
use Rattle.model.specs.declared.Action.{Action}
use Rattle.model.specs.declared.Action.TheVariants.{Nothing, ZeroMain, CopyToBackup, CopyToMain}
use Rattle.std.specs.Prelude.{Option}
use Rattle.model.specs.declared.Plan.{Plan}
use Rattle.model.specs.declared.Plan.TheVariants.{NoCopy, OwnBackup, NewBackup, NoneFree}
use Rattle.model.specs.Range.{cat}
use Rattle.model.specs.Words.{Image, word_of}
use Rattle.model.specs.Layout.{word_size, line_size, block_size, metadata_size, block_words, block_lines, line_words, most, pairs_at, ss_backup, image_size, segment_size}
use Rattle.model.specs.Container.{committed_epoch, active_state, active_line, inactive_line, seg_state, backup_to_main, is_paired, paired_backup, by_state}
use Rattle.model.specs.Session.{is_dirty, dirty_word, dirty_segment}
use Rattle.model.specs.Ops.{clwb, sfence, stores, clwbs, put_block, persist_copy, persist_zero, copy_segment, zero_segment, store_byte}
use Rattle.model.specs.Open.{recovery_action, action_ops, recover_segment, recovery_ops}
use Rattle.model.specs.Write.{WriteArgs, needs_copy, copy_plan, copies, pair_ops, copy_dirty, backup_ops, copy_on_write_ops, span_ops, write_ops}
use Rattle.model.specs.Discard.{restore_dirty, discard_ops}
use Rattle.model.specs.Checkpoint.{flush_dirty, next_states, states_ops, checkpoint_ops}
use Rattle.model.proofs.Laws.Container.{paired_at}
use Rattle.model.proofs.Laws.Write.{new_of, some_free}
use Rattle.model.proofs.Laws.Layout.{metadata_inside, image_lines_lem, segment_in_image, state_line_low, state_line_high, state_line_whole}
use Rattle.model.proofs.Argument.Phases.{backup_phase, state_phase, copy_phases, blocks_phase, states_phase, epoch_phase, before_epoch, checkpoint_phases}
use Rattle.model.proofs.Laws.Ops.{OpOk, AllOk, all_cat, all_when, all_ok_append}

-- ---- runs of operations

module _ (lines : ℕ) where
  pub ok_stores : (n a : ℕ) (w : ℕ → ℕ) → a % word_size ≡ 0 → a + word_size * n ≤ line_size * lines → AllOk lines (stores n a w)
  unfolding stores
  ok_stores n a w h b = all_cat (OpOk lines) n _ (λ i k. ((omega arith, omega arith), tt))

  pub ok_clwbs : (n a : ℕ) → a % line_size ≡ 0 → a + line_size * n ≤ line_size * lines → AllOk lines (clwbs n a)
  unfolding clwbs
  ok_clwbs n a h b = all_cat (OpOk lines) n _ (λ i k. ((omega arith, omega arith), tt))

  -- a block, written back or not
  pub ok_put_block : (flush : Bool) (a : ℕ) (w : ℕ → ℕ) → a % line_size ≡ 0 → a + block_size ≤ line_size * lines → AllOk lines (put_block flush a w)
  unfolding put_block
  ok_put_block flush a w h b =
      all_ok_append lines (stores block_words a w) (cond flush (clwbs block_lines a) []) (ok_stores block_words a w (omega arith) (omega arith))
      (all_when (OpOk lines) flush (clwbs block_lines a) (λ e. ok_clwbs block_lines a h (omega arith)))

  pub ok_copy_segment : (l : Layout) (I : Image) (from to : ℕ) → to % line_size ≡ 0 → to + segment_size l ≤ line_size * lines
      → AllOk lines (copy_segment l I from to)
  unfolding copy_segment persist_copy
  ok_copy_segment l I from to h b = all_cat (OpOk lines) l.blocks _ (λ i k. ok_put_block true (to + block_size * i) _ (omega arith) (omega arith))

  pub ok_zero_segment : (l : Layout) (to : ℕ) → to % line_size ≡ 0 → to + segment_size l ≤ line_size * lines → AllOk lines (zero_segment l to)
  unfolding zero_segment persist_zero
  ok_zero_segment l to h b = all_cat (OpOk lines) l.blocks _ (λ i k. ok_put_block true (to + block_size * i) _ (omega arith) (omega arith))

-- the lines of an image, and what lies inside the image
abbrev pub image_lines : Layout → ℕ
image_lines l = image_size l / line_size

inside_lines : (l : Layout) (n : ℕ) → n ≤ image_size l → n ≤ line_size * image_lines l
inside_lines l n h = omega (arith, image_lines_lem l)

-- ---- recovery

module _ (l : Layout) (I : Image) where
  ok_action : (i j : ℕ) → i < l.mains → j < l.backups → (a : Action) → AllOk (image_lines l) (action_ops l I i j a)
  unfolding action_ops
  ok_action i j h k Nothing = tt
  ok_action i j h k ZeroMain = ok_zero_segment (image_lines l) l _ (omega arith) (inside_lines l _ (segment_in_image l i (omega arith)))
  ok_action i j h k CopyToBackup = ok_copy_segment (image_lines l) l I _ _ (omega arith) (inside_lines l _ (segment_in_image l (l.mains + j) (omega arith)))
  ok_action i j h k CopyToMain = ok_copy_segment (image_lines l) l I _ _ (omega arith) (inside_lines l _ (segment_in_image l i (omega arith)))

  -- an unpaired segment is not copied
  ok_recovery : (i : ℕ) → i < l.mains → (st : ℕ) (b : Bool) → is_paired l (backup_to_main I) i ≡ b
      → AllOk (image_lines l) (action_ops l I i (paired_backup l (backup_to_main I) i) (recovery_action st b))
  unfolding action_ops recovery_action by_state
  ok_recovery i h st true e = ok_action i _ h (paired_at l (backup_to_main I) i e).0 (recovery_action st true)
  ok_recovery i h zero false e = ok_zero_segment (image_lines l) l _ (omega arith) (inside_lines l _ (segment_in_image l i (omega arith)))
  ok_recovery i h (suc zero) false e = tt
  ok_recovery i h (suc (suc st)) false e = tt

  pub recovery_ok : (line : ℕ) → AllOk (image_lines l) (recovery_ops l I line)
  unfolding recovery_ops recover_segment
  recovery_ok line =
      all_ok_append (image_lines l) (cat l.mains (recover_segment l I line)) (sfence ∷ [])
      (all_cat (OpOk (image_lines l)) l.mains _ (λ i h. ok_recovery i h (seg_state I line i) (is_paired l (backup_to_main I) i) refl))
      (omega (arith, metadata_inside l, image_lines_lem l), tt)

-- ---- write

-- one byte of the metadata stored in its word
ok_store_byte : (l : Layout) (I : Image) (i b : ℕ) → i < metadata_size → OpOk (image_lines l) (store_byte I i b)
ok_store_byte l I i b h = (omega arith, omega (arith, metadata_inside l, image_lines_lem l))

module _ (s : Session) (I : Image) where
  abbrev size : ℕ
  size = image_lines s.layout

  abbrev word : ℕ → ℕ
  word i = dirty_word s i

  ok_copy_dirty : (i j : ℕ) → j < s.layout.backups → AllOk size (copy_dirty s.layout I (word i) i j)
  unfolding copy_dirty persist_copy
  ok_copy_dirty i j h =
      all_cat (OpOk size) s.layout.blocks _
      (λ b k. all_when (OpOk size) (is_dirty (word i) b) _
      (λ e. ok_put_block size true _ _ (omega arith) (inside_lines s.layout _ (omega (arith, segment_in_image s.layout (s.layout.mains + j) (omega arith))))))

  -- a backup segment that the plan names is one of the layout
  abbrev Named : Plan → Type 0
  Named NoCopy = Unit {0}
  Named (OwnBackup j) = j < s.layout.backups
  Named (NewBackup j) = j < s.layout.backups
  Named NoneFree = Unit {0}

  ok_backup : (i : ℕ) (p : Plan) → s.layout.backups ≤ most → Named p → AllOk size (backup_ops s.layout I (word i) i p)
  unfolding backup_ops pair_ops
  ok_backup i NoCopy m h = tt
  ok_backup i (OwnBackup j) m h = ok_copy_dirty i j h
  ok_backup i (NewBackup j) m h = (
    ok_store_byte s.layout I (pairs_at + j) i (omega arith),
    (
      (omega arith, omega (arith, metadata_inside s.layout, image_lines_lem s.layout)),
      ok_copy_segment size s.layout I _ _ (omega arith) (inside_lines s.layout _ (segment_in_image s.layout (s.layout.mains + j) (omega arith))),
    ),
  )
  ok_backup i NoneFree m h = tt

  ok_copy_on_write : (i : ℕ) (p : Plan) → s.layout.mains ≤ most → s.layout.backups ≤ most → i < s.layout.mains → Named p
      → AllOk size (copy_on_write_ops s.layout I (word i) i p)
  ok_copy_on_write i p m n h k =
      let low = state_line_low (committed_epoch I) in
      let high = state_line_high (committed_epoch I) in
      let room = metadata_inside s.layout in
      let whole = image_lines_lem s.layout in
      subst (AllOk size) (sym (copy_phases s.layout I (word i) i p))
      (all_when (OpOk size) (copies p) (backup_phase s.layout I (word i) i p ++ state_phase I i)
      (λ c. all_ok_append size (backup_phase s.layout I (word i) i p) (state_phase I i)
      (all_ok_append size (backup_ops s.layout I (word i) i p) (sfence ∷ []) (ok_backup i p n k) (omega arith, tt))
      (ok_store_byte s.layout I (active_line I + i) ss_backup (omega arith), ((state_line_whole (committed_epoch I), omega arith), (omega arith, tt)))))

  -- the plan of a write names its own backup segment, or the new one
  plan_named : (i : ℕ) → (some_free s I ≡ true → new_of s I < s.layout.backups) → Named (copy_plan s I i)
  unfolding copy_plan
  plan_named i h = go (needs_copy s I i) (is_paired s.layout (backup_to_main I) i) (some_free s I) refl refl
    where
      go : (a b c : Bool) → is_paired s.layout (backup_to_main I) i ≡ b → some_free s I ≡ c
          → Named (cond a (cond b (OwnBackup (paired_backup s.layout (backup_to_main I) i)) (cond c (NewBackup (new_of s I)) NoneFree)) NoCopy)
      go false b c e q = tt
      go true true c e q = (paired_at s.layout (backup_to_main I) i e).0
      go true false true e q = h q
      go true false false e q = tt

  -- a span inside its main segment
  ok_span : (w : WriteArgs) → w.main < s.layout.mains → w.block < s.layout.blocks → 0 < length w.bytes
      → w.offset + length w.bytes ≤ block_size * (s.layout.blocks - w.block) → AllOk size (span_ops s.layout I w)
  unfolding span_ops
  ok_span w h k m n =
      let inside = segment_in_image s.layout w.main (omega arith) in
      let whole = image_lines_lem s.layout in
      ok_stores size _ _ _ (omega arith) (inside_lines s.layout _ (omega arith))

  pub write_ok : (w : WriteArgs) → s.layout.mains ≤ most → s.layout.backups ≤ most → w.main < s.layout.mains
      → w.block < s.layout.blocks → 0 < length w.bytes
      → w.offset + length w.bytes ≤ block_size * (s.layout.blocks - w.block) → (some_free s I ≡ true → new_of s I < s.layout.backups) → AllOk (image_lines s.layout) (write_ops s I w)
  unfolding write_ops
  write_ok w m n h k a b c =
      all_ok_append size (copy_on_write_ops s.layout I (word w.main) w.main (copy_plan s I w.main)) _
      (ok_copy_on_write w.main (copy_plan s I w.main) m n h (plan_named w.main c)) (ok_span w h k a b)

  -- ---- discard

  ok_restore_dirty : (i : ℕ) (from : Option ℕ) → i < s.layout.mains → AllOk size (restore_dirty s.layout I (word i) i from)
  unfolding restore_dirty
  ok_restore_dirty i from h =
      all_cat (OpOk size) s.layout.blocks _
      (λ b k. all_when (OpOk size) (is_dirty (word i) b) _
      (λ e. ok_put_block size false _ _ (omega arith) (inside_lines s.layout _ (omega (arith, segment_in_image s.layout i (omega arith))))))

  pub discard_ok : (i : ℕ) → i < s.layout.mains → AllOk (image_lines s.layout) (discard_ops s I i)
  unfolding discard_ops
  discard_ok i h = all_when (OpOk size) (dirty_segment s i) _ (λ e. ok_restore_dirty i _ h)

  -- ---- checkpoint

  ok_flush_dirty : AllOk size (flush_dirty s.layout s.dirty_blocks)
  unfolding flush_dirty
  ok_flush_dirty =
      all_cat (OpOk size) s.layout.mains _ (λ i h. all_cat (OpOk size) s.layout.blocks _ (λ b k. all_when (OpOk size) (is_dirty (word i) b) _
      (λ e. ok_clwbs size block_lines _ (omega arith) (inside_lines s.layout _ (omega (arith, segment_in_image s.layout i (omega arith)))))))

  ok_states : AllOk size (states_ops I s.dirty_segments)
  unfolding states_ops
  ok_states =
      let high = state_line_high (suc (committed_epoch I)) in
      let whole = state_line_whole (suc (committed_epoch I)) in
      let room = metadata_inside s.layout in
      let lines = image_lines_lem s.layout in
      all_ok_append size (stores line_words (inactive_line I) (λ k. word_of (next_states s.dirty_segments (active_state I)) (word_size * k))) (clwb (inactive_line I) ∷ [])
      (ok_stores size line_words (inactive_line I) _ (omega arith) (inside_lines s.layout _ (omega arith))) ((whole, omega arith), tt)

  pub checkpoint_ok : AllOk (image_lines s.layout) (checkpoint_ops s I)
  checkpoint_ok =
      let room = metadata_inside s.layout in
      let lines = image_lines_lem s.layout in
      subst (AllOk size) (sym (checkpoint_phases s I))
      (all_ok_append size (before_epoch s I) (epoch_phase I)
      (all_ok_append size (blocks_phase s) (states_phase s I)
      (all_ok_append size (flush_dirty s.layout s.dirty_blocks) (sfence ∷ []) ok_flush_dirty (omega arith, tt))
      (all_ok_append size (states_ops I s.dirty_segments) (sfence ∷ []) ok_states (omega arith, tt)))
      ((refl, omega arith), ((refl, omega arith), (omega arith, tt))))
