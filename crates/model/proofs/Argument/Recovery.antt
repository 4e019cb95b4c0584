-- Recovery by a line of states: crashed anywhere, it leaves what that line recovers to the same contents; played whole it
-- shows them.
pub mod Segment
pub mod Opening
use Prim.Native.Nat.{ℕ, zero, suc, ◌+◌, ◌-◌, ◌*◌, ◌/◌, ◌≤◌, ◌<◌}
use mathlib.Core.Path.{◌≡◌, refl, sym, ap, ◌∙◌, subst}
use mathlib.Core.Logic.{◌≢◌, inl}
use mathlib.Core.List.{[], ◌∷◌, ◌++◌}
use native.Mathlib.Decide.{ℕ_discrete}
use native.Mathlib.Omega.{arith}
use lib.ListN.{length, take}
use Rattle.model.specs.declared.Layout.{Layout}
use Rattle.model.specs.Range.{cat}
use Rattle.model.specs.Words.{Image, byte_at, Bytes}
use Rattle.model.specs.Layout.{state_line, segment_size, main_at, backup_at}
use Rattle.model.specs.Container.{seg_state, backup_to_main}
use Rattle.model.specs.Ops.{sfence, Ops, replay}
use Rattle.model.specs.Open.{recovery_ops}
use Rattle.model.specs.Crash.{CrashImage}
use Rattle.model.proofs.Argument.Persist.{Misses, Clear, each_append, each_take, length-replay, replay_clear, replay_append, replay_small}
use Rattle.model.proofs.Argument.Settled.{Settled, Flushed, crash_byte, crash_bytes, settled_off, Keeps}
use Rattle.model.proofs.Argument.Runs.{puts_clear, each_cat, neat_cat, flushed_cat, neat_keeps}
use Rattle.model.proofs.Laws.Layout.{segment_in_image, apart, state_line_high}
use Rattle.model.proofs.Argument.View.{RecoverableBy, AlikeBy}
use Rattle.model.proofs.Argument.Holds.{Contents}
use Rattle.model.proofs.Argument.Recovery.Segment.{Treated, turn, neat_turn, turn-treated, main, backup, idle}

-- nothing played leaves every line settled
pub settled_nil : (ℓ : ℕ) → Settled ℓ []
settled_nil ℓ = settled_off ℓ [] (λ i e. tt)

-- the line is one of the two lines of states
abbrev pub StatesLine : ℕ → Type 0
StatesLine line = (e : ℕ) × (line ≡ state_line e)

module _ (l : Layout) (line : ℕ) (whole : StatesLine line) (I : Image) (P : Contents) (r : RecoverableBy l line I P) where
  -- what recovery does not store to: the metadata, a segment that holds its checkpoint, the backup of one in state 2
  pub data Needed (k : ℕ) : Type 0 where
    meta : k < 512 → Needed k
    own : (i : ℕ) → i < l.mains → seg_state I line i ≡ 1 → main_at l i ≤ k → k < main_at l i + segment_size l → Needed k
    kept : (i j : ℕ) → i < l.mains → j < l.backups → seg_state I line i ≡ 2 → backup_to_main I j ≡ i
        → backup_at l j ≤ k → k < backup_at l j + segment_size l → Needed k

  needed_clear : (i k : ℕ) (O : Ops) → i < l.mains → Needed k → Treated l line I P i O → Clear k O
  needed_clear i k O h (meta x) (main a u f) = puts_clear u k (inl (omega arith))
  needed_clear i k O h (meta x) (backup j b a c u) = puts_clear u k (inl (omega arith))
  needed_clear i k O h (meta x) (idle a b e) = rw e tt
  needed_clear i k O h (own w m q x y) (main a u f) =
      puts_clear u k (apart l i w k (λ e. a (subst (λ (t : ℕ). seg_state I line t ≡ 1) (sym e) q)) x y)
  needed_clear i k O h (own w m q x y) (backup j b a c u) = puts_clear u k (apart l (l.mains + j) w k (omega arith) x y)
  needed_clear i k O h (own w m q x y) (idle a b e) = rw e tt
  needed_clear i k O h (kept w t m n q c x y) (main a u f) = puts_clear u k (apart l i (l.mains + t) k (omega arith) x y)
  needed_clear i k O h (kept w t m n q c x y) (backup j b a d u) =
      puts_clear u k (apart l (l.mains + j) (l.mains + t) k (λ e. other (omega arith)) x y)
    where
      other : j ≡ t → ⊥
      other e = let g : i ≡ w = sym d ∙ ap (λ (n : ℕ). backup_to_main I n) e ∙ c in
          let g' : seg_state I line i ≡ seg_state I line w = ap (λ (n : ℕ). seg_state I line n) g in omega arith
  needed_clear i k O h (kept w t m n q c x y) (idle a b e) = rw e tt

  abbrev E : Ops
  E = recovery_ops l I line

  abbrev turns : ℕ → Ops
  turns n = cat n (turn l line I)

  pub recovery_clear : (k : ℕ) → Needed k → Clear k E
  unfolding recovery_ops
  recovery_clear k d = each_append (Misses k) (turns l.mains) (sfence ∷ [])
      (each_cat (Misses k) l.mains (turn l line I) (λ i h. needed_clear i k _ h d (turn-treated l line I P r i h))) tt

  -- after the turns of segments below n, a turn of segment i among them left f there if every other leaves that byte alone
  turns_leave : (k y i n : ℕ) → i < n → n ≤ l.mains → ((m : ℕ) → m < l.mains → m ≢ i → Clear k (turn l line I m))
      → ((J : Image) → length J ≡ length I → byte_at (replay (turn l line I i) J) k ≡ y) → byte_at (replay (turns n) I) k ≡ y
  unfolding cat
  turns_leave k y i zero h x others here = absurd (omega arith)
  turns_leave k y i (suc n) h x others here =
      ap (λ (J : Image). byte_at J k) (replay_append (turns n) (turn l line I n) I)
      ∙ go (λ g. turns_leave k y i n g (omega arith) others here) (ℕ_discrete n i)
    where
      go : (i < n → byte_at (replay (turns n) I) k ≡ y) → Dec (n ≡ i) → byte_at (replay (turn l line I n) (replay (turns n) I)) k ≡ y
      go ih (yes e) = subst (λ (m : ℕ). byte_at (replay (turn l line I m) (replay (turns n) I)) k ≡ y) (sym e) (here (replay (turns n) I) (length-replay (turns n) I))
      go ih (no e) = replay_clear (turn l line I n) (replay (turns n) I) k (others n x e) ∙ ih (omega arith)

  recovery_leave : (k y i : ℕ) → i < l.mains → ((m : ℕ) → m < l.mains → m ≢ i → Clear k (turn l line I m))
      → ((J : Image) → length J ≡ length I → byte_at (replay (turn l line I i) J) k ≡ y) → byte_at (replay E I) k ≡ y
  unfolding recovery_ops
  recovery_leave k y i h others here =
      ap (λ (J : Image). byte_at J k) (replay_append (turns l.mains) (sfence ∷ []) I)
      ∙ replay_clear (sfence ∷ []) (replay (turns l.mains) I) k tt ∙ turns_leave k y i l.mains h (omega arith) others here

  -- another segment's turn leaves main segment i alone
  other_clear : (i m k : ℕ) (O : Ops) → i < l.mains → m ≢ i → main_at l i ≤ k → k < main_at l i + segment_size l → Treated l line I P m O → Clear k O
  other_clear i m k O h ne x y (main a u f) = puts_clear u k (apart l m i k ne x y)
  other_clear i m k O h ne x y (backup j b a c u) = puts_clear u k (apart l (l.mains + j) i k (omega arith) x y)
  other_clear i m k O h ne x y (idle a b e) = rw e tt

  main_turn : (i k : ℕ) (O : Ops) (J : Image) → i < l.mains → length J ≡ length I → seg_state I line i ≢ 1 → main_at l i ≤ k → k < main_at l i + segment_size l
      → Treated l line I P i O → byte_at (replay O J) k ≡ P i (k - main_at l i)
  main_turn i k O J h n ne x y (main a u f) = u.leaves J k (omega (arith, r.fit.long, segment_in_image l i (omega arith))) x y
  main_turn i k O J h n ne x y (backup j b a c u) = absurd (ne a)
  main_turn i k O J h n ne x y (idle a b e) = absurd (ne a)

  -- PLAYED WHOLE: every main segment shows P
  pub recovery_shows : (i x : ℕ) → i < l.mains → x < segment_size l → byte_at (replay E I) (main_at l i + x) ≡ P i x
  recovery_shows i x h b = go (ℕ_discrete (seg_state I line i) 1)
    where
      k : ℕ
      k = main_at l i + x

      go : Dec (seg_state I line i ≡ 1) → byte_at (replay E I) (main_at l i + x) ≡ P i x
      go (yes e) = replay_clear E I k (recovery_clear k (own i h e (omega arith) (omega arith))) ∙ r.holds.own i x h b e
      go (no e) = recovery_leave k (P i x) i h
          (λ m y ne. other_clear i m k _ h ne (omega arith) (omega arith) (turn-treated l line I P r m y))
          (λ J n. main_turn i k _ J h n e (omega arith) (omega arith) (turn-treated l line I P r i h) ∙ ap (P i) (omega arith))

  -- an image in which nothing that is needed differs
  alike_of : (H : Image) → length H ≡ length I → Bytes H → ((k : ℕ) → Needed k → byte_at H k ≡ byte_at I k) → AlikeBy l line I H
  alike_of H long small same = record {
    long = long;
    bytes = small;
    epochs = λ i h. same i (meta (omega arith));
    header = λ i h k. same i (meta (omega arith));
    states = λ i h. same (line + i) (meta (omega (arith, whole.1, state_line_high whole.0)));
    pairs = λ j h. same (256 + j) (meta (omega arith));
    owns = λ i x h k e. same _ (own i h e (omega arith) (omega arith));
    backups = λ i j x h m k e d. same _ (kept i j h m e d (omega arith) (omega arith));
  }

  -- played whole
  pub recovery_alike : AlikeBy l line I (replay E I)
  recovery_alike = alike_of (replay E I) (length-replay E I) (replay_small E I r.fit.bytes) (λ k d. replay_clear E I k (recovery_clear k d))

  -- CRASHED, after operations that settled what is needed
  pub crash_alike : (I₀ : Image) (O : Ops) → replay O I₀ ≡ I → Bytes I₀ → ((k : ℕ) → Needed k → Settled (k / 64) O)
      → (p : ℕ) (H : Image) → CrashImage I₀ (O ++ take p E) H → AlikeBy l line I H
  crash_alike I₀ O is small firm p H c =
      alike_of H (c.long ∙ sym (length-replay O I₀) ∙ ap length is) (crash_bytes c small)
      (λ k d. crash_byte I₀ H O (take p E) k (firm k d) (each_take (Misses k) p E (recovery_clear k d)) (c.lines (k / 64)) ∙ ap (λ (J : Image). byte_at J k) is)

  -- or alone
  pub crash_alone : (p : ℕ) (H : Image) → CrashImage I (take p E) H → AlikeBy l line I H
  unfolding replay
  crash_alone = crash_alike I [] refl r.fit.bytes (λ k d. settled_nil (k / 64))

  -- the backup of a segment in state 1 shows the contents too
  backup_other : (i j m k : ℕ) (O : Ops) → m < l.mains → m ≢ i → backup_to_main I j ≡ i
      → backup_at l j ≤ k → k < backup_at l j + segment_size l → Treated l line I P m O → Clear k O
  backup_other i j m k O h ne q x y (main a u f) = puts_clear u k (apart l m (l.mains + j) k (omega arith) x y)
  backup_other i j m k O h ne q x y (backup t b a d u) =
      puts_clear u k (apart l (l.mains + t) (l.mains + j) k (λ w. ne (let g : t ≡ j = omega arith in sym d ∙ ap (λ (w : ℕ). backup_to_main I w) g ∙ q)) x y)
  backup_other i j m k O h ne q x y (idle a b e) = rw e tt

  backup_turn : (i j k : ℕ) (O : Ops) (J : Image) → i < l.mains → j < l.backups → seg_state I line i ≡ 1 → backup_to_main I j ≡ i → length J ≡ length I
      → backup_at l j ≤ k → k < backup_at l j + segment_size l → Treated l line I P i O → byte_at (replay O J) k ≡ P i (k - backup_at l j)
  backup_turn i j k O J h b e q n x y (main a u f) = absurd (a e)
  backup_turn i j k O J h b e q n x y (backup t c a d u) =
      let g : t ≡ j = r.holds.valid.once t j c b (omega arith) (d ∙ sym q) in
      subst (λ (w : ℕ). byte_at (replay O J) k ≡ P i (k - backup_at l w)) g
      (u.leaves J k (omega (arith, r.fit.long, segment_in_image l (l.mains + t) (omega arith)))
      (subst (λ (w : ℕ). backup_at l w ≤ k) (sym g) x) (subst (λ (w : ℕ). k < backup_at l w + segment_size l) (sym g) y))
  backup_turn i j k O J h b e q n x y (idle a c d) = absurd (c j b q)

  pub backup_shows : (i j x : ℕ) → i < l.mains → j < l.backups → x < segment_size l → backup_to_main I j ≡ i → byte_at (replay E I) (backup_at l j + x) ≡ P i x
  backup_shows i j x h b c q = go (seg_state I line i) refl
    where
      k : ℕ
      k = backup_at l j + x

      go : (st : ℕ) → seg_state I line i ≡ st → byte_at (replay E I) (backup_at l j + x) ≡ P i x
      go zero e = absurd (r.holds.valid.bare i h e j b q)
      go (suc zero) e = recovery_leave k (P i x) i h
          (λ m y ne. backup_other i j m k _ y ne q (omega arith) (omega arith) (turn-treated l line I P r m y))
          (λ J n. backup_turn i j k _ J h b e q n (omega arith) (omega arith) (turn-treated l line I P r i h) ∙ ap (P i) (omega arith))
      go (suc (suc n)) e = let two : seg_state I line i ≡ 2 = omega (arith, r.holds.valid.states i h) in
          replay_clear E I k (recovery_clear k (kept i j h b two q (omega arith) (omega arith))) ∙ r.holds.backup i j x h b c two q

  -- a segment that does not hold its checkpoint itself is written back whole
  main_flushed : (i ℓ : ℕ) (O : Ops) → seg_state I line i ≢ 1 → main_at l i ≤ 64 * ℓ → 64 * ℓ < main_at l i + segment_size l → Treated l line I P i O → Flushed ℓ O
  main_flushed i ℓ O ne x y (main a u f) = f ℓ x y
  main_flushed i ℓ O ne x y (backup j b a c u) = absurd (ne a)
  main_flushed i ℓ O ne x y (idle a b e) = absurd (ne a)

  pub turns_flushed : (i ℓ : ℕ) → i < l.mains → seg_state I line i ≢ 1 → main_at l i ≤ 64 * ℓ → 64 * ℓ < main_at l i + segment_size l → Flushed ℓ (turns l.mains)
  turns_flushed i ℓ h ne x y =
      flushed_cat ℓ l.mains (turn l line I) (λ m z. neat_turn l line I m) i h (main_flushed i ℓ _ ne x y (turn-treated l line I P r i h))

-- a turn and a fence leave every settled line settled
pub recovery_keeps : (l : Layout) (line : ℕ) (I : Image) (ℓ : ℕ) → Keeps ℓ (recovery_ops l I line)
unfolding recovery_ops
recovery_keeps l line I ℓ = neat_keeps (cat l.mains (turn l line I)) (neat_cat l.mains (turn l line I) (λ m z. neat_turn l line I m)) ℓ
