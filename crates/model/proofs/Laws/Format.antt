-- A formatted image: that it is accepted by every opening with its sizes, that its checkpoint is all zero, and that a history may
-- start with it.
use Prim.Native.Nat.{ℕ, zero, suc, ◌+◌, ◌*◌, ◌/◌, ◌≤◌, ◌<◌}
use mathlib.Core.Path.{◌≡◌, refl, sym, ap, ◌∙◌}
use mathlib.Core.Logic.{inl}
use mathlib.Core.List.{[], ◌∷◌, ◌++◌}
use native.Mathlib.Omega.{arith}
use native.Mathlib.Nat.{mul-zero, mul-suc}
use lib.ListN.{length, replicate, length-append, length-replicate, get_or-replicate, replicate-append-replicate, get_or-append}
use lib.Seq.{get_or-append-add}
use borrow.Author.Tests.{le-ltb, eq-eqb, eqb-true, not-false}
use mathlib.Core.Bool.{false}
use Rattle.model.proofs.Laws.Domain.{domain_shorter}
use Rattle.model.specs.Session.{eadr, domain_errors}
use Rattle.model.specs.Clients.{clients_bad, clients_errors}
use Rattle.model.specs.Outcome.{Lent}
use Rattle.model.specs.declared.Layout.{Layout}
use Rattle.model.specs.Range.{cat}
use Rattle.model.specs.Words.{Image, Bytes, byte_at, word_of, little_endian, bytes_of}
use Rattle.model.specs.Layout.{word_size, line_size, most, unpaired, SizesOk, image_size, segment_size, state_line}
use Rattle.model.specs.Status.{first_error}
use Rattle.model.specs.Container.{HeaderOk, Valid, committed_epoch, active_line, seg_state, backup_to_main, by_state, checkpoint_located, checkpoint_segment, checkpoint_bytes, size_errors}
use Rattle.model.specs.Ops.{op_numbers, trace_short, Ops, trace_errors, for_domain}
use Rattle.model.specs.Open.{recovery_ops, open_status}
use Rattle.model.specs.TraceLength.{most_open_ops}
use Rattle.model.specs.History.{start}
use Rattle.model.specs.Format.{container, formatted, format_outcome}
use Rattle.model.proofs.Laws.Range.{cat_ext}
use Rattle.model.proofs.Laws.Words.{bytes_of_small}
use Rattle.model.proofs.Laws.Status.{served_condition}
use Rattle.model.proofs.Laws.Container.{ContainerOk, container_passes, sizes_ok_lem}
use Rattle.model.proofs.Laws.Counts.{recovery_most}

-- ---- parts of an image

-- bytes that stand between others
part_at : (X Y Z : Image) (i : ℕ) → i < length Y → byte_at (X ++ Y ++ Z) (length X + i) ≡ byte_at Y i
part_at X Y Z i h = get_or-append (X ++ Y) Z 0 (length X + i) (omega (arith, length-append X Y)) ∙ get_or-append-add X Y i 0

-- `Bytes`, as a type from which the list can be read off
record AllBytes (X : Image) : Type 0 where
  each : Bytes X

infixl 65 ◌and◌
◌and◌ : {X Y : Image} → AllBytes X → AllBytes Y → AllBytes (X ++ Y)
◌and◌ {X} {Y} h k = record { each = go X h.each }
  where
    go : (X : Image) → Bytes X → Bytes (X ++ Y)
    go [] f i = k.each i
    go (x ∷ X) f zero = f 0
    go (x ∷ X) f (suc i) = go X (λ n. f (suc n)) i

bytes_replicate : (n x : ℕ) → x < 256 → AllBytes (replicate n x)
bytes_replicate n x h = record { each = go n }
  where
    go : (n : ℕ) → Bytes (replicate n x)
    go zero i = omega arith
    go (suc n) zero = h
    go (suc n) (suc i) = go n i

bytes_zero : (n : ℕ) → AllBytes (replicate n 0)
bytes_zero n = bytes_replicate n 0 (omega arith)

bytes_of_lem : (w : ℕ) → AllBytes (bytes_of word_size w)
bytes_of_lem w = record { each = bytes_of_small word_size w }

-- zeros in a row
cat-replicate : (k n : ℕ) → cat n (λ i. replicate {A = ℕ} k 0) ≡ replicate (k * n) 0
unfolding cat
cat-replicate k zero = ap (λ (m : ℕ). replicate m 0) (sym (mul-zero k))
cat-replicate k (suc n) =
    ap (λ (X : Image). X ++ replicate k 0) (cat-replicate k n) ∙ replicate-append-replicate (k * n) k 0 ∙ ap (λ (m : ℕ). replicate m 0) (sym (mul-suc k n))

-- ---- a formatted image

module _ (l : Layout) where
  -- what stands before the states of an even epoch
  abbrev header : Image
  header =
      bytes_of word_size 0 ++ replicate 56 0 ++ bytes_of word_size l.mains ++ bytes_of word_size l.backups ++ bytes_of word_size l.blocks ++ replicate 40 0

  abbrev segments : Image
  segments = replicate (segment_size l * (l.mains + l.backups)) 0

  pub formatted-length : length (formatted l) ≡ image_size l
  unfolding formatted container bytes_of image_size
  formatted-length = omega (arith, length-replicate {A = ℕ} (segment_size l * (l.mains + l.backups)) 0)

  formatted_epoch : committed_epoch (formatted l) ≡ 0
  unfolding formatted container bytes_of word_of little_endian
  formatted_epoch = refl

  -- the states of even epochs
  pub formatted_states : (i : ℕ) → i < most → seg_state (formatted l) (active_line (formatted l)) i ≡ 0
  unfolding formatted container bytes_of state_line
  formatted_states i h =
      rw formatted_epoch
      (part_at header (replicate line_size 0) (replicate line_size 0 ++ replicate most unpaired ++ replicate 192 0 ++ segments) i h ∙ get_or-replicate line_size i 0 0 h)

  pub formatted_pairs : (j : ℕ) → j < most → backup_to_main (formatted l) j ≡ unpaired
  unfolding formatted container bytes_of
  formatted_pairs j h =
      part_at (header ++ replicate line_size 0 ++ replicate line_size 0) (replicate most unpaired) (replicate 192 0 ++ segments) j h
      ∙ get_or-replicate most j unpaired 0 h

  formatted_header : SizesOk l → HeaderOk l (formatted l)
  unfolding formatted container bytes_of word_of little_endian
  formatted_header h =
      let a : l.mains / 256 ≡ 0 = omega (arith, h.0) in
      let b : l.backups / 256 ≡ 0 = omega (arith, h.1) in
      let c : l.blocks / 256 ≡ 0 = omega (arith, h.2) in
      rw (a, b, c) (omega arith, omega arith, omega arith)

  formatted_valid : SizesOk l → Valid l (seg_state (formatted l) (active_line (formatted l))) (backup_to_main (formatted l))
  formatted_valid h = record {
    states = λ i b. omega (arith, formatted_states i (omega (arith, h.0)));
    states_rest = λ i a b. formatted_states i b;
    pairs = λ j b. inl (formatted_pairs j (omega (arith, h.1)));
    pairs_rest = λ j a b. formatted_pairs j b;
    once = λ i j a b m e. absurd (omega (arith, h.0, h.1, formatted_pairs i (omega (arith, h.1))));
    kept = λ i b e. absurd (omega (arith, formatted_states i (omega (arith, h.0))));
    bare = λ i b e j k q. omega (arith, h.0, formatted_pairs j (omega (arith, h.1)));
  }

  pub formatted_ok : SizesOk l → ContainerOk l (formatted l)
  formatted_ok h = record { sizes = h; long = formatted-length; header = formatted_header h; valid = formatted_valid h }

  pub formatted_accepted : SizesOk l → (t : Lent) → clients_bad l t.clients ≡ false → op_numbers * most_open_ops l ≤ length t.trace
      → (d : ℕ) → d ≤ eadr → open_status l d (formatted l) t ≡ 0
  unfolding open_status trace_short first_error
  formatted_accepted h t c k d e =
      let O : Ops = recovery_ops l (formatted l) (active_line (formatted l)) in
      container_passes l (formatted l) (domain_errors d ++ clients_errors l t.clients ++ trace_errors (for_domain d O) t.trace) (formatted_ok h)
      ∙ rw (le-ltb eadr d e, c, le-ltb (length t.trace) (3 * length (for_domain d O)) (omega (arith, domain_shorter d O, recovery_most l (formatted l) (active_line (formatted l)))))

  -- ---- its checkpoint

  pub formatted-checkpoint : SizesOk l → checkpoint_bytes l (formatted l) (active_line (formatted l)) ≡ replicate (segment_size l * l.mains) 0
  unfolding checkpoint_bytes checkpoint_segment checkpoint_located by_state
  formatted-checkpoint h =
      cat_ext l.mains _ (λ i. replicate (segment_size l) 0) (λ i b. rw (formatted_states i (omega (arith, h.0)))) ∙ cat-replicate (segment_size l) l.mains

  -- ---- and its bytes are bytes

  all_bytes : AllBytes (formatted l)
  unfolding formatted container
  all_bytes =
      bytes_of_lem 0 and bytes_zero 56
      and bytes_of_lem l.mains and bytes_of_lem l.backups and bytes_of_lem l.blocks and bytes_zero 40
      and bytes_zero line_size and bytes_zero line_size and bytes_replicate most unpaired (omega arith) and bytes_zero 192
      and bytes_zero (segment_size l * (l.mains + l.backups))

  -- it is one that a history may start with, and that starts with zeros
  pub formatted_starts : SizesOk l → (d : ℕ) (t : Lent) → Bytes (formatted l)
      × ((start l d (formatted l) t).model ≡ record { working = replicate (segment_size l * l.mains) 0; checkpoint = replicate (segment_size l * l.mains) 0 })
  unfolding start
  formatted_starts h d t = (all_bytes.each, rw (formatted-checkpoint h))

  -- ---- format gives it

  pub format_served : (I : Image) → (format_outcome l I).status ≡ 0 → SizesOk l × (length I ≡ image_size l)
  unfolding format_outcome
  format_served I h =
      let r = served_condition (size_errors l I) (omega arith) h in
      ((sizes_ok_lem l).0 (not-false _ (r 1)), eqb-true _ _ (not-false _ (r 2)))

  pub format_gives : (I : Image) → SizesOk l → length I ≡ image_size l → ((format_outcome l I).status ≡ 0) × ((format_outcome l I).image ≡ formatted l)
  unfolding format_outcome first_error
  format_gives I h e = rw ((sizes_ok_lem l).1 h, eq-eqb (length I) (image_size l) e) (refl, refl)
