-- Pages as lists and as contents: what the two reads give of a recoverable image, and that its checkpoint is its contents.
use Prim.Native.Nat.{ℕ, zero, suc, ◌+◌, ◌*◌, ◌/◌, ◌%◌, ◌≤◌, ◌<◌}
use mathlib.Core.Path.{◌≡◌, refl, sym, ap, ◌∙◌, subst}
use mathlib.Core.Logic.{◌⊎◌, inl, inr}
use mathlib.Core.List.{List, [], ◌++◌}
use native.Mathlib.Decide.{dec_lt}
use native.Mathlib.Nat.{mul-le-mul_right, mul_assoc, mul_comm, mul_left_comm, suc-mul, div-add-mod', mod-lt, div-lt_iff_lt-mul}
use native.Mathlib.Omega.{arith}
use borrow.Author.Tests.{lt-leb}
use lib.ListN.{length, get_or, take, drop, replicate, length-drop, length-replicate, get_or-replicate, get_or-append}
use lib.Seq.{length-take-le, get_or-take, get_or-drop, get_or-append-add, ext_get_or}
use Rattle.model.specs.declared.Layout.{Layout}
use Rattle.model.specs.Range.{cat}
use Rattle.model.specs.Words.{Image, byte_at}
use Rattle.model.specs.Layout.{segment_size, segment_at, main_at, backup_at}
use Rattle.model.specs.Status.{first_error}
use Rattle.model.specs.Container.{active_state, active_line, seg_state, backup_to_main, paired_backup, by_state, segment_bytes, checkpoint_located, checkpoint_segment, checkpoint_bytes, main_errors, block_errors}
use Rattle.model.specs.Reads.{read_status, working_part, checkpoint_part, checkpoint_block, block_part, part_of}
use Rattle.model.specs.Reference.{Page, page_block, page_at}
use Rattle.model.specs.CrashSafety.{Reads}
use Rattle.model.proofs.Laws.Range.{length-cat}
use Rattle.model.proofs.Laws.Layout.{segment_in_image}
use Rattle.model.proofs.Laws.Container.{ContainerOk, container_passes, kept_at, paired_once}
use Rattle.model.proofs.Laws.Same.{length-checkpoint, length-checkpoint_segment}
use Rattle.model.proofs.Argument.View.{Recoverable}
use Rattle.model.proofs.Argument.Holds.{Contents, Holds}

-- the contents of a page
abbrev pub contents_of : Layout → Page → Contents
contents_of l P i x = get_or P (256 * (i * l.blocks) + x) 0

-- as many bytes as the main segments have
abbrev pub Whole : Layout → Page → Type 0
Whole l P = length P ≡ segment_size l * l.mains

-- ---- blocks of lists

-- two blocks of 256 bytes are the same if all their bytes are
pub parts_same : (X Y : List ℕ) (a b : ℕ) → a + 256 ≤ length X → b + 256 ≤ length Y
    → ((x : ℕ) → x < 256 → get_or X (a + x) 0 ≡ get_or Y (b + x) 0) → take 256 (drop a X) ≡ take 256 (drop b Y)
parts_same X Y a b hx hy same =
    ext_get_or 0 (take 256 (drop a X)) (take 256 (drop b Y)) (long X a hx ∙ sym (long Y b hy))
    (λ x h. let y : x < 256 = omega (arith, h, long X a hx) in at X a x y ∙ same x y ∙ sym (at Y b x y))
  where
    long : (Z : List ℕ) (c : ℕ) → c + 256 ≤ length Z → length (take 256 (drop c Z)) ≡ 256
    long Z c h = length-take-le 256 (drop c Z) (omega (arith, h, length-drop c Z))

    at : (Z : List ℕ) (c x : ℕ) → x < 256 → get_or (take 256 (drop c Z)) x 0 ≡ get_or Z (c + x) 0
    at Z c x h = get_or-take 256 (drop c Z) x 0 h ∙ get_or-drop c Z x 0

-- ---- joined lists of one length

cat_at : (n c : ℕ) (f : ℕ → List ℕ) → ((k : ℕ) → k < n → length (f k) ≡ c) → (i x : ℕ) → i < n → x < c → get_or (cat n f) (i * c + x) 0 ≡ get_or (f i) x 0
unfolding cat
cat_at zero c f h i x a b = absurd (omega arith)
cat_at (suc n) c f h i x a b = go (λ q. cat_at n c f (λ k l. h k (omega arith)) i x q b) (dec_lt i n)
  where
    len : length (cat n f) ≡ n * c
    len = length-cat n c f (λ k l. h k (omega arith))

    go : (i < n → get_or (cat n f) (i * c + x) 0 ≡ get_or (f i) x 0) → Dec (i < n) → get_or (cat n f ++ f n) (i * c + x) 0 ≡ get_or (f i) x 0
    go ih (yes q) = get_or-append (cat n f) (f n) 0 (i * c + x) (omega (arith, len, suc-mul i c, mul-le-mul_right c q)) ∙ ih q
    go ih (no q) =
        let e : i ≡ n = omega arith in
        subst (λ (k : ℕ). get_or (cat n f ++ f n) (k * c + x) 0 ≡ get_or (f k) x 0) (sym e)
        (ap (λ (k : ℕ). get_or (cat n f ++ f n) (k + x) 0) (sym len) ∙ get_or-append-add (cat n f) (f n) x 0)

-- where main segment i stands in a page
page_place : (l : Layout) (i : ℕ) → i * segment_size l ≡ 256 * (i * l.blocks)
page_place l i = mul_left_comm i 256 l.blocks

-- a block of a page ends inside it
pub block_inside : (l : Layout) (i b : ℕ) → i < l.mains → b < l.blocks → 256 * (i * l.blocks + b) + 256 ≤ segment_size l * l.mains
block_inside l i b h k =
    omega (arith, suc-mul i l.blocks, mul-le-mul_right l.blocks h, mul_assoc 256 l.blocks l.mains, mul_comm l.blocks l.mains)

-- ---- the checkpoint of an image

module _ (l : Layout) (I : Image) (ok : ContainerOk l I) where
  abbrev line : ℕ
  line = active_line I

  pub checkpoint_at : (i x : ℕ) → i < l.mains → x < segment_size l → contents_of l (checkpoint_bytes l I line) i x ≡ get_or (checkpoint_segment l I line i) x 0
  unfolding checkpoint_bytes
  checkpoint_at i x h k =
      ap (λ (n : ℕ). get_or (cat l.mains (checkpoint_segment l I line)) (n + x) 0) (sym (page_place l i))
      ∙ cat_at l.mains (segment_size l) (checkpoint_segment l I line) (λ m q. length-checkpoint_segment l I ok m q) i x h k

  segment_at_lem : (k x : ℕ) → x < segment_size l → get_or (segment_bytes l I (segment_at l k)) x 0 ≡ byte_at I (segment_at l k + x)
  segment_at_lem k x h = get_or-take (segment_size l) (drop (segment_at l k) I) x 0 h ∙ get_or-drop (segment_at l k) I x 0

  -- by its state: zeros, its own bytes, its backup's
  pub segment_initial : (i x : ℕ) → x < segment_size l → active_state I i ≡ 0 → get_or (checkpoint_segment l I line i) x 0 ≡ 0
  unfolding checkpoint_segment checkpoint_located by_state
  segment_initial i x h e = rw e (get_or-replicate (segment_size l) x 0 0 h)

  pub segment_own : (i x : ℕ) → x < segment_size l → active_state I i ≡ 1 → get_or (checkpoint_segment l I line i) x 0 ≡ byte_at I (main_at l i + x)
  unfolding checkpoint_segment checkpoint_located by_state
  segment_own i x h e = rw e (segment_at_lem i x h)

  pub segment_backup : (i j x : ℕ) → i < l.mains → j < l.backups → x < segment_size l → active_state I i ≡ 2 → backup_to_main I j ≡ i
      → get_or (checkpoint_segment l I line i) x 0 ≡ byte_at I (backup_at l j + x)
  unfolding checkpoint_segment checkpoint_located by_state
  segment_backup i j x a b h e d = rw e (segment_at_lem (l.mains + paired_backup l (backup_to_main I) i) x h
      ∙ ap (λ (k : ℕ). byte_at I (backup_at l k + x)) (paired_once l (backup_to_main I) i ok.valid j b d a))

  -- an accepted image recovers to its checkpoint
  pub checkpoint-holds : Holds l (active_state I) (backup_to_main I) (byte_at I) (contents_of l (checkpoint_bytes l I line))
  checkpoint-holds = record {
    valid = ok.valid;
    initial = λ i x h k e. checkpoint_at i x h k ∙ segment_initial i x k e;
    own = λ i x h k e. sym (checkpoint_at i x h k ∙ segment_own i x k e);
    backup = λ i j x h m k e d. sym (checkpoint_at i x h k ∙ segment_backup i j x h m k e d);
  }

  -- and to no other contents
  holds_only : (P : Contents) → Holds l (active_state I) (backup_to_main I) (byte_at I) P → (i x : ℕ) → i < l.mains → x < segment_size l → contents_of l (checkpoint_bytes l I line) i x ≡ P i x
  holds_only P h i x a b = checkpoint_at i x a b ∙ go (active_state I i) refl
    where
      go : (st : ℕ) → active_state I i ≡ st → get_or (checkpoint_segment l I line i) x 0 ≡ P i x
      go zero e = segment_initial i x b e ∙ sym (h.initial i x a b e)
      go (suc zero) e = segment_own i x b e ∙ h.own i x a b e
      go (suc (suc n)) e =
          let two : active_state I i ≡ 2 = omega (arith, ok.valid.states i a) in
          let k = ok.valid.kept i a two in
          segment_backup i k.0 x a k.1 b two k.2 ∙ h.backup i k.0 x a k.1 b two k.2

  -- so a whole page that it recovers to is its checkpoint
  pub checkpoint_is : (Q : Page) → Whole l Q → Holds l (active_state I) (backup_to_main I) (byte_at I) (contents_of l Q) → checkpoint_bytes l I line ≡ Q
  checkpoint_is Q whole h = ext_get_or 0 (checkpoint_bytes l I line) Q (length-checkpoint l I ok ∙ sym whole) (λ k q. at k (omega (arith, length-checkpoint l I ok)))
    where
      room : ℕ
      room = segment_size l

      positive : 0 < room
      positive = omega (arith, ok.sizes.2)

      at : (k : ℕ) → k < room * l.mains → get_or (checkpoint_bytes l I line) k 0 ≡ get_or Q k 0
      at k q =
          let e : 256 * (k / room * l.blocks) + k % room ≡ k = ap (λ (n : ℕ). n + k % room) (sym (page_place l (k / room))) ∙ div-add-mod' k room in
          let m : k / room < l.mains = (div-lt_iff_lt-mul positive).1 (subst (λ (n : ℕ). k < n) (mul_comm room l.mains) q) in
          subst (λ (n : ℕ). get_or (checkpoint_bytes l I line) n 0 ≡ get_or Q n 0) e (holds_only (contents_of l Q) h (k / room) (k % room) m (mod-lt k positive))

-- ---- the reads

pub container_of : (l : Layout) (I : Image) (P : Contents) → Recoverable l I P → ContainerOk l I
container_of l I P r = record { sizes = r.fit.sizes; long = r.fit.long; header = r.fit.header; valid = r.holds.valid }

module _ (l : Layout) (I : Image) (c : ContainerOk l I) where
  pub read_served : (i b : ℕ) → i < l.mains → b < l.blocks → read_status l I i b ≡ 0
  unfolding read_status first_error
  read_served i b h k = container_passes l I (main_errors l i ++ block_errors l b) c ∙ rw (lt-leb l.mains i h, lt-leb l.blocks b k)

  -- a block of the image, from a segment that holds the contents of a page
  block_is : (Q : Page) (k i b : ℕ) → Whole l Q → k < l.mains + l.backups → i < l.mains → b < l.blocks
      → ((x : ℕ) → x < segment_size l → byte_at I (segment_at l k + x) ≡ contents_of l Q i x) → part_of I (block_part (segment_at l k) b) ≡ page_block l Q i b
  block_is Q k i b whole hk hi hb same =
      parts_same I Q (segment_at l k + 256 * b) (page_at l i b) (omega (arith, c.long, segment_in_image l k hk)) (omega (arith, whole, block_inside l i b hi hb))
      (λ x h. ap (λ (n : ℕ). byte_at I n) (omega arith) ∙ same (256 * b + x) (omega arith) ∙ ap (λ (n : ℕ). get_or Q n 0) (omega arith))

  -- the checkpoint read, of an image that holds the contents of a page
  module _ (P : Page) (wp : Whole l P) (holds : Holds l (active_state I) (backup_to_main I) (byte_at I) (contents_of l P)) where
    pub zero_block : (i b : ℕ) → i < l.mains → b < l.blocks → active_state I i ≡ 0 → page_block l P i b ≡ replicate 256 0
    zero_block i b hi hb e =
        parts_same P (replicate 256 0) (page_at l i b) 0 (omega (arith, wp, block_inside l i b hi hb)) (omega (arith, length-replicate {A = ℕ} 256 0))
        (λ x h. ap (λ (n : ℕ). get_or P n 0) (omega arith) ∙ holds.initial i (256 * b + x) hi (omega arith) e ∙ sym (get_or-replicate {A = ℕ} 256 (0 + x) 0 0 (omega arith)))

    pub saved : (i b : ℕ) → i < l.mains → b < l.blocks → (checkpoint_block l I i b ≡ page_block l P i b)
        ⊎ ((seg_state I (active_line I) i ≡ 0) × (checkpoint_block l I i b ≡ []) × (page_block l P i b ≡ replicate 256 0))
    unfolding checkpoint_part checkpoint_located by_state
    saved i b hi hb = go (active_state I i) refl
      where
        go : (st : ℕ) → active_state I i ≡ st → (checkpoint_block l I i b ≡ page_block l P i b)
            ⊎ ((seg_state I (active_line I) i ≡ 0) × (checkpoint_block l I i b ≡ []) × (page_block l P i b ≡ replicate 256 0))
        go zero e = inr (e, rw (read_served i b hi hb, e) refl, zero_block i b hi hb e)
        go (suc zero) e = inl (rw (read_served i b hi hb, e) (block_is P i i b wp (omega arith) hi hb (λ x k. holds.own i x hi k e)))
        go (suc (suc n)) e =
            let two : active_state I i ≡ 2 = omega (arith, holds.valid.states i hi) in
            let p = kept_at l (backup_to_main I) i holds.valid hi two in
            inl (rw (read_served i b hi hb, e) (block_is P (l.mains + paired_backup l (backup_to_main I) i) i b wp (omega (arith, p.0)) hi hb
            (λ x y. holds.backup i (paired_backup l (backup_to_main I) i) x hi p.0 y two p.1)))

-- the two reads give the two pages
pub reads : (l : Layout) (I : Image) (P W : Page) → Whole l P → Whole l W → Recoverable l I (contents_of l P)
    → ((i x : ℕ) → i < l.mains → x < segment_size l → byte_at I (main_at l i + x) ≡ contents_of l W i x) → Reads l I W P
reads l I P W wp ww r working i b hi hb =
    let c = container_of l I (contents_of l P) r in
    record {
      status = read_served l I c i b hi hb;
      working = unfold working_part in (rw (read_served l I c i b hi hb) (block_is l I c W i i b ww (omega arith) hi hb (λ x k. working i x hi k)));
      checkpoint = saved l I c P wp r.holds i b hi hb;
    }
