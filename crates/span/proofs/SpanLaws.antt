-- Laws of a span: room for its words, a word with bytes laid over it, the words that lie whole among its bytes, and its first word.
use Prim.Native.Nat.{ℕ, zero, suc, ◌+◌, ◌-◌, ◌*◌, ◌/◌, ◌%◌, ◌≤◌, ◌<◌, min, max}
use mathlib.Core.Path.{◌≡◌, refl, sym, ap, ap₂, ◌∙◌}
use mathlib.Core.Bool.{Bool, true, false, not, cond}
use mathlib.Core.Logic.{◌≢◌}
use mathlib.Core.List.{List, [], ◌∷◌, ◌++◌}
use native.Mathlib.Omega.{arith}
use native.Mathlib.Nat.{zero-add}
use native.Mathlib.Decide.{dec_lt, ℕ_discrete}
use lib.Dec.{eqb}
use lib.ListN.{length, get_or, set, take, drop, length-drop}
use lib.Seq.{get_or-drop, take_all}
use borrow.Author.Rules.{rules}
use borrow.Author.Tests.{eq-eqb, ne_eqb}
use borrow.Rule.Slice.PartMut.{put_mid}
use Rattle.std.proofs.lemmas.List.{places}
use Rattle.model.specs.Words.{Image, byte_at, word_of, word_at, overlay}
use Rattle.model.specs.Range.{cat}
use Rattle.model.specs.Ops.{store, Ops, for_domain, stores, word_place}
use Rattle.model.specs.Write.{span_words, span_stores}
use Rattle.model.proofs.Laws.Range.{cat_ext}
use Rattle.model.proofs.Laws.Words.{word_moved, word_cong, overlay_in, overlay-before, overlay-after, overlay_inside, overlay_sets, overlay_shift}
use Rattle.model.proofs.Laws.Domain.{domain_stores}
use Rattle.model.proofs.Laws.Counts.{length-stores}
use Rattle.trace.specs.declared.Writer.{Writer}
use Rattle.trace.specs.Emit.{Fits, word_stores}
use Rattle.span.specs.Steps.{overlaid_store, first_stores}

-- ---- room on a trace: a span meets a word, and no fewer words than lie whole among its bytes

length-written : (d n a : ℕ) (v : ℕ → ℕ) → length (for_domain d (stores n a v)) ≡ n
length-written d n a v = ap length (domain_stores d n a v) ∙ length-stores n a v

module _ {w : Writer} (I : Image) (a : ℕ) (bs : List ℕ) (h : Fits w (span_stores I a bs)) where
  span_room : 3 * (w.next + span_words a (length bs)) ≤ length w.trace.now
  span_room =
      omega (arith, h.room, length-written w.domain (span_words a (length bs)) (word_place a) (λ k. word_of (overlay (byte_at I) a bs) (word_place a + 8 * k)))

  pub first_fits : Fits w (first_stores I a bs)
  unfolding for_domain
  first_fits = go (eqb (a % 8) 0)
    where
      go : (b : Bool) → Fits w (cond (not b) (overlaid_store I a bs (word_place a) ∷ []) [])
      go true = record { room = omega (arith, span_room) }
      go false = record { room = omega (arith, span_room) }

  pub words_fit : Fits w (word_stores a bs)
  words_fit = record { room = omega (arith, span_room, length-written w.domain (length bs / 8) a (λ k. word_at bs (8 * k))) }

-- ---- a word of the image with bytes laid over it

-- the bytes that meet it, from s to e, are copied into it
module _ (f : ℕ → ℕ) (a : ℕ) (bs w : List ℕ) (p s e : ℕ) (n : length w ≡ 8) (first : s ≡ max a p) (last : e ≡ min (a + length bs) (p + 8)) (some : s ≤ e) where
  abbrev pub laid : List ℕ
  laid = put_mid (s - p) (e - p - (s - p)) w (take (e - a - (s - a)) (drop (s - a) bs))

  pub word_laid : ((k : ℕ) → k < 8 → byte_at w k ≡ f (p + k)) → word_at laid 0 ≡ word_of (overlay f a bs) p
  word_laid h = word_moved (byte_at laid) (overlay f a bs) 0 p (λ k l. ap (byte_at laid) (zero-add k) ∙ go k l (dec_lt (p + k) s) (dec_lt (p + k) e))
    where
      go : (k : ℕ) → k < 8 → Dec (p + k < s) → Dec (p + k < e) → byte_at laid k ≡ overlay f a bs (p + k)
      go k l (yes b) d = let q : byte_at laid k ≡ byte_at w k = search (rules, places) in q ∙ h k l ∙ sym (overlay-before f a bs (p + k) (omega arith))
      go k l (no b) (yes d) = let q : byte_at laid k ≡ get_or bs (p + k - a) 0 = grind (arith, places) in q ∙ overlay_inside f a bs (p + k) (omega arith) (omega arith)
      go k l (no b) (no d) = let q : byte_at laid k ≡ byte_at w k = search (rules, places) in q ∙ h k l ∙ sym (overlay-after f a bs (p + k) (omega arith))

-- one byte is set in it
pub byte_laid : (f : ℕ → ℕ) (w : List ℕ) (i b : ℕ) → length w ≡ 8 → ((k : ℕ) → k < 8 → byte_at w k ≡ f (word_place i + k))
    → word_at (set w (i % 8) b) 0 ≡ word_of (overlay f i (b ∷ [])) (word_place i)
byte_laid f w i b n h = word_moved (byte_at (set w (i % 8) b)) (overlay f i (b ∷ [])) 0 (word_place i) (λ k l.
    ap (byte_at (set w (i % 8) b)) (zero-add k) ∙ overlay_sets w (i % 8) (b ∷ []) k (omega arith)
    ∙ overlay_shift (byte_at w) f (i % 8) i (b ∷ []) k (word_place i + k) (word_place i) (omega arith) refl (h k l))

-- ---- the words that lie whole among bytes

-- a word that lies whole among the bytes is theirs: q is where it starts in them
word_inside : (f : ℕ → ℕ) (a : ℕ) (bs : List ℕ) (p q : ℕ) → a ≤ p → q ≡ p - a → q + 8 ≤ length bs → word_at bs q ≡ word_of (overlay f a bs) p
word_inside f a bs p q h e l =
    word_moved (byte_at bs) (overlay f a bs) q p (λ k b. ap (byte_at bs) (omega arith) ∙ overlay_inside f a bs (p + k) (omega arith) (omega arith))

-- bytes at the start of a word: for the words that lie whole among them it does not matter what they are laid over
words_inside : (I : Image) (a : ℕ) (bs : List ℕ) → a % 8 ≡ 0
    → word_stores a bs ≡ stores (length bs / 8) (word_place a) (λ k. word_of (overlay (byte_at I) a bs) (word_place a + 8 * k))
unfolding stores
words_inside I a bs x =
    let e : word_place a ≡ a = omega arith in
    rw e
    (cat_ext (length bs / 8) _ _
    (λ k l. ap (λ (v : ℕ). store (a + 8 * k) v ∷ []) (word_inside (byte_at I) a bs (a + 8 * k) (8 * k) (omega arith) (omega arith) (omega arith))))

-- such bytes are these words alone, or these words and one more, which they do not fill
pub whole_words : (I : Image) (a : ℕ) (bs : List ℕ) → 1 ≤ length bs → a % 8 ≡ 0 → length bs % 8 ≡ 0 → word_stores a bs ≡ span_stores I a bs
whole_words I a bs some x y =
    let d : span_words a (length bs) ≡ length bs / 8 = omega arith in
    rw d (words_inside I a bs x)

pub words_and_rest : (I : Image) (a : ℕ) (bs : List ℕ) → a % 8 ≡ 0 → length bs % 8 ≢ 0
    → word_stores a bs ++ overlaid_store I a bs (a + 8 * (length bs / 8)) ∷ [] ≡ span_stores I a bs
unfolding stores cat
words_and_rest I a bs x y =
    let e : word_place a ≡ a = omega arith in
    let d : span_words a (length bs) ≡ suc (length bs / 8) = omega arith in
    rw (words_inside I a bs x, d, e) refl

-- ---- the first word of a span, in whose midst its bytes start

stores_first : (n a u : ℕ) (v w : ℕ → ℕ) → u ≡ w 0 → ((k : ℕ) → k < n → v k ≡ w (suc k)) → store a u ∷ stores n (a + 8) v ≡ stores (suc n) a w
unfolding stores cat
stores_first zero a u v w e h = let q : a ≡ a + 8 * 0 = omega arith in ap₂ (λ (p x : ℕ). store p x ∷ []) q e
stores_first (suc n) a u v w e h =
    let q : a + 8 + 8 * n ≡ a + 8 * suc n = omega arith in
    ap₂ (λ (O E : Ops). O ++ E) (stores_first n a u v w e (λ k l. h k (omega arith)))
    (ap₂ (λ (p x : ℕ). store p x ∷ []) q (h n (omega arith)))

-- from a later place on, bytes laid over are the later ones
overlay_later : (f : ℕ → ℕ) (a s : ℕ) (bs : List ℕ) (i : ℕ) → a + s ≤ i → overlay f (a + s) (drop s bs) i ≡ overlay f a bs i
overlay_later f a s bs i h =
    let e : s + (i - (a + s)) ≡ i - a = omega arith in
    overlay_in f (a + s) (drop s bs) i h ∙ get_or-drop s bs (i - (a + s)) (f i) ∙ ap (λ (k : ℕ). get_or bs k (f i)) e
    ∙ sym (overlay_in f a bs i (omega arith))

later_words : (I : Image) (a s : ℕ) (bs : List ℕ) → a % 8 + s ≡ 8 → s < length bs
    → overlaid_store I a bs (word_place a) ∷ span_stores I (a + s) (drop s bs) ≡ span_stores I a bs
later_words I a s bs x h =
    let n = span_words (a + s) (length (drop s bs)) in
    let d : span_words a (length bs) ≡ suc n = omega (arith, length-drop s bs) in
    let e : word_place a ≡ word_place a + 8 * 0 = omega arith in
    let q : word_place (a + s) ≡ word_place a + 8 = omega arith in
    let w = word_of (overlay (byte_at I) a bs) in
    rw (d, q)
    (stores_first n (word_place a) _ _ _ (ap w e)
    (λ k l. word_cong _ _ (word_place a + 8 + 8 * k) (λ i g m. overlay_later (byte_at I) a s bs i (omega arith)) ∙ ap w (omega arith)))

-- bytes that end in it, and bytes that go on: s of them come before the next word
pub first_alone : (I : Image) (a : ℕ) (bs : List ℕ) → 1 ≤ length bs → length bs ≤ (8 - a % 8) % 8 → first_stores I a bs ≡ span_stores I a bs
unfolding stores cat
first_alone I a bs some h =
    let d : span_words a (length bs) ≡ 1 = omega arith in
    let e : word_place a + 8 * 0 ≡ word_place a = omega arith in
    rw (d, e, ne_eqb (a % 8) 0 (λ x. omega arith)) refl

pub first_and_later : (I : Image) (a s : ℕ) (bs : List ℕ) → s ≡ (8 - a % 8) % 8 → s < length bs
    → first_stores I a bs ++ span_stores I (a + s) (take (length bs - s) (drop s bs)) ≡ span_stores I a bs
first_and_later I a s bs x h =
    let r : take (length bs - s) (drop s bs) ≡ drop s bs = take_all (length bs - s) (drop s bs) (omega (arith, length-drop s bs)) in
    rw r (go (ℕ_discrete (a % 8) 0))
  where
    go : Dec (a % 8 ≡ 0) → first_stores I a bs ++ span_stores I (a + s) (drop s bs) ≡ span_stores I a bs
    go (yes y) = let z : s ≡ 0 = omega arith in let e : a + 0 ≡ a = omega arith in rw (eq-eqb (a % 8) 0 y, z, e) refl
    go (no y) = rw (ne_eqb (a % 8) 0 y) (later_words I a s bs (omega arith) h)
