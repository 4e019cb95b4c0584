-- Laws of bytes and words: a word's bytes, a byte after stores, bytes laid over others.
use Prim.Native.Nat.{ℕ, zero, suc, ◌+◌, ◌-◌, ◌*◌, ◌^◌, ◌/◌, ◌%◌, ◌≤◌, ◌<◌}
use mathlib.Core.Path.{◌≡◌, refl, sym, ap, ◌∙◌}
use mathlib.Core.Logic.{◌≢◌}
use mathlib.Core.List.{List, [], ◌∷◌}
use native.Mathlib.Nat.{not-suc-le-zero, le_of_suc-le-suc, pow-suc}
use native.Mathlib.Decide.{dec_le, dec_lt, ℕ_discrete}
use native.Mathlib.Omega.{arith}
use borrow.Author.Tests.{le-leb, lt-leb}
use lib.ListN.{length, get_or, set, length-set, get_or-eq_default}
use lib.Seq.{sets, set_out, get_or-set_same, get_or-set_other}
use Rattle.model.specs.Words.{Image, byte_at, Bytes, little_endian, word_of, word_at, bytes_of, store_word, overlay}

-- ---- a word and its bytes

pub length-bytes_of : (n w : ℕ) → length (bytes_of n w) ≡ n
unfolding bytes_of
length-bytes_of zero w = refl
length-bytes_of (suc n) w = ap suc (length-bytes_of n (w / 256))

pub bytes_of_small : (n w : ℕ) → Bytes (bytes_of n w)
unfolding bytes_of
bytes_of_small zero w j = omega arith
bytes_of_small (suc n) w zero = omega arith
bytes_of_small (suc n) w (suc j) = bytes_of_small n (w / 256) j

bytes_of_number : (n : ℕ) (f : ℕ → ℕ) (p b : ℕ) → ((i : ℕ) → f i < 256) → b < n → get_or (bytes_of n (little_endian n f p)) b 0 ≡ f (p + b)
unfolding bytes_of little_endian
bytes_of_number zero f p b h k = absurd (omega arith)
bytes_of_number (suc n) f p zero h k = let e : (f p + 256 * little_endian n f (suc p)) % 256 ≡ f p = omega (arith, h p) in e ∙ ap f (omega arith)
bytes_of_number (suc n) f p (suc b) h k =
    let e : (f p + 256 * little_endian n f (suc p)) / 256 ≡ little_endian n f (suc p) = omega (arith, h p) in
    rw e (bytes_of_number n f (suc p) b h (omega arith) ∙ ap f (omega arith))

-- byte b of the word of f at p
pub byte_of_word : (f : ℕ → ℕ) (p b : ℕ) → ((i : ℕ) → f i < 256) → b < 8 → get_or (bytes_of 8 (word_of f p)) b 0 ≡ f (p + b)
unfolding word_of
byte_of_word f p b h k = bytes_of_number 8 f p b h k

zero_bytes : (n b : ℕ) → get_or (bytes_of n 0) b 0 ≡ 0
unfolding bytes_of
zero_bytes zero b = refl
zero_bytes (suc n) zero = refl
zero_bytes (suc n) (suc b) = zero_bytes n b

pub byte_of_zero : (b : ℕ) → get_or (bytes_of 8 0) b 0 ≡ 0
byte_of_zero b = zero_bytes 8 b

pub number_moved : (n : ℕ) (f g : ℕ → ℕ) (p q : ℕ) → ((k : ℕ) → k < n → f (p + k) ≡ g (q + k)) → little_endian n f p ≡ little_endian n g q
unfolding little_endian
number_moved zero f g p q h = refl
number_moved (suc n) f g p q h =
    let first : f p ≡ g q = ap f (omega arith) ∙ h 0 (omega arith) ∙ ap g (omega arith) in
    rw (first, number_moved n f g (suc p) (suc q) (λ k l. ap f (omega arith) ∙ h (suc k) (omega arith) ∙ ap g (omega arith)))

-- a word by its bytes, wherever they stand
pub word_moved : (f g : ℕ → ℕ) (p q : ℕ) → ((k : ℕ) → k < 8 → f (p + k) ≡ g (q + k)) → word_of f p ≡ word_of g q
unfolding word_of
word_moved f g p q h = number_moved 8 f g p q h

pub word_cong : (f g : ℕ → ℕ) (p : ℕ) → ((i : ℕ) → p ≤ i → i < p + 8 → f i ≡ g i) → word_of f p ≡ word_of g p
word_cong f g p h = word_moved f g p p (λ k l. h (p + k) (omega arith) (omega arith))

pub number_back : (n w : ℕ) (f : ℕ → ℕ) (p : ℕ) → w < 256 ^ n → ((b : ℕ) → b < n → f (p + b) ≡ get_or (bytes_of n w) b 0) → little_endian n f p ≡ w
unfolding little_endian bytes_of
number_back zero w f p h k = omega arith
number_back (suc n) w f p h k =
    let first : f p ≡ w % 256 = ap f (omega arith) ∙ k 0 (omega arith) in
    omega (arith, first, number_back n (w / 256) f (suc p) (omega arith) (λ b l. ap f (omega arith) ∙ k (suc b) (omega arith)))

number_lt : (n : ℕ) (f : ℕ → ℕ) (p : ℕ) → ((i : ℕ) → f i < 256) → little_endian n f p < 256 ^ n
unfolding little_endian
number_lt zero f p h = omega arith
number_lt (suc n) f p h = omega (arith, h p, number_lt n f (suc p) h, pow-suc 256 n)

pub word_lt : (f : ℕ → ℕ) (p : ℕ) → ((i : ℕ) → f i < 256) → word_of f p < 2 ^ 64
unfolding word_of
word_lt f p h = number_lt 8 f p h

-- ---- a byte after stores

pub sets_other : (vs l : List ℕ) (i j : ℕ) → (i ≤ j → j < i + length vs → ⊥) → get_or (sets l i vs) j 0 ≡ get_or l j 0
sets_other [] l i j h = refl
sets_other (v ∷ vs) l i j h =
    sets_other vs (set l i v) (suc i) j (λ a b. h (omega arith) (omega arith))
    ∙ get_or-set_other l i j v 0 (λ e. h (omega arith) (omega arith))

pub sets_at : (vs l : List ℕ) (i j : ℕ) → i + length vs ≤ length l → j < length vs → get_or (sets l i vs) (i + j) 0 ≡ get_or vs j 0
sets_at [] l i j h k = absurd (not-suc-le-zero k)
sets_at (v ∷ vs) l i zero h k =
    sets_other vs (set l i v) (suc i) (i + 0) (λ a b. omega arith)
    ∙ ap (λ (n : ℕ). get_or (set l i v) n 0) (omega arith) ∙ get_or-set_same l i v 0 (omega arith)
sets_at (v ∷ vs) l i (suc j) h k =
    ap (λ (n : ℕ). get_or (sets l i (v ∷ vs)) n 0) (omega arith)
    ∙ sets_at vs (set l i v) (suc i) j (rw length-set (omega arith)) (le_of_suc-le-suc k)

-- a byte after stores depends on that byte before them only
set_cong : (l m : List ℕ) (i v j : ℕ) → length l ≡ length m → get_or l j 0 ≡ get_or m j 0 → get_or (set l i v) j 0 ≡ get_or (set m i v) j 0
set_cong l m i v j n e = go (ℕ_discrete j i) (dec_lt i (length l))
  where
    go : Dec (j ≡ i) → Dec (i < length l) → get_or (set l i v) j 0 ≡ get_or (set m i v) j 0
    go (yes q) (yes b) = rw q (get_or-set_same l i v 0 b ∙ sym (get_or-set_same m i v 0 (omega arith)))
    go (yes q) (no b) = rw (set_out l i v (omega arith), set_out m i v (omega arith)) e
    go (no q) b = get_or-set_other l i j v 0 q ∙ e ∙ sym (get_or-set_other m i j v 0 q)

pub sets_cong : (vs l m : List ℕ) (i j : ℕ) → length l ≡ length m → get_or l j 0 ≡ get_or m j 0 → get_or (sets l i vs) j 0 ≡ get_or (sets m i vs) j 0
sets_cong [] l m i j n e = e
sets_cong (v ∷ vs) l m i j n e =
    sets_cong vs (set l i v) (set m i v) (suc i) j (length-set l i v ∙ n ∙ sym (length-set m i v)) (set_cong l m i v j n e)

set_small : (l : List ℕ) (i v : ℕ) → v < 256 → Bytes l → Bytes (set l i v)
set_small [] i v h k j = omega arith
set_small (x ∷ xs) zero v h k zero = h
set_small (x ∷ xs) zero v h k (suc j) = k (suc j)
set_small (x ∷ xs) (suc i) v h k zero = k 0
set_small (x ∷ xs) (suc i) v h k (suc j) = set_small xs i v h (λ n. k (suc n)) j

pub sets_small : (vs l : List ℕ) (i : ℕ) → Bytes vs → Bytes l → Bytes (sets l i vs)
sets_small [] l i h k = k
sets_small (v ∷ vs) l i h k = sets_small vs (set l i v) (suc i) (λ j. h (suc j)) (set_small l i v (h 0) k)

-- a word that is stored is the word that stands there
pub word_stored : (I : Image) (p w : ℕ) → p + 8 ≤ length I → w < 2 ^ 64 → word_at (store_word I p w) p ≡ w
unfolding word_of store_word
word_stored I p w n h = number_back 8 w (byte_at (sets I p (bytes_of 8 w))) p h
    (λ b l. sets_at (bytes_of 8 w) I p b (omega (arith, length-bytes_of 8 w)) (omega (arith, length-bytes_of 8 w)))

-- ---- bytes laid over others

pub overlay_in : (f : ℕ → ℕ) (a : ℕ) (bs : List ℕ) (i : ℕ) → a ≤ i → overlay f a bs i ≡ get_or bs (i - a) (f i)
unfolding overlay
overlay_in f a bs i h = rw (le-leb a i h)

pub overlay-before : (f : ℕ → ℕ) (a : ℕ) (bs : List ℕ) (i : ℕ) → i < a → overlay f a bs i ≡ f i
unfolding overlay
overlay-before f a bs i h = rw (lt-leb a i h)

pub overlay-after : (f : ℕ → ℕ) (a : ℕ) (bs : List ℕ) (i : ℕ) → a + length bs ≤ i → overlay f a bs i ≡ f i
overlay-after f a bs i h = overlay_in f a bs i (omega arith) ∙ get_or-eq_default bs (f i) (omega arith)

-- an element that is there does not depend on the default
any_default : (bs : List ℕ) (k d : ℕ) → k < length bs → get_or bs k 0 ≡ get_or bs k d
any_default [] k d h = absurd (omega arith)
any_default (b ∷ bs) zero d h = refl
any_default (b ∷ bs) (suc k) d h = any_default bs k d (omega arith)

pub overlay_inside : (f : ℕ → ℕ) (a : ℕ) (bs : List ℕ) (i : ℕ) → a ≤ i → i - a < length bs → get_or bs (i - a) 0 ≡ overlay f a bs i
overlay_inside f a bs i h l = any_default bs (i - a) (f i) l ∙ sym (overlay_in f a bs i h)

small_get_d : (bs : List ℕ) (j d : ℕ) → d < 256 → Bytes bs → get_or bs j d < 256
small_get_d [] j d h k = h
small_get_d (b ∷ bs) zero d h k = k 0
small_get_d (b ∷ bs) (suc j) d h k = small_get_d bs j d h (λ i. k (suc i))

pub overlay_small : (f : ℕ → ℕ) (a : ℕ) (bs : List ℕ) → ((i : ℕ) → f i < 256) → Bytes bs → (i : ℕ) → overlay f a bs i < 256
overlay_small f a bs h k i = go (dec_le a i)
  where
    go : Dec (a ≤ i) → overlay f a bs i < 256
    go (yes q) = rw (overlay_in f a bs i q) (small_get_d bs (i - a) (f i) (h i) k)
    go (no q) = rw (overlay-before f a bs i (omega arith)) (h i)

-- two functions that agree at a byte, laid over
pub overlay_cong : (f g : ℕ → ℕ) (a : ℕ) (bs : List ℕ) (i : ℕ) → f i ≡ g i → overlay f a bs i ≡ overlay g a bs i
unfolding overlay
overlay_cong f g a bs i e = rw e

-- the same bytes laid over at a place that is d further on
pub overlay_shift : (f g : ℕ → ℕ) (a b : ℕ) (bs : List ℕ) (i k d : ℕ) → b ≡ d + a → k ≡ d + i → f i ≡ g k → overlay f a bs i ≡ overlay g b bs k
overlay_shift f g a b bs i k d ab ik e = go (dec_le a i)
  where
    go : Dec (a ≤ i) → overlay f a bs i ≡ overlay g b bs k
    go (yes q) = let n : k - b ≡ i - a = omega arith in overlay_in f a bs i q ∙ ap (get_or bs (i - a)) e ∙ ap (λ (m : ℕ). get_or bs m (g k)) (sym n) ∙ sym (overlay_in g b bs k (omega arith))
    go (no q) = overlay-before f a bs i (omega arith) ∙ e ∙ sym (overlay-before g b bs k (omega arith))

-- one byte laid over
pub overlay_same : (f : ℕ → ℕ) (i b : ℕ) → overlay f i (b ∷ []) i ≡ b
overlay_same f i b = overlay_in f i (b ∷ []) i (omega arith) ∙ ap (λ (n : ℕ). get_or (b ∷ []) n (f i)) (let e : i - i ≡ 0 = omega arith in e)

pub overlay_other : (f : ℕ → ℕ) (i b j : ℕ) → j ≢ i → overlay f i (b ∷ []) j ≡ f j
overlay_other f i b j e = go (dec_lt j i)
  where
    go : Dec (j < i) → overlay f i (b ∷ []) j ≡ f j
    go (yes q) = overlay-before f i (b ∷ []) j q
    go (no q) = overlay-after f i (b ∷ []) j (omega arith)

-- a store of bytes into a list is the list with the bytes laid over it
pub overlay_sets : (l : List ℕ) (a : ℕ) (bs : List ℕ) (i : ℕ) → a + length bs ≤ length l → get_or (sets l a bs) i 0 ≡ overlay (byte_at l) a bs i
overlay_sets l a bs i h = go (dec_lt i a) (dec_lt i (a + length bs))
  where
    go : Dec (i < a) → Dec (i < a + length bs) → get_or (sets l a bs) i 0 ≡ overlay (byte_at l) a bs i
    go (yes q) d = sets_other bs l a i (λ x y. omega arith) ∙ sym (overlay-before (byte_at l) a bs i q)
    go (no q) (no d) = sets_other bs l a i (λ x y. omega arith) ∙ sym (overlay-after (byte_at l) a bs i (omega arith))
    go (no q) (yes d) =
        let e : a + (i - a) ≡ i = omega arith in
        sym (ap (λ (n : ℕ). get_or (sets l a bs) n 0) e) ∙ sets_at bs l a (i - a) h (omega arith)
        ∙ overlay_inside (byte_at l) a bs i (omega arith) (omega arith)
