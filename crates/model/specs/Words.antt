-- Bytes and words of an image. A word is 8 bytes, the least significant first. Assumes nothing.
use Rattle.std.specs.Prelude.{ℕ, zero, suc, ◌+◌, ◌-◌, ◌*◌, ◌/◌, ◌%◌, ◌<◌, cond, List, [], ◌∷◌, leb, get_or}
use Rattle.std.proofs.lemmas.List.Edits.{sets}
use Rattle.model.specs.Layout.{word_size}

-- the contents of a persistent container (SPECIFICATION 2.1)
abbrev pub Image : Type 0
Image = List ℕ

-- the byte at a place; past the end it is 0
abbrev pub byte_at : Image → ℕ → ℕ
byte_at I i = get_or I i 0

-- every element is a byte
abbrev pub Bytes : List ℕ → Type 0
Bytes l = (i : ℕ) → byte_at l i < 256

-- the number whose n bytes are f p, f (p + 1), .., the least significant first
unfoldable pub little_endian : ℕ → (ℕ → ℕ) → ℕ → ℕ
little_endian zero f p = 0
little_endian (suc n) f p = f p + 256 * little_endian n f (suc p)

-- the word whose bytes are f p .. f (p + 7)
unfoldable pub word_of : (ℕ → ℕ) → ℕ → ℕ
word_of f p = little_endian word_size f p

-- the word at a place of an image
abbrev pub word_at : Image → ℕ → ℕ
word_at I p = word_of (byte_at I) p

-- the n lowest bytes of a number, the least significant first
unfoldable pub bytes_of : ℕ → ℕ → List ℕ
bytes_of zero w = []
bytes_of (suc n) w = w % 256 ∷ bytes_of n (w / 256)

-- the image with the word w stored at the place p
unfoldable pub store_word : Image → ℕ → ℕ → Image
store_word I p w = sets I p (bytes_of word_size w)

-- f, with the bytes bs laid over it from the place a on
unfoldable pub overlay : (ℕ → ℕ) → ℕ → List ℕ → ℕ → ℕ
overlay f a bs i = cond (leb a i) (get_or bs (i - a) (f i)) (f i)
