-- What the bytes of a write meet (SPECIFICATION 10.4, 10.5, 10.9), in plain words: a span that 8 passes stands whole in its main
-- segment; the words that `span_words` counts, which `span_stores` stores, are those that hold one of its bytes, and so are the
-- blocks that become dirty.
-- Proved in proofs/Laws/Span.antt. Assumes nothing.
use Rattle.std.specs.Prelude.{ℕ, ◌+◌, ◌-◌, ◌*◌, ◌/◌, ◌≤◌, ◌<◌, ◌≡◌, ◌↔◌, ◌⊎◌, true, false, length}
use Rattle.model.specs.declared.Layout.{Layout}
use Rattle.model.specs.declared.Session.{Session}
use Rattle.model.specs.Words.{Image}
use Rattle.model.specs.Layout.{word_size, block_size}
use Rattle.model.specs.Session.{dirty_block}
use Rattle.model.specs.Write.{WriteArgs, needs_copy, span_words, span_blocks, write_session, span_bad}

-- of n bytes from place a on, one stands in piece u of so many bytes
abbrev pub Meets : ℕ → ℕ → ℕ → ℕ → Type 0
Meets size a n u = (k : ℕ) × (k < n) × ((a + k) / size ≡ u)

-- piece u is one of the count pieces from piece f on
abbrev pub OneFrom : ℕ → ℕ → ℕ → Type 0
OneFrom f count u = (f ≤ u) × (u < f + count)

-- block b of its main segment holds a byte of the write
abbrev pub MeetsBlock : WriteArgs → ℕ → Type 0
MeetsBlock w b = Meets block_size (block_size * w.block + w.offset) (length w.bytes) b

-- which spans 8 passes
abbrev pub SpanPasses : Type 0
SpanPasses =
    (l : Layout) (w : WriteArgs)
    → (span_bad l w ≡ false) ↔ ((0 < length w.bytes) × (w.offset ≤ 255) × (w.offset + length w.bytes ≤ 256 * (l.blocks - w.block)))

-- the words that bytes meet: `span_words` of them, from that of the first byte on
abbrev pub WordsMet : Type 0
WordsMet = (a n u : ℕ) → 0 < n → Meets word_size a n u ↔ OneFrom (a / word_size) (span_words a n) u

-- the blocks: `span_blocks` of them, from the write's own on, and all are blocks of its main segment
abbrev pub BlocksMet : Type 0
BlocksMet =
    (l : Layout) (w : WriteArgs) → span_bad l w ≡ false
    → ((b : ℕ) → MeetsBlock w b ↔ OneFrom w.block (span_blocks w) b) × ((b : ℕ) → MeetsBlock w b → b < l.blocks)

-- after a write block b of main segment i is dirty exactly if it holds one of the bytes, or was dirty and its segment was not copied
abbrev pub DirtyMet : Type 0
DirtyMet =
    (s : Session) (I : Image) (w : WriteArgs) → w.main < length s.dirty_blocks → span_bad s.layout w ≡ false → (i b : ℕ)
    → (dirty_block (write_session s I w) i b ≡ true)
    ↔ (((i ≡ w.main) × MeetsBlock w b) ⊎ ((i ≡ w.main → needs_copy s I w.main ≡ false) × (dirty_block s i b ≡ true)))
