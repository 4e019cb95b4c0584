-- Persist operations and the trace that holds them (SPECIFICATION 6; the trade: orders and tape). Assumes nothing.
use Rattle.std.specs.Prelude.{ℕ, zero, suc, ◌+◌, ◌*◌, ◌/◌, Bool, true, cond, List, [], ◌∷◌, ◌++◌, ltb, eqb, length, drop}
use Rattle.model.specs.declared.Layout.{Layout}
use Rattle.model.specs.Status.{Errors}
use Rattle.model.specs.Range.{cat}
use Rattle.model.specs.Words.{Image, byte_at, word_of, word_at, store_word, overlay}
use Rattle.model.specs.Layout.{word_size, line_size, block_size, block_words, block_lines}
use Rattle.model.specs.Session.{adr, is_dirty}

-- store a word at a place; write the line of a place back; wait for what was written back (the trade: store, flush, fence); a
-- place is the number of a byte of the image
pub data Op : Type 0 where
  store : ℕ → ℕ → Op
  clwb : ℕ → Op
  sfence : Op

abbrev pub Ops : Type 0
Ops = List Op

-- a run of numbers, three an operation: kind, place, word (the trade: tape)
abbrev pub Trace : Type 0
Trace = List ℕ

-- ---- an operation as three numbers, and back

abbrev pub op_numbers : ℕ
op_numbers = 3

-- the three kinds
abbrev pub op_store : ℕ
op_store = 1

abbrev pub op_clwb : ℕ
op_clwb = 2

abbrev pub op_sfence : ℕ
op_sfence = 3

abbrev pub triple : Op → Trace → Trace
triple (store p w) t = op_store ∷ p ∷ w ∷ t
triple (clwb p) t = op_clwb ∷ p ∷ 0 ∷ t
triple sfence t = op_sfence ∷ 0 ∷ 0 ∷ t

unfoldable pub encode : Ops → Trace
encode [] = []
encode (o ∷ O) = triple o (encode O)

-- a kind that is neither of the first two is read as a fence; refusal 12 comes before that could be seen
unfoldable pub op_of : ℕ → ℕ → ℕ → Op
op_of kind p w = cond (eqb kind op_store) (store p w) (cond (eqb kind op_clwb) (clwb p) sfence)

unfoldable pub decode : Trace → Ops
decode [] = []
decode (k ∷ []) = []
decode (k ∷ p ∷ []) = []
decode (k ∷ p ∷ w ∷ t) = op_of k p w ∷ decode t

-- the trace after a call that wrote the operations O: they stand at its start, later numbers keep their contents
unfoldable pub written : Ops → Trace → Trace
written O t = encode O ++ drop (op_numbers * length O) t

-- refusal 11: the trace is too short for the operations
unfoldable pub trace_short : Ops → Trace → Bool
trace_short O t = ltb (length t) (op_numbers * length O)

abbrev pub trace_errors : Ops → Trace → Errors
trace_errors O t = (11, trace_short O t) ∷ []

-- ---- what the trace has for a kind of module (SPECIFICATION 6.10)

-- whether the trace for a kind has an operation: kind 0's has them all, kind 1's has no write-back
abbrev pub writes : ℕ → Op → Bool
writes d (store p w) = true
writes d (clwb p) = eqb d adr
writes d sfence = true

-- those of the operations that it has, in their order
unfoldable pub for_domain : ℕ → Ops → Ops
for_domain d [] = []
for_domain d (o ∷ O) = cond (writes d o) (o ∷ for_domain d O) (for_domain d O)

-- the shortest first part of the operations that holds the first p of those
unfoldable pub first_part : ℕ → ℕ → Ops → Ops
first_part d p [] = []
first_part d zero (o ∷ O) = []
first_part d (suc p) (o ∷ O) = o ∷ first_part d (cond (writes d o) p (suc p)) O

-- ---- what an operation does to an image

unfoldable pub apply : Op → Image → Image
apply (store p w) I = store_word I p w
apply (clwb p) I = I
apply sfence I = I

-- the operations, one after the other (the trade: play)
unfoldable pub replay : Ops → Image → Image
replay [] I = I
replay (o ∷ O) I = replay O (apply o I)

-- ---- runs of operations

-- n words stored from the place a on, upward
unfoldable pub stores : ℕ → ℕ → (ℕ → ℕ) → Ops
stores n a w = cat n (λ k. store (a + word_size * k) (w k) ∷ [])

-- n lines written back from the place a on, upward
unfoldable pub clwbs : ℕ → ℕ → Ops
clwbs n a = cat n (λ k. clwb (a + line_size * k) ∷ [])

-- a block stored and, if it is to be, written back: 32 stores, then 4 write-backs, each ascending
unfoldable pub put_block : Bool → ℕ → (ℕ → ℕ) → Ops
put_block flush a w = stores block_words a w ++ cond flush (clwbs block_lines a) []

-- a block copied (SPECIFICATION 6.8), each word as it stands in the image, and a block of zeros by the same operations
unfoldable pub persist_copy : Image → ℕ → ℕ → Ops
persist_copy I from to = put_block true to (λ k. word_at I (from + word_size * k))

unfoldable pub persist_zero : ℕ → Ops
persist_zero to = put_block true to (λ k. 0)

-- all blocks of a segment copied to another, upward; and all blocks of one filled with zeros
unfoldable pub copy_segment : Layout → Image → ℕ → ℕ → Ops
copy_segment l I from to = cat l.blocks (λ b. persist_copy I (from + block_size * b) (to + block_size * b))

unfoldable pub zero_segment : Layout → ℕ → Ops
zero_segment l to = cat l.blocks (λ b. persist_zero (to + block_size * b))

-- the operations f b for each of the first n blocks that is dirty by its bit in a word, upward
abbrev pub each_dirty : ℕ → ℕ → (ℕ → Ops) → Ops
each_dirty word n f = cat n (λ b. cond (is_dirty word b) (f b) [])

-- the place of the word that holds a byte, and the operation that stores one byte in its word
abbrev pub word_place : ℕ → ℕ
word_place i = word_size * (i / word_size)

abbrev pub store_byte : Image → ℕ → ℕ → Op
store_byte I i b = store (word_place i) (word_of (overlay (byte_at I) i (b ∷ [])) (word_place i))
