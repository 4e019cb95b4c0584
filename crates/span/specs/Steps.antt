-- A helper's: what a write is given, by its place and its bytes, and the stores of one word and of the first. Nothing that
-- users rely on is said in these terms. Assumes nothing.
use Rattle.std.specs.Prelude.{ℕ, ◌%◌, not, cond, List, [], ◌∷◌, eqb}
use Rattle.model.specs.Words.{Image, byte_at, word_of, overlay}
use Rattle.model.specs.Layout.{word_size}
use Rattle.model.specs.Ops.{Op, store, Ops, word_place}
use Rattle.model.specs.Write.{WriteArgs, write_args_of}
use Rattle.model.specs.declared.Place.{Place}

-- what a write by a client is given that puts these bytes at a place
abbrev pub args_of : ℕ → Place → List ℕ → WriteArgs
args_of client p bytes = write_args_of client p.main p.block p.offset bytes

-- the word at a place of an image, stored with bytes laid over it
abbrev pub overlaid_store : Image → ℕ → List ℕ → ℕ → Op
overlaid_store I a bs p = store p (word_of (overlay (byte_at I) a bs) p)

-- the word in whose midst bytes start, stored with the bytes laid over it; nothing if they start a word
abbrev pub first_stores : Image → ℕ → List ℕ → Ops
first_stores I a bs = cond (not (eqb (a % word_size) 0)) (overlaid_store I a bs (word_place a) ∷ []) []
