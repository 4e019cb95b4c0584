-- Laws of a block's words: their stores, and a block that is handed on as a part of an image.
use Prim.Native.Nat.{ℕ, ◌+◌, ◌-◌, ◌*◌, ◌≤◌, ◌<◌}
use mathlib.Core.Path.{◌≡◌, ap, ◌∙◌}
use mathlib.Core.Bool.{Bool, cond}
use mathlib.Core.List.{[], ◌∷◌, ◌++◌}
use native.Mathlib.Omega.{arith}
use native.Mathlib.Nat.{add-sub_cancel_left}
use lib.ListN.{length, take, drop, length-take, length-drop}
use lib.Seq.{get_or-take, get_or-drop}
use Rattle.model.specs.Words.{Image, byte_at, word_at}
use Rattle.model.specs.Layout.{word_size, block_size, block_words, block_lines}
use Rattle.model.specs.Ops.{store, Ops, stores, clwbs, put_block}
use Rattle.model.proofs.Laws.Range.{cat_ext}
use Rattle.model.proofs.Laws.Words.{word_moved}

-- two functions that agree on the words of a block
put_block_ext : (to : ℕ) (flush : Bool) (v w : ℕ → ℕ) → ((k : ℕ) → k < block_words → v k ≡ w k) → put_block flush to v ≡ put_block flush to w
unfolding put_block stores
put_block_ext to flush v w h =
    ap (λ (O : Ops). O ++ cond flush (clwbs block_lines to) []) (cat_ext block_words _ _ (λ i l. ap (λ (x : ℕ). store (to + word_size * i) x ∷ []) (h i l)))

-- the block_size bytes of an image from a place on, as a part is taken
part_block : (I : Image) (from : ℕ) → take (from + block_size - from) (drop from I) ≡ take block_size (drop from I)
part_block I from = ap (λ (k : ℕ). take k (drop from I)) (add-sub_cancel_left from block_size)

pub length_part : (I : Image) (from : ℕ) → from + block_size ≤ length I → length (take (from + block_size - from) (drop from I)) ≡ block_size
length_part I from h = simp (length-take, length-drop) (omega arith)

-- a word of the part is a word of the image
word_part : (I : Image) (from k : ℕ) → k < block_words → word_at (take block_size (drop from I)) (word_size * k) ≡ word_at I (from + word_size * k)
word_part I from k h =
    word_moved (byte_at (take block_size (drop from I))) (byte_at I) (word_size * k) (from + word_size * k)
    (λ b l. get_or-take block_size (drop from I) (word_size * k + b) 0 (omega arith) ∙ get_or-drop from I (word_size * k + b) 0 ∙ ap (byte_at I) (omega arith))

-- so the copy of the part is the copy of the block
pub copy_part : (I : Image) (from to : ℕ) (flush : Bool)
    → put_block flush to (λ k. word_at (take (from + block_size - from) (drop from I)) (word_size * k)) ≡ put_block flush to (λ k. word_at I (from + word_size * k))
copy_part I from to flush =
    ap (λ (B : Image). put_block flush to (λ k. word_at B (word_size * k))) (part_block I from) ∙ put_block_ext to flush _ _ (word_part I from)
