-- What the comparison of two dumps shows (SPECIFICATION 21.5): a text, by the comparison and by the checkpoint reads of both images.
-- UnlikeNamed.antt says that what it names is there. Assumes nothing.
use Rattle.std.specs.Prelude.{ℕ, Bool, not, cond, ◌||◌, List, ◌++◌, ltb, eqb, get_or}
use Rattle.std.specs.Bool.{beq}
use Rattle.model.specs.declared.Layout.{Layout}
use Rattle.model.specs.Range.{any_b, first_b}
use Rattle.model.specs.Words.{Image}
use Rattle.model.specs.Layout.{block_size}
use Rattle.model.specs.Status.{served}
use Rattle.model.specs.Reads.{checkpoint_part, checkpoint_block}
use Rattle.model.specs.Same.{same_bytes, same_outcome}
use Rattle.text.specs.Text.{text}
use Rattle.printer.specs.Decimal.{decimal}
use Rattle.inspect.specs.DumpText.{dump_status, keyed}

-- ---- what tells two images apart

-- a block has other checkpoint bytes in the one than in the other; those of a main segment that has none count as zeros
unfoldable pub block_unlike : Layout → Image → Image → ℕ → ℕ → Bool
block_unlike l I J i b = not (same_bytes block_size (checkpoint_block l I i b) (checkpoint_block l J i b))

-- a main segment has a checkpoint in one of them alone (the trade: it is empty in the other)
unfoldable pub initial_unlike : Layout → Image → Image → ℕ → Bool
initial_unlike l I J i = not (beq (eqb (checkpoint_part l I i 0).size 0) (eqb (checkpoint_part l J i 0).size 0))

-- a main segment is unlike by that or by its bytes
unfoldable pub main_unlike : Layout → Image → Image → ℕ → Bool
main_unlike l I J i = initial_unlike l I J i || any_b l.blocks (block_unlike l I J i)

-- ---- the first of each, or their number where there is none

unfoldable pub first_main : Layout → Image → Image → ℕ
first_main l I J = first_b l.mains (main_unlike l I J)

unfoldable pub first_block : Layout → Image → Image → ℕ → ℕ
first_block l I J i = first_b l.blocks (block_unlike l I J i)

-- of two blocks, the first byte
unfoldable pub first_byte : List ℕ → List ℕ → ℕ
first_byte x y = first_b block_size (λ k. not (eqb (get_or x k 0) (get_or y k 0)))

-- ---- the text

-- where in main segment i; one that is unlike only because one of the two has no checkpoint of it has no such place
unfoldable pub place_text : Layout → Image → Image → ℕ → List ℕ
place_text l I J i =
    let b : ℕ = first_block l I J i in
    cond (ltb b l.blocks)
    (keyed " frame=" (decimal b) ++ (keyed " at=" (decimal (first_byte (checkpoint_block l I i b) (checkpoint_block l J i b))) ++ text "\n"))
    (text " frame=- at=-\n")

unfoldable pub unlike_text : Layout → Image → Image → List ℕ
unlike_text l I J = keyed "same=0 level=" (decimal (first_main l I J)) ++ place_text l I J (first_main l I J)

-- which of the two is refused: the first wholly before the second
unfoldable pub refused_text : Layout → Image → ℕ → List ℕ
refused_text l I e = keyed "refusal=" (decimal e) ++ cond (served (dump_status l I)) (text " image=B\n") (text " image=A\n")

-- WHAT THE COMPARISON SHOWS of two images, judged by a layout
unfoldable pub same_text : Layout → Image → Image → List ℕ
same_text l I J =
    cond (served (same_outcome l I J).status)
    (cond (same_outcome l I J).same (text "same=1\n") (unlike_text l I J))
    (refused_text l I (same_outcome l I J).status)
