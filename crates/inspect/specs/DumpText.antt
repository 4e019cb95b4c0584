-- What a dump shows of an image (SPECIFICATION 21): a text, by the reads, the states and the pairs, so that the eye sees what the proofs
-- speak of. It is printed for the trade: main segments are levels, backup segments spares, blocks frames. Assumes nothing.
use Rattle.std.specs.Prelude.{ℕ, zero, suc, ◌+◌, Bool, not, cond, ◌&&◌, List, [], ◌++◌, leb, ltb, eqb, length}
use Prim.Native.String.{String}
use Rattle.model.specs.declared.Layout.{Layout}
use Rattle.model.specs.Range.{cat, all_b, any_b}
use Rattle.model.specs.Words.{Image, word_at}
use Rattle.model.specs.Layout.{word_size, line_size, block_size, mains_at, backups_at, blocks_at, layout_of}
use Rattle.model.specs.Status.{served}
use Rattle.model.specs.Container.{committed_epoch, active_line, active_state, backup_to_main, paired_backup}
use Rattle.model.specs.Reads.{Part, read_status, checkpoint_part, working_part, checkpoint_block, working_block}
use Rattle.model.specs.Same.{same_bytes}
use Rattle.text.specs.Text.{text}
use Rattle.printer.specs.Decimal.{decimal}
use Rattle.printer.specs.Numbers.{hexadecimal}

-- the sizes that an image carries, by its own words; bytes beyond its end count as 0, as everywhere
unfoldable pub own_layout : Image → Layout
own_layout I = layout_of (word_at I mains_at) (word_at I backups_at) (word_at I blocks_at)

-- the number that a read gives: the first of refusals 1 to 4 that applies, or 0
abbrev pub dump_status : Layout → Image → ℕ
dump_status l I = read_status l I 0 0

-- a key and its value; the sign for a value that there is not
abbrev pub keyed : String → List ℕ → List ℕ
keyed key value = text key ++ value

abbrev pub dash : List ℕ
dash = text "-"

-- ---- the first line

-- the length, and the sizes by which it is judged
unfoldable pub sizes_text : Layout → ℕ → List ℕ
sizes_text l n =
    keyed "bytes=" (decimal n)
    ++ keyed " mains=" (decimal l.mains)
    ++ keyed " spares=" (decimal l.backups)
    ++ keyed " frames=" (decimal l.blocks)

-- the epoch, where the image is long enough to have one
unfoldable pub epoch_text : Image → List ℕ
epoch_text I = cond (leb word_size (length I)) (decimal (committed_epoch I)) dash

-- where the active line of states stands, if the image has it
unfoldable pub states_text : Image → List ℕ
states_text I = cond (leb (active_line I + line_size) (length I)) (hexadecimal (active_line I)) dash

unfoldable pub first_text : Layout → Image → List ℕ
first_text l I =
    sizes_text l (length I)
    ++ keyed " epoch=" (epoch_text I)
    ++ keyed " states-at=" (states_text I)
    ++ (keyed " refusal=" (decimal (dump_status l I)) ++ text "\n")

-- ---- the line of a main segment

-- its backup segment, if it has one
unfoldable pub backup_text : Layout → Image → ℕ → List ℕ
backup_text l I i = cond (ltb (paired_backup l (backup_to_main I) i) l.backups) (decimal (paired_backup l (backup_to_main I) i)) dash

-- where a read's part starts; a checkpoint read that finds none finds an empty main segment
unfoldable pub part_text : Part → List ℕ
part_text p = cond (eqb p.size 0) (text "empty") (hexadecimal p.start)

-- whether the checkpoint bytes of a block and its working bytes differ; where there is no part, the bytes count as zeros
unfoldable pub block_differs : Layout → Image → ℕ → ℕ → Bool
block_differs l I i b = not (same_bytes block_size (checkpoint_block l I i b) (working_block l I i b))

-- the numbers below n of which P holds, upward, with commas between them
unfoldable pub listed : ℕ → (ℕ → Bool) → List ℕ
listed zero P = []
listed (suc n) P = listed n P ++ cond (P n) (cond (any_b n P) (text ",") [] ++ decimal n) []

unfoldable pub list_text : ℕ → (ℕ → Bool) → List ℕ
list_text n P = cond (any_b n P) (listed n P) dash

-- whether a main segment has a checkpoint and all bytes of it are 0 (SPECIFICATION 13.3; the trade: set, and silent)
unfoldable pub is_silent : Layout → Image → ℕ → Bool
is_silent l I i = not (eqb (checkpoint_part l I i 0).size 0) && all_b l.blocks (λ b. same_bytes block_size (checkpoint_block l I i b) [])

unfoldable pub level_text : Layout → Image → ℕ → List ℕ
level_text l I i =
    keyed "level=" (decimal i)
    ++ keyed " state=" (decimal (active_state I i))
    ++ keyed " spare=" (backup_text l I i)
    ++ (keyed " saved=" (part_text (checkpoint_part l I i 0)) ++ keyed " working=" (part_text (working_part l I i 0)))
    ++ keyed " differ=" (list_text l.blocks (block_differs l I i))
    ++ cond (is_silent l I i) (text " silent\n") (text "\n")

-- WHAT A DUMP SHOWS of an image, judged by a layout: the first line, and if no read is refused a line for each main segment, upward
unfoldable pub dump_text : Layout → Image → List ℕ
dump_text l I = first_text l I ++ cond (served (dump_status l I)) (cat l.mains (level_text l I)) []
