-- Sizes and places of an image (SPECIFICATION 1 and 2). Every size is named here, and as a constant of
-- `Layout` in src/. Assumes nothing.
use Rattle.std.specs.Prelude.{ℕ, ◌+◌, ◌*◌, ◌%◌, ◌≤◌, Bool, ◌&&◌, leb}
use Rattle.model.specs.declared.Layout.{Layout}

-- bytes of a word, a line, a block (the trade: frame), the metadata
abbrev pub word_size : ℕ
word_size = 8

abbrev pub line_size : ℕ
line_size = 64

abbrev pub block_size : ℕ
block_size = 256

abbrev pub metadata_size : ℕ
metadata_size = 512

-- words and lines of a block, words of a line
abbrev pub block_words : ℕ
block_words = 32

abbrev pub block_lines : ℕ
block_lines = 4

abbrev pub line_words : ℕ
line_words = 8

-- operations that copy a block: its words stored, its lines written back
abbrev pub block_ops : ℕ
block_ops = block_words + block_lines

-- the most main segments, backup segments or blocks
abbrev pub most : ℕ
most = 64

-- the most segments, main and backup
abbrev pub most_segments : ℕ
most_segments = most + most

-- bytes of the largest image: 64 main segments and 64 backup segments of 64 blocks
abbrev pub largest_image : ℕ
largest_image = metadata_size + block_size * most * most_segments

-- where the metadata stands: the epoch, the three sizes, the two lines of states, the pairs
abbrev pub epoch_at : ℕ
epoch_at = 0

abbrev pub mains_at : ℕ
mains_at = 64

abbrev pub backups_at : ℕ
backups_at = 72

abbrev pub blocks_at : ℕ
blocks_at = 80

abbrev pub states_at : ℕ
states_at = 128

abbrev pub pairs_at : ℕ
pairs_at = 256

-- where the line of states for odd epochs stands, where the sizes end, and where the pairs end
abbrev pub odd_states_at : ℕ
odd_states_at = states_at + line_size

abbrev pub header_end : ℕ
header_end = blocks_at + word_size

abbrev pub pairs_end : ℕ
pairs_end = pairs_at + most

-- the pair byte of a backup segment that has no main segment
abbrev pub unpaired : ℕ
unpaired = 255

-- the states of a main segment: its checkpoint is all zero, stands in itself, stands in its backup
abbrev pub ss_initial : ℕ
ss_initial = 0

abbrev pub ss_main : ℕ
ss_main = 1

abbrev pub ss_backup : ℕ
ss_backup = 2

-- the layout of three sizes
abbrev pub layout_of : ℕ → ℕ → ℕ → Layout
layout_of mains backups blocks = record { mains = mains; backups = backups; blocks = blocks }

-- a size that is allowed
abbrev pub InRange : ℕ → Type 0
InRange n = (1 ≤ n) × (n ≤ most)

-- all three sizes are
abbrev pub SizesOk : Layout → Type 0
SizesOk l = InRange l.mains × InRange l.backups × InRange l.blocks

unfoldable pub in_range : ℕ → Bool
in_range n = leb 1 n && leb n most

unfoldable pub sizes_ok : Layout → Bool
sizes_ok l = in_range l.mains && in_range l.backups && in_range l.blocks

-- bytes of an image
unfoldable pub image_size : Layout → ℕ
image_size l = metadata_size + block_size * l.blocks * (l.mains + l.backups)

-- bytes of a segment
abbrev pub segment_size : Layout → ℕ
segment_size l = block_size * l.blocks

-- where segment k starts: the main segments come first, then the backup segments
abbrev pub segment_at : Layout → ℕ → ℕ
segment_at l k = metadata_size + block_size * (k * l.blocks)

abbrev pub main_at : Layout → ℕ → ℕ
main_at l i = segment_at l i

abbrev pub backup_at : Layout → ℕ → ℕ
backup_at l j = segment_at l (l.mains + j)

-- where the line of states for epoch e starts: one for even epochs, one for odd
unfoldable pub state_line : ℕ → ℕ
state_line e = states_at + line_size * (e % 2)
