-- Corner sheets with the number that they print, worked out by hand from SPECIFICATION 16: 0 for a good sheet, else the number
-- of the first bad or missing line; and what some good sheets say. `Corners` says that the definitions give all this. Proved
-- in proofs/Corners.antt.
use Rattle.std.specs.Prelude.{ℕ, ◌≡◌, Bool, true, false, ◌&&◌, List, [], ◌∷◌, eqb, replicate}
use Prim.Native.String.{String}
use Rattle.model.specs.Layout.{layout_of}
use Rattle.text.specs.Text.{text, line_end, lines_of}
use Rattle.lines.specs.declared.Key.TheVariants.{Mains}
use Rattle.lines.specs.Line.{is_bytes, or_zero}
use Rattle.parser.specs.Script.{first_bad, Group, bad, good, parse}

pub record Corner : Type 0 where
  pub sheet : String
  pub line : ℕ

abbrev pub corner : String → ℕ → Corner
corner s n = record { sheet = s; line = n }

-- whether the definitions give the number of each
unfoldable pub all_given : List Corner → Bool
all_given [] = true
all_given (c ∷ cs) = eqb (or_zero (first_bad Mains 0 (lines_of (text c.sheet)))) c.line && all_given cs

-- sheets of sizes alone
abbrev pub size_corners : List Corner
size_corners =
    -- good: with and without spares, no group
    corner "mains=2\nspares=1\nframes=1\n" 0
    ∷ corner "mains=4\nframes=4\n" 0
    -- empty, blank, broken off, without the last byte 10
    ∷ corner "" 1
    ∷ corner "\n" 1
    ∷ corner "mains=2\n" 2
    ∷ corner "mains=2\nspares=1\n" 3
    ∷ corner "mains=2\nspares=1\nframes=1" 3
    ∷ corner "mains=2\nframes=1" 2
    -- keys unknown, repeated, out of order, with spaces or a carriage return
    ∷ corner "main=2\nframes=1\n" 1
    ∷ corner "spares=1\nmains=2\nframes=1\n" 1
    ∷ corner "mains=2\nmains=2\nframes=1\n" 2
    ∷ corner "mains=2\nframes=1\nspares=1\n" 3
    ∷ corner "mains=2\nspares=1\nspares=1\nframes=1\n" 3
    ∷ corner "mains=2\n\nframes=1\n" 2
    ∷ corner "mains= 2\nframes=1\n" 1
    ∷ corner "mains=2\r\nframes=1\n" 1
    -- sizes out of range, and numbers out of form
    ∷ corner "mains=0\nframes=1\n" 1
    ∷ corner "mains=5\nframes=1\n" 1
    ∷ corner "mains=2\nspares=0\nframes=1\n" 2
    ∷ corner "mains=2\nspares=5\nframes=1\n" 2
    ∷ corner "mains=2\nframes=5\n" 2
    ∷ corner "mains=02\nframes=1\n" 1
    ∷ corner "mains=\nframes=1\n" 1
    ∷ corner "mains=+2\nframes=1\n" 1 ∷ []

-- sheets with groups
abbrev pub group_corners : List Corner
group_corners =
    -- good: the sheet of SPECIFICATION 16.4; no bytes, numbers that the call will refuse, two groups
    corner "mains=2\nspares=1\nframes=1\nlevel=0\nframe=0\nat=6\nbytes=a1b2c3d4\nsave=1\n" 0
    ∷ corner "mains=2\nframes=1\nlevel=999\nframe=10\nat=100\nbytes=\nsave=0\n" 0
    ∷ corner "mains=2\nframes=1\nlevel=0\nframe=0\nat=0\nbytes=\nsave=0\nlevel=1\nframe=0\nat=0\nbytes=0f\nsave=1\n" 0
    -- a group broken off, one line after another; lines are counted as they stand in the file, spares left out or not
    ∷ corner "mains=2\nframes=1\nlevel=0\n" 4
    ∷ corner "mains=2\nspares=1\nframes=1\nlevel=0\nframe=0\n" 6
    ∷ corner "mains=2\nframes=1\nlevel=0\nframe=0\nat=0\n" 6
    ∷ corner "mains=2\nframes=1\nlevel=0\nframe=0\nat=0\nbytes=00\n" 7
    ∷ corner "mains=2\nframes=1\nlevel=0\nframe=0\nat=0\nbytes=00\nsave=1" 7
    -- what is no group
    ∷ corner "mains=2\nframes=1\n\n" 3
    ∷ corner "mains=2\nframes=1\nframe=0\n" 3
    ∷ corner "mains=2\nframes=1\nlevel=0\nlevel=0\n" 4
    ∷ corner "mains=2\nframes=1\nlevel=0\nframe=0\nat=0\nbytes=\nsave=0\n\n" 8
    -- four digits, a leading zero, a sign
    ∷ corner "mains=2\nframes=1\nlevel=1000\n" 3
    ∷ corner "mains=2\nframes=1\nlevel=0\nframe=00\n" 4
    ∷ corner "mains=2\nframes=1\nlevel=0\nframe=0\nat=007\n" 5
    ∷ corner "mains=2\nframes=1\nlevel=0\nframe=0\nat=-1\n" 5
    -- an odd count, upper case, no digit
    ∷ corner "mains=2\nframes=1\nlevel=0\nframe=0\nat=0\nbytes=0\nsave=0\n" 6
    ∷ corner "mains=2\nframes=1\nlevel=0\nframe=0\nat=0\nbytes=0A\nsave=0\n" 6
    ∷ corner "mains=2\nframes=1\nlevel=0\nframe=0\nat=0\nbytes=g0\nsave=0\n" 6
    -- save is 0 or 1
    ∷ corner "mains=2\nframes=1\nlevel=0\nframe=0\nat=0\nbytes=\nsave=2\n" 7
    ∷ corner "mains=2\nframes=1\nlevel=0\nframe=0\nat=0\nbytes=\nsave=00\n" 7
    ∷ corner "mains=2\nframes=1\nlevel=0\nframe=0\nat=0\nbytes=\nsave=\n" 7 ∷ []

-- ---- what good sheets say, and lengths

-- the sheet of SPECIFICATION 16.4
abbrev pub example_sheet : String
example_sheet = "mains=2\nspares=1\nframes=1\nlevel=0\nframe=0\nat=6\nbytes=a1b2c3d4\nsave=1\n"

abbrev pub example_group : Group
example_group = record { main = 0; block = 0; offset = 6; bytes = 0xa1 ∷ 0xb2 ∷ 0xc3 ∷ 0xd4 ∷ []; checkpoint = true }

-- two groups
abbrev pub two_groups : String
two_groups = "mains=3\nspares=3\nframes=2\nlevel=2\nframe=1\nat=255\nbytes=09\nsave=0\nlevel=10\nframe=345\nat=999\nbytes=\nsave=1\n"

abbrev pub first_group : Group
first_group = record { main = 2; block = 1; offset = 255; bytes = 9 ∷ []; checkpoint = false }

abbrev pub second_group : Group
second_group = record { main = 10; block = 345; offset = 999; bytes = []; checkpoint = true }

-- each number of mains without a line of spares, with frames of which no half is what is meant, and a group behind
pub record Halves : Type 0 where
  pub one : parse (text "mains=1\nframes=4\n") ≡ good (layout_of 1 1 4) []
  pub two : parse (text "mains=2\nframes=4\n") ≡ good (layout_of 2 1 4) []
  pub three : parse (text "mains=3\nframes=1\n") ≡ good (layout_of 3 2 1) []
  pub four : parse (text "mains=4\nframes=1\nlevel=2\nframe=1\nat=255\nbytes=09\nsave=0\n") ≡ good (layout_of 4 2 1) (first_group ∷ [])

-- 4,096 bytes are judged, 4,097 are too long; 2,048 digits are good, 2,049 and 2,050 are not
pub record Corners : Type 0 where
  pub sizes : all_given size_corners ≡ true
  pub groups : all_given group_corners ≡ true
  pub example : parse (text example_sheet) ≡ good (layout_of 2 1 1) (example_group ∷ [])
  pub two : parse (text two_groups) ≡ good (layout_of 3 3 2) (first_group ∷ second_group ∷ [])
  pub halves : Halves
  pub longest : parse (replicate 4096 line_end) ≡ bad 1
  pub longer : parse (replicate 4097 line_end) ≡ bad 0
  pub digits : (is_bytes (replicate 2048 48) ≡ true) × (is_bytes (replicate 2049 48) ≡ false) × (is_bytes (replicate 2050 48) ≡ false)
