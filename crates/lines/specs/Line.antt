-- One line of the bench sheet (SPECIFICATION 16): the keys in their order, what may stand behind each, and which
-- line is good. Assumes nothing.
use Rattle.std.specs.Prelude.{ℕ, ◌-◌, Bool, false, ◌&&◌, List, leb, eqb, length, get_or, take, drop}
use Rattle.text.specs.Text.{text, starts_with, Line, line_end, number_of, hex_pairs}
use Rattle.std.specs.Prelude.{Option, None, Some}
use Rattle.lines.specs.declared.Key.{Key}
use Rattle.lines.specs.declared.Key.TheVariants.{Mains, Backups, Blocks, Main, Block, Offset, Bytes, Checkpoint}

-- the most hexadecimal digits of a value: two for each byte of the largest main segment of a sheet
abbrev pub most_digits : ℕ
most_digits = 2048

-- ---- a line

-- the largest size, and the largest number of three digits
abbrev pub most_size : ℕ
most_size = 4

abbrev pub most_number : ℕ
most_number = 999

-- whether there is a number from `least` to `most`
abbrev pub within : ℕ → ℕ → Option ℕ → Bool
within least most None = false
within least most (Some n) = leb least n && leb n most

-- what may stand behind a key: a size from 1 to 4, a number, an even count of hexadecimal digits, 0 or 1
abbrev pub is_size : List ℕ → Bool
is_size v = within 1 most_size (number_of v)

abbrev pub is_number : List ℕ → Bool
is_number v = within 0 most_number (number_of v)

abbrev pub is_bytes : List ℕ → Bool
is_bytes v = leb (length v) most_digits && hex_pairs v

abbrev pub is_flag : List ℕ → Bool
is_flag v = within 0 1 (number_of v)

-- the bytes of a key with its `=`: three sizes, then the five lines of a group (the trade: level, frame, at, bytes, save)
unfoldable pub name : Key → List ℕ
name Mains = text "mains="
name Backups = text "spares="
name Blocks = text "frames="
name Main = text "level="
name Block = text "frame="
name Offset = text "at="
name Bytes = text "bytes="
name Checkpoint = text "save="

-- the values that it takes
unfoldable pub takes : Key → List ℕ → Bool
takes Mains = is_size
takes Backups = is_size
takes Blocks = is_size
takes Main = is_number
takes Block = is_number
takes Offset = is_number
takes Bytes = is_bytes
takes Checkpoint = is_flag

-- a line that starts with a key, and the value between the key and the byte 10
unfoldable pub named : Key → Line → Bool
named k l = starts_with (name k) l

unfoldable pub value_of : Key → Line → List ℕ
value_of k l = take (length l - 1 - length (name k)) (drop (length (name k)) l)

-- a good line: the key, a good value, byte 10
unfoldable pub good_line : Key → Line → Bool
good_line k l = named k l && eqb (get_or l (length l - 1) 0) line_end && takes k (value_of k l)

-- a number, or 0 for none; the number that stands for key k in a line, which a good line has
abbrev pub or_zero : Option ℕ → ℕ
or_zero None = 0
or_zero (Some n) = n

abbrev pub number_in : Key → Line → ℕ
number_in k l = or_zero (number_of (value_of k l))
