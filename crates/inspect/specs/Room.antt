-- How much of a buffer the parts of a dump's text may take: a helper's, nothing that users rely on is said in its terms. Assumes nothing.
use Rattle.std.specs.Prelude.{ℕ, ◌+◌, ◌*◌}
use Rattle.model.specs.Layout.{most}
use Rattle.printer.specs.Decimal.{number_size}
use Rattle.printer.specs.Numbers.{hex_size}

-- the length and the sizes; the epoch; the place of the states; the first line
abbrev pub sizes_room : ℕ
sizes_room = 29 + 4 * number_size

abbrev pub epoch_room : ℕ
epoch_room = 7 + number_size

abbrev pub states_room : ℕ
states_room = 11 + hex_size

abbrev pub first_room : ℕ
first_room = sizes_room + epoch_room + states_room + 10 + number_size

-- of a main segment: its number and state; its backup segment; its two parts; a number of a list; the list; the line
abbrev pub state_room : ℕ
state_room = 13 + 2 * number_size

abbrev pub backup_room : ℕ
backup_room = 7 + number_size

abbrev pub parts_room : ℕ
parts_room = 16 + 2 * hex_size

abbrev pub item_room : ℕ
item_room = 1 + number_size

abbrev pub list_room : ℕ
list_room = item_room * most + 1

abbrev pub level_room : ℕ
level_room = state_room + backup_room + parts_room + 8 + list_room + 8
