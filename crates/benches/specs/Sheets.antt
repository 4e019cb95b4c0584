-- Bench sheets and what they print, byte for byte: the example of SPECIFICATION 16.4; the sheet of 17.6 that two benches run, in
-- which backup segments are taken from other main segments, with the pairs that stand on the board after each group; and a sheet of the older
-- rule (17.9), as it is under both rules and rewritten. What is expected is copied from the specification; the gate compares the sheets with examples/ (tests/sheet). Proved in proofs/Sheets.antt.
-- Assumes nothing.
use Rattle.std.specs.Prelude.{ℕ, ◌≡◌, List, [], ◌∷◌, ◌++◌, take, drop}
use Prim.Native.String.{String}
use Rattle.model.specs.Layout.{pairs_at, unpaired}
use Rattle.text.specs.Text.{text}
use Rattle.parser.specs.Script.{Script, bad, good, Group, parse}
use Rattle.calls.specs.Printed.{Board, after_group, opened_board, printed_by, printed}
use Rattle.upgrade.specs.Upgrade.{older_backups, upgrade_text}

-- ---- the example

abbrev pub example : String
example = "mains=2\nspares=1\nframes=1\nlevel=0\nframe=0\nat=6\nbytes=a1b2c3d4\nsave=1\n"

abbrev pub example_printed : String
example_printed = "open=0 orders=73\nstep=1 write=0 orders=2 save=0 orders=18 epoch=1\n"

-- ---- two benches (examples/benches.sheet)

abbrev pub two_benches : String
two_benches = "mains=3\nspares=2\nframes=1\nlevel=0\nframe=0\nat=0\nbytes=01\nsave=0\nlevel=1\nframe=0\nat=0\nbytes=02\nsave=0\nlevel=2\nframe=0\nat=0\nbytes=03\nsave=1\nlevel=1\nframe=0\nat=0\nbytes=04\nsave=1\nlevel=0\nframe=0\nat=0\nbytes=05\nsave=1\nlevel=1\nframe=0\nat=0\nbytes=06\nsave=1\nlevel=2\nframe=0\nat=0\nbytes=07\nsave=0\nlevel=1\nframe=0\nat=0\nbytes=08\nsave=0\nlevel=0\nframe=0\nat=0\nbytes=09\nsave=1\nlevel=0\nframe=0\nat=0\nbytes=0a\nsave=0\n"

abbrev pub two_benches_printed : String
two_benches_printed = "open=0 orders=109\nstep=1 write=0 orders=1 save=- orders=0 epoch=0\nstep=2 write=0 orders=1 save=- orders=0 epoch=0\nstep=3 write=0 orders=1 save=0 orders=26 epoch=1\nstep=4 write=0 orders=43 save=0 orders=26 epoch=2\nstep=5 write=0 orders=43 save=0 orders=26 epoch=3\nstep=6 write=0 orders=41 save=0 orders=26 epoch=4\nstep=7 write=0 orders=43 save=- orders=0 epoch=4\nstep=8 write=0 orders=43 save=- orders=0 epoch=4\nstep=9 write=9 orders=0 save=0 orders=26 epoch=5\nstep=10 write=0 orders=43 save=- orders=0 epoch=5\n"

-- the pairs of the backup segments where a sheet stands; after each of some groups; and after each group of a sheet
abbrev pub pairs_of : Board → List ℕ
pairs_of b = take b.device.layout.backups (drop pairs_at b.device.image)

unfoldable pub groups_pairs : Board → List Group → List ℕ
groups_pairs b [] = []
groups_pairs b (g ∷ gs) = pairs_of (after_group b g) ++ groups_pairs (after_group b g) gs

unfoldable pub sheet_pairs : Script → List ℕ
sheet_pairs (bad n) = []
sheet_pairs (good l gs) = groups_pairs (opened_board l) gs

abbrev pub two_benches_pairs : List ℕ
two_benches_pairs =
    unpaired ∷ unpaired ∷ unpaired ∷ unpaired ∷ unpaired ∷ unpaired
    ∷ 1 ∷ unpaired
    ∷ 1 ∷ 0
    ∷ 1 ∷ 0
    ∷ 2 ∷ 0
    ∷ 2 ∷ 1
    ∷ 2 ∷ 1
    ∷ 0 ∷ 1
    ∷ []

-- ---- a sheet of the older rule (examples/older.sheet)

abbrev pub older : String
older = "mains=2\nframes=1\nlevel=0\nframe=0\nat=0\nbytes=0102030405060708\nsave=0\nlevel=1\nframe=0\nat=0\nbytes=1112131415161718\nsave=1\nlevel=0\nframe=0\nat=0\nbytes=2122232425262728\nsave=0\nlevel=1\nframe=0\nat=0\nbytes=3132333435363738\nsave=0\n"

abbrev pub older_rewritten : String
older_rewritten = "mains=2\nspares=2\nframes=1\nlevel=0\nframe=0\nat=0\nbytes=0102030405060708\nsave=0\nlevel=1\nframe=0\nat=0\nbytes=1112131415161718\nsave=1\nlevel=0\nframe=0\nat=0\nbytes=2122232425262728\nsave=0\nlevel=1\nframe=0\nat=0\nbytes=3132333435363738\nsave=0\n"

-- what it printed under the older rule, and what it prints as it is under today's
abbrev pub older_printed : String
older_printed = "open=0 orders=73\nstep=1 write=0 orders=1 save=- orders=0 epoch=0\nstep=2 write=0 orders=1 save=0 orders=22 epoch=1\nstep=3 write=0 orders=43 save=- orders=0 epoch=1\nstep=4 write=0 orders=43 save=- orders=0 epoch=1\n"

abbrev pub older_printed_now : String
older_printed_now = "open=0 orders=73\nstep=1 write=0 orders=1 save=- orders=0 epoch=0\nstep=2 write=0 orders=1 save=0 orders=22 epoch=1\nstep=3 write=0 orders=43 save=- orders=0 epoch=1\nstep=4 write=9 orders=0 save=- orders=0 epoch=1\n"

pub record OlderSheet : Type 0 where
  pub then : printed_by older_backups (text older) ≡ text older_printed
  pub now : printed (text older) ≡ text older_printed_now
  pub given : upgrade_text (text older) ≡ text older_rewritten
  pub again : printed (text older_rewritten) ≡ text older_printed

pub record Sheets : Type 0 where
  pub on_example : printed (text example) ≡ text example_printed
  pub pairs_on_example : sheet_pairs (parse (text example)) ≡ unpaired ∷ []
  pub on_two_benches : printed (text two_benches) ≡ text two_benches_printed
  pub pairs_on_two_benches : sheet_pairs (parse (text two_benches)) ≡ two_benches_pairs
  pub on_older : OlderSheet
