-- The header of a good sheet: its sizes are right, its image fits the buffer, and its groups are good.
use Prim.Native.Nat.{ℕ, zero, suc, ◌+◌, ◌*◌, ◌≤◌}
use mathlib.Core.Path.{◌≡◌, ap, ap₂}
use mathlib.Core.Bool.{true, cond}
use mathlib.Core.List.{List, [], ◌∷◌}
use lib.ListN.{length, drop}
use native.Mathlib.Omega.{arith}
use native.Mathlib.Nat.{mul-le-mul}
use borrow.Author.Tests.{le-leb}
use Rattle.model.specs.declared.Layout.{Layout}
use Rattle.model.specs.Layout.{word_size, block_size, most, sizes_ok, in_range, image_size}
use Rattle.text.specs.Text.{Line, lines_of}
use Rattle.text.proofs.LineLaws.{total, total_lines}
use Rattle.std.specs.Prelude.{None}
use Rattle.lines.specs.Line.{most_size}
use Rattle.parser.specs.Script.{good, Group, verdict, groups_of, blocks_line, parse_by, parse}
use Rattle.parser.specs.declared.HeaderAt.{HeaderAt}
use Rattle.parser.specs.Read.{ReadsHeader}
use Rattle.parser.proofs.VerdictLaws.{good_sheet}
use Rattle.parser.proofs.SizeLaws.{GoodSizes, good_sizes}
use Rattle.calls.specs.SheetTrace.{SheetSizes}
use Rattle.script.specs.SheetRan.{most_image, GoodFrom, groups_from}

-- every image holds an epoch
pub image_least : (l : Layout) → word_size ≤ image_size l
unfolding image_size
image_least l = omega arith

small_fits : (l : Layout) → SheetSizes l → image_size l ≤ most_image
unfolding image_size
small_fits l s =
    omega (arith, s.mains, s.backups, mul-le-mul {n₁ = block_size * l.blocks} {m₁ = l.mains + l.backups} {n₂ = block_size * most_size} {m₂ = most_size + most_size} (omega (arith, s.blocks.1)) (omega (arith, s.mains.1, s.backups.1)))

in_range_lem : (n : ℕ) → (1 ≤ n) × (n ≤ most_size) → in_range n ≡ true
unfolding in_range
in_range_lem n h = rw (le-leb 1 n h.0, le-leb n most (omega (arith, h.1)))

pub small_ok : (l : Layout) → SheetSizes l → sizes_ok l ≡ true
unfolding sizes_ok
small_ok l s = rw (in_range_lem l.mains s.mains, in_range_lem l.backups s.backups, in_range_lem l.blocks s.blocks)

-- the bytes of its image
pub small_size : (l : Layout) (n : ℕ) → SheetSizes l → n ≡ cond (sizes_ok l) (image_size l) 0 → (n ≡ image_size l) × (n ≤ most_image)
small_size l n s e = let q : n ≡ image_size l = rw (small_ok l s) at e in (q, omega (arith, q, small_fits l s))

total_drop : (k : ℕ) (ls : List Line) → total (drop k ls) ≤ total ls
unfolding total
total_drop zero ls = omega arith
total_drop (suc k) [] = omega arith
total_drop (suc k) (l ∷ ls) = omega (arith, total_drop k ls)

-- ---- the header of a good sheet

module _ (input : List ℕ) (r : HeaderAt) (read : ReadsHeader input r) (h : verdict input ≡ None) where
  sizes : GoodSizes (lines_of input)
  sizes = good_sizes (lines_of input) (good_sheet input h).1

  pub header_small : SheetSizes r.layout
  header_small = rw read.layout (record { mains = sizes.mains; backups = sizes.backups; blocks = sizes.blocks })

  pub header_rest : GoodFrom r.rest.now
  header_rest = (suc (blocks_line (lines_of input)), rw read.rest sizes.rest)

  pub header_room : length r.rest.now ≤ length input
  header_room =
      omega (arith, total_drop (suc (blocks_line (lines_of input))) (lines_of input), total_lines input, total_lines r.rest.now, ap total read.rest)

  pub header_script : good r.layout (groups_from r.rest.now) ≡ parse input
  unfolding parse_by
  header_script = rw h (ap₂ (λ (l : Layout) (gs : List Group). good l gs) read.layout (ap groups_of read.rest))
