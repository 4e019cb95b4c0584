-- The first group of the rest of a good sheet, and what is left behind it.
use Prim.Native.Nat.{ℕ, ◌+◌, ◌≤◌, ◌<◌}
use mathlib.Core.Path.{◌≡◌, refl, ◌∙◌}
use mathlib.Core.Bool.{true}
use mathlib.Core.List.{List, ◌∷◌}
use lib.ListN.{length}
use Rattle.text.specs.Text.{lines_of, hex_pairs}
use Rattle.lines.specs.Line.{most_digits}
use Rattle.parser.specs.Script.{group_of}
use Rattle.parser.specs.declared.GroupAt.{GroupAt}
use Rattle.parser.specs.Read.{ReadsGroup}
use Rattle.parser.proofs.GroupLaws.{GoodGroup, group_here, group_rest}
use Rattle.script.specs.SheetRan.{GoodFrom, groups_from, group_in}

module _ (input : List ℕ) (good : GoodFrom input) (some : 0 < length input) (r : GroupAt) (read : ReadsGroup input r) where
  abbrev here : GoodGroup good.0 (lines_of input)
  here = group_here input good.0 good.1 some

  -- its digits are pairs, and few enough
  pub digits_fit : (length r.digits.now ≤ most_digits) × (hex_pairs r.digits.now ≡ true)
  digits_fit = rw read.digits (here.short, here.pairs)

  -- it is the first of the groups
  pub group_first : groups_from input ≡ group_in r ∷ groups_from r.rest.now
  unfolding group_of
  group_first = here.groups ∙ rw (read.digits, read.main, read.block, read.offset, read.checkpoint, read.rest) refl

  pub good_rest : GoodFrom r.rest.now
  good_rest = (5 + good.0, group_rest input good.0 good.1 some r read)
