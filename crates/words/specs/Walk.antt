-- A walk over the members of a set of bits, upward, as an iterator takes it.
use Prim.Native.Nat.{ℕ, ◌-◌, ◌<◌}
use mathlib.Core.Path.{◌≡◌}
use lib.Bits.{bit_and}
use lib.Count.{count_trailing_zeros}
use Rattle.std.specs.Prelude.{Option, None, Some}
use Rattle.words.specs.declared.Members.{Members}

-- a turn: `rest` is what was left of the set, b its lowest member, and `after` the others
pub record Turn (rest b after : ℕ) : Type 0 where
  pub some : 0 < rest
  pub lowest : b ≡ count_trailing_zeros 64 rest
  pub others : after ≡ bit_and rest (rest - 1)

-- what the iterator gives: nothing once nothing is left, else a turn
abbrev pub GivesLowest : Members → Option ℕ → Members → Type 0
GivesLowest left None after = (left.rest ≡ 0) × (after.rest ≡ 0)
GivesLowest left (Some b) after = Turn left.rest b after.rest
