-- Laws of the verdict on a sheet: too long, and without a bad line.
use Prim.Native.Nat.{ℕ, ◌≤◌, ◌<◌}
use mathlib.Core.Path.{◌≡◌, refl}
use mathlib.Core.List.{List}
use native.Mathlib.Omega.{arith}
use native.Mathlib.Decide.{dec_lt}
use lib.ListN.{length}
use borrow.Author.Tests.{lt-ltb, le-ltb}
use Rattle.std.specs.Prelude.{Option, None, Some}
use Rattle.text.specs.Text.{lines_of}
use Rattle.lines.specs.declared.Key.TheVariants.{Mains}
use Rattle.parser.specs.Script.{most_bytes, first_bad, verdict}

module _ (input : List ℕ) where
  pub verdict_long : most_bytes < length input → Some 0 ≡ verdict input
  unfolding verdict
  verdict_long h = rw (lt-ltb most_bytes (length input) h) refl

  pub verdict_short : length input ≤ most_bytes → first_bad Mains 0 (lines_of input) ≡ verdict input
  unfolding verdict
  verdict_short h = rw (le-ltb most_bytes (length input) h) refl

  -- a good sheet is short and has no bad line
  pub good_sheet : verdict input ≡ None → (length input ≤ most_bytes) × (first_bad Mains 0 (lines_of input) ≡ None)
  unfolding verdict
  good_sheet e = go (dec_lt most_bytes (length input))
    where
      go : Dec (most_bytes < length input) → (length input ≤ most_bytes) × (first_bad Mains 0 (lines_of input) ≡ None)
      go (yes l) = let q : ◌≡◌ {A = Option ℕ} (Some 0) None = rw (lt-ltb most_bytes (length input) l) at e in let z : ⊥ = cc in absurd z
      go (no l) = (omega arith, rw (le-ltb most_bytes (length input) (omega arith)) at e)
