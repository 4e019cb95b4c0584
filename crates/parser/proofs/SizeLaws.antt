-- What a sheet without a bad line starts with: its three sizes, each from 1 to 4.
use Prim.Native.Nat.{ℕ, suc, ◌≤◌}
use mathlib.Core.Path.{◌≡◌, refl, sym}
use mathlib.Core.Bool.{Bool, true, false, true≢false}
use mathlib.Core.List.{List, [], ◌∷◌}
use native.Mathlib.Omega.{arith}
use lib.ListN.{drop}
use Rattle.std.specs.Prelude.{None}
use Rattle.text.specs.Text.{Line, number_of}
use Rattle.lines.specs.declared.Key.TheVariants.{Mains, Backups, Blocks, Main}
use Rattle.lines.specs.Line.{takes, named, value_of, good_line, number_in}
use Rattle.lines.proofs.LineLaws.{good_value, size_bounds}
use Rattle.parser.specs.Script.{key_for, following, first_bad, default_backups, blocks_line, sizes_of}
use Rattle.parser.proofs.BadLaws.{step, end_at}

-- what the first lines are where no line is bad
pub record GoodSizes (ls : List Line) : Type 0 where
  pub mains : (1 ≤ (sizes_of default_backups ls).mains) × ((sizes_of default_backups ls).mains ≤ 4)
  pub backups : (1 ≤ (sizes_of default_backups ls).backups) × ((sizes_of default_backups ls).backups ≤ 4)
  pub blocks : (1 ≤ (sizes_of default_backups ls).blocks) × ((sizes_of default_backups ls).blocks ≤ 4)
  pub rest : first_bad Main (suc (blocks_line ls)) (drop (suc (blocks_line ls)) ls) ≡ None

with_backups : (a b c : Line) (ls : List Line) → named Backups b ≡ true → good_line Mains a ≡ true → good_line Backups b ≡ true → good_line Blocks c ≡ true
    → first_bad Main 3 ls ≡ None → GoodSizes (a ∷ b ∷ c ∷ ls)
unfolding takes sizes_of blocks_line
with_backups a b c ls t ga gb gc h =
    record {
      mains = size_bounds (number_of (value_of Mains a)) (good_value Mains a ga);
      backups = rw t (size_bounds (number_of (value_of Backups b)) (good_value Backups b gb));
      blocks = rw t (size_bounds (number_of (value_of Blocks c)) (good_value Blocks c gc));
      rest = rw t h;
    }

-- half of a size is a size
half_bounds : (n : ℕ) → (1 ≤ n) × (n ≤ 4) → (1 ≤ default_backups n) × (default_backups n ≤ 4)
unfolding default_backups
half_bounds n h = (omega (arith, h.0), omega (arith, h.1))

without_backups : (a b : Line) (ls : List Line) → named Backups b ≡ false → good_line Mains a ≡ true → good_line Blocks b ≡ true → first_bad Main 2 ls ≡ None
    → GoodSizes (a ∷ b ∷ ls)
unfolding takes sizes_of blocks_line
without_backups a b ls t ga gb h =
    record {
      mains = size_bounds (number_of (value_of Mains a)) (good_value Mains a ga);
      backups = rw t (half_bounds (number_in Mains a) (size_bounds (number_of (value_of Mains a)) (good_value Mains a ga)));
      blocks = rw t (size_bounds (number_of (value_of Blocks b)) (good_value Blocks b gb));
      rest = rw t h;
    }

pub good_sizes : (ls : List Line) → first_bad Mains 0 ls ≡ None → GoodSizes ls
good_sizes [] h = absurd (true≢false (sym (end_at Mains 0 h)))
good_sizes (a ∷ []) h = absurd (true≢false (sym (end_at Backups 1 (step Mains 0 a [] h).1)))
good_sizes (a ∷ b ∷ ls) h = let x = step Mains 0 a (b ∷ ls) h in let y = step Backups 1 b ls x.1 in go (named Backups b) refl ls x.0 y.0 y.1
  where
    go : (t : Bool) → named Backups b ≡ t → (ls : List Line) → good_line Mains a ≡ true → good_line (key_for Backups b) b ≡ true
        → first_bad (following (key_for Backups b)) 2 ls ≡ None → GoodSizes (a ∷ b ∷ ls)
    go true t [] x y z = absurd (true≢false (sym (end_at Blocks 2 (rw t at z))))
    go true t (c ∷ ls) x y z = let u = step Blocks 2 c ls (rw t at z) in with_backups a b c ls t x (rw t at y) u.0 u.1
    go false t ls x y z = without_backups a b ls t x (rw t at y) (rw t at z)
