-- Laws of the first bad line, a line at a time.
use Prim.Native.Nat.{ℕ, suc, ◌+◌}
use mathlib.Core.Path.{◌≡◌, refl}
use mathlib.Core.Bool.{Bool, true, false, cond}
use mathlib.Core.List.{List, [], ◌∷◌}
use native.Mathlib.Numerals.{add-one}
use Rattle.std.specs.Prelude.{None, Some}
use Rattle.text.specs.Text.{Line}
use denote.Enum.Bare.{sameb}
use Rattle.lines.specs.contracts.Key.{the_type}
use Rattle.lines.specs.declared.Key.{Key}
use Rattle.lines.specs.declared.Key.TheVariants.{Mains, Backups, Blocks, Main, Block, Offset, Bytes, Checkpoint}
use Rattle.lines.specs.Line.{good_line}
use Rattle.parser.specs.Script.{key_for, following, starts_group, first_bad}

-- the test for the first key of a group
first_key : (k : Key) → sameb the_type k Main ≡ starts_group k
first_key Mains = refl
first_key Backups = refl
first_key Blocks = refl
first_key Main = refl
first_key Block = refl
first_key Offset = refl
first_key Bytes = refl
first_key Checkpoint = refl

-- the lines end
pub bad_end : (k : Key) (n : ℕ) (ls : List Line) → ls ≡ [] → false ≡ sameb the_type k Main → Some (n + 1) ≡ first_bad k n ls
unfolding first_bad
bad_end k n ls e h = rw (e, add-one, ← first_key k, ← h) refl

pub good_end : (k : Key) (n : ℕ) (ls : List Line) → ls ≡ [] → true ≡ sameb the_type k Main → None ≡ first_bad k n ls
unfolding first_bad
good_end k n ls e h = rw (e, ← first_key k, ← h) refl

-- a bad line, and a good one
module _ (k : Key) (n : ℕ) (f : Key) (l : Line) (ls rest : List Line) {g : Bool} (e : ls ≡ l ∷ rest) (q : f ≡ key_for k l) (t : g ≡ good_line f l) where
  pub bad_line : g ≡ false → Some (n + 1) ≡ first_bad k n ls
  unfolding first_bad
  bad_line h = rw (e, add-one, ← q, ← t, h) refl

  pub good_line_lem : {m : Key} → g ≡ true → m ≡ following f → first_bad k n ls ≡ first_bad m (n + 1) rest
  unfolding first_bad
  good_line_lem h x = rw (e, add-one, ← q, ← t, h, x) refl

-- ---- no bad line

pub step : (k : Key) (n : ℕ) (l : Line) (ls : List Line) → first_bad k n (l ∷ ls) ≡ None
    → (good_line (key_for k l) l ≡ true) × (first_bad (following (key_for k l)) (suc n) ls ≡ None)
unfolding first_bad
step k n l ls h = go (good_line (key_for k l) l) refl h
  where
    go : (g : Bool) → good_line (key_for k l) l ≡ g → cond g (first_bad (following (key_for k l)) (suc n) ls) (Some (suc n)) ≡ None
        → (good_line (key_for k l) l ≡ true) × (first_bad (following (key_for k l)) (suc n) ls ≡ None)
    go true e q = (e, q)
    go false e q = let z : ⊥ = cc in absurd z

pub end_at : (k : Key) (n : ℕ) → first_bad k n [] ≡ None → starts_group k ≡ true
unfolding first_bad
end_at k n h = go (starts_group k) h
  where
    go : (g : Bool) → cond g None (Some (suc n)) ≡ None → g ≡ true
    go true q = refl
    go false q = let z : ⊥ = cc in absurd z
