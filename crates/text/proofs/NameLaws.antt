-- Laws of a line that starts with a name.
use Prim.Native.Nat.{ℕ, zero, suc, ◌≤◌, ◌<◌}
use mathlib.Core.Path.{◌≡◌, refl, sym, ap}
use mathlib.Core.Bool.{Bool, true, ◌&&◌, true≢false}
use mathlib.Core.List.{List, [], ◌∷◌, ◌++◌}
use native.Mathlib.Omega.{arith}
use lib.Dec.{eqb}
use lib.ListN.{length, get_or, take}
use borrow.Author.Tests.{eqb-true}
use Rattle.std.specs.Cmp.Lexicographic.{pointwise}
use Rattle.model.proofs.Laws.Range.{and_left, and_right}
use Rattle.text.specs.Text.{starts_with}

-- it is the test of std's slices
pub starts_is : (n l : List ℕ) → pointwise eqb n (take (length n) l) ≡ starts_with n l
unfolding starts_with
starts_is [] l = refl
starts_is (k ∷ n) [] = refl
starts_is (k ∷ n) (b ∷ l) = ap (λ (t : Bool). eqb k b && t) (starts_is n l)

-- a line that does is as long, and has its bytes
pub starts_long : (n l : List ℕ) → starts_with n l ≡ true → length n ≤ length l
unfolding starts_with
starts_long [] l h = omega arith
starts_long (k ∷ n) [] h = absurd (true≢false (sym h))
starts_long (k ∷ n) (b ∷ l) h = omega (arith, starts_long n l (and_right (eqb k b) (starts_with n l) h))

pub starts_at : (n l : List ℕ) (i : ℕ) → starts_with n l ≡ true → i < length n → get_or n i 0 ≡ get_or l i 0
unfolding starts_with
starts_at [] l i h j = let z : ⊥ = omega arith in absurd z
starts_at (k ∷ n) [] i h j = absurd (true≢false (sym h))
starts_at (k ∷ n) (b ∷ l) zero h j = eqb-true k b (and_left (eqb k b) (starts_with n l) h)
starts_at (k ∷ n) (b ∷ l) (suc i) h j = starts_at n l i (and_right (eqb k b) (starts_with n l) h) (omega arith)

-- and does so with more behind it
pub starts_append : (n l rest : List ℕ) → starts_with n l ≡ true → starts_with n (l ++ rest) ≡ true
unfolding starts_with
starts_append [] l rest h = refl
starts_append (k ∷ n) [] rest h = absurd (true≢false (sym h))
starts_append (k ∷ n) (b ∷ l) rest h =
    let e : eqb k b ≡ true = and_left (eqb k b) (starts_with n l) h in
    rw e (starts_append n l rest (and_right (eqb k b) (starts_with n l) h))
