-- An array that is made by calls of a function: what it holds at each place.
use Prim.Native.Nat.{ℕ, zero, suc, ◌+◌, ◌<◌}
use mathlib.Core.Path.{◌≡◌, subst, ◌∙◌}
use mathlib.Core.List.{List}
use native.Mathlib.Omega.{arith}
use lib.ListN.{get_or}
use denote.Param.Members.{Mut}
use Rattle.std.specs.Fn.{Called}
use Rattle.std.specs.Array.{IsFromFnResultFrom}

module _ {F : Type 0} (g : Mut F (ℕ × Unit {0}) ℕ) (f : F) (h : ℕ → ℕ) (ys : List ℕ) (made : (k y : ℕ) (q : F) → Called g f (k, tt) y q → (q ≡ f) × (y ≡ h k)) where
  pub filled : (n i : ℕ) → IsFromFnResultFrom g f ys i n → (k j : ℕ) → k < n → i + k ≡ j → get_or ys j 0 ≡ h j
  filled zero i x k j l e = absurd (omega arith)
  filled (suc n) i (q, y, here, called, rest) zero j l e = let same : i ≡ j = omega arith in subst (λ (m : ℕ). get_or ys m 0 ≡ h m) same (here.1 0 ∙ (made i y q called).1)
  filled (suc n) i (q, y, here, called, rest) (suc k) j l e =
      let kept = (made i y q called).0 in
      filled n (i + 1) (subst (λ (p : F). IsFromFnResultFrom g p ys (i + 1) n) kept rest) k j (omega arith) (omega arith)
