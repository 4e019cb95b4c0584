-- Laws of what tells two images apart: a search upward finds the first number of which a test holds.
use Prim.Native.Nat.{ℕ, ◌≤◌, ◌<◌}
use mathlib.Core.Path.{◌≡◌, sym}
use mathlib.Core.Bool.{Bool, true, false}
use native.Mathlib.Omega.{arith}
use Rattle.std.specs.Prelude.{Option, None, Some, MatchOption, unwrap_or}
use Rattle.model.specs.Range.{first_b}
use Rattle.model.proofs.Laws.Range.{first_none, first_found}

pub found_first : (n : ℕ) (P : ℕ → Bool) (r : Option ℕ)
    → MatchOption r ((k : ℕ) → 0 ≤ k → k < n → P k ≡ false) (λ i. (0 ≤ i) × (i < n) × (P i ≡ true) × ((k : ℕ) → 0 ≤ k → k < i → P k ≡ false))
    → unwrap_or r n ≡ first_b n P
found_first n P None h = sym (first_none n P (λ k l. h k (omega arith) l))
found_first n P (Some i) h = sym (first_found n P i h.1 (λ k l. h.3 k (omega arith) l) h.2)
