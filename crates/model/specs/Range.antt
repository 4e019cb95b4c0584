-- What is said of the numbers 0, 1, .. n - 1, in ascending order. Nothing here knows of containers. Assumes nothing.
use Rattle.std.specs.Prelude.{ℕ, zero, suc, ◌+◌, Bool, true, false, cond, ◌&&◌, ◌||◌, List, [], ◌++◌, ltb}

-- the lists f 0, f 1, .. f (n - 1), one after the other
unfoldable pub cat : {A : Type 0} → ℕ → (ℕ → List A) → List A
cat zero f = []
cat (suc n) f = cat n f ++ f n

-- whether P holds of each number below n
unfoldable pub all_b : ℕ → (ℕ → Bool) → Bool
all_b zero P = true
all_b (suc n) P = all_b n P && P n

-- whether P holds of some number below n
unfoldable pub any_b : ℕ → (ℕ → Bool) → Bool
any_b zero P = false
any_b (suc n) P = any_b n P || P n

-- f if it is below n, else n if b is true, else n + 1
unfoldable pub or_next : ℕ → ℕ → Bool → ℕ
or_next f n b = cond (ltb f n) f (cond b n (suc n))

-- the least number below n of which P holds, or n where there is none
unfoldable pub first_b : ℕ → (ℕ → Bool) → ℕ
first_b zero P = zero
first_b (suc n) P = or_next (first_b n P) n (P n)

-- f 0 + f 1 + .. + f (n - 1)
unfoldable pub sum_to : ℕ → (ℕ → ℕ) → ℕ
sum_to zero f = 0
sum_to (suc n) f = sum_to n f + f n

-- 1 if a test holds, else 0
abbrev pub one_if : Bool → ℕ
one_if b = cond b 1 0
