-- The floor of a line: the least number of operations that a crash must keep of it, computed (specs/CrashExact.antt:
-- `FloorExact`).
use Prim.Native.Nat.{ℕ, suc, ◌+◌, ◌/◌, ◌≤◌, max}
use mathlib.Core.Path.{◌≡◌, refl, ap}
use mathlib.Core.Bool.{Bool, true, false, cond, ◌&&◌}
use mathlib.Core.List.{[], ◌∷◌, ◌++◌}
use native.Mathlib.Omega.{arith}
use borrow.Author.Tests.{eqb-true, eq-eqb}
use lib.Dec.{eqb}
use lib.ListN.{length, length-append}
use Rattle.model.specs.Layout.{line_size}
use Rattle.model.specs.Ops.{store, clwb, sfence, Ops}
use Rattle.model.specs.Crash.{KeepsDurable}
use Rattle.model.specs.CrashExact.{has_fence, floor_from, floor, FloorExact}
use Rattle.model.proofs.Laws.Range.{and_left, and_right}

has_fence_lem : (C D : Ops) → has_fence (C ++ sfence ∷ D) ≡ true
unfolding has_fence
has_fence_lem [] D = refl
has_fence_lem (store p w ∷ C) D = has_fence_lem C D
has_fence_lem (clwb p ∷ C) D = has_fence_lem C D
has_fence_lem (sfence ∷ C) D = refl

fence_found : (O : Ops) → has_fence O ≡ true → (C : Ops) × (D : Ops) × (O ≡ C ++ sfence ∷ D)
unfolding has_fence
fence_found [] h = absurd (let x : ◌≡◌ {A = ℕ} 0 1 = cc in omega arith)
fence_found (store p w ∷ O) h = let f = fence_found O h in (store p w ∷ f.0, f.1, ap (λ (X : Ops). store p w ∷ X) f.2)
fence_found (clwb p ∷ O) h = let f = fence_found O h in (clwb p ∷ f.0, f.1, ap (λ (X : Ops). clwb p ∷ X) f.2)
fence_found (sfence ∷ O) h = ([], O, refl)

-- each flushed and fenced part is within the floor
floor_split : (n ℓ : ℕ) (A C D : Ops) (p : ℕ) → p / line_size ≡ ℓ → n + length A ≤ floor_from n ℓ (A ++ clwb p ∷ C ++ sfence ∷ D)
unfolding floor_from
floor_split n ℓ [] C D p l = rw (eq-eqb (p / line_size) ℓ l, has_fence_lem C D) (omega arith)
floor_split n ℓ (store q w ∷ A) C D p l = omega (arith, floor_split (suc n) ℓ A C D p l)
floor_split n ℓ (clwb q ∷ A) C D p l = omega (arith, floor_split (suc n) ℓ A C D p l)
floor_split n ℓ (sfence ∷ A) C D p l = omega (arith, floor_split (suc n) ℓ A C D p l)

-- and the floor is no more than they ask for
floor_least : (n ℓ : ℕ) (O : Ops) (k : ℕ)
    → ((A C D : Ops) (p : ℕ) → p / line_size ≡ ℓ → O ≡ A ++ clwb p ∷ C ++ sfence ∷ D → n + length A ≤ k) → floor_from n ℓ O ≤ k
unfolding floor_from
floor_least n ℓ [] k h = omega arith
floor_least n ℓ (store q w ∷ O) k h =
    floor_least (suc n) ℓ O k (λ A C D p l e. omega (arith, h (store q w ∷ A) C D p l (ap (λ (X : Ops). store q w ∷ X) e)))
floor_least n ℓ (sfence ∷ O) k h =
    floor_least (suc n) ℓ O k (λ A C D p l e. omega (arith, h (sfence ∷ A) C D p l (ap (λ (X : Ops). sfence ∷ X) e)))
floor_least n ℓ (clwb q ∷ O) k h =
    go (eqb (q / line_size) ℓ && has_fence O) refl
    (floor_least (suc n) ℓ O k (λ A C D p l e. omega (arith, h (clwb q ∷ A) C D p l (ap (λ (X : Ops). clwb q ∷ X) e))))
  where
    go : (b : Bool) → (eqb (q / line_size) ℓ && has_fence O) ≡ b → floor_from (suc n) ℓ O ≤ k → max (cond b n 0) (floor_from (suc n) ℓ O) ≤ k
    go false e r = omega arith
    go true e r =
        let f = fence_found O (and_right (eqb (q / line_size) ℓ) (has_fence O) e) in
        omega (arith, h [] f.0 f.1 q (eqb-true (q / line_size) ℓ (and_left (eqb (q / line_size) ℓ) (has_fence O) e)) (ap (λ (X : Ops). clwb q ∷ X) f.2))

-- from its floor on every stage of a line is one that a crash may leave
pub floor_durable : (ℓ : ℕ) (O : Ops) (k : ℕ) → floor ℓ O ≤ k → KeepsDurable ℓ O k
floor_durable ℓ O k h A C D p l e =
    let f : floor ℓ O ≡ floor ℓ (A ++ clwb p ∷ C ++ sfence ∷ D) = ap (floor ℓ) e in
    omega (arith, floor_split 0 ℓ A C D p l)

-- and no other
pub durable_floor : (ℓ : ℕ) (O : Ops) (k : ℕ) → KeepsDurable ℓ O k → floor ℓ O ≤ k
durable_floor ℓ O k h = floor_least 0 ℓ O k (λ A C D p l e. omega (arith, h A C D p l e))

-- all of the operations are enough
pub durable_all : (ℓ : ℕ) (O : Ops) → KeepsDurable ℓ O (length O)
durable_all ℓ O A C D p l e =
    omega (arith, ap length e, length-append (A ++ clwb p ∷ C) (sfence ∷ D), length-append A (clwb p ∷ C))

pub floor_exact : FloorExact
floor_exact ℓ O k = (durable_floor ℓ O k, floor_durable ℓ O k)
