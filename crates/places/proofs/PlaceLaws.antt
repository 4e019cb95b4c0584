-- Laws of places and sizes: how far a segment and an image reach, and what refusals 1 and 2 leave.
use Prim.Native.Nat.{ℕ, ◌+◌, ◌*◌, ◌≤◌}
use mathlib.Core.Path.{◌≡◌}
use mathlib.Core.List.{◌++◌}
use native.Mathlib.Omega.{arith}
use native.Mathlib.Nat.{mul-le-mul}
use lib.ListN.{length}
use borrow.Author.Tests.{eqb-true, not-false}
use Rattle.model.specs.declared.Layout.{Layout}
use Rattle.model.specs.Layout.{SizesOk, image_size}
use Rattle.model.specs.Words.{Image}
use Rattle.model.specs.Status.{Errors, first_error}
use Rattle.model.specs.Container.{size_errors}
use Rattle.model.proofs.Laws.Status.{served_parts, served_condition}
use Rattle.model.proofs.Laws.Container.{sizes_ok_lem}

pub image_bound : (blocks segments : ℕ) → blocks ≤ 64 → segments ≤ 128 → 512 + 256 * blocks * segments ≤ 2097664
image_bound blocks segments b h =
    omega (arith, mul-le-mul {n₁ = 256 * blocks} {m₁ = segments} {n₂ = 16384} {m₂ = 128} (omega arith) h)

-- where refusals 1 and 2 do not apply, the sizes are allowed and the image has their length
pub sized : (l : Layout) (I : Image) (es : Errors) → first_error (size_errors l I ++ es) ≡ 0 → SizesOk l × (length I ≡ image_size l)
sized l I es h =
    let r = served_condition (size_errors l I) (omega arith) (served_parts (size_errors l I) es (omega arith) h).0 in
    ((sizes_ok_lem l).0 (not-false _ (r 1)), eqb-true _ _ (not-false _ (r 2)))
