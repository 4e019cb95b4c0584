-- Laws of format: the bytes that its steps leave are the formatted image, and what a served call goes by.
use Prim.Native.Nat.{ℕ, ◌+◌, ◌*◌}
use mathlib.Core.Path.{◌≡◌, sym}
use mathlib.Core.List.{◌++◌}
use native.Mathlib.Omega.{arith}
use lib.ListN.{length, take, drop, replicate, replicate-append-replicate}
use borrow.Author.Tests.{eqb-true, not-false}
use Rattle.model.specs.declared.Layout.{Layout}
use Rattle.model.specs.Words.{Image, bytes_of, store_word}
use Rattle.model.specs.Layout.{segment_size, image_size}
use Rattle.model.specs.Status.{first_error}
use Rattle.model.specs.Container.{size_errors}
use Rattle.model.specs.Format.{container, formatted}
use Rattle.model.proofs.Laws.Status.{served_condition}

-- the steps of format: zeros, the three sizes, and P in the place of the 64 pair bytes
pub steps_format : (l : Layout) (I₀ : Image) {I₁ I₂ I₃ I₄ P : Image} → length I₀ ≡ image_size l → I₁ ≡ replicate (length I₀) 0
    → I₂ ≡ store_word I₁ 64 l.mains → I₃ ≡ store_word I₂ 72 l.backups → I₄ ≡ store_word I₃ 80 l.blocks
    → P ≡ replicate (length (take 64 (drop 256 I₄))) 255 → take 256 I₄ ++ (P ++ drop 64 (drop 256 I₄)) ≡ formatted l
unfolding image_size formatted container store_word bytes_of
steps_format l I₀ h zeros mains backups blocks pairs =
    rw (pairs, blocks, backups, mains, zeros, h, ← replicate-append-replicate {A = ℕ} 512 (segment_size l * (l.mains + l.backups)) 0)

-- a served call has an image of the right length
pub served_sizes : (l : Layout) (I : Image) → 0 ≡ first_error (size_errors l I) → length I ≡ image_size l
served_sizes l I h = eqb-true (length I) (image_size l) (not-false _ (served_condition (size_errors l I) (omega arith) (sym h) 2))
