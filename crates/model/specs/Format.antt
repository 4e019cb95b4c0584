-- Format (SPECIFICATION 4; the trade: laying-out) and the bytes of an image in their order. Assumes nothing.
use Rattle.std.specs.Prelude.{ℕ, ◌+◌, ◌-◌, ◌*◌, cond, List, ◌++◌, replicate}
use Rattle.model.specs.declared.Layout.{Layout}
use Rattle.model.specs.Words.{Image, bytes_of}
use Rattle.model.specs.Layout.{word_size, line_size, metadata_size, most, pairs_at, unpaired, segment_size}
use Rattle.model.specs.Status.{first_error, served}
use Rattle.model.specs.Container.{size_errors}

-- an image: epoch, sizes, states for even and for odd epochs, pairs, and then the segments; unnamed bytes are 0
unfoldable pub container : Layout → ℕ → List ℕ → List ℕ → List ℕ → List ℕ → Image
container l epoch even odd pairs segments =
    bytes_of word_size epoch ++ replicate (line_size - word_size) 0
    ++ bytes_of word_size l.mains ++ bytes_of word_size l.backups ++ bytes_of word_size l.blocks ++ replicate (line_size - 3 * word_size) 0
    ++ even ++ odd ++ pairs ++ replicate (metadata_size - (pairs_at + most)) 0 ++ segments

-- an image with no checkpoint yet: epoch 0, states 0, all pairs 255, zeros elsewhere
unfoldable pub formatted : Layout → Image
formatted l = container l 0 (replicate line_size 0) (replicate line_size 0) (replicate most unpaired) (replicate (segment_size l * (l.mains + l.backups)) 0)

pub record Formatted : Type 0 where
  pub status : ℕ
  pub image : Image

abbrev pub format_status : Layout → Image → ℕ
format_status l I = first_error (size_errors l I)

unfoldable pub format_outcome : Layout → Image → Formatted
format_outcome l I =
    let e : ℕ = format_status l I in
    record { status = e; image = cond (served e) (formatted l) I }
