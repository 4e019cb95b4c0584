-- What may happen where nobody writes every line back and fences (`FlushDurable` of crate `model` says what doing so gives): after a
-- format, and when a program starts again after it ended while the power stayed on. A board of 2 main segments, 1 backup segment
-- and 1 block, of kind 0, with one client whose share and limit are 1, in three computed instances. Proved in proofs/Unflushed.antt and
-- proofs/BrokenOff.antt.
use Rattle.std.specs.Prelude.{◌≡◌, List, [], ◌∷◌, ◌++◌, take, replicate}
use Rattle.model.specs.Words.{Image}
use Rattle.model.specs.Layout.{line_size, most, unpaired}
use Rattle.model.specs.Session.{adr}
use Rattle.model.specs.Format.{container, formatted}
use Rattle.model.specs.Open.{open_status, open_outcome}
use Rattle.model.specs.Crash.{CrashImage}
use Rattle.model.specs.CrashSafety.{Moment, during, PermittedAt, played_at, Recovers}
use Rattle.model.specs.FlushDurable.{image_at, Formats, format_stores}
use Rattle.cases.specs.Turns.{Point, begin, Turn, call_at, turns, Supposed}
use Rattle.cases.specs.Table.{l211, write, checkpoint, a_word}
use Rattle.faults.specs.Faults.{lent_long, two_calls}

-- ---- a module of 255s

abbrev pub all255 : Image
all255 = replicate 1280 255

-- the first opening of the formatted image
abbrev pub first_opening : Point
first_opening = begin l211 adr (formatted l211) (lent_long l211)

-- formatted, opened, a word written and a checkpoint, all played whole: a crash may leave an image that opening refuses
-- with 3, since no call writes back the line of the sizes
pub record RefusedLater : Type 0 where
  pub formats : Formats l211 all255 (format_stores l211)
  pub opens : open_status l211 adr (formatted l211) (lent_long l211) ≡ 0
  pub permitted : Supposed adr first_opening two_calls
  pub saved : (turns first_opening two_calls).state.model.checkpoint ≡ a_word ++ replicate 504 0
  pub left : Image
  pub crash : CrashImage all255
      (format_stores l211 ++ (open_outcome l211 adr (formatted l211) (lent_long l211)).ops ++ (turns first_opening two_calls).state.device.played) left
  pub refused : open_status l211 adr left (lent_long l211) ≡ 3

-- ---- an older board of the same sizes

-- after one checkpoint, which holds 40 in main segment 0 and 41 in main segment 1
abbrev pub older : Image
older =
    container l211 1 (replicate line_size 0) (1 ∷ 1 ∷ replicate 62 0) (replicate most unpaired)
    (replicate 256 40 ++ replicate 256 41 ++ replicate 256 0)

-- cut while it is formatted, after 96 of the 160 stores: it may be served, and show zeros and half of its old checkpoint
pub record HalfOld : Type 0 where
  pub formats : Formats l211 older (format_stores l211)
  pub before : Recovers l211 adr older (lent_long l211) (replicate 256 40 ++ replicate 256 41)
  pub left : Image
  pub crash : CrashImage older (take 96 (format_stores l211)) left
  pub shown : Recovers l211 adr left (lent_long l211) (replicate 256 0 ++ replicate 256 41)

-- ---- a program that is started again

-- a board whose checkpoint holds 40 in main segment 0, which is paired, and nothing of main segment 1
abbrev pub once : Image
once =
    container l211 1 (replicate line_size 0) (1 ∷ replicate 63 0) (0 ∷ replicate 63 unpaired)
    (replicate 256 40 ++ replicate 256 0 ++ replicate 256 40)

-- opened, and a word written to each
abbrev pub two_writes : List Turn
two_writes = write 0 0 a_word ∷ write 1 0 a_word ∷ []

abbrev pub edited : Point
edited = turns (begin l211 adr once (lent_long l211)) two_writes

-- a checkpoint, of which 20 of 22 operations were carried out, the last the store of the epoch, when the program ended
abbrev pub ended : Point → Moment
ended p = during (call_at p checkpoint) 20

-- the power stays on; what stands is opened without a flush, and that opening is carried out whole. Then a crash may leave an image that
-- opening serves, and that shows the new bytes of main segment 0 and the old ones of main segment 1: neither checkpoint
pub record BrokenOff : Type 0 where
  pub opens : open_status l211 adr once (lent_long l211) ≡ 0
  pub permitted : Supposed adr (begin l211 adr once (lent_long l211)) two_writes × PermittedAt adr edited.state.device (ended edited)
  pub old : edited.state.model.checkpoint ≡ replicate 256 40 ++ replicate 256 0
  pub new : edited.state.model.working ≡ (a_word ++ replicate 248 40) ++ (a_word ++ replicate 248 0)
  pub served : open_status l211 adr (image_at edited.state.device (ended edited)) (lent_long l211) ≡ 0
  pub left : Image
  pub crash : CrashImage edited.state.device.durable
      (played_at edited.state.device (ended edited) ++ (open_outcome l211 adr (image_at edited.state.device (ended edited)) (lent_long l211)).ops) left
  pub shown : Recovers l211 adr left (lent_long l211) ((a_word ++ replicate 248 40) ++ replicate 256 0)

-- WITHOUT A FLUSH OF EVERY LINE AND A FENCE, after a format and before an opening
pub record Unflushed : Type 0 where
  pub refused_later : RefusedLater
  pub half_old : HalfOld
  pub broken_off : BrokenOff
