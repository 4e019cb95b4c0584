-- The trace that every call of a sheet gets is long enough: a good sheet's opening is served, and no write or checkpoint is refused
-- with 11. Proved in proofs/SheetTrace.antt. Assumes nothing.
use Rattle.std.specs.Prelude.{◌≤◌, ◌≡◌, ◌≢◌}
use Rattle.model.specs.Session.{adr}
use Rattle.model.specs.declared.Layout.{Layout}
use Rattle.model.specs.declared.Session.{Session}
use Rattle.model.specs.Words.{Image}
use Rattle.model.specs.Clients.{Clients}
use Rattle.model.specs.Outcome.{lent}
use Rattle.model.specs.Format.{formatted}
use Rattle.model.specs.Open.{open_status}
use Rattle.model.specs.Write.{WriteArgs, write_status}
use Rattle.model.specs.Checkpoint.{checkpoint_status}
use Rattle.lines.specs.Line.{most_size}
use Rattle.calls.specs.Printed.{blank, first_lent}

-- the sizes of a sheet's image
pub record SheetSizes (l : Layout) : Type 0 where
  pub mains : (1 ≤ l.mains) × (l.mains ≤ most_size)
  pub backups : (1 ≤ l.backups) × (l.backups ≤ most_size)
  pub blocks : (1 ≤ l.blocks) × (l.blocks ≤ most_size)

pub record SheetTraceSuffices : Type 0 where
  pub opening : (l : Layout) → SheetSizes l → open_status l adr (formatted l) (first_lent l) ≡ 0
  -- whatever records they are lent
  pub write : (s : Session) (I : Image) (w : WriteArgs) (R : Clients) → SheetSizes s.layout → write_status s I w (lent R blank) ≢ 11
  pub checkpoint : (s : Session) (I : Image) (R : Clients) → SheetSizes s.layout → checkpoint_status s I (lent R blank) ≢ 11
