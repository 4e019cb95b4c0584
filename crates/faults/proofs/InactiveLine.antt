-- Fault 4: the backup segment of a main segment in state 2 is taken away from it.
use mathlib.Core.Path.{◌≡◌, refl, sym, subst}
use mathlib.Core.List.{[], ◌∷◌, ◌++◌}
use lib.ListN.{replicate}
use Rattle.model.specs.Words.{Image}
use Rattle.model.specs.Layout.{unpaired}
use Rattle.model.specs.Session.{adr}
use Rattle.model.specs.Ops.{store, apply}
use Rattle.model.specs.Format.{container}
use Rattle.model.specs.Reference.{Page}
use Rattle.model.specs.Shares.{alone}
use Rattle.cases.specs.Turns.{Point, point_of, begin}
use Rattle.cases.specs.Table.{l211}
use Rattle.faults.specs.Faults.{lent_long, two, inactive_plan, inactive_ops, inactive_status, inactive_write_ops, InactiveLine}
use Rattle.model.proofs.Laws.Crash.Images.{newest}
use Rattle.cases.proofs.Compute.{model_rules, same}
use Rattle.cases.proofs.Starts.{standing, started_by}

-- what opening leaves of `two`, and the page that it shows
abbrev opened : Image
opened =
    container l211 0 (2 ∷ 1 ∷ replicate 62 0) (1 ∷ 1 ∷ replicate 62 0) (0 ∷ replicate 63 unpaired)
    (replicate 256 90 ++ replicate 256 41 ++ replicate 256 90)

abbrev page : Page
page = replicate 256 90 ++ replicate 256 41

abbrev restored : Point
restored = point_of (standing l211 adr opened page) (alone l211 0)

starts : begin l211 adr two (lent_long l211) ≡ restored
unfolding model_rules same
starts = started_by l211 adr two opened (lent_long l211) page refl refl refl

refused : InactiveLine restored
unfolding model_rules inactive_plan inactive_ops inactive_status inactive_write_ops
refused = (
  refl,
  record {
    accepted = refl;
    left = apply (store 256 0xffffffffffffff01) opened;
    crash = newest opened (store 256 0xffffffffffffff01 ∷ []);
    refused = refl;
  },
)

pub inactive_line_lem : InactiveLine (begin l211 adr two (lent_long l211))
inactive_line_lem = subst InactiveLine (sym starts) refused
