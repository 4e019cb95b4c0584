use Rattle.model.specs.Range.{cat}
use Rattle.text.specs.Text.{text}
use Rattle.printer.proofs.AppendedLaws.{appended_then}
use Rattle.unlike.specs.SameText.{unlike_text}
use Rattle.unlike.proofs.Pair.append_unlike.Goals as goal

pub returns : goal.returns
unfolding unlike_text text cat
returns c = rw (← c.first_main-main.ensures) (appended_then c.keyed.ensures.appended c.append_place.ensures)
