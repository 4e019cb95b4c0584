use Rattle.model.specs.Range.{cat}
use Rattle.text.specs.Text.{text}
use Rattle.printer.proofs.AppendedLaws.{appended_then}
use Rattle.inspect.specs.DumpText.{sizes_text}
use Rattle.inspect.proofs.append_sizes.Goals as goal

pub returns-clause-appended : goal.returns-clause-appended
unfolding sizes_text text cat
returns-clause-appended c =
    appended_then (appended_then (appended_then c.keyed.ensures.appended c.keyed-2.ensures.appended) c.keyed-3.ensures.appended) c.keyed-4.ensures.appended
