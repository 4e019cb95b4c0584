use Prim.Native.Nat.{◌+◌, ◌*◌, ◌≤◌}
use Rattle.model.specs.Range.{cat}
use Rattle.printer.specs.Page.{Appended}
use Rattle.inspect.specs.DumpText.{level_text}
use Rattle.inspect.specs.Room.{level_room}
use Rattle.inspect.proofs.Dump.append_levels.Given as goal

abbrev pub invariant-loop-main : goal.invariant-loop-main
invariant-loop-main l = record {
  upper_bound : l.page.end ≤ l.initial.page.end + level_room * l.main;
  appended : Appended l.initial.page (cat l.main (level_text l.self.layout l.self.image.now)) l.page;
}
