use Prim.Native.Nat.{◌+◌, ◌*◌, ◌≤◌}
use mathlib.Core.Path.{◌≡◌}
use Rattle.model.specs.Range.{any_b}
use Rattle.printer.specs.Page.{Appended}
use Rattle.inspect.specs.DumpText.{block_differs, listed}
use Rattle.inspect.specs.Room.{item_room}
use Rattle.inspect.proofs.Dump.append_list.Given as goal

abbrev pub invariant-loop-block : goal.invariant-loop-block
invariant-loop-block l = record {
  upper_bound : l.page.end ≤ l.initial.page.end + item_room * l.block;
  seen : l.seen ≡ any_b l.block (block_differs l.self.layout l.self.image.now l.main);
  appended : Appended l.initial.page (listed l.block (block_differs l.self.layout l.self.image.now l.main)) l.page;
}
