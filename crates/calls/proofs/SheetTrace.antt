-- The trace of a sheet's calls suffices: the statement of specs/SheetTrace.antt proved.
use Prim.Native.Nat.{ℕ, ◌*◌, ◌≤◌}
use mathlib.Core.Path.{◌≡◌}
use native.Mathlib.Omega.{arith}
use native.Mathlib.Nat.{mul-le-mul}
use lib.ListN.{length, length-replicate}
use Rattle.model.specs.Session.{adr}
use Rattle.model.specs.declared.Layout.{Layout}
use Rattle.model.specs.Outcome.{lent}
use Rattle.model.proofs.Laws.Format.{formatted_accepted}
use Rattle.model.proofs.Laws.TraceLength.{write_trace_suffices, checkpoint_trace_suffices}
use Rattle.model.proofs.Shares.{alone_ok}
use Rattle.lines.specs.Line.{most_size}
use Rattle.calls.specs.Printed.{trace_numbers, blank, first_lent}
use Rattle.calls.specs.SheetTrace.{SheetSizes, SheetTraceSuffices}

blank_long : length blank ≡ trace_numbers
unfolding blank
blank_long = length-replicate {A = ℕ} trace_numbers 0

blocks_most : (l : Layout) → SheetSizes l → l.blocks * l.mains ≤ most_size * most_size
blocks_most l h = mul-le-mul {n₁ = l.blocks} {m₁ = l.mains} {n₂ = most_size} {m₂ = most_size} h.blocks.1 h.mains.1

pub sheet_trace_suffices : SheetTraceSuffices
sheet_trace_suffices = record {
  opening = λ l h. formatted_accepted l (omega (arith, h.mains, h.backups, h.blocks)) (first_lent l) (alone_ok l 0 (omega arith)) (omega (arith, blank_long, blocks_most l h)) adr (omega arith);
  write = λ s I w R h. write_trace_suffices s I w (lent R blank) (omega (arith, blank_long, h.blocks));
  checkpoint = λ s I R h. checkpoint_trace_suffices s I (lent R blank) (omega (arith, blank_long, blocks_most s.layout h));
}
