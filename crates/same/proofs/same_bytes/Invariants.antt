use Prim.Native.Nat.{◌/◌}
use mathlib.Core.Path.{◌≡◌}
use mathlib.Core.List.{[]}
use lib.ListN.{length, get_or}
use Rattle.std.specs.Simd.{first_chunks}
use Rattle.model.specs.Range.{all_b}
use Rattle.model.specs.Same.{same_bytes}
use Rattle.same.proofs.same_bytes.Given as goal

abbrev pub invariant-loop-x : goal.invariant-loop-x
invariant-loop-x l = l.same ≡ all_b (length l.yielded) (λ i. same_bytes 256 (get_or (first_chunks 256 (length l.a / 256) l.a) i []) (get_or (first_chunks 256 (length l.b / 256) l.b) i []))
