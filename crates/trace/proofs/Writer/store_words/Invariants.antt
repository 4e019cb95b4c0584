use Prim.Native.Nat.{◌*◌}
use Rattle.model.specs.Words.{word_at}
use Rattle.model.specs.Ops.{stores}
use Rattle.trace.specs.Emit.{Emitted}
use Rattle.trace.proofs.Writer.store_words.Given as goal

abbrev pub invariant-loop-k : goal.invariant-loop-k
invariant-loop-k l = Emitted l.initial.self (stores l.k l.place (λ j. word_at l.bytes (8 * j))) l.self
