use Prim.Native.Nat.{ℕ, ◌*◌}
use Rattle.model.specs.Words.{Image, word_of}
use Rattle.model.specs.Layout.{word_size}
use Rattle.model.specs.Container.{seg_state}
use Rattle.model.specs.Ops.{stores}
use Rattle.model.specs.Checkpoint.{next_states}
use Rattle.trace.specs.Emit.{Emitted}
use Rattle.checkpoint.proofs.put_states.Given as goal

-- word k of the next states
abbrev next_word : Image → ℕ → ℕ → ℕ → ℕ
next_word image from segments k = word_of (next_states segments (seg_state image from)) (word_size * k)

abbrev pub invariant-loop-k : goal.invariant-loop-k
invariant-loop-k l = Emitted l.initial.out (stores l.k l.to (next_word l.image l.from l.segments)) l.out
