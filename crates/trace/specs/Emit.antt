-- Operations written on a trace at a place in its midst, the one form of what is asked and promised by code that writes them for a kind of
-- module, and the stores of the words of bytes. Nothing that users rely on is said in these terms. Assumes nothing.
use Rattle.std.specs.Prelude.{ℕ, ◌+◌, ◌*◌, ◌/◌, ◌≤◌, ◌≡◌, List, length}
use Rattle.std.proofs.lemmas.List.Edits.{sets}
use Rattle.model.specs.Words.{word_at}
use Rattle.trace.specs.declared.Writer.{Writer}
use Rattle.model.specs.Layout.{word_size}
use Rattle.model.specs.Ops.{Ops, Trace, op_numbers, encode, for_domain, stores}

-- the trace t with the operations O written from operation number n on
unfoldable pub emit : Trace → ℕ → Ops → Trace
emit t n O = sets t (op_numbers * n) (encode O)

-- asked: the trace of the writer w has room, from the next operation on, for those of the operations O that it has for the kind of module
pub record Fits (w : Writer) (O : Ops) : Type 0 where
  pub room : op_numbers * (w.next + length (for_domain w.domain O)) ≤ length w.trace.now

-- the writer w is at the start of the trace t, of a call on the kind d of module
pub record Begun (d : ℕ) (t : Trace) (w : Writer) : Type 0 where
  pub kind : w.domain ≡ d
  pub trace : w.trace.now ≡ t
  pub next : w.next ≡ 0

-- promised: they stand on that trace, which the writer w' still has, and go on behind them
pub record Emitted (w : Writer) (O : Ops) (w' : Writer) : Type 0 where
  pub same : w'.trace.ghost_name ≡ w.trace.ghost_name
  pub kind : w'.domain ≡ w.domain
  pub stands : w'.trace.now ≡ emit w.trace.now w.next (for_domain w.domain O)
  pub next : w'.next ≡ w.next + length (for_domain w.domain O)

-- the words that lie whole among bytes, stored from a place on, upward
abbrev pub word_stores : ℕ → List ℕ → Ops
word_stores a bs = stores (length bs / word_size) a (λ k. word_at bs (word_size * k))
