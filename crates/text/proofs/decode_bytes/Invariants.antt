use Rattle.std.proofs.Common.{◌≡◌}
use Rattle.std.specs.Iterator.Adapters.{enumerate_source, enumerate_count}
use Rattle.std.specs.Slice.Iter.{chunks_exact_rest, chunks_exact_size}
use Rattle.text.proofs.HexLaws.{Decoding}
use Rattle.text.proofs.decode_bytes.Given as goal

abbrev pub invariant-loop-i : goal.invariant-loop-i
invariant-loop-i l =
    (goal.iterator-loop-i).can_next l.i-iterator × (goal.iterator-loop-i).is_finite l.i-iterator × (chunks_exact_size (enumerate_source l.i-iterator) ≡ 2)
    × Decoding l.digits l.initial.bytes (chunks_exact_rest (enumerate_source l.i-iterator)) l.bytes (enumerate_count l.i-iterator)
