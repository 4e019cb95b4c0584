use Rattle.std.proofs.Common.{◌≡◌, ◌+◌, ◌≤◌, length}
use Rattle.std.specs.Slice.Iter.{split_inclusive_rest}
use Rattle.text.specs.Text.{lines_of}
use Rattle.lines.specs.declared.Key.TheVariants.{Mains}
use Rattle.parser.specs.Script.{first_bad}
use Rattle.parser.proofs.first_bad.Given as goal

abbrev pub invariant-loop-line : goal.invariant-loop-line
invariant-loop-line l =
    (goal.iterator-loop-line).can_next l.line-iterator × (goal.iterator-loop-line).is_finite l.line-iterator
    × (l.count + length (split_inclusive_rest l.line-iterator) ≤ length l.input)
    × (first_bad Mains 0 (lines_of l.input) ≡ first_bad l.next l.count (lines_of (split_inclusive_rest l.line-iterator)))
