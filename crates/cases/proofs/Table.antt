-- The table holds: a test of all rows, computed.
use mathlib.Core.Path.{◌≡◌, refl, sym, ◌∙◌}
use mathlib.Core.Bool.{Bool, true}
use mathlib.Core.List.{List, ◌++◌}
use Rattle.cases.specs.Turns.{Point, turn}
use Rattle.cases.specs.Table.{Row, opened, history, size_cases, open_cases, copy_case, rows, TableHolds}
use Rattle.cases.proofs.Compute.{model_rules, same, small, known}
use Rattle.cases.proofs.Quick.{quick_write, quick_args}
use Rattle.cases.proofs.Follow.{agree, agree_equal, known_point, known_point_lem, follow_known, follow_test}

-- the test of all, with the image after the opening computed first
abbrev table_test : List Row → Point → Bool
table_test rs last = agree (size_cases ++ open_cases ++ rs ++ copy_case)

tested : known_point opened (λ p. follow_known history p table_test) ≡ true
unfolding model_rules turn history quick_write quick_args follow_known known small size_cases open_cases copy_case same agree
tested = refl

pub holds : TableHolds
unfolding rows
holds = agree_equal rows (follow_test history opened table_test (sym (known_point_lem opened (λ p. follow_known history p table_test)) ∙ tested))
