use Rattle.std.proofs.Common.{◌≡◌, ◌+◌, ◌*◌, ◌/◌, ◌≤◌, length}
use Rattle.calls.specs.Ran.{Kept}
use Rattle.group.specs.GroupRan.{group_size}
use Rattle.script.specs.SheetRan.{group_least, GoodFrom, groups_from}
use Rattle.script.proofs.Story.{Story}
use Rattle.script.proofs.run_groups.Given as goal

abbrev pub invariant-loop-rest : goal.invariant-loop-rest
invariant-loop-rest l =
    GoodFrom l.rest × (1 ≤ l.n) × (l.n + length l.rest ≤ length l.input + 1) × Kept l.initial.sheet l.sheet
    × (l.page.end + group_size * (length l.rest / group_least) ≤ l.initial.page.end + group_size * (length l.input / group_least))
    × (length l.page.out.now ≡ length l.initial.page.out.now)
    × Story l.initial.sheet (groups_from l.input) l.initial.page l.sheet l.n (groups_from l.rest) l.page

abbrev pub decreases-loop-rest : goal.decreases-loop-rest
decreases-loop-rest l = length l.rest
