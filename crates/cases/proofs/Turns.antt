-- A story's calls are a history of model, in which they share one run.
use mathlib.Core.Path.{◌≡◌, refl}
use mathlib.Core.List.{List, [], ◌∷◌}
use Rattle.model.specs.History.{run}
use Rattle.model.specs.Shares.{OneRun}
use Rattle.cases.specs.Turns.{Point, Turn, turn, turns, made, OneHistory}

turns-run : (p : Point) (cs : List Turn) → (turns p cs).state ≡ run p.state (made p cs)
unfolding turn turns made run
turns-run p [] = refl
turns-run p (c ∷ cs) = turns-run (turn p c) cs

made-one_run : (p : Point) (cs : List Turn) → OneRun p.state p.clients (made p cs)
unfolding turn made
made-one_run p [] = tt
made-one_run p (c ∷ cs) = (refl, made-one_run (turn p c) cs)

pub one-history : OneHistory
one-history = record { same = turns-run; one_run = made-one_run }
