-- A crash inside a checkpoint: what opening can show afterwards, by the number of operations played; and that of P4
-- (SPECIFICATION 17.3). Proved in proofs/Cut.antt.
use Rattle.std.specs.Prelude.{ℕ, ◌-◌, ◌≡◌, ◌++◌, length, replicate}
use Rattle.model.specs.Words.{Image}
use Rattle.model.specs.Outcome.{Lent}
use Rattle.model.specs.Session.{adr}
use Rattle.model.specs.Reference.{Page}
use Rattle.model.specs.History.{State}
use Rattle.model.specs.CrashSafety.{Recovers, Moment, between, during, played_at, Module, Enough, adr_module}
use Rattle.cases.specs.Turns.{Point, call_at, answer_at, turn}
use Rattle.cases.specs.Table.{four_bytes, write_four, checkpoint, opened}

-- a crash of the module at this moment of the state s may leave H
abbrev pub MayLeave : Module → State → Moment → Image → Type 0
MayLeave M s m H = M.leaves s.device.durable (played_at s.device m) H

-- some crash there, of kind 0, is followed by an opening that shows the page Q
abbrev pub CanShow : State → Moment → Page → Type 0
CanShow s m Q = (H : Image) × MayLeave adr_module s m H × (k : Lent) × Recovers s.device.layout adr H k Q

-- every crash there is followed by openings that show the page Q, with any trace and any records that are not refused
abbrev pub OnlyShows : Module → State → Moment → Page → Type 0
OnlyShows M s m Q =
    (H : Image) → MayLeave M s m H → (k : Lent) → Enough s.device.layout M.domain H k → Recovers s.device.layout M.domain H k Q

pub record EitherPage (s : State) (m : Moment) (old new : Page) : Type 0 where
  pub can_old : CanShow s m old
  pub can_new : CanShow s m new

-- a checkpoint of n operations made at the point p, on a module of kind 0: just before the store of the epoch, which is the last but two,
-- only the old page is shown, from there on up to the last fence either can be, and once it is played whole only the new one
pub record CutCheckpoint (n : ℕ) (p : Point) (old new : Page) : Type 0 where
  pub count : length (answer_at p checkpoint).ops ≡ n
  pub before : OnlyShows adr_module p.state (during (call_at p checkpoint) (n - 3)) old
  pub stored : EitherPage p.state (during (call_at p checkpoint) (n - 2)) old new
  pub flushed : EitherPage p.state (during (call_at p checkpoint) (n - 1)) old new
  pub after : OnlyShows adr_module (turn p checkpoint).state between new

-- ---- P4

-- where the history stands before P4
abbrev pub before_p4 : Point
before_p4 = turn opened write_four

-- the page of the last checkpoint, and the page with the bytes of P3
abbrev pub zeros : Page
zeros = replicate 512 0

abbrev pub new_bytes : Page
new_bytes = replicate 6 0 ++ four_bytes ++ replicate 502 0

abbrev pub CutP4 : Type 0
CutP4 = CutCheckpoint 18 before_p4 zeros new_bytes
