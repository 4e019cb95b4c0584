-- Demand 1: a call is served, or refused with the number of the first of its conditions that holds (SPECIFICATION
-- 14 and 15.1). What is said of any list of refusals, the numbers that each call's list has, and the statements. Proved in
-- proofs/Laws/Refusals.antt. Assumes nothing.
use Rattle.std.specs.Prelude.{ℕ, ◌<◌, ◌≡◌, ◌↔◌, ◌≢◌, ◌⊎◌, true, false, List, [], ◌∷◌, ◌++◌}
use Rattle.model.specs.declared.Layout.{Layout}
use Rattle.model.specs.declared.Session.{Session}
use Rattle.model.specs.Words.{Image}
use Rattle.model.specs.Status.{Errors, first_error}
use Rattle.model.specs.Container.{size_errors}
use Rattle.model.specs.Ops.{Trace}
use Rattle.model.specs.Outcome.{Lent}
use Rattle.model.specs.Replay.{replay_errors}
use Rattle.model.specs.Open.{open_errors}
use Rattle.model.specs.Write.{WriteArgs, write_errors}
use Rattle.model.specs.Discard.{discard_errors}
use Rattle.model.specs.Checkpoint.{checkpoint_errors}
use Rattle.model.specs.Reads.{read_errors}
use Rattle.model.specs.Same.{same_errors}

-- ---- which number is given

-- no condition of the list holds
abbrev pub NoneHolds : Errors → Type 0
NoneHolds [] = Unit {0}
NoneHolds (e ∷ es) = (e.1 ≡ false) × NoneHolds es

-- n stands in the list with a condition that holds, and no condition before it holds
abbrev pub First : ℕ → Errors → Type 0
First n es = (A : Errors) × (B : Errors) × (es ≡ A ++ (n, true) ∷ B) × NoneHolds A

-- a number is given exactly if its condition holds and no earlier one does
abbrev pub GivenFirst : Type 0
GivenFirst = (n : ℕ) (es : Errors) → n ≢ 0 → (first_error es ≡ n) ↔ First n es

-- no number of the list is 0
abbrev pub Numbered : Errors → Type 0
Numbered [] = Unit {0}
Numbered (e ∷ es) = (0 < e.0) × Numbered es

-- a call is served exactly if no condition of its list holds
abbrev pub ServedExactly : Type 0
ServedExactly = (es : Errors) → Numbered es → (first_error es ≡ 0) ↔ NoneHolds es

-- ---- which numbers a call knows

-- the numbers of a list of refusals, in their order
abbrev pub numbers : Errors → List ℕ
numbers [] = []
numbers (e ∷ es) = e.0 ∷ numbers es

-- the numbers of each call's list; a comparison judges the first image wholly before the second
pub record Knows : Type 0 where
  pub format : (l : Layout) (I : Image) → numbers (size_errors l I) ≡ 1 ∷ 2 ∷ []
  pub opening : (l : Layout) (d : ℕ) (I : Image) (k : Lent) → numbers (open_errors l d I k) ≡ 1 ∷ 2 ∷ 3 ∷ 4 ∷ 5 ∷ 13 ∷ 11 ∷ []
  pub write : (s : Session) (I : Image) (w : WriteArgs) (k : Lent)
      → numbers (write_errors s I w k) ≡ 1 ∷ 2 ∷ 3 ∷ 4 ∷ 5 ∷ 13 ∷ 6 ∷ 7 ∷ 8 ∷ 9 ∷ 14 ∷ 15 ∷ 11 ∷ []
  pub discard : (s : Session) (I : Image) (i : ℕ) (k : Lent) → numbers (discard_errors s I i k) ≡ 1 ∷ 2 ∷ 3 ∷ 4 ∷ 5 ∷ 6 ∷ 11 ∷ []
  pub checkpoint : (s : Session) (I : Image) (k : Lent) → numbers (checkpoint_errors s I k) ≡ 1 ∷ 2 ∷ 3 ∷ 4 ∷ 5 ∷ 13 ∷ 10 ∷ 11 ∷ []
  pub replay : (I : Image) (t : Trace) (n : ℕ) → numbers (replay_errors I t n) ≡ 2 ∷ 12 ∷ []
  pub read : (l : Layout) (I : Image) (i b : ℕ) → numbers (read_errors l I i b) ≡ 1 ∷ 2 ∷ 3 ∷ 4 ∷ 6 ∷ 7 ∷ []
  pub same : (l : Layout) (I J : Image) → numbers (same_errors l I J) ≡ 1 ∷ 2 ∷ 3 ∷ 4 ∷ 1 ∷ 2 ∷ 3 ∷ 4 ∷ []

-- n is one of the numbers
abbrev pub OneOf : List ℕ → ℕ → Type 0
OneOf [] n = ⊥
OneOf (m ∷ ms) n = (n ≡ m) ⊎ OneOf ms n

-- the number that a list gives is 0 or stands in it
abbrev pub NumberKnown : Type 0
NumberKnown = (es : Errors) → OneOf (0 ∷ numbers es) (first_error es)
