-- A history that starts at an opening, from what that opening leaves; and that demand 3 speaks of every point of it, on a module of kind 0.
use Prim.Native.Nat.{ℕ}
use mathlib.Core.Path.{◌≡◌, sym, subst, ◌∙◌}
use mathlib.Core.Bool.{true}
use mathlib.Core.List.{List, [], ◌++◌}
use Rattle.model.specs.declared.Layout.{Layout}
use Rattle.model.specs.Words.{Image, Bytes}
use Rattle.model.specs.Status.{served}
use Rattle.model.specs.Container.{active_line, checkpoint_bytes}
use Rattle.model.specs.Session.{adr, fresh_session}
use Rattle.model.specs.Ops.{replay}
use Rattle.model.specs.Clients.{cleared}
use Rattle.model.specs.Outcome.{Lent, outcome_of}
use Rattle.model.specs.Open.{recovery_ops, open_status, open_outcome}
use Rattle.model.specs.Reference.{Page}
use Rattle.model.specs.History.{State, call_checkpoint, step, start, opened_image}
use Rattle.cases.specs.Turns.{point_of, begin, Turn, turns, made, Supposed}
use Rattle.model.proofs.Argument.Stands.{Stands}
use Rattle.model.proofs.Argument.Openings.{opened_is}
use Rattle.model.proofs.CrashSafety.{argument, history_stands}
use Rattle.model.proofs.Domains.{AdrOnly, adr-history, adr-step}
use Rattle.cases.proofs.Turns.{one-history}
use Rattle.cases.proofs.Compute.{same, same_equal}

-- the image I stands and is durable, no bit of the session is set, and both pages are P
abbrev pub standing : Layout → ℕ → Image → Page → State
standing l d I P = record {
  device = record { layout = l; durable = I; played = []; adr_played = []; image = I; session = fresh_session l d };
  model = record { working = P; checkpoint = P };
}

-- no client has taken any
pub started : (l : Layout) (d : ℕ) (I J : Image) (k : Lent) (P : Page) → open_status l d I k ≡ 0 → opened_image l d I k ≡ J
    → checkpoint_bytes l I (active_line I) ≡ P → begin l d I k ≡ point_of (standing l d J P) (cleared k.clients)
unfolding start open_outcome outcome_of
started l d I J k P e o c = rw (e, o, c)

-- what an opening leaves, by a test of what its rule's operations leave; and where a history starts, by that and a test of its page
pub opened_by : (l : Layout) (d : ℕ) (I J : Image) (k : Lent) → open_status l d I k ≡ 0 → same (replay (recovery_ops l I (active_line I)) I) J ≡ true
    → opened_image l d I k ≡ J
opened_by l d I J k e test = opened_is l d I k e ∙ same_equal _ _ test

pub started_by : (l : Layout) (d : ℕ) (I J : Image) (k : Lent) (P : Page) → open_status l d I k ≡ 0
    → same (replay (recovery_ops l I (active_line I)) I) J ≡ true → same (checkpoint_bytes l I (active_line I)) P ≡ true
    → begin l d I k ≡ point_of (standing l d J P) (cleared k.clients)
started_by l d I J k P e image page = started l d I J k P e (opened_by l d I J k e image) (same_equal _ _ page)

-- ---- on a module of kind 0

-- what stands, with every trace of kind 0
pub record Holds (s : State) : Type 0 where
  pub stands : Stands s
  pub only : AdrOnly s

pub turns_hold : (l : Layout) (I : Image) (k : Lent) → Bytes I → open_status l adr I k ≡ 0
    → (cs : List Turn) → Supposed adr (begin l adr I k) cs → Holds (turns (begin l adr I k) cs).state
turns_hold l I k bytes served cs supposed =
    subst Holds (sym (one-history.same (begin l adr I k) cs)) (record {
      stands = history_stands l adr I k bytes served (made (begin l adr I k) cs) supposed.0;
      only = adr-history l I k bytes served (made (begin l adr I k) cs) supposed.0 supposed.1;
    })

-- a checkpoint more
pub hold_saved : (s : State) (k : Lent) → Holds s → Holds (step s (call_checkpoint k))
hold_saved s k h = record {
  stands = (argument s h.stands (call_checkpoint k) tt).stands;
  only = adr-step s h.stands h.only (call_checkpoint k) (λ x. tt);
}
