-- Laws of `outcome_of`, in which every call's outcome is built: what a served call answers, and what a refused one does.
use Prim.Native.Nat.{ℕ}
use mathlib.Core.Path.{◌≡◌, refl, ap, ◌∙◌}
use mathlib.Core.Logic.{◌≢◌}
use mathlib.Core.Bool.{Bool, true, false, cond}
use mathlib.Core.List.{[]}
use borrow.Author.Tests.{eqb-true, eq-eqb, ne_eqb}
use Rattle.model.specs.declared.Session.{Session}
use Rattle.model.specs.Status.{served}
use Rattle.model.specs.Ops.{Ops, for_domain}
use Rattle.model.specs.Clients.{Clients}
use Rattle.model.specs.Outcome.{Outcome, outcome_of}

-- a call that answers with this status, session and operations
pub record Answered (o : Outcome) (b : Bool) (s : Session) (O : Ops) : Type 0 where
  pub status : served o.status ≡ b
  pub session : o.session ≡ s
  pub ops : o.ops ≡ O

module _ (e : ℕ) (kept next : Session) (R R' : Clients) (d : ℕ) (O : Ops) where
  -- served, it answers the next session and writes those of the operations that are for the kind of module
  pub outcome-served : e ≡ 0 → Answered (outcome_of e kept next R R' d O) true next (for_domain d O)
  unfolding outcome_of
  outcome-served h = let q : served e ≡ true = eq-eqb _ _ h in record { status = q; session = rw q; ops = rw q }

  -- refused, it keeps its session and writes nothing
  pub outcome_refused : e ≢ 0 → Answered (outcome_of e kept next R R' d O) false kept []
  unfolding outcome_of
  outcome_refused h = let q : served e ≡ false = ne_eqb _ _ h in record { status = q; session = rw q; ops = rw q }

-- outcomes with one status are the same if what they would answer when served is
pub outcome_same : (e f : ℕ) (kept : Session) (R : Clients) (d : ℕ) {next next' : Session} {R' R'' : Clients} {O E : Ops}
    → e ≡ f → (e ≡ 0 → next ≡ next') → (e ≡ 0 → R' ≡ R'') → (e ≡ 0 → O ≡ E)
    → outcome_of e kept next R R' d O ≡ outcome_of f kept next' R R'' d E
unfolding outcome_of
outcome_same e f kept R d {next} {next'} {R'} {R''} {O} {E} p q c r = go (served e) refl ∙ ap (λ (n : ℕ). outcome_of n kept next' R R'' d E) p
  where
    go : (b : Bool) → served e ≡ b → outcome_of e kept next R R' d O ≡ outcome_of e kept next' R R'' d E
    go true h = let z = eqb-true _ _ h in λ i. record { status = e; session = cond (served e) (q z i) kept; clients = cond (served e) (c z i) R; ops = cond (served e) (for_domain d (r z i)) [] }
    go false h = rw h refl
