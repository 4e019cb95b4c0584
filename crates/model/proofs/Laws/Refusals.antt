-- Demand 1 (specs/Refusals.antt), proved: the number that is given is that of the first condition that holds, and a call knows
-- the numbers of its list and gives no other.
use Prim.Native.Nat.{ℕ}
use mathlib.Core.Path.{◌≡◌, refl, sym, ap, ◌∙◌}
use mathlib.Core.Logic.{inl, inr, ⊎_elim}
use mathlib.Core.Bool.{Bool, true, false, cond}
use mathlib.Core.List.{[], ◌∷◌}
use Rattle.model.specs.Status.{Errors, first_error}
use Rattle.model.specs.Refusals.{First, GivenFirst, ServedExactly, numbers, Knows, OneOf, NumberKnown}
use Rattle.model.proofs.Laws.Status.{none_served, served_none, after_none}

pub given_first : GivenFirst
unfolding first_error
given_first n es k = (given es, holds)
  where
    given : (fs : Errors) → first_error fs ≡ n → First n fs
    given [] h = absurd (k (sym h))
    given (e ∷ fs) h = go e.1 h (given fs)
      where
        go : (b : Bool) → cond b e.0 (first_error fs) ≡ n → (first_error fs ≡ n → First n fs) → First n ((e.0, b) ∷ fs)
        go true h ih = ([], fs, ap (λ (m : ℕ). (m, true) ∷ fs) h, tt)
        go false h ih = let f = ih h in ((e.0, false) ∷ f.0, f.1, ap (λ (gs : Errors). (e.0, false) ∷ gs) f.2, (refl, f.3))

    holds : First n es → first_error es ≡ n
    holds f = ap first_error f.2 ∙ after_none f.0 ((n, true) ∷ f.1) f.3

pub served_exactly : ServedExactly
served_exactly es k = (served_none es k, none_served es)

pub knows : Knows
knows = record {
  format = λ l I. refl;
  opening = λ l d I t. refl;
  write = λ s I w t. refl;
  discard = λ s I i t. refl;
  checkpoint = λ s I t. refl;
  replay = λ I t n. refl;
  read = λ l I i b. refl;
  same = λ l I J. refl;
}

pub number_known : NumberKnown
unfolding first_error
number_known [] = inl refl
number_known (e ∷ es) = go e.1 (number_known es)
  where
    go : (b : Bool) → OneOf (0 ∷ numbers es) (first_error es) → OneOf (0 ∷ e.0 ∷ numbers es) (cond b e.0 (first_error es))
    go true ih = inr (inl refl)
    go false ih = ⊎_elim inl (λ x. inr (inr x)) ih
