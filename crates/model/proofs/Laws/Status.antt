-- Which number `first_error` picks from a list of refusals, whatever the list: how the list of a call is judged part by part, and
-- what a number that was given says of the conditions, each found by its number and not by its place. A list may therefore grow
-- anywhere.
use Prim.Native.Nat.{ℕ, suc}
use mathlib.Core.Path.{◌≡◌, refl, sym, ◌∙◌}
use mathlib.Core.Logic.{◌≢◌}
use mathlib.Core.Bool.{Bool, true, false, cond, ◌||◌, true≢false}
use mathlib.Core.List.{[], ◌∷◌, ◌++◌}
use native.Mathlib.Omega.{arith}
use native.Mathlib.Decide.{ℕ_discrete}
use native.Mathlib.Nat.{suc-ne-zero}
use lib.Dec.{eqb}
use borrow.Author.Tests.{eqb-true, eqb-false, eq-eqb}
use Rattle.model.specs.declared.Refusal.{Refusal}
use Rattle.model.specs.declared.Refusal.TheVariants.{BadSize, BadLength, Foreign, Invalid, BadSession, NoSuchMain, NoSuchBlock, BadSpan, NoFreeBackup, EpochLimit, TraceShort, TraceBad, BadClients, QuotaReached, BackupsReserved}
use Rattle.model.specs.Status.{refusal_number, Errors, first_error, served}
use Rattle.model.specs.Refusals.{NoneHolds, Numbered}
use Rattle.model.proofs.Laws.Range.{or_left, or_right}

-- ---- what is said of a condition

-- the condition of number n, or false where the list does not have it; in a list that is written out this computes to the
-- condition itself
abbrev pub condition : ℕ → Errors → Bool
condition n [] = false
condition n (e ∷ es) = cond (eqb e.0 n) (condition n es || e.1) (condition n es)

-- the part of the list before number n
abbrev pub earlier : ℕ → Errors → Errors
earlier n [] = []
earlier n (e ∷ es) = cond (eqb e.0 n) [] (e ∷ earlier n es)

-- ---- one entry after the other, as code judges them

-- this condition holds: its number
pub first_holds : (n : ℕ) (b : Bool) (es : Errors) → b ≡ true → n ≡ first_error ((n, b) ∷ es)
unfolding first_error
first_holds n b es e = rw e

-- it does not: the number of the rest
pub first_fails : (n r : ℕ) (b : Bool) (es : Errors) → b ≡ false → r ≡ first_error es → r ≡ first_error ((n, b) ∷ es)
unfolding first_error
first_fails n r b es e h = rw e h

-- no condition is left
pub first_of_none : 0 ≡ first_error []
unfolding first_error
first_of_none = refl

-- ---- served

pub served_cons : (n : ℕ) (b : Bool) (es : Errors) → first_error ((suc n, b) ∷ es) ≡ 0 → (b ≡ false) × (first_error es ≡ 0)
unfolding first_error
served_cons n true es h = absurd (suc-ne-zero n h)
served_cons n false es h = (refl, h)

pub cons_served : (n : ℕ) (b : Bool) (es : Errors) → b ≡ false → first_error es ≡ 0 → first_error ((n, b) ∷ es) ≡ 0
unfolding first_error
cons_served n b es p h = rw p h

-- a call is served exactly if no condition holds
pub none_served : (es : Errors) → NoneHolds es → first_error es ≡ 0
none_served [] h = unfold first_error in refl
none_served (e ∷ es) h = cons_served e.0 e.1 es h.0 (none_served es h.1)

pub served_none : (es : Errors) → Numbered es → first_error es ≡ 0 → NoneHolds es
unfolding first_error
served_none [] k h = tt
served_none (e ∷ es) k h = go e.1 h (served_none es k.1)
  where
    go : (b : Bool) → cond b e.0 (first_error es) ≡ 0 → (first_error es ≡ 0 → NoneHolds es) → (b ≡ false) × NoneHolds es
    go true h ih = (let z : ⊥ = omega arith in absurd z)
    go false h ih = (refl, ih h)

-- no refusal has the number of a served call
pub refusal_refuses : (r : Refusal) → served (refusal_number r) ≡ false
refusal_refuses BadSize = refl
refusal_refuses BadLength = refl
refusal_refuses Foreign = refl
refusal_refuses Invalid = refl
refusal_refuses BadSession = refl
refusal_refuses NoSuchMain = refl
refusal_refuses NoSuchBlock = refl
refusal_refuses BadSpan = refl
refusal_refuses NoFreeBackup = refl
refusal_refuses EpochLimit = refl
refusal_refuses TraceShort = refl
refusal_refuses TraceBad = refl
refusal_refuses BadClients = refl
refusal_refuses QuotaReached = refl
refusal_refuses BackupsReserved = refl

-- ---- a list in two parts

pub after_none : (es fs : Errors) → NoneHolds es → first_error (es ++ fs) ≡ first_error fs
unfolding first_error
after_none [] fs h = refl
after_none (e ∷ es) fs h = rw h.0 (after_none es fs h.1)

pub after-served : (es fs : Errors) → Numbered es → first_error es ≡ 0 → first_error (es ++ fs) ≡ first_error fs
after-served es fs k h = after_none es fs (served_none es k h)

pub before_refused : (es fs : Errors) → first_error es ≢ 0 → first_error (es ++ fs) ≡ first_error es
unfolding first_error
before_refused [] fs h = absurd (h refl)
before_refused (e ∷ es) fs h = go e.1 h (before_refused es fs)
  where
    go : (b : Bool) → cond b e.0 (first_error es) ≢ 0 → (first_error es ≢ 0 → first_error (es ++ fs) ≡ first_error es)
        → cond b e.0 (first_error (es ++ fs)) ≡ cond b e.0 (first_error es)
    go true h ih = refl
    go false h ih = ih h

-- where a list is served, both parts are
pub served_parts : (es fs : Errors) → Numbered es → first_error (es ++ fs) ≡ 0 → (first_error es ≡ 0) × (first_error fs ≡ 0)
served_parts es fs k h =
    elim (ℕ_discrete (first_error es) 0) [
      | yes z ↦ (z, sym (after-served es fs k z) ∙ h)
      | no n ↦ absurd (n (sym (before_refused es fs n) ∙ h))
    ]

-- a number n that the code found for the first part: refused, it is the number of the whole list; served, that is the second
-- part's
pub stage_refused : (n : ℕ) (es fs : Errors) → n ≡ first_error es → served n ≡ false → n ≡ first_error (es ++ fs)
stage_refused n es fs e r = e ∙ sym (before_refused es fs (λ z. eqb-false n 0 r (e ∙ z)))

pub stage_passed : (n : ℕ) (es fs : Errors) → Numbered es → n ≡ first_error es → served n ≡ true → first_error (es ++ fs) ≡ first_error fs
stage_passed n es fs k e r = after-served es fs k (sym e ∙ eqb-true n 0 r)

-- ---- what a number says of the conditions

none_condition : (n : ℕ) (es : Errors) → NoneHolds es → condition n es ≡ false
none_condition n [] h = refl
none_condition n (e ∷ es) h = go (eqb e.0 n) (none_condition n es h.1)
  where
    go : (b : Bool) → condition n es ≡ false → cond b (condition n es || e.1) (condition n es) ≡ false
    go true ih = rw ih h.0
    go false ih = ih

-- a served call leaves every condition false
pub served_condition : (es : Errors) → Numbered es → first_error es ≡ 0 → (n : ℕ) → condition n es ≡ false
served_condition es k h n = none_condition n es (served_none es k h)

-- the number that is given: its condition holds, and those of the numbers before it do not
pub given_condition : (n : ℕ) (es : Errors) → n ≢ 0 → first_error es ≡ n → condition n es ≡ true
unfolding first_error
given_condition n [] k h = absurd (k (sym h))
given_condition n (e ∷ es) k h = go e.1 h (given_condition n es k)
  where
    both : (c : Bool) → condition n es ≡ true → cond c (condition n es || false) (condition n es) ≡ true
    both true i = or_left false i
    both false i = i

    go : (b : Bool) → cond b e.0 (first_error es) ≡ n → (first_error es ≡ n → condition n es ≡ true)
        → cond (eqb e.0 n) (condition n es || b) (condition n es) ≡ true
    go true h ih = rw (eq-eqb e.0 n h) (or_right (condition n es) refl)
    go false h ih = both (eqb e.0 n) (ih h)

-- a number that the first part of a list does not have, or has with a condition that fails, is given by the second part, and the first
-- lets the call through
pub given_later : (n : ℕ) (es fs : Errors) → n ≢ 0 → condition n es ≡ false → first_error (es ++ fs) ≡ n → first_error es ≡ 0
given_later n es fs k c h =
    elim (ℕ_discrete (first_error es) 0) [
      | yes z ↦ z
      | no m ↦ absurd (true≢false (sym (given_condition n es k (sym (before_refused es fs m) ∙ h)) ∙ c))
    ]

pub given_earlier : (n : ℕ) (es : Errors) → n ≢ 0 → first_error es ≡ n → (m : ℕ) → condition m (earlier n es) ≡ false
unfolding first_error
given_earlier n es k h m = none_condition m (earlier n es) (none es h)
  where
    none : (fs : Errors) → first_error fs ≡ n → NoneHolds (earlier n fs)
    none [] h = tt
    none (e ∷ fs) h = go (eqb e.0 n) refl e.1 refl h (none fs)
      where
        go : (c : Bool) → eqb e.0 n ≡ c → (b : Bool) → e.1 ≡ b → cond b e.0 (first_error fs) ≡ n → (first_error fs ≡ n → NoneHolds (earlier n fs))
            → NoneHolds (cond c [] (e ∷ earlier n fs))
        go true p b q h ih = tt
        go false p true q h ih = absurd (eqb-false e.0 n p h)
        go false p false q h ih = (q, ih h)
