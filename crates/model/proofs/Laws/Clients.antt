-- Laws of the records of clients: one record changed, all cleared, the sums of shares, and what refusal 13 rules out.
use Prim.Native.Nat.{ℕ, zero, suc, ◌+◌, ◌-◌, ◌≤◌, ◌<◌}
use mathlib.Core.Path.{◌≡◌, refl, sym, ap, ◌∙◌}
use mathlib.Core.Logic.{◌≢◌}
use mathlib.Core.Bool.{false, cond}
use mathlib.Core.List.{[], ◌∷◌}
use native.Mathlib.Omega.{arith}
use lib.Dec.{ltb, eqb}
use lib.ListN.{length, length-set}
use lib.Seq.{set_out, get_or-set_same, get_or-set_other}
use borrow.Author.Tests.{ltb-false, eq-eqb, ne_eqb}
use Rattle.model.specs.declared.Layout.{Layout}
use Rattle.model.specs.Range.{sum_to}
use Rattle.model.specs.Clients.{Clients, most_clients, no_client, client_at, with_used, charged, cleared, unused, reserved_total, unused_total, unused_of_others, clients_bad}
use Rattle.model.proofs.Laws.Range.{or_none, any_none, sum_ext, sum_change}

-- ---- one more taken

pub length-charged : (R : Clients) (k : ℕ) → length (charged R k) ≡ length R
unfolding charged
length-charged R k = length-set R k _

-- a client that has no record is not charged
pub charged_past : (R : Clients) (k : ℕ) → length R ≤ k → charged R k ≡ R
unfolding charged
charged_past R k h = set_out R k _ h

module _ (R : Clients) (k : ℕ) (h : k < length R) where
  pub charged_same : client_at (charged R k) k ≡ with_used (suc (client_at R k).used) (client_at R k)
  unfolding charged
  charged_same = get_or-set_same R k _ no_client h

  pub charged_other : (j : ℕ) → j ≢ k → client_at (charged R k) j ≡ client_at R j
  unfolding charged
  charged_other j n = get_or-set_other R k j _ no_client n

  -- what all have unused is what the others have and what this one has
  pub others_split : unused_total R ≡ unused_of_others R k + unused (client_at R k)
  others_split =
      let none : cond (eqb k k) 0 (unused (client_at R k)) ≡ 0 = rw (eq-eqb k k refl) in
      omega (arith, none, sum_change (length R) k (λ j. cond (eqb j k) 0 (unused (client_at R j))) (λ j. unused (client_at R j)) h (λ j b n. sym (rw (ne_eqb j k n))))

  -- and after it takes one more, what the others have and one less of its own, if it had any
  pub unused-charged : unused_total (charged R k) ≡ unused_of_others R k + (unused (client_at R k) - 1)
  unused-charged =
      let own = ap unused charged_same in
      let long = ap (λ (n : ℕ). sum_to n (λ j. unused (client_at (charged R k) j))) (length-charged R k) in
      omega (
        arith,
        own,
        long,
        others_split,
        sum_change (length R) k (λ j. unused (client_at R j)) (λ j. unused (client_at (charged R k) j)) h (λ j b n. ap unused (charged_other j n)),
      )

-- ---- none taken

pub length-cleared : (R : Clients) → length (cleared R) ≡ length R
unfolding cleared
length-cleared [] = refl
length-cleared (c ∷ R) = ap suc (length-cleared R)

pub cleared_at : (R : Clients) (j : ℕ) → client_at (cleared R) j ≡ with_used 0 (client_at R j)
unfolding cleared
cleared_at [] j = refl
cleared_at (c ∷ R) zero = refl
cleared_at (c ∷ R) (suc j) = cleared_at R j

pub unused-cleared : (R : Clients) → unused_total (cleared R) ≡ reserved_total R
unused-cleared R = ap (λ (n : ℕ). sum_to n (λ j. unused (client_at (cleared R) j))) (length-cleared R)
    ∙ sum_ext (length R) _ _ (λ j h. omega (arith, ap unused (cleared_at R j)))

-- ---- refusal 13

-- records that it lets through
pub record ClientsOk (l : Layout) (R : Clients) : Type 0 where
  pub few : length R ≤ most_clients
  pub shares : (k : ℕ) → k < length R → (client_at R k).reserved ≤ (client_at R k).quota
  pub quotas : (k : ℕ) → k < length R → (client_at R k).used ≤ (client_at R k).quota
  pub total : reserved_total R ≤ l.backups

pub clients_ok : (l : Layout) (R : Clients) → clients_bad l R ≡ false → ClientsOk l R
unfolding clients_bad
clients_ok l R h =
    let a = or_none _ _ h in
    let b = or_none _ _ a.0 in
    record {
      few = ltb-false _ _ b.0;
      shares = λ k i. ltb-false _ _ (or_none (ltb (client_at R k).quota (client_at R k).reserved) _ (any_none (length R) _ b.1 k i)).0;
      quotas = λ k i. ltb-false _ _ (or_none (ltb (client_at R k).quota (client_at R k).reserved) _ (any_none (length R) _ b.1 k i)).1;
      total = ltb-false _ _ a.1;
    }
