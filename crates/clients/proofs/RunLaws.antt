-- Laws of the records as a value: what is loaded is what was lent, so the code's tests on it are the tests on the records; and what is
-- stored back is what a call leaves.
use Prim.Native.Nat.{ℕ, zero, suc, ◌+◌, ◌≤◌, ◌<◌, min}
use mathlib.Core.Path.{◌≡◌, refl, sym, ap, ap₂, ◌∙◌}
use mathlib.Core.Bool.{Bool, true, false, cond, ◌||◌}
use mathlib.Core.List.{List}
use native.Mathlib.Omega.{arith}
use native.Mathlib.Decide.{dec_lt, ℕ_discrete}
use native.Mathlib.Numerals.{add-one}
use lib.Dec.{ltb, eqb}
use lib.ListN.{length, take, set, length-set, length-replicate, get_or, get_or-replicate, get_or-eq_default}
use lib.Seq.{get_or-set_same, get_or-set_other, set-get_or}
use borrow.Author.Tests.{lt-ltb, le-ltb, le-leb, lt-leb}
use Rattle.std.proofs.lemmas.List.{ext_get_or, length-take, get_or-take}
use Rattle.std.specs.Array.{IsFromFnResultFrom}
use denote.Param.Members.{Mut, Called}
use Rattle.model.specs.declared.Layout.{Layout}
use Rattle.model.specs.declared.Client.{Client}
use Rattle.model.specs.Range.{any_b, sum_to}
use Rattle.model.specs.Clients.{Clients, most_clients, no_client, client_at, with_used, charged, unused, unused_of_others, reserved_total, client_bad, clients_bad, quota_reached}
use Rattle.model.proofs.Laws.Range.{or_left, or_right, any_at, any_ext, sum_ext}
use Rattle.clients.specs.declared.Run.{Run}
use Rattle.clients.specs.Run.{no_clients, copied, run_of, loaded}

-- ---- what is loaded

pub copied-length : (i : ℕ) (R : Clients) → length (copied i R) ≡ most_clients
unfolding copied no_clients
copied-length zero R = length-replicate most_clients no_client
copied-length (suc i) R = length-set (copied i R) i (client_at R i) ∙ copied-length i R

-- a record that is copied, and one that is not
copied_at : (m : ℕ) (R : Clients) (i : ℕ) → m ≤ most_clients → i < m → client_at (copied m R) i ≡ client_at R i
unfolding copied
copied_at zero R i a h = let z : ⊥ = omega arith in absurd z
copied_at (suc m) R i a h = go (λ b. copied_at m R i (omega arith) b) (ℕ_discrete i m)
  where
    go : (i < m → client_at (copied m R) i ≡ client_at R i) → Dec (i ≡ m) → client_at (copied (suc m) R) i ≡ client_at R i
    go old (yes e) = rw e (get_or-set_same (copied m R) m (client_at R m) no_client (omega (arith, copied-length m R)))
    go old (no e) = get_or-set_other (copied m R) m i (client_at R m) no_client e ∙ old (omega arith)

copied_past : (m : ℕ) (R : Clients) (i : ℕ) → m ≤ i → i < most_clients → client_at (copied m R) i ≡ no_client
unfolding copied no_clients
copied_past zero R i a h = get_or-replicate most_clients i no_client no_client h
copied_past (suc m) R i a h = get_or-set_other (copied m R) m i (client_at R m) no_client (λ e. omega arith) ∙ copied_past m R i (omega arith) h

pub loaded_at : (R : Clients) (i : ℕ) → i < most_clients → client_at (loaded R).clients i ≡ client_at R i
loaded_at R i h =
    elim (dec_lt i (length R)) [
      | yes l ↦ copied_at (min (length R) most_clients) R i (omega arith) (omega arith)
      | no l ↦ copied_past (min (length R) most_clients) R i (omega arith) h ∙ sym (get_or-eq_default R no_client (omega arith))
    ]

-- eight records that are those of R, and none after its last
pub loaded_same : (n : ℕ) (xs R : Clients) → n ≡ length R → length xs ≡ most_clients → ((i : ℕ) → i < most_clients → client_at xs i ≡ client_at R i) → run_of n xs ≡ loaded R
loaded_same n xs R count eight same =
    let m = min (length R) most_clients in
    ap₂ run_of count
    (ext_get_or no_client xs (copied m R) (omega (arith, copied-length m R)) (λ i h. same i (omega arith) ∙ sym (loaded_at R i (omega arith))))

-- an array that a closure fills, which stays as it was: the element at each place is what a call there answers
pub filled_at : {F B : Type 0} (g : Mut F (ℕ × Unit {0}) B) (v : ℕ → B) (f : F) → ((i : ℕ) (y : B) (q : F) → Called g f (i, tt) y q → (y ≡ v i) × (q ≡ f))
    → (ys : List B) (i n : ℕ) → IsFromFnResultFrom g f ys i n → (k : ℕ) (d : B) → i ≤ k → k < i + n → get_or ys k d ≡ v k
filled_at g v f keeps ys i zero h k d a b = let z : ⊥ = omega arith in absurd z
filled_at g v f keeps ys i (suc n) (q, y, at, call, rest) k d a b =
    let w = keeps i y q call in
    elim (ℕ_discrete k i) [
      | yes e ↦ rw e (at.1 d ∙ w.0)
      | no e ↦ filled_at g v f keeps ys (i + 1) n (rw w.1 at rest) k d (omega arith) (omega arith)
    ]

-- the same of a value that is loaded, as a contract has it
module _ (run : Run) (R : Clients) (e : run ≡ loaded R) where
  pub run_count : run.count ≡ length R
  run_count = ap (λ (r : Run). r.count) e

  pub run_at : (i : ℕ) → i < most_clients → client_at run.clients i ≡ client_at R i
  run_at i h = ap (λ (r : Run). client_at r.clients i) e ∙ loaded_at R i h

  -- what is said of each record below a number
  any_run : (P : Client → Bool) (n : ℕ) → n ≤ most_clients → any_b n (λ j. P (client_at run.clients j)) ≡ any_b n (λ j. P (client_at R j))
  any_run P n h = any_ext n (λ j. P (client_at run.clients j)) (λ j. P (client_at R j)) (λ i l. ap P (run_at i (omega arith)))

  sum-run : (f : Client → ℕ) (n : ℕ) → n ≤ most_clients → sum_to n (λ j. f (client_at run.clients j)) ≡ sum_to n (λ j. f (client_at R j))
  sum-run f n h = sum_ext n (λ j. f (client_at run.clients j)) (λ j. f (client_at R j)) (λ i l. ap f (run_at i (omega arith)))

-- a record of those that a value has, in the part of its array that holds them
pub kept : (run : Run) (k : ℕ) → k < length (take run.count run.clients) → (k < run.count) × (client_at (take run.count run.clients) k ≡ client_at run.clients k)
kept run k h =
    let below : k < run.count = omega (arith, length-take run.count run.clients) in
    (below, get_or-take run.count run.clients k no_client below)

-- ---- refusal 13

-- no record so far is bad: nothing yet, one more
pub any_nothing : (P : ℕ → Bool) → any_b 0 P ≡ false
unfolding any_b
any_nothing P = refl

pub any_one_more : (n : ℕ) (P : ℕ → Bool) → any_b n P ≡ false → P n ≡ false → any_b (n + 1) P ≡ false
unfolding any_b
any_one_more n P a b = rw add-one (ap₂ (λ (x y : Bool). x || y) a b)

-- a sum does not get smaller
sum_le : (n m : ℕ) (f : ℕ → ℕ) → n ≤ m → sum_to n f ≤ sum_to m f
unfolding sum_to
sum_le n zero f h = rw (let e : n ≡ 0 = omega arith in e) (omega arith)
sum_le n (suc m) f h = go (λ b. sum_le n m f b) (ℕ_discrete n (suc m))
  where
    go : (n ≤ m → sum_to n f ≤ sum_to m f) → Dec (n ≡ suc m) → sum_to n f ≤ sum_to m f + f m
    go old (yes e) = rw e (omega arith)
    go old (no e) = omega (arith, old (omega arith))

module _ (l : Layout) (run : Run) (R : Clients) (e : run ≡ loaded R) where
  pub bad_count : most_clients < run.count → clients_bad l R ≡ true
  unfolding clients_bad
  bad_count h = or_left _ (or_left _ (lt-ltb most_clients (length R) (omega (arith, run_count run R e))))

  module _ (small : run.count ≤ most_clients) where
    -- a record is bad
    pub bad_record : (k : ℕ) → k < run.count → client_bad (client_at run.clients k) ≡ true → clients_bad l R ≡ true
    unfolding clients_bad
    bad_record k h b =
        or_left (ltb l.backups (reserved_total R))
        (or_right (ltb most_clients (length R))
        (any_at (length R) (λ j. client_bad (client_at R j)) k (omega (arith, run_count run R e)) (ap client_bad (sym (run_at run R e k (omega arith))) ∙ b)))

    -- the shares of some of the first are too much
    pub bad_sum : (k : ℕ) → k ≤ run.count → l.backups < sum_to k (λ j. (client_at run.clients j).reserved) → clients_bad l R ≡ true
    unfolding clients_bad
    bad_sum k h b =
        or_right (ltb most_clients (length R) || any_b (length R) (λ j. client_bad (client_at R j)))
        (lt-ltb l.backups (reserved_total R)
        (omega (arith, run_count run R e, sum-run run R e (λ c. c.reserved) k (omega arith), sum_le k (length R) (λ j. (client_at R j).reserved) (omega (arith, run_count run R e)))))

    -- nothing is wrong
    pub none_bad : any_b run.count (λ j. client_bad (client_at run.clients j)) ≡ false
        → sum_to run.count (λ j. (client_at run.clients j).reserved) ≤ l.backups → clients_bad l R ≡ false
    unfolding clients_bad
    none_bad a b =
        let n : run.count ≡ length R = run_count run R e in
        let x : any_b (length R) (λ j. client_bad (client_at R j)) ≡ false = ap (λ (m : ℕ). any_b m (λ j. client_bad (client_at R j))) (sym n) ∙ sym (any_run run R e client_bad run.count small) ∙ a in
        let s : sum_to run.count (λ j. (client_at run.clients j).reserved) ≡ reserved_total R =
        sum-run run R e (λ c. c.reserved) run.count small ∙ ap (λ (m : ℕ). sum_to m (λ j. (client_at R j).reserved)) n in
        rw (le-ltb most_clients (length R) (omega arith), x) (le-ltb l.backups (reserved_total R) (omega arith))

-- ---- refusals 14 and 15

-- what the others have unused
pub unused_others : (run : Run) (R : Clients) → run ≡ loaded R → run.count ≤ most_clients → (k : ℕ)
    → sum_to run.count (λ j. cond (eqb j k) 0 (unused (client_at run.clients j))) ≡ unused_of_others R k
unused_others run R e small k =
    sum_ext run.count (λ j. cond (eqb j k) 0 (unused (client_at run.clients j))) (λ j. cond (eqb j k) 0 (unused (client_at R j)))
    (λ i l. ap (λ (c : Client). cond (eqb i k) 0 (unused c)) (run_at run R e i (omega arith)))
    ∙ ap (λ (m : ℕ). sum_to m (λ j. cond (eqb j k) 0 (unused (client_at R j)))) (run_count run R e)

-- whether a client has taken as many as it may, by the record that is loaded
module _ (run : Run) (R : Clients) (e : run ≡ loaded R) (k : ℕ) (h : k < most_clients) where
  pub at_limit_lem : (client_at run.clients k).quota ≤ (client_at run.clients k).used → quota_reached R k ≡ true
  at_limit_lem b = le-leb (client_at R k).quota (client_at R k).used (rw (run_at run R e k h) at b)

  pub under_limit : (client_at run.clients k).used < (client_at run.clients k).quota → quota_reached R k ≡ false
  under_limit b = lt-leb (client_at R k).quota (client_at R k).used (rw (run_at run R e k h) at b)

-- ---- what a call leaves

-- the record of a client after a served write
pub put_used : (R : Clients) (k : ℕ) (b : Bool)
    → set R k (with_used (cond b (suc (client_at R k).used) (client_at R k).used) (client_at R k)) ≡ cond b (charged R k) R
unfolding charged
put_used R k true = refl
put_used R k false = set-get_or R k no_client
