-- Laws of what is said of 0, 1, .. n - 1, and of tests in a row.
use Prim.Native.Nat.{ℕ, zero, suc, ◌+◌, ◌*◌, ◌<◌, ◌≤◌}
use mathlib.Core.Path.{◌≡◌, refl, sym, ap, ap₂, ◌∙◌, subst}
use mathlib.Core.Bool.{Bool, true, false, not, cond, ◌&&◌, ◌||◌, true≢false}
use mathlib.Core.Logic.{◌≢◌}
use mathlib.Core.List.{List, [], ◌++◌}
use native.Mathlib.Omega.{arith}
use native.Mathlib.Decide.{dec_lt, ℕ_discrete}
use native.Mathlib.Nat.{zero-mul, suc-mul, mul-one, mul-add}
use lib.Bits.{bit_or, or_add_and, and_le_l, and_le_r}
use lib.Dec.{ltb, eqb}
use lib.ListN.{length, length-append}
use borrow.Author.Tests.{lt-ltb, le-ltb, eq-eqb, ne_eqb}
use native.Mathlib.Numerals.{add-one}
use Rattle.model.specs.Range.{sum_to, one_if, cat, all_b, any_b, or_next, first_b}

-- ---- tests in a row

pub both : {a b : Bool} → a ≡ true → b ≡ true → (a && b) ≡ true
both p q = rw (p, q)

pub and_left : (a b : Bool) → (a && b) ≡ true → a ≡ true
and_left true b e = refl
and_left false b e = e

pub and_right : (a b : Bool) → (a && b) ≡ true → b ≡ true
and_right true b e = e
and_right false b e = cc

pub or_left : {a : Bool} (b : Bool) → a ≡ true → (a || b) ≡ true
or_left b p = rw p

pub or_right : (a : Bool) {b : Bool} → b ≡ true → (a || b) ≡ true
or_right true p = refl
or_right false p = p

-- the second, where the first fails
pub or_else : (a b : Bool) → (a || b) ≡ true → a ≡ false → b ≡ true
or_else true b e f = cc
or_else false b e f = e

-- neither holds
pub or_none : (a b : Bool) → (a || b) ≡ false → (a ≡ false) × (b ≡ false)
or_none true b h = absurd (true≢false h)
or_none false b h = (refl, h)

-- two tests are the same if each follows from the other
pub same_test : (a b : Bool) → (a ≡ true → b ≡ true) → (b ≡ true → a ≡ true) → a ≡ b
same_test true b f g = sym (f refl)
same_test false true f g = g refl
same_test false false f g = refl

-- tests gathered in one number, which is 0 as long as each was
pub or_zero_lem : (a b : ℕ) → eqb (bit_or a b) 0 ≡ (eqb a 0 && eqb b 0)
or_zero_lem a b = go (ℕ_discrete a 0) (ℕ_discrete b 0)
  where
    go : Dec (a ≡ 0) → Dec (b ≡ 0) → eqb (bit_or a b) 0 ≡ (eqb a 0 && eqb b 0)
    go (yes x) (yes y) = eq-eqb (bit_or a b) 0 (omega (arith, or_add_and a b, and_le_l a b, and_le_r a b)) ∙ sym (rw (x, y))
    go (yes x) (no y) = ne_eqb (bit_or a b) 0 (λ z. omega (arith, or_add_and a b, and_le_l a b, and_le_r a b)) ∙ sym (rw (x, ne_eqb b 0 y))
    go (no x) d = ne_eqb (bit_or a b) 0 (λ z. omega (arith, or_add_and a b, and_le_l a b, and_le_r a b)) ∙ sym (rw (ne_eqb a 0 x))

-- ---- joined lists

module _ {A : Type 0} where
  pub cat_ext : (n : ℕ) (f g : ℕ → List A) → ((i : ℕ) → i < n → f i ≡ g i) → cat n f ≡ cat n g
  unfolding cat
  cat_ext zero f g h = refl
  cat_ext (suc n) f g h = ap₂ (λ (x y : List A). x ++ y) (cat_ext n f g (λ i l. h i (omega arith))) (h n (omega arith))

  -- each of k elements
  pub cat_none : (n : ℕ) → cat {A = A} n (λ i. []) ≡ []
  unfolding cat
  cat_none zero = refl
  cat_none (suc n) = ap (λ (X : List A). X ++ []) (cat_none n)

  pub length-cat : (n k : ℕ) (f : ℕ → List A) → ((i : ℕ) → i < n → length (f i) ≡ k) → length (cat n f) ≡ n * k
  unfolding cat
  length-cat zero k f h = sym (zero-mul k)
  length-cat (suc n) k f h =
      length-append (cat n f) (f n) ∙ ap₂ ◌+◌ (length-cat n k f (λ i l. h i (omega arith))) (h n (omega arith)) ∙ sym (suc-mul n k)

-- ---- tests of every number; a loop gathers them upward and without an exit: nothing yet, one more

pub all_none : (P : ℕ → Bool) → true ≡ all_b 0 P
unfolding all_b
all_none P = refl

pub all_more : (n : ℕ) (P : ℕ → Bool) {a b : Bool} → a ≡ all_b n P → b ≡ P n → (a && b) ≡ all_b (n + 1) P
unfolding all_b
all_more n P p q = rw add-one (ap₂ (λ (x y : Bool). x && y) p q)

pub all_at : (n : ℕ) (P : ℕ → Bool) → all_b n P ≡ true → (i : ℕ) → i < n → P i ≡ true
unfolding all_b
all_at zero P h i l = let z : ⊥ = omega arith in absurd z
all_at (suc n) P h i l =
    elim (dec_lt i n) [
      | yes b ↦ all_at n P (and_left (all_b n P) (P n) h) i b
      | no b ↦ (let e : i ≡ n = omega arith in rw e (and_right (all_b n P) (P n) h))
    ]

pub all_from : (n : ℕ) (P : ℕ → Bool) → ((i : ℕ) → i < n → P i ≡ true) → all_b n P ≡ true
unfolding all_b
all_from zero P h = refl
all_from (suc n) P h = both (all_from n P (λ i l. h i (omega arith))) (h n (omega arith))

pub any_at : (n : ℕ) (P : ℕ → Bool) (i : ℕ) → i < n → P i ≡ true → any_b n P ≡ true
unfolding any_b
any_at zero P i l e = let z : ⊥ = omega arith in absurd z
any_at (suc n) P i l e =
    elim (dec_lt i n) [
      | yes b ↦ or_left (P n) (any_at n P i b e)
      | no b ↦ (let q : i ≡ n = omega arith in or_right (any_b n P) (subst (λ (k : ℕ). P k ≡ true) q e))
    ]

pub any_none : (n : ℕ) (P : ℕ → Bool) → any_b n P ≡ false → (i : ℕ) → i < n → P i ≡ false
any_none n P h i l = go (P i) refl
  where
    go : (b : Bool) → P i ≡ b → P i ≡ false
    go false e = e
    go true e = let w : any_b n P ≡ true = any_at n P i l e in cc

pub all_ext : (n : ℕ) (P Q : ℕ → Bool) → ((i : ℕ) → i < n → P i ≡ Q i) → all_b n P ≡ all_b n Q
unfolding all_b
all_ext zero P Q h = refl
all_ext (suc n) P Q h = ap₂ (λ (x y : Bool). x && y) (all_ext n P Q (λ i l. h i (omega arith))) (h n (omega arith))

pub any_ext : (n : ℕ) (P Q : ℕ → Bool) → ((i : ℕ) → i < n → P i ≡ Q i) → any_b n P ≡ any_b n Q
unfolding any_b
any_ext zero P Q h = refl
any_ext (suc n) P Q h = ap₂ ◌||◌ (any_ext n P Q (λ i l. h i (omega arith))) (h n (omega arith))

-- ---- the first number

pub first_none : (n : ℕ) (P : ℕ → Bool) → ((k : ℕ) → k < n → P k ≡ false) → first_b n P ≡ n
unfolding first_b or_next
first_none zero P h = refl
first_none (suc n) P h =
    let e : first_b n P ≡ n = first_none n P (λ k l. h k (omega arith)) in
    rw (e, le-ltb n n (omega arith), h n (omega arith))

-- where it is, for a loop that finds it
pub first_found : (n : ℕ) (P : ℕ → Bool) (i : ℕ) → i < n → ((k : ℕ) → k < i → P k ≡ false) → P i ≡ true → first_b n P ≡ i
unfolding first_b or_next
first_found zero P i l h p = omega arith
first_found (suc n) P i l h p =
    elim (dec_lt i n) [
      | yes b ↦ (let e : first_b n P ≡ i = first_found n P i b h p in rw (e, lt-ltb i n b))
      | no b ↦
          (let q : i ≡ n = omega arith in
          let e : first_b n P ≡ n = first_none n P (λ k m. h k (omega arith)) in
          let w : P n ≡ true = rw q at p in
          rw (e, le-ltb n n (omega arith), w) (sym q))
    ]

-- where there is one, it is found
pub first_some : (n : ℕ) (P : ℕ → Bool) → any_b n P ≡ true → (first_b n P < n) × (P (first_b n P) ≡ true)
unfolding first_b any_b or_next
first_some zero P h = absurd (true≢false (sym h))
first_some (suc n) P h = go (any_b n P) (P n) refl refl (first_some n P)
  where
    go : (a b : Bool) → any_b n P ≡ a → P n ≡ b → (any_b n P ≡ true → (first_b n P < n) × (P (first_b n P) ≡ true))
        → (or_next (first_b n P) n (P n) < suc n) × (P (or_next (first_b n P) n (P n)) ≡ true)
    go true b e q ih = let x = ih e in rw (lt-ltb (first_b n P) n x.0) (omega arith, x.1)
    go false true e q ih =
        let f : first_b n P ≡ n = first_none n P (λ k l. any_none n P e k l) in
        rw (f, le-ltb n n (omega arith), q) (omega arith, q)
    go false false e q ih = absurd (true≢false (sym h ∙ ap₂ (λ (x y : Bool). x || y) e q))

none_any : (n : ℕ) (P : ℕ → Bool) → any_b n P ≡ false → first_b n P ≡ n
none_any n P h = first_none n P (any_none n P h)

-- some number passes exactly if the first is below the bound
pub any_first : (n : ℕ) (P : ℕ → Bool) → any_b n P ≡ ltb (first_b n P) n
any_first n P = go (any_b n P) refl
  where
    go : (a : Bool) → any_b n P ≡ a → any_b n P ≡ ltb (first_b n P) n
    go true e = e ∙ sym (lt-ltb _ _ (first_some n P e).0)
    go false e = e ∙ sym (le-ltb (first_b n P) n (omega (arith, none_any n P e)))

pub first_most : (n : ℕ) (P : ℕ → Bool) → first_b n P ≤ n
first_most n P = go (any_b n P) refl
  where
    go : (a : Bool) → any_b n P ≡ a → first_b n P ≤ n
    go true e = omega (arith, (first_some n P e).0)
    go false e = omega (arith, none_any n P e)

-- no number before it passes
pub first_before : (n : ℕ) (P : ℕ → Bool) (k : ℕ) → k < first_b n P → P k ≡ false
unfolding first_b or_next
first_before zero P k l = let z : ⊥ = omega arith in absurd z
first_before (suc n) P k l = go (dec_lt (first_b n P) n) (first_before n P k)
  where
    last : Dec (k < n) → first_b n P ≡ n → (k < first_b n P → P k ≡ false) → (b : Bool) → P n ≡ b → k < cond b n (suc n) → P k ≡ false
    last (yes m) q ih b e x = ih (omega (arith, q))
    last (no m) q ih true e x = absurd (m x)
    last (no m) q ih false e x = let same : k ≡ n = omega arith in rw same e

    go : Dec (first_b n P < n) → (k < first_b n P → P k ≡ false) → P k ≡ false
    go (yes h) ih = ih (rw (lt-ltb (first_b n P) n h) at l)
    go (no h) ih =
        let q : first_b n P ≡ n = omega (arith, first_most n P) in
        last (dec_lt k n) q ih (P n) refl (rw (q, le-ltb n n (omega arith)) at l)

pub first_ext : (n : ℕ) (P Q : ℕ → Bool) → ((i : ℕ) → i < n → P i ≡ Q i) → first_b n P ≡ first_b n Q
unfolding first_b
first_ext zero P Q h = refl
first_ext (suc n) P Q h = ap₂ (λ (f : ℕ) (b : Bool). or_next f n b) (first_ext n P Q (λ i l. h i (omega arith))) (h n (omega arith))

-- ---- sums

pub sum_none : (f : ℕ → ℕ) → 0 ≡ sum_to 0 f
unfolding sum_to
sum_none f = refl

pub sum_more : (n : ℕ) (f : ℕ → ℕ) → sum_to (n + 1) f ≡ sum_to n f + f n
unfolding sum_to
sum_more n f = rw add-one

pub sum_ext : (n : ℕ) (f g : ℕ → ℕ) → ((i : ℕ) → i < n → f i ≡ g i) → sum_to n f ≡ sum_to n g
unfolding sum_to
sum_ext zero f g h = refl
sum_ext (suc n) f g h = ap₂ ◌+◌ (sum_ext n f g (λ i l. h i (omega arith))) (h n (omega arith))

pub sum_zero : (n : ℕ) (f : ℕ → ℕ) → ((i : ℕ) → i < n → f i ≡ 0) → sum_to n f ≡ 0
unfolding sum_to
sum_zero zero f h = refl
sum_zero (suc n) f h = omega (arith, sum_zero n f (λ i l. h i (omega arith)), h n (omega arith))

pub no_one : (b : Bool) → one_if b ≡ 0 → b ≡ false
no_one true e = absurd (omega arith)
no_one false e = refl

pub one-most : (b : Bool) → one_if b ≤ 1
one-most true = omega arith
one-most false = omega arith

pub sum-most : (n k : ℕ) (f : ℕ → ℕ) → ((i : ℕ) → i < n → f i ≤ k) → sum_to n f ≤ k * n
unfolding sum_to
sum-most zero k f h = omega arith
sum-most (suc n) k f h = omega (arith, sum-most n k f (λ i l. h i (omega arith)), h n (omega arith), mul-add k n 1, mul-one k)

-- one number after the other, in two ways
pub sum_add : (n : ℕ) (f g : ℕ → ℕ) → sum_to n (λ i. f i + g i) ≡ sum_to n f + sum_to n g
unfolding sum_to
sum_add zero f g = refl
sum_add (suc n) f g = omega (arith, sum_add n f g)

pub sum_swap : (n m : ℕ) (f : ℕ → ℕ → ℕ) → sum_to n (λ i. sum_to m (f i)) ≡ sum_to m (λ j. sum_to n (λ i. f i j))
unfolding sum_to
sum_swap zero m f = sym (sum_zero m (λ j. 0) (λ j h. refl))
sum_swap (suc n) m f = ap₂ ◌+◌ (sum_swap n m f) refl ∙ sym (sum_add m (λ j. sum_to n (λ i. f i j)) (f n))

-- two functions that differ at one number at most
pub sum_change : (n i : ℕ) (f g : ℕ → ℕ) → i < n → ((k : ℕ) → k < n → k ≢ i → g k ≡ f k) → sum_to n g + f i ≡ sum_to n f + g i
unfolding sum_to
sum_change zero i f g l h = absurd (omega arith)
sum_change (suc n) i f g l h = go (ℕ_discrete i n) (λ b. sum_change n i f g b (λ k x. h k (omega arith)))
  where
    go : Dec (i ≡ n) → (i < n → sum_to n g + f i ≡ sum_to n f + g i) → sum_to n g + g n + f i ≡ sum_to n f + f n + g i
    go (yes e) ih = let s : sum_to n g ≡ sum_to n f = sum_ext n g f (λ k b. h k (omega arith) (λ q. omega arith)) in rw (e, s) (omega arith)
    go (no e) ih = omega (arith, ih (omega arith), h n (omega arith) (λ q. e (sym q)))

-- a function that is 0 but at one number
pub sum_single : (n i : ℕ) (f : ℕ → ℕ) → i < n → ((k : ℕ) → k < n → k ≢ i → f k ≡ 0) → sum_to n f ≡ f i
sum_single n i f l h = omega (arith, sum_change n i (λ k. 0) f l h, sum_zero n (λ k. 0) (λ k b. refl))

-- a test holds of a number or does not
pub sum_split : (n : ℕ) (P : ℕ → Bool) → sum_to n (λ k. one_if (P k)) + sum_to n (λ k. one_if (not (P k))) ≡ n
unfolding sum_to
sum_split zero P = refl
sum_split (suc n) P = go (P n) (sum_split n P)
  where
    go : (b : Bool) → sum_to n (λ k. one_if (P k)) + sum_to n (λ k. one_if (not (P k))) ≡ n
        → sum_to n (λ k. one_if (P k)) + one_if b + (sum_to n (λ k. one_if (not (P k))) + one_if (not b)) ≡ suc n
    go true ih = omega arith
    go false ih = omega arith

-- a test holds of some number exactly if the numbers of which it does not hold are not all
pub any_counted : (n : ℕ) (P : ℕ → Bool) → any_b n P ≡ not (eqb (sum_to n (λ k. one_if (not (P k)))) n)
unfolding any_b sum_to
any_counted zero P = refl
any_counted (suc n) P = go (P n) (any_counted n P)
  where
    c : ℕ
    c = sum_to n (λ k. one_if (not (P k)))

    most : c ≤ n
    most = omega (arith, sum-most n 1 (λ k. one_if (not (P k))) (λ k h. one-most (not (P k))))

    go : (b : Bool) → any_b n P ≡ not (eqb c n) → (any_b n P || b) ≡ not (eqb (c + one_if (not b)) (suc n))
    go true ih = or_right (any_b n P) refl ∙ sym (ap not (ne_eqb (c + 0) (suc n) (λ e. omega (arith, most))))
    go false ih = go' (ℕ_discrete c n)
      where
        go' : Dec (c ≡ n) → (any_b n P || false) ≡ not (eqb (c + 1) (suc n))
        go' (yes e) = rw (ih, eq-eqb c n e, eq-eqb (c + 1) (suc n) (omega arith))
        go' (no e) = rw (ih, ne_eqb c n e, ne_eqb (c + 1) (suc n) (λ q. e (omega arith)))
