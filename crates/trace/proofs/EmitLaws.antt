-- Laws of operations written on a trace for a kind of module: nothing, one run after another, a run for each number, a run if a test
-- holds, and what a whole call leaves.
use Prim.Native.Nat.{ℕ, zero, suc, ◌+◌, ◌*◌, ◌≤◌, ◌<◌}
use mathlib.Core.Path.{◌≡◌, refl, sym, ap, ap₂, ◌∙◌}
use mathlib.Core.Bool.{Bool, true, false, cond, false≢true}
use mathlib.Core.List.{List, [], ◌∷◌, ◌++◌}
use native.Mathlib.Omega.{arith}
use native.Mathlib.Decide.{dec_lt}
use native.Mathlib.Nat.{zero-add}
use native.Mathlib.Numerals.{add-one}
use lib.ListN.{length, set, drop, length-append}
use lib.Seq.{sets, sets-eq, length-sets}
use Rattle.model.specs.Range.{cat}
use Rattle.model.specs.Ops.{Ops, Trace, encode, written, for_domain}
use Rattle.model.proofs.Laws.Ops.{length-encode, encode_append}
use Rattle.model.proofs.Laws.Domain.{domain_append, domain_cat}
use Rattle.model.proofs.Laws.Counts.{count_append}
use Rattle.trace.specs.declared.Writer.{Writer}
use Rattle.trace.specs.Emit.{emit, Fits, Emitted}

-- ---- the trace alone

emit_nil : (t : Trace) (n : ℕ) → emit t n [] ≡ t
unfolding emit encode
emit_nil t n = refl

sets_append : (vs ws l : List ℕ) (i : ℕ) → sets l i (vs ++ ws) ≡ sets (sets l i vs) (i + length vs) ws
sets_append [] ws l i = ap (λ (k : ℕ). sets l k ws) (omega arith)
sets_append (v ∷ vs) ws l i = sets_append vs ws (set l i v) (suc i) ∙ ap (λ (k : ℕ). sets (sets (set l i v) (suc i) vs) k ws) (omega arith)

emit_append : (t : Trace) (n : ℕ) (O E : Ops) → emit t n (O ++ E) ≡ emit (emit t n O) (n + length O) E
unfolding emit
emit_append t n O E =
    ap (sets t (3 * n)) (encode_append O E) ∙ sets_append (encode O) (encode E) t (3 * n)
    ∙ ap (λ (k : ℕ). sets (sets t (3 * n) (encode O)) k (encode E)) (omega (arith, length-encode O))

length-emit : (t : Trace) (n : ℕ) (O : Ops) → length (emit t n O) ≡ length t
unfolding emit
length-emit t n O = length-sets t (3 * n) (encode O)

-- what a whole call leaves
pub emit_whole : (t : Trace) (O : Ops) → 3 * length O ≤ length t → emit t 0 O ≡ written O t
unfolding emit written
emit_whole t O h =
    sets-eq (encode O) t 0 (omega (arith, length-encode O)) ∙ ap (λ (k : ℕ). encode O ++ drop k t) (zero-add (length (encode O)) ∙ length-encode O)

-- ---- one run: the trace keeps its length; the same operations in another form

pub fits_as : {w : Writer} {O E : Ops} → O ≡ E → Fits w O → Fits w E
fits_as {w} p h = record { room = omega (arith, ap (λ (X : Ops). length (for_domain w.domain X)) p) }

module _ {w w₁ : Writer} {O : Ops} (e : Emitted w O w₁) where
  pub emitted_length : length w₁.trace.now ≡ length w.trace.now
  emitted_length = ap length e.stands ∙ length-emit w.trace.now w.next (for_domain w.domain O)

  pub emitted_as : {E : Ops} → O ≡ E → Emitted w E w₁
  emitted_as p =
      record {
        same = e.same;
        kind = e.kind;
        stands = e.stands ∙ ap (λ (X : Ops). emit w.trace.now w.next (for_domain w.domain X)) p;
        next = e.next ∙ ap (λ (X : Ops). w.next + length (for_domain w.domain X)) p;
      }

-- ---- no run

pub emitted_nil : {w : Writer} → Emitted w [] w
unfolding for_domain
emitted_nil {w} = record { same = refl; kind = refl; stands = sym (emit_nil w.trace.now w.next); next = omega arith }

-- ---- one run after another

pub fits_first : {w : Writer} {A : Ops} (B : Ops) → Fits w (A ++ B) → Fits w A
fits_first {w} {A} B h = record { room = omega (arith, count_append w.domain A B) }

pub fits_then : {w w₁ : Writer} {A B : Ops} → Fits w (A ++ B) → Emitted w A w₁ → Fits w₁ B
fits_then {w} {A = A} {B} h e = record { room = rw e.kind (omega (arith, count_append w.domain A B, emitted_length e)) }

pub emitted_then : {w w₁ w₂ : Writer} {A B : Ops} → Emitted w A w₁ → Emitted w₁ B w₂ → Emitted w (A ++ B) w₂
emitted_then {w} {w₁} {w₂} {A} {B} x y =
    let d : ℕ = w.domain in
    let k : length (for_domain w₁.domain B) ≡ length (for_domain d B) = ap (λ (e : ℕ). length (for_domain e B)) x.kind in
    record {
      same = y.same ∙ x.same;
      kind = y.kind ∙ x.kind;
      stands =
          y.stands ∙ ap (λ (e : ℕ). emit w₁.trace.now w₁.next (for_domain e B)) x.kind
          ∙ ap₂ (λ (u : Trace) (m : ℕ). emit u m (for_domain d B)) x.stands x.next
          ∙ sym (emit_append w.trace.now w.next (for_domain d A) (for_domain d B)) ∙ ap (emit w.trace.now w.next) (sym (domain_append d A B));
      next = omega (arith, k, count_append d A B);
    }

-- ---- a run for each number: f 0, f 1, ..

pub emitted_none : {w : Writer} (f : ℕ → Ops) → Emitted w (cat 0 f) w
unfolding cat
emitted_none f = emitted_nil

length_upto : (i k : ℕ) (f : ℕ → Ops) → i < k → length (cat i f) + length (f i) ≤ length (cat k f)
unfolding cat
length_upto i zero f h = omega arith
length_upto i (suc k) f h =
    elim (dec_lt i k) [
      | yes l ↦ omega (arith, length-append (cat k f) (f k), length_upto i k f l)
      | no l ↦ (let e : i ≡ k = omega arith in rw e (omega (arith, length-append (cat k f) (f k))))
    ]

-- after i of k turns there is room for the next one
pub fits_each : {w w₁ : Writer} (i k : ℕ) (f : ℕ → Ops) → i < k → Fits w (cat k f) → Emitted w (cat i f) w₁ → Fits w₁ (f i)
fits_each {w} i k f l h e =
    let d : ℕ = w.domain in
    record {
      room = rw e.kind (omega (arith, length_upto i k (λ j. for_domain d (f j)) l, ap length (domain_cat d i f), ap length (domain_cat d k f), emitted_length e));
    }

-- and with it written, i + 1 turns are
pub emitted_each : {w w₁ w₂ : Writer} (i : ℕ) (f : ℕ → Ops) → Emitted w (cat i f) w₁ → Emitted w₁ (f i) w₂ → Emitted w (cat (i + 1) f) w₂
unfolding cat
emitted_each i f x y = rw add-one (emitted_then x y)

-- ---- a run if a test holds

pub fits_if : {w : Writer} {O : Ops} (b : Bool) → b ≡ true → Fits w (cond b O []) → Fits w O
fits_if true p h = h
fits_if false p h = absurd (false≢true p)

-- it holds
pub emitted_if : {w w₁ : Writer} {O : Ops} (b : Bool) → b ≡ true → Emitted w O w₁ → Emitted w (cond b O []) w₁
emitted_if b p e = rw p e

-- it does not: nothing is written
pub emitted_unless : {w : Writer} (b : Bool) (O : Ops) → b ≡ false → Emitted w (cond b O []) w
emitted_unless b O p = rw p emitted_nil
