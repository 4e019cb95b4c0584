-- Laws of traces: the operations that a call writes are read back as they were, and replay serves the reported part of a
-- trace whose operations are well formed.
use Prim.Native.Nat.{ℕ, zero, suc, ◌+◌, ◌*◌, ◌%◌, ◌≤◌, ◌<◌, min, ◌/◌}
use mathlib.Core.Path.{◌≡◌, refl, sym, ap, ◌∙◌}
use mathlib.Core.Bool.{Bool, true, false, cond}
use mathlib.Core.List.{[], ◌∷◌, ◌++◌}
use native.Mathlib.Omega.{arith}
use native.Mathlib.Decide.{dec_le}
use lib.ListN.{length, take, drop, get_or}
use lib.Seq.{take_at, take-nil, take_all, take-length}
use borrow.Author.Tests.{lt-ltb, eq-eqb}
use Rattle.model.specs.Range.{cat}
use Rattle.model.specs.Words.{Image}
use Rattle.model.specs.Layout.{word_size, line_size}
use Rattle.model.specs.Status.{first_error}
use Rattle.model.specs.Ops.{Op, store, clwb, sfence, Ops, Trace, triple, encode, op_of, decode, written, replay}
use Rattle.model.specs.Replay.{well_formed, all_well_formed, replay_count, replayed_ops, replay_status, replay_outcome}
use Rattle.model.specs.History.{reported, played_ops, replayed_image}
use Rattle.model.proofs.Laws.Range.{all_from}

-- ---- operations as numbers

pub decode-encode : (O : Ops) → decode (encode O) ≡ O
unfolding encode decode op_of
decode-encode [] = refl
decode-encode (store p w ∷ O) = ap (λ (X : Ops). store p w ∷ X) (decode-encode O)
decode-encode (clwb p ∷ O) = ap (λ (X : Ops). clwb p ∷ X) (decode-encode O)
decode-encode (sfence ∷ O) = ap (λ (X : Ops). sfence ∷ X) (decode-encode O)

pub length-encode : (O : Ops) → length (encode O) ≡ 3 * length O
unfolding encode
length-encode [] = refl
length-encode (store p w ∷ O) = omega (arith, length-encode O)
length-encode (clwb p ∷ O) = omega (arith, length-encode O)
length-encode (sfence ∷ O) = omega (arith, length-encode O)

triple_append : (o : Op) (t u : Trace) → triple o (t ++ u) ≡ triple o t ++ u
triple_append (store p w) t u = refl
triple_append (clwb p) t u = refl
triple_append sfence t u = refl

pub encode_append : (O E : Ops) → encode (O ++ E) ≡ encode O ++ encode E
unfolding encode
encode_append [] E = refl
encode_append (o ∷ O) E = ap (triple o) (encode_append O E) ∙ triple_append o (encode O) (encode E)

take-triple : (o : Op) (t : Trace) (k : ℕ) → take (3 * suc k) (triple o t) ≡ triple o (take (3 * k) t)
take-triple o t k = let e : 3 * suc k ≡ suc (suc (suc (3 * k))) = omega arith in rw e (go o)
  where
    go : (o : Op) → take (suc (suc (suc (3 * k)))) (triple o t) ≡ triple o (take (3 * k) t)
    go (store p w) = refl
    go (clwb p) = refl
    go sfence = refl

-- the numbers of the first k operations
pub take-encode : (k : ℕ) (O : Ops) → take (3 * k) (encode O) ≡ encode (take k O)
unfolding encode
take-encode zero O = refl
take-encode (suc k) [] = take-nil (3 * suc k)
take-encode (suc k) (o ∷ O) = take-triple o (encode O) k ∙ ap (triple o) (take-encode k O)

-- the reported part of the trace, whatever stood on the trace before
pub reported_is : (O : Ops) (t : Trace) → reported O t ≡ encode O
unfolding reported written
reported_is O t = take_at (encode O) (drop (3 * length O) t) (3 * length O) (length-encode O)

-- ---- what holds of every operation

abbrev pub All : (Op → Type 0) → Ops → Type 0
All Q [] = Unit {0}
All Q (o ∷ O) = Q o × All Q O

module _ (Q : Op → Type 0) where
  pub all_append : (O E : Ops) → All Q O → All Q E → All Q (O ++ E)
  all_append [] E h k = k
  all_append (o ∷ O) E h k = (h.0, all_append O E h.1 k)

  pub all_take : (n : ℕ) (O : Ops) → All Q O → All Q (take n O)
  all_take zero O h = tt
  all_take (suc n) [] h = tt
  all_take (suc n) (o ∷ O) h = (h.0, all_take n O h.1)

  pub all_cat : (n : ℕ) (f : ℕ → Ops) → ((i : ℕ) → i < n → All Q (f i)) → All Q (cat n f)
  unfolding cat
  all_cat zero f h = tt
  all_cat (suc n) f h = all_append (cat n f) (f n) (all_cat n f (λ i b. h i (omega arith))) (h n (omega arith))

  -- operations that are there only if a test holds
  pub all_when : (b : Bool) (O : Ops) → (b ≡ true → All Q O) → All Q (cond b O [])
  all_when true O h = h refl
  all_when false O h = tt

  -- an operation in the midst
  pub all_amid : (A : Ops) (o : Op) (D : Ops) → All Q (A ++ o ∷ D) → Q o
  all_amid [] o D h = h.0
  all_amid (a ∷ A) o D h = all_amid A o D h.1

-- ---- well-formed operations

-- an operation is one on an image of so many lines
abbrev pub OpOk : ℕ → Op → Type 0
OpOk lines (store p w) = (p % word_size ≡ 0) × (p / line_size < lines)
OpOk lines (clwb p) = (p % line_size ≡ 0) × (p / line_size < lines)
OpOk lines sfence = 0 < lines

-- all of them are
abbrev pub AllOk : ℕ → Ops → Type 0
AllOk lines O = All (OpOk lines) O

pub all_ok_append : (lines : ℕ) (O E : Ops) → AllOk lines O → AllOk lines E → AllOk lines (O ++ E)
all_ok_append lines = all_append (OpOk lines)

-- operation i of a trace is well formed
abbrev WellFormedAt : ℕ → Trace → ℕ → Type 0
WellFormedAt lines t i = well_formed lines (get_or t (3 * i) 0) (get_or t (3 * i + 1) 0) (get_or t (3 * i + 2) 0) ≡ true

well_formed_first : (lines : ℕ) (o : Op) (t : Trace) → OpOk lines o → WellFormedAt lines (triple o t) 0
unfolding well_formed
well_formed_first lines (store p w) t h = rw (lt-ltb (p / line_size) lines h.1, eq-eqb (p % word_size) 0 h.0)
well_formed_first lines (clwb p) t h = rw (lt-ltb (p / line_size) lines h.1, eq-eqb (p % line_size) 0 h.0)
well_formed_first lines sfence t h = rw (lt-ltb 0 lines h)

well_formed_next : (lines : ℕ) (o : Op) (t : Trace) (i : ℕ) → WellFormedAt lines t i → WellFormedAt lines (triple o t) (suc i)
well_formed_next lines o t i h =
    let a : 3 * suc i ≡ suc (suc (suc (3 * i))) = omega arith in
    let b : 3 * suc i + 1 ≡ suc (suc (suc (3 * i + 1))) = omega arith in
    let c : 3 * suc i + 2 ≡ suc (suc (suc (3 * i + 2))) = omega arith in
    rw (b, c, a, go o (3 * i), go o (3 * i + 1), go o (3 * i + 2)) h
  where
    go : (o : Op) (k : ℕ) → get_or (triple o t) (suc (suc (suc k))) 0 ≡ get_or t k 0
    go (store p w) k = refl
    go (clwb p) k = refl
    go sfence k = refl

well_formed_at_lem : (lines : ℕ) (O : Ops) → AllOk lines O → (i : ℕ) → i < length O → WellFormedAt lines (encode O) i
unfolding encode
well_formed_at_lem lines [] h i l = let z : ⊥ = omega arith in absurd z
well_formed_at_lem lines (o ∷ O) h zero l = well_formed_first lines o (encode O) h.0
well_formed_at_lem lines (o ∷ O) h (suc i) l = well_formed_next lines o (encode O) i (well_formed_at_lem lines O h.1 i (omega arith))

pub encoded_well_formed : (lines : ℕ) (O : Ops) → AllOk lines O → (k : ℕ) → k ≤ length O → all_well_formed lines (encode O) k ≡ true
unfolding all_well_formed
encoded_well_formed lines O h k l = all_from k _ (λ i b. well_formed_at_lem lines O h i (omega arith))

-- ---- replay of the reported part

replay_count_lem : (O : Ops) (p : ℕ) → replay_count (encode O) p ≡ min p (length O)
unfolding replay_count
replay_count_lem O p = omega (arith, length-encode O)

take_min : (p : ℕ) (O : Ops) → take (min p (length O)) O ≡ take p O
take_min p O = go (dec_le p (length O))
  where
    go : Dec (p ≤ length O) → take (min p (length O)) O ≡ take p O
    go (yes l) = let e : min p (length O) ≡ p = omega arith in rw e
    go (no l) = let e : min p (length O) ≡ length O = omega arith in rw e (take-length O ∙ sym (take_all p O (omega arith)))

-- the first p operations, read from the trace
replayed_ops_lem : (O : Ops) (p : ℕ) → replayed_ops (encode O) (min p (length O)) ≡ take p O
unfolding replayed_ops
replayed_ops_lem O p = ap decode (take-encode (min p (length O)) O) ∙ decode-encode (take (min p (length O)) O) ∙ take_min p O

module _ (I : Image) (O : Ops) (t : Trace) (p : ℕ) (whole : length I % line_size ≡ 0) (ok : AllOk (length I / line_size) O) where
  encoded_served : replay_status I (encode O) p ≡ 0
  unfolding replay_status first_error
  encoded_served =
      let e : length (encode O) % 3 ≡ 0 = omega (arith, length-encode O) in
      rw (
        eq-eqb (length I % line_size) 0 whole,
        eq-eqb (length (encode O) % 3) 0 e,
        encoded_well_formed (length I / line_size) O ok (replay_count (encode O) p) (omega (arith, replay_count_lem O p)),
      )

  pub replay_serves : (replay_outcome I (reported O t) p).status ≡ 0
  unfolding replay_outcome
  replay_serves = rw (reported_is O t) encoded_served

  pub replay_plays : (replay_outcome I (reported O t) p).played ≡ min p (length O)
  unfolding replay_outcome
  replay_plays = rw (reported_is O t, encoded_served) (replay_count_lem O p)

  pub played_ops_lem : played_ops I O t p ≡ take p O
  unfolding played_ops
  played_ops_lem = rw (replay_plays, reported_is O t) (replayed_ops_lem O p)

  pub replayed_image_lem : replayed_image I O t p ≡ replay (take p O) I
  unfolding replayed_image replay_outcome
  replayed_image_lem = rw (reported_is O t, encoded_served, replay_count_lem O p, replayed_ops_lem O p)
