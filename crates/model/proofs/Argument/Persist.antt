-- Laws of persist operations: which bytes they leave alone, and that a byte depends on itself only.
use Prim.Native.Nat.{ℕ, zero, suc, ◌+◌, ◌≤◌, ◌<◌}
use mathlib.Core.Path.{◌≡◌, refl, sym, ◌∙◌}
use mathlib.Core.List.{[], ◌∷◌, ◌++◌}
use native.Mathlib.Omega.{arith}
use lib.ListN.{length, take}
use lib.Seq.{length-sets}
use Rattle.model.specs.Words.{Image, byte_at, Bytes, store_word, bytes_of}
use Rattle.model.specs.Ops.{Op, store, clwb, sfence, Ops, apply, replay}
use Rattle.model.specs.CrashExact.{Each}
use Rattle.model.proofs.Laws.Words.{length-bytes_of, bytes_of_small, sets_other, sets_cong, sets_small}

pub each_append : (Q : ℕ → Type 0) (O E : Ops) → Each Q O → Each Q E → Each Q (O ++ E)
each_append Q [] E h k = k
each_append Q (store p w ∷ O) E h k = (h.0, each_append Q O E h.1 k)
each_append Q (clwb p ∷ O) E h k = each_append Q O E h k
each_append Q (sfence ∷ O) E h k = each_append Q O E h k

pub each_mono : (Q R : ℕ → Type 0) → ((p : ℕ) → Q p → R p) → (O : Ops) → Each Q O → Each R O
each_mono Q R f [] h = tt
each_mono Q R f (store p w ∷ O) h = (f p h.0, each_mono Q R f O h.1)
each_mono Q R f (clwb p ∷ O) h = each_mono Q R f O h
each_mono Q R f (sfence ∷ O) h = each_mono Q R f O h

pub each_take : (Q : ℕ → Type 0) (k : ℕ) (O : Ops) → Each Q O → Each Q (take k O)
each_take Q zero O h = tt
each_take Q (suc k) [] h = tt
each_take Q (suc k) (store p w ∷ O) h = (h.0, each_take Q k O h.1)
each_take Q (suc k) (clwb p ∷ O) h = each_take Q k O h
each_take Q (suc k) (sfence ∷ O) h = each_take Q k O h

-- byte i is not stored to
abbrev pub Misses : ℕ → ℕ → Type 0
Misses i p = p ≤ i → i < p + 8 → ⊥

abbrev pub Clear : ℕ → Ops → Type 0
Clear i O = Each (Misses i) O

pub length-apply : (o : Op) (I : Image) → length (apply o I) ≡ length I
unfolding apply store_word
length-apply (store p w) I = length-sets I p (bytes_of 8 w)
length-apply (clwb p) I = refl
length-apply sfence I = refl

pub length-replay : (O : Ops) (I : Image) → length (replay O I) ≡ length I
unfolding replay
length-replay [] I = refl
length-replay (o ∷ O) I = length-replay O (apply o I) ∙ length-apply o I

apply_clear : (o : Op) (I : Image) (i : ℕ) → Clear i (o ∷ []) → byte_at (apply o I) i ≡ byte_at I i
unfolding apply store_word
apply_clear (store p w) I i h = sets_other (bytes_of 8 w) I p i (λ a b. h.0 a (omega (arith, length-bytes_of 8 w)))
apply_clear (clwb p) I i h = refl
apply_clear sfence I i h = refl

pub replay_clear : (O : Ops) (I : Image) (i : ℕ) → Clear i O → byte_at (replay O I) i ≡ byte_at I i
unfolding replay
replay_clear [] I i h = refl
replay_clear (store p w ∷ O) I i h = replay_clear O (apply (store p w) I) i h.1 ∙ apply_clear (store p w) I i (h.0, tt)
replay_clear (clwb p ∷ O) I i h = replay_clear O (apply (clwb p) I) i h ∙ apply_clear (clwb p) I i tt
replay_clear (sfence ∷ O) I i h = replay_clear O (apply sfence I) i h ∙ apply_clear sfence I i tt

pub replay_append : (O E : Ops) (I : Image) → replay (O ++ E) I ≡ replay E (replay O I)
unfolding replay
replay_append [] E I = refl
replay_append (o ∷ O) E I = replay_append O E (apply o I)

pub apply_cong : (o : Op) (I J : Image) (i : ℕ) → length I ≡ length J → byte_at I i ≡ byte_at J i → byte_at (apply o I) i ≡ byte_at (apply o J) i
unfolding apply store_word
apply_cong (store p w) I J i n e = sets_cong (bytes_of 8 w) I J p i n e
apply_cong (clwb p) I J i n e = e
apply_cong sfence I J i n e = e

-- a byte after operations depends on that byte before them only
pub replay_cong : (O : Ops) (I J : Image) (i : ℕ) → length I ≡ length J → byte_at I i ≡ byte_at J i → byte_at (replay O I) i ≡ byte_at (replay O J) i
unfolding replay
replay_cong [] I J i n e = e
replay_cong (o ∷ O) I J i n e =
    replay_cong O (apply o I) (apply o J) i (length-apply o I ∙ n ∙ sym (length-apply o J)) (apply_cong o I J i n e)

-- bytes stay bytes
pub replay_small : (O : Ops) (I : Image) → Bytes I → Bytes (replay O I)
unfolding replay apply store_word
replay_small [] I h = h
replay_small (store p w ∷ O) I h = replay_small O (store_word I p w) (sets_small (bytes_of 8 w) I p (bytes_of_small 8 w) h)
replay_small (clwb p ∷ O) I h = replay_small O I h
replay_small (sfence ∷ O) I h = replay_small O I h
