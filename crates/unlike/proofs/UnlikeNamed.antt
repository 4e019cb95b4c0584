-- Two images that are not refused are unlike exactly if some main segment is by specs/SameText.antt.
use Prim.Native.Nat.{ℕ, ◌≤◌, ◌<◌}
use mathlib.Core.Path.{◌≡◌, refl, sym, ap, ◌∙◌}
use mathlib.Core.Bool.{Bool, true, false, beq, true≢false}
use mathlib.Core.List.{List}
use native.Mathlib.Omega.{arith}
use native.Mathlib.Decide.{ℕ_discrete}
use lib.Dec.{ltb, eqb}
use lib.ListN.{length, get_or}
use lib.Seq.{ext_get_or}
use borrow.Author.Tests.{eqb-true, eq-eqb, not-false, ltb-true, le-ltb}
use Rattle.model.specs.declared.Layout.{Layout}
use Rattle.model.specs.Range.{any_b, first_b}
use Rattle.model.specs.Words.{Image}
use Rattle.model.specs.Container.{container_errors}
use Rattle.model.specs.Reads.{checkpoint_part, checkpoint_block}
use Rattle.model.specs.Same.{same_bytes, same_outcome}
use Rattle.model.specs.SameCheckpoint.{Same, Accepted}
use Rattle.model.proofs.Laws.Range.{any_first, any_none, or_none, all_at, all_from, first_none}
use Rattle.model.proofs.Laws.Status.{served_parts}
use Rattle.model.proofs.Laws.Container.{ContainerOk, container_ok}
use Rattle.model.proofs.SameCheckpoint.{same_reads}
use Rattle.inspect.proofs.PartLaws.{blocks_long, size_whole}
use Rattle.unlike.specs.SameText.{block_unlike, initial_unlike, main_unlike, first_main}
use Rattle.unlike.specs.UnlikeNamed.{UnlikeNamed}

beq_same : (x y : Bool) → beq x y ≡ true → x ≡ y
beq_same true true e = refl
beq_same false false e = refl
beq_same true false e = absurd (true≢false (sym e))
beq_same false true e = absurd (true≢false (sym e))

same_beq : (x : Bool) → beq x x ≡ true
same_beq true = refl
same_beq false = refl

-- no number below n passes
none_passes : (n : ℕ) (P : ℕ → Bool) → ((k : ℕ) → k < n → P k ≡ false) → any_b n P ≡ false
none_passes n P h = any_first n P ∙ ap (λ (m : ℕ). ltb m n) (first_none n P h) ∙ le-ltb n n (omega arith)

-- lists of one length whose first n elements agree
whole : (n : ℕ) (x y : List ℕ) → length x ≡ length y → length x ≤ n → same_bytes n x y ≡ true → x ≡ y
unfolding same_bytes
whole n x y e h s = ext_get_or 0 x y e (λ k l. eqb-true _ _ (all_at n _ s k (omega arith)))

module _ (l : Layout) (I J : Image) (a : ContainerOk l I) (b : ContainerOk l J) where
  -- no main segment is unlike: every block is read alike
  module _ (none : any_b l.mains (main_unlike l I J) ≡ false) where
    alike : (i : ℕ) → i < l.mains → (initial_unlike l I J i ≡ false) × (any_b l.blocks (block_unlike l I J i) ≡ false)
    unfolding main_unlike
    alike i h = or_none _ _ (any_none l.mains (main_unlike l I J) none i h)

    sized : (i : ℕ) → i < l.mains → (checkpoint_part l I i 0).size ≡ (checkpoint_part l J i 0).size
    unfolding initial_unlike
    sized i h =
        let e = beq_same (eqb (checkpoint_part l I i 0).size 0) (eqb (checkpoint_part l J i 0).size 0) (not-false _ (alike i h).0) in
        go e (ℕ_discrete (checkpoint_part l I i 0).size 0) (ℕ_discrete (checkpoint_part l J i 0).size 0)
      where
        go : eqb (checkpoint_part l I i 0).size 0 ≡ eqb (checkpoint_part l J i 0).size 0
            → Dec ((checkpoint_part l I i 0).size ≡ 0) → Dec ((checkpoint_part l J i 0).size ≡ 0) → (checkpoint_part l I i 0).size ≡ (checkpoint_part l J i 0).size
        go e (yes x) (yes y) = x ∙ sym y
        go e (no x) (no y) = size_whole l I a i h x ∙ sym (size_whole l J b i h y)
        go e (yes x) (no y) = absurd (y (eqb-true _ 0 (sym e ∙ eq-eqb _ 0 x)))
        go e (no x) (yes y) = absurd (x (eqb-true _ 0 (e ∙ eq-eqb _ 0 y)))

    read_alike : (i n : ℕ) → i < l.mains → n < l.blocks → checkpoint_block l I i n ≡ checkpoint_block l J i n
    unfolding block_unlike
    read_alike i n hi hn =
        let e = blocks_long l I a i hi n hn ∙ sized i hi ∙ sym (blocks_long l J b i hi n hn) in
        let s = not-false _ (any_none l.blocks (block_unlike l I J i) (alike i hi).1 n hn) in
        whole 256 _ _ e (omega (arith, blocks_long l I a i hi n hn, most i hi)) s
      where
        most : (i : ℕ) → (hi : i < l.mains) → (checkpoint_part l I i 0).size ≤ 256
        most i hi = small (ℕ_discrete (checkpoint_part l I i 0).size 0)
          where
            small : Dec ((checkpoint_part l I i 0).size ≡ 0) → (checkpoint_part l I i 0).size ≤ 256
            small (yes z) = omega (arith, z)
            small (no z) = omega (arith, size_whole l I a i hi z)

  -- every block is read alike: no main segment is unlike
  module _ (same : (i n : ℕ) → i < l.mains → n < l.blocks → checkpoint_block l I i n ≡ checkpoint_block l J i n) where
    block_alike : (i n : ℕ) → i < l.mains → n < l.blocks → block_unlike l I J i n ≡ false
    unfolding block_unlike same_bytes
    block_alike i n hi hn = rw (same i n hi hn, all_from 256 (λ k. eqb (get_or (checkpoint_block l J i n) k 0) (get_or (checkpoint_block l J i n) k 0)) (λ k h. eq-eqb (get_or (checkpoint_block l J i n) k 0) (get_or (checkpoint_block l J i n) k 0) refl))

    initial_alike : (i : ℕ) → i < l.mains → initial_unlike l I J i ≡ false
    unfolding initial_unlike
    initial_alike i hi =
        let first : 0 < l.blocks = omega (arith, a.sizes.2) in
        let e : (checkpoint_part l I i 0).size ≡ (checkpoint_part l J i 0).size = sym (blocks_long l I a i hi 0 first) ∙ ap length (same i 0 hi first) ∙ blocks_long l J b i hi 0 first in
        rw (e, same_beq (eqb (checkpoint_part l J i 0).size 0))

    main_alike : (i : ℕ) → i < l.mains → main_unlike l I J i ≡ false
    unfolding main_unlike
    main_alike i hi = rw (initial_alike i hi, none_passes l.blocks (block_unlike l I J i) (λ n hn. block_alike i n hi hn))

pub unlike_named : UnlikeNamed
unfolding first_main same_outcome
unlike_named l I J z = (
  λ f. go f (any_b l.mains (main_unlike l I J)) refl,
  λ h. different h (same_outcome l I J).same refl,
)
  where
    accepted : Accepted l I × Accepted l J
    accepted = served_parts (container_errors l I) (container_errors l J) (omega arith) z

    go : (same_outcome l I J).same ≡ false → (t : Bool) → any_b l.mains (main_unlike l I J) ≡ t → first_b l.mains (main_unlike l I J) < l.mains
    go f true e = ltb-true _ _ (sym (any_first l.mains (main_unlike l I J)) ∙ e)
    go f false e =
        let t : Same l I J = (same_reads l I J).1 (accepted.0, accepted.1, read_alike l I J (container_ok l I accepted.0) (container_ok l J accepted.1) e) in
        absurd (true≢false (sym t ∙ f))

    different : first_b l.mains (main_unlike l I J) < l.mains → (t : Bool) → (same_outcome l I J).same ≡ t → (same_outcome l I J).same ≡ false
    different h false e = e
    different h true e =
        let f = first_none l.mains (main_unlike l I J) (main_alike l I J (container_ok l I accepted.0) (container_ok l J accepted.1) ((same_reads l I J).0 e).2) in
        absurd (omega (arith, f))
