-- Write-backs that no fence has followed allow the same crash images (`flushes_wait`), so any first part that holds the same operations of a
-- trace does (`any_first_part`): specs/Domains.antt.
use Prim.Native.Nat.{ℕ, zero, suc, ◌+◌, ◌-◌, ◌*◌, ◌/◌, ◌≤◌, max}
use mathlib.Core.Path.{◌≡◌, refl, sym, ap, ap₂, ◌∙◌, subst}
use mathlib.Core.Bool.{Bool, true, false, cond, ◌&&◌}
use mathlib.Core.List.{[], ◌∷◌, ◌++◌, append_assoc}
use native.Mathlib.Omega.{arith}
use native.Mathlib.Decide.{dec_le}
use lib.ListN.{length, take, length-append, drop}
use lib.Seq.{take-append-le, take-length, take-nil, length-take-le}
use lib.Dec.{eqb}
use mathlib.Core.Logic.{◌↔◌}
use Rattle.model.specs.Session.{adr}
use Rattle.model.specs.Range.{cat}
use Rattle.model.specs.Words.{Image, byte_at}
use Rattle.model.specs.Layout.{line_size}
use Rattle.model.specs.Ops.{store, clwb, sfence, Ops, replay, clwbs, writes, for_domain, first_part}
use Rattle.model.specs.Crash.{Stage, CrashImage}
use Rattle.model.specs.CrashExact.{Each, has_fence, floor_from}
use Rattle.model.specs.Domains.{OnlyClwbs, FlushesWait, AnyFirstPart}
use Rattle.model.proofs.Laws.Crash.Floor.{floor_durable, durable_floor, durable_all}
use Rattle.model.proofs.Argument.Persist.{each_take, replay_clear}
use Rattle.model.proofs.Argument.Settled.{durable_front, replay_past}

-- ---- only write-backs: no store, no fence, no floor

no_store : (Q : ℕ → Type 0) (F : Ops) → OnlyClwbs F → Each Q F
no_store Q [] h = tt
no_store Q (store p w ∷ F) h = absurd h
no_store Q (clwb p ∷ F) h = no_store Q F h
no_store Q (sfence ∷ F) h = absurd h

no_fence : (W F : Ops) → OnlyClwbs F → has_fence (W ++ F) ≡ has_fence W
unfolding has_fence
no_fence [] [] h = refl
no_fence [] (store p w ∷ F) h = absurd h
no_fence [] (clwb p ∷ F) h = no_fence [] F h
no_fence [] (sfence ∷ F) h = absurd h
no_fence (store p w ∷ W) F h = no_fence W F h
no_fence (clwb p ∷ W) F h = no_fence W F h
no_fence (sfence ∷ W) F h = refl

no_floor : (n ℓ : ℕ) (F : Ops) → OnlyClwbs F → floor_from n ℓ F ≡ 0
unfolding floor_from has_fence
no_floor n ℓ [] h = refl
no_floor n ℓ (store p w ∷ F) h = absurd h
no_floor n ℓ (clwb p ∷ F) h = ap₂ max (ap (λ (b : Bool). cond b n 0) (ap (λ (b : Bool). eqb (p / line_size) ℓ && b) (no_fence [] F h) ∙ never (eqb (p / line_size) ℓ))) (no_floor (suc n) ℓ F h)
  where
    never : (b : Bool) → (b && false) ≡ false
    never true = refl
    never false = refl
no_floor n ℓ (sfence ∷ F) h = absurd h

same_floor : (n ℓ : ℕ) (W F : Ops) → OnlyClwbs F → floor_from n ℓ (W ++ F) ≡ floor_from n ℓ W
unfolding floor_from
same_floor n ℓ [] F h = no_floor n ℓ F h
same_floor n ℓ (store p w ∷ W) F h = same_floor (suc n) ℓ W F h
same_floor n ℓ (clwb p ∷ W) F h = ap₂ max (ap (λ (b : Bool). cond (eqb (p / line_size) ℓ && b) n 0) (no_fence W F h)) (same_floor (suc n) ℓ W F h)
same_floor n ℓ (sfence ∷ W) F h = same_floor (suc n) ℓ W F h

-- ---- a stage with them is one without, and the other way

module _ (I H : Image) (W F : Ops) (only : OnlyClwbs F) (ℓ : ℕ) where
  with_flushes : Stage ℓ I W H → Stage ℓ I (W ++ F) H
  with_flushes s = record {
    k = s.k;
    within = omega (arith, s.within, length-append W F);
    durable = floor_durable ℓ (W ++ F) s.k (omega (arith, same_floor 0 ℓ W F only, durable_floor ℓ W s.k s.durable));
    agree = λ i e. s.agree i e ∙ ap (λ (X : Ops). byte_at (replay X I) i) (sym (take-append-le s.k W F s.within));
  }

  without_flushes : Stage ℓ I (W ++ F) H → Stage ℓ I W H
  without_flushes s = go (dec_le s.k (length W))
    where
      go : Dec (s.k ≤ length W) → Stage ℓ I W H
      go (yes h) = record {
        k = s.k;
        within = h;
        durable = durable_front ℓ W F s.k s.durable;
        agree = λ i e. s.agree i e ∙ ap (λ (X : Ops). byte_at (replay X I) i) (take-append-le s.k W F h);
      }
      go (no h) = record {
        k = length W;
        within = omega arith;
        durable = durable_all ℓ W;
        agree = λ i e. s.agree i e
            ∙ ap (λ (J : Image). byte_at J i) (replay_past s.k W F I (omega arith))
            ∙ replay_clear (take (s.k - length W) F) (replay W I) i (each_take _ (s.k - length W) F (no_store _ F only))
            ∙ ap (λ (X : Ops). byte_at (replay X I) i) (sym (take-length W));
      }

pub flushes_wait : FlushesWait
flushes_wait I W F only H = (
  λ c. record { long = c.long; lines = λ ℓ. without_flushes I H W F only ℓ (c.lines ℓ) },
  λ c. record { long = c.long; lines = λ ℓ. with_flushes I H W F only ℓ (c.lines ℓ) },
)

-- ---- any first part of which the trace has the same operations

-- operations of which the trace has none are write-backs
none_written : (d : ℕ) (F : Ops) → for_domain d F ≡ [] → OnlyClwbs F
unfolding for_domain
none_written d [] e = tt
none_written d (store p w ∷ F) e = absurd (omega (arith, ap length e))
none_written d (clwb p ∷ F) e = go (for_domain d F) (eqb d adr) e (none_written d F)
  where
    go : (X : Ops) (b : Bool) → cond b (clwb p ∷ X) X ≡ [] → (X ≡ [] → OnlyClwbs F) → OnlyClwbs F
    go X true h f = absurd (omega (arith, ap length h))
    go X false h f = f h
none_written d (sfence ∷ F) e = absurd (omega (arith, ap length e))

-- such a part is the shortest one and write-backs
part_then : (d p n : ℕ) (O : Ops) → p ≤ length (for_domain d O) → for_domain d (take n O) ≡ take p (for_domain d O)
    → (F : Ops) × OnlyClwbs F × (take n O ≡ first_part d p O ++ F)
unfolding for_domain first_part
part_then d zero n [] h e = ([], tt, take-nil n)
part_then d (suc p) n [] h e = ([], tt, take-nil n)
part_then d zero n (o ∷ O) h e = (take n (o ∷ O), none_written d (take n (o ∷ O)) e, refl)
part_then d (suc p) zero (o ∷ O) h e = absurd (omega (arith, ap length e, length-take-le (suc p) (for_domain d (o ∷ O)) h))
part_then d (suc p) (suc n) (o ∷ O) h e =
    let r = part_then d (cond (writes d o) p (suc p)) n O (less (for_domain d O) (writes d o) h) (tail (for_domain d (take n O)) (for_domain d O) (writes d o) e) in
    (r.0, r.1, ap (λ (X : Ops). o ∷ X) r.2)
  where
    less : (X : Ops) (b : Bool) → suc p ≤ length (cond b (o ∷ X) X) → cond b p (suc p) ≤ length X
    less X true k = omega arith
    less X false k = k

    tail : (X Y : Ops) (b : Bool) → cond b (o ∷ X) X ≡ take (suc p) (cond b (o ∷ Y) Y) → X ≡ take (cond b p (suc p)) Y
    tail X Y true k = ap (drop 1) k
    tail X Y false k = k

pub any_first_part : AnyFirstPart
any_first_part d p n O h e I W H =
    let r = part_then d p n O h e in
    subst (λ (X : Ops). CrashImage I X H ↔ CrashImage I (W ++ first_part d p O) H) (append_assoc W (first_part d p O) r.0 ∙ ap (λ (X : Ops). W ++ X) (sym r.2))
    (flushes_wait I (W ++ first_part d p O) r.0 r.1 H)

-- ---- lines written back, upward, are such
only_append : (E F : Ops) → OnlyClwbs E → OnlyClwbs F → OnlyClwbs (E ++ F)
only_append [] F h k = k
only_append (store p w ∷ E) F h k = absurd h
only_append (clwb p ∷ E) F h k = only_append E F h k
only_append (sfence ∷ E) F h k = absurd h

pub only_clwbs : (n a : ℕ) → OnlyClwbs (clwbs n a)
unfolding clwbs cat
only_clwbs zero a = tt
only_clwbs (suc n) a = only_append (clwbs n a) (clwb (a + line_size * n) ∷ []) (only_clwbs n a) tt
