-- Proof machinery of walks, of which no contract speaks: a `&κ mut [T]` that is lent as a `&ν [T]` for a call, and comes back as it was. It
-- says nothing of the crate.
--     LentShared           what the holder keeps while the slice is lent: the lender's part at ν, and its own borrow at κ, open, with both halves of its ghost variable
--     lends_shared         own (the `&κ mut [T]` ((b, o), γ, ys)) ∗ [κ]_q ∗ ts  ⊢ ⇛ own (the `&ν [T]` ((b, o), ys)) ∗ LentShared ∗ ts        T is shared by its law (`Shares`), with tokens ts, which come back
--     lends_shared_free    own (the `&κ mut [T]` ((b, o), γ, ys)) ∗ [κ]_q  ⊢ ⇛ own (the `&ν [T]` ((b, o), ys)) ∗ LentShared        with no token, where the elements are lent so (`Lent`), as where T is Copy
--     lends_shared_copied  the same of every T that is Copy, with no further premise
--     shared_back          [†ν] ∗ LentShared  ⊢ ⇛ (own (the `&κ mut [T]` ((b, o), γ, ys)) ∗ [κ]_q)
-- Assumes `Logic`.
use Rattle.std.specs.Prelude.{refl, ℕ, List, [], ◌∷◌, length}
use seplogic.Ra.Ura.{Ura}
use base.Fraction.{full_share}
use mir.Syntax.{Lifetime}
use mir.Val.{Val}
use base.Logic.{ent, sep}
use base.Fml.{Lft, GName, Share, Fml, Incl, fsep, flft, fdead, fobs, fauth, flent, fobor, fhide}
use ghost.Rules.{Toks, span}
use types.Logic.{Logic, sem, lfts}
use types.Kit.{‵, raw, ◌⊛◌, later, ◌$◌, ◌∵◌, !, qed, move, use1, use2, drop, split, fsplit, fjoin, feq_i, frame, await, updating, now as at_once, done}
use types.Tokens.{lent_back}
use types.Share.{arr_parts}
use Rattle.std.specs.Borrow.{RattleType, MutBor}
use denote.Ref.{Bor}
use denote.Shadow.{pure_l, pure_i}
use denote.Memory.{shares}
use denote.Shares.{Shares}
use denote.Lends.{Lent, Lent-map}
use denote.Copied.{Copied, each_lends}
use denote.Slice.{slice_val, MutSlice, ShrSlice, heres, Room, shr_slice_at, mut_slice_at, coded_holeys, elements_shared}
use denote.Lend.{Held, lends_shr_slice}
use denote.Index.{row, opens_slice, closes_slice}

module _ (R : RattleType) (κ ν : Lft) (q : Share) (γ : GName) (b o : ℕ) (ys : List R.Denot) where
  abbrev at_name : GName → MutBor (List R.Denot)
  at_name δ = record { ref_ptr = (b, o); ghost_name = δ; now = ys }

  abbrev at_place : Bor (List R.Denot)
  at_place = record { ref_ptr = (b, o); now = ys }

  abbrev vals : List Val
  vals = slice_val (b, o) (length ys) ∷ []

  abbrev lent : Fml
  lent = (arr_parts (shares R) (length ys)).part full_share ys b o

  abbrev pub LentShared : Fml
  LentShared = fsep (flent ν ((arr_parts (shares R) (length ys)).part full_share ys b o)) (fsep (fobor κ q (Held R (length ys) b o γ)) (fsep (fobs γ ((coded_holeys R).code (heres R ys))) (fauth γ ((coded_holeys R).code (heres R ys)))))

  module _ {M : Type 1} {𝓤 : Ura M} (𝓛 : Logic 𝓤) (ℓ ℓ' : Lifetime) where
    open 𝓛 use {H, A}

    pub lends_shared : (l : Lft) → Shares 𝓛 R l → (ts : Toks) → Incl (span ts) l → Incl (span ts) ν
        → ent 𝓤 (sep 𝓤 (sem 𝓛 ((MutSlice ℓ κ R).own_val (at_name γ) vals)) (sep 𝓤 (A.lft κ q) (lfts 𝓛 ts)))
        (H.⇛ (sep 𝓤 (sem 𝓛 ((ShrSlice ℓ' ν R).own_val at_place vals)) (sep 𝓤 (sem 𝓛 LentShared) (lfts 𝓛 ts))))
    lends_shared l s ts inc sp =
        qed 𝓛 (‵ ((MutSlice ℓ κ R).own_val (at_name γ) vals) ∷ ‵ (flft κ q) ∷ raw (lfts 𝓛 ts) ∷ []) ∵ updating ! $ fsplit ! $ pure_l ! (mut_slice_at R (at_name γ) vals) (λ p. fsplit ! $ opens_slice ! tt R ys b o $
        feq_i ! ℕ (length ys) (length ys) refl $ fjoin ! $
        -- [the elements; the open borrow at κ; obs γ; auth γ; the tokens]
        move ! (0 ∷ 4 ∷ []) $
        use2 𝓛 (later ((‵ ((ShrSlice ℓ' ν R).own_val at_place vals) ⊛ ‵ (flent ν lent)) ⊛ raw (lfts 𝓛 ts))) (lends_shr_slice 𝓛 R ℓ' ν full_share ys b o p.1 l s ts inc sp) $ await ! tt $ split ! $ split ! $
        -- [the new slice; the lender's part at ν; the tokens; the open borrow at κ; obs γ; auth γ]
        at_once ! $ frame ! $
        move ! (3 ∷ 4 ∷ []) $ fjoin ! $ move ! (3 ∷ 0 ∷ []) $ fjoin ! $ move ! (1 ∷ 0 ∷ []) $ fjoin ! $ done !)

    pub lends_shared_free : Lent 𝓛 (row R full_share ys b o) (elements_shared R ys b o)
        → ent 𝓤 (sep 𝓤 (sem 𝓛 ((MutSlice ℓ κ R).own_val (at_name γ) vals)) (A.lft κ q))
        (H.⇛ (sep 𝓤 (sem 𝓛 ((ShrSlice ℓ' ν R).own_val at_place vals)) (sem 𝓛 LentShared)))
    lends_shared_free a =
        qed 𝓛 (‵ ((MutSlice ℓ κ R).own_val (at_name γ) vals) ∷ ‵ (flft κ q) ∷ []) ∵ updating ! $ fsplit ! $ pure_l ! (mut_slice_at R (at_name γ) vals) (λ p. fsplit ! $ opens_slice ! tt R ys b o $
        feq_i ! ℕ (length ys) (length ys) refl $ fjoin ! $
        use1 𝓛 (later (‵ (fhide (elements_shared R ys b o ν)) ⊛ ‵ (flent ν lent)))
        (Lent-map 𝓛 lent (row R full_share ys b o) (elements_shared R ys b o)
        (qed 𝓛 (‵ lent ∷ []) {P = sem 𝓛 (row R full_share ys b o)} (fsplit ! $ drop ! $ done !))
        (qed 𝓛 (‵ (row R full_share ys b o) ∷ []) {P = sem 𝓛 lent} (feq_i ! ℕ (length ys) (length ys) refl $ done !)) a ν) $ await ! tt $ split ! $
        pure_i ! (shr_slice_at R at_place vals) (tt, (tt, tt)) (refl, p.1) $ fjoin ! $
        -- [the new slice; the lender's part at ν; the open borrow at κ; obs γ; auth γ]
        at_once ! $ frame ! $
        move ! (2 ∷ 3 ∷ []) $ fjoin ! $ move ! (2 ∷ 0 ∷ []) $ fjoin ! $ move ! (1 ∷ 0 ∷ []) $ fjoin ! $ done !)

    pub lends_shared_copied : Copied 𝓛 R
        → ent 𝓤 (sep 𝓤 (sem 𝓛 ((MutSlice ℓ κ R).own_val (at_name γ) vals)) (A.lft κ q))
        (H.⇛ (sep 𝓤 (sem 𝓛 ((ShrSlice ℓ' ν R).own_val at_place vals)) (sem 𝓛 LentShared)))
    lends_shared_copied c = lends_shared_free (each_lends 𝓛 R c full_share ys b o)

    pub shared_back : Room R (length ys) → ent 𝓤 (sep 𝓤 (A.dead ν) (sem 𝓛 LentShared)) (H.⇛ (sep 𝓤 (sem 𝓛 ((MutSlice ℓ κ R).own_val (at_name γ) vals)) (A.lft κ q)))
    shared_back room =
        qed 𝓛 (‵ (fdead ν) ∷ ‵ LentShared ∷ []) ∵ updating ! $ move ! (1 ∷ []) $ fsplit ! $ move ! (2 ∷ 0 ∷ []) $ lent_back ! tt $ fsplit ! $ drop ! $
        move ! (1 ∷ []) $ fsplit ! $ move ! (1 ∷ []) $ fsplit ! $ move ! (3 ∷ 2 ∷ 0 ∷ 1 ∷ []) $ closes_slice ! tt R ys ys refl b o $ at_once ! $
        fjoin ! $ pure_i ! (mut_slice_at R (at_name γ) vals) (tt, (tt, tt)) (refl, room) $ fjoin ! $ done !
