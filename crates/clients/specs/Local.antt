-- Proof machinery of walks, of which no contract speaks: a local array that is taken apart and put together again, or lent whole as a
-- `&ν mut [T]` for a call and had back. It says nothing of the crate.
--     apart            the array's cell, and what it owns  ⊢  the row of its elements
--     together         the row of n elements  ⊢  the array's cell, and what it owns
--     lends_array      the array's cell, and what it owns  ⊢ ⇛ ∃ γ. own (the `&ν mut [T]` ((l, 0), γ, xs)) ∗ the lender's part
--     array_back       [†ν] ∗ the lender's part ∗ finally γ zs  ⊢ ⇛ the array's cell at zs ∗ what zs own
-- Assumes `Logic`.
use Rattle.std.specs.Prelude.{◌≡◌, length}
use Rattle.std.proofs.Math.Path.{refl}
use Prim.Native.Nat.{ℕ}
use mathlib.Core.List.{List, [], ◌∷◌}
use seplogic.Ra.Ura.{Ura}
use base.Fraction.{full_share}
use mir.Syntax.{Lifetime, Ty, ty_array}
use mir.Val.{Val}
use base.Logic.{ent, sep, ex}
use base.Fml.{Lft, GName, fsep, fat, fdead, flent}
use types.Logic.{Logic, sem}
use types.Kit.{‵, ◌⊛◌, some, later, ◌$◌, ◌∵◌, !, qed, move, use1, use2, use3, drop, split, pick, rewrite, fsplit, fjoin, fpick, fpack, feq_l, feq_i, await, updating, now as at_once, show, done}
use types.SemTy.{cells, Arr}
use types.Share.{arr_parts}
use Rattle.std.specs.Borrow.{RattleType, MutBor, Array}
use denote.Laws.{Is, shows, Tells}
use denote.Memory.{lone, cell_at, part_at, mem, shares, part_of}
use denote.Slice.{slice_val, MutSlice, Room, finally}
use denote.Lend.{Held, lends_slice, slice_back}
use denote.Index.{row, whole_out, whole_in}
use denote.ArrayMemory.{Single, Array-apart, Array-whole}
use denote.Steps.{peeks}

module _ (R : RattleType) (one : Single R.mir) (n : ℕ) (ν : Lft) (l : ℕ) where
  abbrev at_name : GName → List R.Denot → MutBor (List R.Denot)
  at_name δ xs = record { ref_ptr = (l, 0); ghost_name = δ; now = xs }

  abbrev pub arr_ty : Ty
  arr_ty = ty_array (lone R.mir) n

  module _ {M : Type 1} {𝓤 : Ura M} (𝓛 : Logic 𝓤) (ℓ : Lifetime) where
    open 𝓛 use {H, A}

    pub apart : (xs : List R.Denot) (v : Val) → ent 𝓤 (sep 𝓤 (sem 𝓛 (fat full_share arr_ty l 0 v)) (sem 𝓛 ((Array R n).own_val xs (v ∷ [])))) (sem 𝓛 (row R full_share xs l 0))
    unfolding part_of
    apart xs v =
        qed 𝓛 (‵ (fat full_share arr_ty l 0 v) ∷ ‵ ((Array R n).own_val xs (v ∷ [])) ∷ []) ∵
        use1 𝓛 (‵ (cell_at full_share (Array R n).mir (v ∷ []) l 0)) (𝓛.laws.at_raw full_share arr_ty l 0 v) $ fjoin ! $ fpack ! (List Val) (λ us. fsep (cell_at full_share (Array R n).mir us l 0) ((Array R n).own_val xs us)) (v ∷ []) $
        use1 𝓛 (‵ ((arr_parts (shares R) n).part full_share xs l 0)) (Array-apart 𝓛 R full_share one n xs l 0) $ fsplit ! $ drop ! $ done !

    pub together : (vals : List R.Denot → Val) → Tells (Array R n) (Is (Array R n)) (λ xs. vals xs ∷ []) → (zs : List R.Denot) → length zs ≡ n
        → ent 𝓤 (sem 𝓛 (row R full_share zs l 0)) (sep 𝓤 (sem 𝓛 (fat full_share arr_ty l 0 (vals zs))) (sem 𝓛 ((Array R n).own_val zs (vals zs ∷ []))))
    unfolding part_of
    together vals tells zs e =
        qed 𝓛 (‵ (row R full_share zs l 0) ∷ []) ∵ feq_i ! ℕ (length zs) n e $ fjoin ! $
        use1 𝓛 (‵ (part_at (Array R n) full_share zs l 0)) (Array-whole 𝓛 R full_share n zs l 0) $ fpick ! (λ us. fsplit ! $ move ! (1 ∷ []) $ peeks ! (Array R n) (Is (Array R n)) (shows 𝓛 (Array R n)) zs us (λ is.
        rewrite ! 0 (λ (vs : List Val). ‵ ((Array R n).own_val zs vs)) (tells zs us is) refl $ rewrite ! 1 (λ (vs : List Val). ‵ (cell_at full_share (Array R n).mir vs l 0)) (tells zs us is) refl $ move ! (1 ∷ []) $
        use1 𝓛 (‵ (fat full_share arr_ty l 0 (vals zs))) (𝓛.laws.raw_at full_share arr_ty l 0 (vals zs)) $ done !))

    pub lends_array : (xs : List R.Denot) (v : Val) → Room R (length xs) → ent 𝓤 (sep 𝓤 (sem 𝓛 (fat full_share arr_ty l 0 v)) (sem 𝓛 ((Array R n).own_val xs (v ∷ []))))
        (H.⇛ (ex 𝓤 (λ (γ : GName). sep 𝓤 (sem 𝓛 ((MutSlice ℓ ν R).own_val (at_name γ xs) (slice_val (l, 0) (length xs) ∷ []))) (A.lent ν (Held R (length xs) l 0 γ)))))
    lends_array xs v room =
        qed 𝓛 (‵ (fat full_share arr_ty l 0 v) ∷ ‵ ((Array R n).own_val xs (v ∷ [])) ∷ []) ∵ updating ! $
        use2 𝓛 (‵ (row R full_share xs l 0)) (apart xs v) $ use1 𝓛 (‵ (cells (mem R) xs l 0)) (whole_in 𝓛 R xs l 0) $
        use1 𝓛 (later (some (λ (γ : GName). ‵ ((MutSlice ℓ ν R).own_val (at_name γ xs) (slice_val (l, 0) (length xs) ∷ [])) ⊛ ‵ (flent ν (Held R (length xs) l 0 γ))))) (lends_slice 𝓛 R ℓ ν xs l 0 room) $ await ! tt $ pick ! (λ γ.
        at_once ! $ show ! (λ (γ' : GName). sep 𝓤 (sem 𝓛 ((MutSlice ℓ ν R).own_val (at_name γ' xs) (slice_val (l, 0) (length xs) ∷ []))) (A.lent ν (Held R (length xs) l 0 γ'))) γ $ split ! $ done !)

    pub array_back : (vals : List R.Denot → Val) → Tells (Array R n) (Is (Array R n)) (λ xs. vals xs ∷ []) → (γ : GName) (zs : List R.Denot)
        → ent 𝓤 (sep 𝓤 (A.dead ν) (sep 𝓤 (A.lent ν (Held R n l 0 γ)) (sem 𝓛 (finally R γ zs)))) (H.⇛ (sep 𝓤 (sem 𝓛 (fat full_share arr_ty l 0 (vals zs))) (sem 𝓛 ((Array R n).own_val zs (vals zs ∷ [])))))
    array_back vals tells γ zs =
        qed 𝓛 (‵ (fdead ν) ∷ ‵ (flent ν (Held R n l 0 γ)) ∷ ‵ (finally R γ zs) ∷ []) ∵ updating ! $
        use3 𝓛 (later (‵ ((Arr (mem R) n).own_at zs l 0))) (slice_back 𝓛 R ν γ zs n l 0) $ await ! tt $ fsplit ! $ feq_l ! (λ e.
        use1 𝓛 (‵ (row R full_share zs l 0)) (whole_out 𝓛 R zs l 0) $
        use1 𝓛 (‵ (fat full_share arr_ty l 0 (vals zs)) ⊛ ‵ ((Array R n).own_val zs (vals zs ∷ []))) (together vals tells zs e) $ at_once ! $ split ! $ done !)
