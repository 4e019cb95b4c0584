-- Laws of what a trace has for a kind of module: one run after another, runs of stores, all of it for kind 0; the same image; the first
-- part of a rule's operations that holds the first p of a trace (`first_part_lem`); and how many operations a trace has.
use Prim.Native.Nat.{ℕ, zero, suc, ◌≤◌}
use mathlib.Core.Path.{◌≡◌, refl, sym, ap, ◌∙◌}
use mathlib.Core.Bool.{Bool, true, false, cond}
use mathlib.Core.List.{[], ◌∷◌, ◌++◌}
use native.Mathlib.Omega.{arith}
use lib.Dec.{eqb}
use lib.ListN.{length, take, length-append}
use Rattle.model.specs.Range.{cat}
use Rattle.model.specs.Words.{Image}
use Rattle.model.specs.Session.{adr}
use Rattle.model.specs.Ops.{Op, store, clwb, sfence, Ops, writes, for_domain, first_part, apply, replay, stores}
use Rattle.model.specs.declared.Session.{Session}
use Rattle.model.specs.Layout.{epoch_at}
use Rattle.model.specs.Status.{served}
use Rattle.model.specs.Clients.{Clients}
use Rattle.model.specs.Outcome.{Lent, outcome_of}
use Rattle.model.specs.Open.{open_outcome}
use Rattle.model.specs.Write.{write_outcome}
use Rattle.model.specs.Discard.{discard_outcome}
use Rattle.model.specs.Checkpoint.{checkpoint_outcome}
use Rattle.model.specs.Reference.{CallArgs, open_args, write_args, discard_args, checkpoint_args}
use Rattle.model.specs.History.{Call, Device, answers, outcome, domain_of, rule_ops, adr_ops}
use Rattle.model.specs.CrashSafety.{EpochStored}
use Rattle.model.specs.Domains.{FirstPart}
use Rattle.model.proofs.Laws.Ops.{All}

-- ---- what a trace has

pub domain_append : (d : ℕ) (A B : Ops) → for_domain d (A ++ B) ≡ for_domain d A ++ for_domain d B
unfolding for_domain
domain_append d [] B = refl
domain_append d (o ∷ A) B = go (for_domain d (A ++ B)) (for_domain d A) (for_domain d B) (writes d o) (domain_append d A B)
  where
    go : (X Y Z : Ops) (b : Bool) → X ≡ Y ++ Z → cond b (o ∷ X) X ≡ cond b (o ∷ Y) Y ++ Z
    go X Y Z true e = ap (λ (X : Ops). o ∷ X) e
    go X Y Z false e = e

pub domain_cat : (d n : ℕ) (f : ℕ → Ops) → for_domain d (cat n f) ≡ cat n (λ i. for_domain d (f i))
unfolding cat for_domain
domain_cat d zero f = refl
domain_cat d (suc n) f = domain_append d (cat n f) (f n) ∙ ap (λ (X : Ops). X ++ for_domain d (f n)) (domain_cat d n f)

pub domain_when : (d : ℕ) (b : Bool) (O : Ops) → for_domain d (cond b O []) ≡ cond b (for_domain d O) []
unfolding for_domain
domain_when d true O = refl
domain_when d false O = refl

-- stores alone are on every trace
pub domain_stores : (d n a : ℕ) (w : ℕ → ℕ) → for_domain d (stores n a w) ≡ stores n a w
unfolding stores for_domain
domain_stores d n a w = domain_cat d n _

-- the trace of kind 0 has all operations
pub domain_adr : (O : Ops) → for_domain adr O ≡ O
unfolding for_domain
domain_adr [] = refl
domain_adr (store p w ∷ O) = ap (λ (X : Ops). store p w ∷ X) (domain_adr O)
domain_adr (clwb p ∷ O) = ap (λ (X : Ops). clwb p ∷ X) (domain_adr O)
domain_adr (sfence ∷ O) = ap (λ (X : Ops). sfence ∷ X) (domain_adr O)

-- no trace has more
pub domain_shorter : (d : ℕ) (O : Ops) → length (for_domain d O) ≤ length O
unfolding for_domain
domain_shorter d [] = omega arith
domain_shorter d (o ∷ O) = go (for_domain d O) (writes d o) (domain_shorter d O)
  where
    go : (X : Ops) (b : Bool) → length X ≤ length O → length (cond b (o ∷ X) X) ≤ suc (length O)
    go X true h = omega arith
    go X false h = omega arith

-- what holds of every operation of a rule holds of those on a trace
pub domain_all : (Q : Op → Type 0) (d : ℕ) (O : Ops) → All Q O → All Q (for_domain d O)
unfolding for_domain
domain_all Q d [] h = tt
domain_all Q d (o ∷ O) h = go (for_domain d O) (writes d o) (domain_all Q d O h.1)
  where
    go : (X : Ops) (b : Bool) → All Q X → All Q (cond b (o ∷ X) X)
    go X true k = (h.0, k)
    go X false k = k

-- and they leave the same image
pub domain_replay : (d : ℕ) (O : Ops) (I : Image) → replay (for_domain d O) I ≡ replay O I
unfolding for_domain replay apply
domain_replay d [] I = refl
domain_replay d (store p w ∷ O) I = domain_replay d O _
domain_replay d (clwb p ∷ O) I = go (for_domain d O) (eqb d adr) (domain_replay d O I)
  where
    go : (X : Ops) (b : Bool) → replay X I ≡ replay O I → replay (cond b (clwb p ∷ X) X) I ≡ replay O I
    go X true e = e
    go X false e = e
domain_replay d (sfence ∷ O) I = domain_replay d O I

-- ---- the first part that holds the first p operations of a trace

pub part_holds : (d p : ℕ) (O : Ops) → for_domain d (first_part d p O) ≡ take p (for_domain d O)
unfolding for_domain first_part
part_holds d zero [] = refl
part_holds d (suc p) [] = refl
part_holds d zero (o ∷ O) = refl
part_holds d (suc p) (o ∷ O) = go _ (for_domain d O) (writes d o) (part_holds d (cond (writes d o) p (suc p)) O)
  where
    go : (X Y : Ops) (b : Bool) → X ≡ take (cond b p (suc p)) Y → cond b (o ∷ X) X ≡ take (suc p) (cond b (o ∷ Y) Y)
    go X Y true e = ap (λ (X : Ops). o ∷ X) e
    go X Y false e = e

pub part_take : (d p : ℕ) (O : Ops) → first_part d p O ≡ take (length (first_part d p O)) O
unfolding first_part
part_take d zero [] = refl
part_take d (suc p) [] = refl
part_take d zero (o ∷ O) = refl
part_take d (suc p) (o ∷ O) = ap (λ (X : Ops). o ∷ X) (part_take d (cond (writes d o) p (suc p)) O)

part_most : (d p : ℕ) (O : Ops) → length (first_part d p O) ≤ length O
unfolding first_part
part_most d zero [] = omega arith
part_most d (suc p) [] = omega arith
part_most d zero (o ∷ O) = omega arith
part_most d (suc p) (o ∷ O) = omega (arith, part_most d (cond (writes d o) p (suc p)) O)

-- of kind 0 it is the first p themselves
pub part_adr : (p : ℕ) (O : Ops) → first_part adr p O ≡ take p O
unfolding first_part
part_adr zero [] = refl
part_adr (suc p) [] = refl
part_adr zero (o ∷ O) = refl
part_adr (suc p) (store a w ∷ O) = ap (λ (X : Ops). store a w ∷ X) (part_adr p O)
part_adr (suc p) (clwb a ∷ O) = ap (λ (X : Ops). clwb a ∷ X) (part_adr p O)
part_adr (suc p) (sfence ∷ O) = ap (λ (X : Ops). sfence ∷ X) (part_adr p O)

-- operations that end in a fence: a whole trace is held by all of them, and by no fewer
upto_fence : (d : ℕ) (A : Ops) → first_part d (suc (length (for_domain d A))) (A ++ sfence ∷ []) ≡ A ++ sfence ∷ []
unfolding for_domain first_part
upto_fence d [] = refl
upto_fence d (o ∷ A) = ap (λ (X : Ops). o ∷ X) (go (for_domain d A) (writes d o) (upto_fence d A))
  where
    go : (F : Ops) (b : Bool) → first_part d (suc (length F)) (A ++ sfence ∷ []) ≡ A ++ sfence ∷ []
        → first_part d (cond b (length (cond b (o ∷ F) F)) (suc (length (cond b (o ∷ F) F)))) (A ++ sfence ∷ []) ≡ A ++ sfence ∷ []
    go F true e = e
    go F false e = e

pub whole_part : (d : ℕ) (A : Ops) (n : ℕ) → n ≡ length (for_domain d (A ++ sfence ∷ [])) → first_part d n (A ++ sfence ∷ []) ≡ A ++ sfence ∷ []
unfolding for_domain
whole_part d A n h =
    let e : n ≡ suc (length (for_domain d A)) = h ∙ ap length (domain_append d A (sfence ∷ [])) ∙ length-append (for_domain d A) (sfence ∷ []) ∙ omega arith in
    ap (λ (m : ℕ). first_part d m (A ++ sfence ∷ [])) e ∙ upto_fence d A

-- no shorter part has p of them
part_least : (d p : ℕ) (O : Ops) (m : ℕ) → p ≤ length (for_domain d (take m O)) → length (first_part d p O) ≤ length (take m O)
unfolding for_domain first_part
part_least d zero [] m h = omega arith
part_least d (suc p) [] m h = omega arith
part_least d zero (o ∷ O) m h = omega arith
part_least d (suc p) (o ∷ O) zero h = absurd (omega arith)
part_least d (suc p) (o ∷ O) (suc m) h = omega (arith, part_least d (cond (writes d o) p (suc p)) O m (go (for_domain d (take m O)) (writes d o) h))
  where
    go : (X : Ops) (b : Bool) → suc p ≤ length (cond b (o ∷ X) X) → cond b p (suc p) ≤ length X
    go X true k = omega arith
    go X false k = k

pub first_part_lem : FirstPart
first_part_lem d p O = (part_holds d p O, (length (first_part d p O), part_most d p O, part_take d p O, part_least d p O))

-- ---- the operations of a call

outcome_filtered : (e : ℕ) (kept next : Session) (R R' : Clients) (d : ℕ) (O : Ops) → (outcome_of e kept next R R' d O).ops
    ≡ for_domain d (cond (served (outcome_of e kept next R R' d O).status) O [])
unfolding outcome_of
outcome_filtered e kept next R R' d O = sym (domain_when d (served e) O)

-- what a call writes on its trace is, of its operations with the flushes put in, what is for its kind
pub answers_filtered : (s : Session) (I : Image) (a : CallArgs) (k : Lent)
    → (answers s I a k).ops ≡ for_domain (domain_of s a) (cond (served (answers s I a k).status) (rule_ops s I a) [])
unfolding open_outcome write_outcome discard_outcome checkpoint_outcome
answers_filtered s I (open_args l d) k = outcome_filtered _ _ _ _ _ d _
answers_filtered s I (write_args w) k = outcome_filtered _ _ _ _ _ s.domain _
answers_filtered s I (discard_args i) k = outcome_filtered _ _ _ _ _ s.domain _
answers_filtered s I checkpoint_args k = outcome_filtered _ _ _ _ _ s.domain _

pub ops_filtered : (d : Device) (c : Call) → (outcome d c).ops ≡ for_domain (domain_of d.session c.args) (adr_ops d c)
ops_filtered d c = answers_filtered d.session d.image c.args c.lends

-- with the flushes put in they are the rule's where the call is served, and none where it is refused
pub adr-served : (d : Device) (c : Call) → served (outcome d c).status ≡ true → adr_ops d c ≡ rule_ops d.session d.image c.args
adr-served d c e = ap (λ (b : Bool). cond b (rule_ops d.session d.image c.args) []) e

pub adr_refused : (d : Device) (c : Call) → served (outcome d c).status ≡ false → adr_ops d c ≡ []
adr_refused d c e = ap (λ (b : Bool). cond b (rule_ops d.session d.image c.args) []) e

-- the store of the epoch is on every trace
pub epoch_kept : (d : ℕ) {O : Ops} → EpochStored O → EpochStored (for_domain d O)
unfolding for_domain
epoch_kept d (A, D, w, e) = (for_domain d A, for_domain d D, w, ap (for_domain d) e ∙ domain_append d A (store epoch_at w ∷ D))
