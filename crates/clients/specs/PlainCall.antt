-- Proof machinery of walks, of which no contract speaks: a call, inside a walk, of a function whose parameters and result are plain data and
-- whose `ensures` says which value the result is. It says nothing of the crate.
--     holds, fails     a test whose outcome is known
--     returned, returned_last, returned_some      what a caller has of such a callee; of one that says last values too; of one that says some other fact of both
--     plain_call       nothing of the context is used up: the caller has the result's machine value, and that it is one of r₀
-- Assumes `Logic`, and that the table of calls is monotone under a frame.
use Rattle.std.specs.Prelude.{◌≡◌, refl, Bool, true, false, List, [], ◌∷◌, T}
use Rattle.std.proofs.Common.{subst}
use seplogic.Ra.Ura.{Ura}
use mir.Syntax.{Callee, Place, Opd as Operand, Body, seq, call}
use mir.Val.{Val}
use base.Logic.{ent, sep, ex, guard, emp, id⊢}
use prog.Wp.{Env, Calls, Loops}
use types.Logic.{Logic, sem}
use sound.WpLaws.{FmC}
use contract.Monad.{fact}
use types.Kit.{Go, Item, Sq, ‵, raw, given, ◌⊛◌, some, later, Post, runs, lands, ◌$◌, ◌∵◌, !, qed, move, drop, check, learn, use0, use1, split, join, pick, await, updating, now as at_once, show, done}
use types.Run.{Opds}
use denote.RattleType.{RattleType, owns}
use denote.Laws.{Is, Ises, Are, Makess, shows, owns_make}
use denote.Signature.{type_at, types_at}
use denote.Steps.{heard, facts}
use denote.Triple.Entry.{Res, alive}
use denote.Triple.Spec.{triple_of}
use denote.Triple.Statement.{Contract, Triple}
use denote.Triple.Call.{calls_at}
use denote.Triple.Clauses.{Clauses, Ended, Lasts, AtExit, at_exit, lasts, closing}

pub holds : (t : Bool) → T t → t ≡ true
holds true _ = refl
holds false a = absurd a

pub fails : (t : Bool) → (T t → ⊥) → t ≡ false
fails true f = absurd (f tt)
fails false _ = refl

module _ {M : Type 1} {𝓤 : Ura M} (𝓛 : Logic 𝓤) (T : Ended) (c : Clauses 𝓤 T) (y : (triple_of 𝓛 T.signature (closing 𝓛 T c)).Ghost) where
  open 𝓛 use {H}

  abbrev G : Contract 𝓤
  G = triple_of 𝓛 T.signature (closing 𝓛 T c)

  abbrev Rr : RattleType
  Rr = type_at T.signature.result y.0.0

  abbrev Rs : List RattleType
  Rs = types_at T.signature.params y.0.0

  pub asks : ent 𝓤 (emp 𝓤) (alive 𝓛 T.signature y.0.0 y.0.1) → Makess 𝓛 Rs (Ises Rs) → Are Rs (Ises Rs) y.0.3 y.0.4 → ent 𝓤 (emp 𝓤) ((c y.0.0 y.0.3).requires y.1) → ent 𝓤 (emp 𝓤) (G.pre y)
  asks live makes are req =
      qed 𝓛 [] ∵ use0 𝓛 (raw ((c y.0.0 y.0.3).requires y.1)) req $ use0 𝓛 (‵ (owns Rs y.0.3 y.0.4)) (owns_make 𝓛 Rs (Ises Rs) makes y.0.3 y.0.4 are) $
      use0 𝓛 (raw (alive 𝓛 T.signature y.0.0 y.0.1)) live $ join ! $ done !

  -- what a caller has of a callee whose `ensures` says which value the result is, and nothing of a last value: the tokens, and the result's machine value
  pub returned : (r₀ : Res T.signature y.0.0) → ((r : Res T.signature y.0.0) (e : AtExit T y.0.0) → ent 𝓤 ((c y.0.0 y.0.3).ensures y.1 r e) (fact 𝓤 (r ≡ r₀)))
      → (u : Val) → ent 𝓤 (G.post y u) (H.⇛ (guard 𝓤 (Is Rr r₀ (u ∷ [])) (alive 𝓛 T.signature y.0.0 y.0.1)))
  returned r₀ says u =
      qed 𝓛 (raw (G.post y u) ∷ []) ∵ updating ! $
      use1 𝓛 (later (some (λ (r : Res T.signature y.0.0). (raw (alive 𝓛 T.signature y.0.0 y.0.1) ⊛ ‵ (Rr.own_val r (u ∷ [])))
      ⊛ some (λ (ws : Lasts T y.0.0 y.0.3). ‵ (lasts T y.0.0 y.0.3 ws) ⊛ raw ((c y.0.0 y.0.3).ensures y.1 r (at_exit T y.0.0 y.0.3 ws)))))) (id⊢ 𝓤 _) $ await ! tt $ pick ! (λ r.
      split ! $ move ! (1 ∷ []) $ pick ! (λ ws. split ! $ move ! (1 ∷ []) $ use1 𝓛 (raw (fact 𝓤 (r ≡ r₀))) (says r (at_exit T y.0.0 y.0.3 ws)) $ heard ! (r ≡ r₀) (λ e.
      drop ! $ split ! $ move ! (1 ∷ []) $ facts ! Rr (Is Rr) (shows 𝓛 Rr) r (u ∷ []) (λ is. at_once ! $ check ! (subst (λ (r' : Rr.Denot). Is Rr r' (u ∷ [])) e is) $ done !))))

  -- the same of a callee that says last values too: φ of them is learned, and what says that they are the last is kept
  pub returned_last : (r₀ : Res T.signature y.0.0) (φ : Lasts T y.0.0 y.0.3 → Type 0)
      → ((r : Res T.signature y.0.0) (ws : Lasts T y.0.0 y.0.3) → ent 𝓤 ((c y.0.0 y.0.3).ensures y.1 r (at_exit T y.0.0 y.0.3 ws)) (fact 𝓤 ((r ≡ r₀) × φ ws)))
      → (u : Val) → ent 𝓤 (G.post y u) (H.⇛ (ex 𝓤 (λ (ws : Lasts T y.0.0 y.0.3). guard 𝓤 (Is Rr r₀ (u ∷ []) × φ ws) (sep 𝓤 (alive 𝓛 T.signature y.0.0 y.0.1) (sem 𝓛 (lasts T y.0.0 y.0.3 ws))))))
  returned_last r₀ φ says u =
      qed 𝓛 (raw (G.post y u) ∷ []) ∵ updating ! $
      use1 𝓛 (later (some (λ (r : Res T.signature y.0.0). (raw (alive 𝓛 T.signature y.0.0 y.0.1) ⊛ ‵ (Rr.own_val r (u ∷ [])))
      ⊛ some (λ (ws : Lasts T y.0.0 y.0.3). ‵ (lasts T y.0.0 y.0.3 ws) ⊛ raw ((c y.0.0 y.0.3).ensures y.1 r (at_exit T y.0.0 y.0.3 ws)))))) (id⊢ 𝓤 _) $ await ! tt $ pick ! (λ r.
      split ! $ move ! (1 ∷ []) $ pick ! (λ ws. split ! $ move ! (1 ∷ []) $ use1 𝓛 (raw (fact 𝓤 ((r ≡ r₀) × φ ws))) (says r ws) $ heard ! ((r ≡ r₀) × φ ws) (λ e.
      move ! (1 ∷ []) $ split ! $ move ! (1 ∷ []) $ facts ! Rr (Is Rr) (shows 𝓛 Rr) r (u ∷ []) (λ is. at_once ! $
      show ! (λ (ws' : Lasts T y.0.0 y.0.3). guard 𝓤 (Is Rr r₀ (u ∷ []) × φ ws') (sep 𝓤 (alive 𝓛 T.signature y.0.0 y.0.1) (sem 𝓛 (lasts T y.0.0 y.0.3 ws')))) ws $
      check ! (subst (λ (r' : Rr.Denot). Is Rr r' (u ∷ [])) e.0 is, e.1) $ done !))))

  -- the same of a callee whose `ensures` does not name the result: φ of the result and the last values is learned
  pub returned_some : (φ : Res T.signature y.0.0 → Lasts T y.0.0 y.0.3 → Type 0)
      → ((r : Res T.signature y.0.0) (ws : Lasts T y.0.0 y.0.3) → ent 𝓤 ((c y.0.0 y.0.3).ensures y.1 r (at_exit T y.0.0 y.0.3 ws)) (fact 𝓤 (φ r ws)))
      → (u : Val) → ent 𝓤 (G.post y u) (H.⇛ (ex 𝓤 (λ (r : Res T.signature y.0.0). ex 𝓤 (λ (ws : Lasts T y.0.0 y.0.3). guard 𝓤 (Is Rr r (u ∷ []) × φ r ws) (sep 𝓤 (alive 𝓛 T.signature y.0.0 y.0.1) (sem 𝓛 (lasts T y.0.0 y.0.3 ws)))))))
  returned_some φ says u =
      qed 𝓛 (raw (G.post y u) ∷ []) ∵ updating ! $
      use1 𝓛 (later (some (λ (r : Res T.signature y.0.0). (raw (alive 𝓛 T.signature y.0.0 y.0.1) ⊛ ‵ (Rr.own_val r (u ∷ [])))
      ⊛ some (λ (ws : Lasts T y.0.0 y.0.3). ‵ (lasts T y.0.0 y.0.3 ws) ⊛ raw ((c y.0.0 y.0.3).ensures y.1 r (at_exit T y.0.0 y.0.3 ws)))))) (id⊢ 𝓤 _) $ await ! tt $ pick ! (λ r.
      split ! $ move ! (1 ∷ []) $ pick ! (λ ws. split ! $ move ! (1 ∷ []) $ use1 𝓛 (raw (fact 𝓤 (φ r ws))) (says r ws) $ heard ! (φ r ws) (λ e.
      move ! (1 ∷ []) $ split ! $ move ! (1 ∷ []) $ facts ! Rr (Is Rr) (shows 𝓛 Rr) r (u ∷ []) (λ is. at_once ! $
      show ! (λ (r' : Res T.signature y.0.0). ex 𝓤 (λ (ws' : Lasts T y.0.0 y.0.3). guard 𝓤 (Is Rr r' (u ∷ []) × φ r' ws') (sep 𝓤 (alive 𝓛 T.signature y.0.0 y.0.1) (sem 𝓛 (lasts T y.0.0 y.0.3 ws'))))) r $
      show ! (λ (ws' : Lasts T y.0.0 y.0.3). guard 𝓤 (Is Rr r (u ∷ []) × φ r ws') (sep 𝓤 (alive 𝓛 T.signature y.0.0 y.0.1) (sem 𝓛 (lasts T y.0.0 y.0.3 ws')))) ws $
      check ! (is, e) $ done !))))

  module _ {Γ : List (Item 𝓤)} {E : Env 𝓤 H} {C : Calls 𝓤 H} {Λ : Loops 𝓤 H} {f : Callee} {xs : List Operand} {d : Place} {rest : Body} {q : Post 𝓤 H} where
    pub plain_call : FmC 𝓤 H 𝓛.laws C → Triple 𝓤 (C f) G → ent 𝓤 (emp 𝓤) (alive 𝓛 T.signature y.0.0 y.0.1) → Makess 𝓛 Rs (Ises Rs) → Are Rs (Ises Rs) y.0.3 y.0.4
        → ent 𝓤 (emp 𝓤) ((c y.0.0 y.0.3).requires y.1) → (r₀ : Res T.signature y.0.0)
        → ((r : Res T.signature y.0.0) (e : AtExit T y.0.0) → ent 𝓤 ((c y.0.0 y.0.3).ensures y.1 r e) (fact 𝓤 (r ≡ r₀)))
        → Opds (Go {0}) 𝓛 (raw (G.pre y) ∷ Γ) E xs (G.args y) → ((u : Val) → Is Rr r₀ (u ∷ []) → Sq 𝓛 Γ (lands C Λ E d u rest q)) → Sq 𝓛 Γ (runs C Λ E (seq (call f xs d) rest) q)
    plain_call fm met live makes are req r₀ says os k = use0 𝓛 (raw (G.pre y)) (asks live makes are req) $ calls_at ! fm G met y os (λ u. use1 𝓛 (later (given (Is Rr r₀ (u ∷ [])) (raw (alive 𝓛 T.signature y.0.0 y.0.1)))) (returned r₀ says u) $ await ! tt $ learn ! (λ p. drop ! $ k u p))
