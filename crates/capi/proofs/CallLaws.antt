-- Laws of the exported calls: a discard of the library, told, is what the call returns (crate interface, specs/Interface.antt); a read
-- that finds a part is served.
use Rattle.std.proofs.Common.{Result, Ok, Err}
use Rattle.std.specs.Result.{result_unwrap_or}
use Prim.Native.Nat.{ℕ}
use mathlib.Core.Path.{◌≡◌, refl, sym, ap, ◌∙◌}
use mathlib.Core.Logic.{◌≢◌}
use mathlib.Core.Bool.{Bool, true, false, cond}
use lib.Dec.{eqb}
use lib.ListN.{length}
use borrow.Author.Tests.{eqb-true}
use Rattle.model.specs.declared.Layout.{Layout}
use Rattle.model.specs.declared.Session.{Session}
use Rattle.model.specs.declared.Refusal.{Refusal}
use Rattle.model.specs.Words.{Image}
use Rattle.model.specs.Status.{code_of}
use Rattle.model.specs.Ops.{Trace}
use Rattle.model.specs.Clients.{Clients}
use Rattle.model.specs.Outcome.{lent, told, Gives}
use Rattle.model.specs.Discard.{discard_outcome}
use Rattle.model.specs.Reads.{Part, no_part, read_status, working_part, checkpoint_part}
use Rattle.reads.specs.declared.Part as code
use Rattle.reads.specs.Answered.{Answered}
use Rattle.discard.specs.Discarded.{discarded_answer}
use Rattle.clients.specs.Words.{Words}
use Rattle.interface.specs.Interface.{session_words, words_of, session_in, discard_returned, Returns}
use Rattle.interface.proofs.WordsLaws.{words_session}

-- ---- discard

-- a discard is lent the session x that stands in words, and leaves session and records
pub discard_returned_lem : (I : Image) (s : Words) → length s ≡ session_words → (x : Session) → x ≡ session_in s → (R : Clients) (t t' : Trace) (number ops i : ℕ)
    → (a : Result ℕ Refusal) → number ≡ code_of a → ops ≡ result_unwrap_or a 0 → Gives (discard_outcome x I i (lent R t)) t (told x (discarded_answer x a)) t' R
    → Returns (discard_returned I s R i t) number s R t' ops
discard_returned_lem I s e x v R t t' number ops i (Ok k) n q g =
    let h = rw v at g in (n ∙ h.0, sym (words_session s e) ∙ ap words_of h.1, h.4, h.3, q ∙ h.2)
discard_returned_lem I s e x v R t t' number ops i (Err r) n q g =
    let h = rw v at g in (n ∙ h.0, sym (words_session s e) ∙ ap words_of h.1, h.4, h.3, q ∙ h.2)

-- ---- the reads

found_served : (e : ℕ) (p : Part) → (cond (eqb e 0) p no_part).size ≢ 0 → e ≡ 0
found_served e p h = go (eqb e 0) refl
  where
    go : (b : Bool) → eqb e 0 ≡ b → e ≡ 0
    go true q = eqb-true e 0 q
    go false q = absurd (h (ap (λ (b : Bool). (cond b p no_part).size) q))

module _ (l : Layout) (I : Image) (i b : ℕ) (part : code.Part) where
  pub working_served : Answered I (working_part l I i b) part → part.size ≢ 0 → read_status l I i b ≡ 0
  unfolding working_part
  working_served f h = found_served (read_status l I i b) _ (λ e. h (f.size ∙ e))

  pub checkpoint-served : Answered I (checkpoint_part l I i b) part → part.size ≢ 0 → read_status l I i b ≡ 0
  unfolding checkpoint_part
  checkpoint-served f h = found_served (read_status l I i b) _ (λ e. h (f.size ∙ e))
