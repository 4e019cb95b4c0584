-- Laws of a whole call that writes operations, as open, write and checkpoint are: room where refusal 11 does not apply, and
-- what an answer of the code gives, refused or served.
use Prim.Native.Nat.{ℕ, ◌*◌, ◌≤◌}
use mathlib.Core.Path.{◌≡◌, refl, sym, ap, ap₂, ◌∙◌}
use mathlib.Core.List.{[]}
use native.Mathlib.Omega.{arith}
use lib.ListN.{length}
use borrow.Author.Tests.{ltb-false}
use Rattle.std.specs.Prelude.{Ok, Err}
use Rattle.model.specs.declared.Session.{Session}
use Rattle.model.specs.declared.Refusal.{Refusal}
use Rattle.model.specs.declared.Answer.{Answer}
use Rattle.model.specs.Status.{refusal_number, first_error, served}
use Rattle.model.specs.Ops.{Ops, Trace, op_numbers, encode, for_domain, written, trace_short, trace_errors}
use Rattle.model.specs.Clients.{Clients}
use Rattle.model.specs.Outcome.{outcome_of, told, Gives}
use Rattle.model.proofs.Laws.Status.{served_cons, refusal_refuses}
use Rattle.trace.specs.declared.Writer.{Writer}
use Rattle.trace.specs.Emit.{emit, Fits, Emitted, Begun}
use Rattle.trace.proofs.EmitLaws.{emit_whole}

-- ---- refusal 11

-- where it does not apply the operations fit
pub fits_whole : {d : ℕ} {t : Trace} {w : Writer} (O : Ops) → Begun d t w → 0 ≡ first_error (trace_errors (for_domain d O) t) → Fits w O
unfolding trace_short
fits_whole {d} {t} O b h =
    record { room = rw (b.kind, b.trace, b.next) (omega (arith, ltb-false (length t) (op_numbers * length (for_domain d O)) (served_cons 10 _ [] (sym h)).0)) }

-- ---- what a call leaves on its trace

emitted_whole : {d : ℕ} {t : Trace} {b w : Writer} (O : Ops) → Begun d t b → Fits b O → Emitted b O w → w.trace.now ≡ written (for_domain d O) t
emitted_whole {d} {t} {b} O s f e =
    let n : length (for_domain b.domain O) ≡ length (for_domain d O) = ap (λ (k : ℕ). length (for_domain k O)) s.kind in
    let room : 3 * length (for_domain d O) ≤ length t = omega (arith, f.room, n, ap length s.trace, s.next) in
    e.stands ∙ ap (λ (k : ℕ). emit b.trace.now b.next (for_domain k O)) s.kind
    ∙ ap₂ (λ (u : Trace) (m : ℕ). emit u m (for_domain d O)) s.trace s.next ∙ emit_whole t (for_domain d O) room

-- ---- what an answer gives

-- e is the number of the status, `kept` and R session and records of a refused call, `next` and R' session and records of a served one, which
-- writes those of the operations O that a trace has for the kind d
module _ (e : ℕ) (kept next : Session) (R R' : Clients) (d : ℕ) (O : Ops) (t : Trace) where
  pub gives_refused : (r : Refusal) → refusal_number r ≡ e → Gives (outcome_of e kept next R R' d O) t (told kept (Err r)) t R
  unfolding outcome_of written encode
  gives_refused r p = rw (sym (ap served p) ∙ refusal_refuses r) (p, refl, refl, refl, refl)

  pub gives_served : {a : Answer} {after : Trace} {b w : Writer} → e ≡ 0 → a.session ≡ next → a.ops ≡ length (for_domain d O)
      → Begun d t b → 0 ≡ first_error (trace_errors (for_domain d O) t) → Emitted b O w → after ≡ w.trace.now
      → Gives (outcome_of e kept next R R' d O) t (told kept (Ok a)) after R'
  unfolding outcome_of
  gives_served z q m s p w u = let on = u ∙ emitted_whole O s (fits_whole O s p) w in rw z (refl, q, m, on, refl)
