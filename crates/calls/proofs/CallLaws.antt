-- Laws of a call made on the blank trace: it is the module's step, and its answer is printed.
use Prim.Native.String.{String}
use mathlib.Core.Path.{◌≡◌, refl, sym, ◌∙◌}
use mathlib.Core.List.{List, [], ◌∷◌, ◌++◌, map, map-id, append_assoc}
use native.Mathlib.Omega.{arith}
use lib.ListN.{length, get_or}
use Rattle.model.specs.declared.Client.{Client}
use Rattle.model.specs.Words.{Image}
use Prim.Native.Nat.{ℕ}
use Rattle.model.specs.Ops.{Trace}
use Rattle.model.specs.Clients.{Clients}
use Rattle.model.specs.Outcome.{Told, lent}
use Rattle.model.specs.Reference.{CallArgs}
use Rattle.driver.specs.Stepped.{report_of, Called, Stepped}
use Rattle.driver.proofs.SteppedLaws.{stepped_device}
use Rattle.text.specs.Text.{text}
use Rattle.printer.specs.declared.Page.{Page}
use Rattle.printer.specs.Page.{Appended}
use Rattle.printer.proofs.AppendedLaws.{appended_as}
use Rattle.calls.specs.declared.Sheet.{Sheet}
use Rattle.calls.specs.Printed.{blank, Board, call_on, answer_on, board_step, answer_text}
use Rattle.calls.specs.Ran.{answer_of, BoardAt}

-- what the code knows of a call that it made where a sheet stood at s: the call told x and left the records R, and the sheet stands at s'
pub record Made (s : Sheet) (c : CallArgs) (x : Told) (R : Clients) (t : Trace) (s' : Sheet) : Type 0 where
  pub stepped : Stepped Called s.image.now s.session (record { args = c; lends = lent (s.client ∷ []) blank }) (report_of x R) t s'.image.now
  pub session : s'.session ≡ x.session
  pub clients : R ≡ s'.client ∷ []

one_left : (R : Clients) (d : Client) → length R ≡ 1 → R ≡ get_or R 0 d ∷ []
one_left [] d e = absurd (let z : ◌≡◌ {A = ℕ} 0 1 = e in omega arith)
one_left (c ∷ []) d e = refl
one_left (c ∷ k ∷ R) d e = absurd (omega (arith, e))

-- by the one record that was lent, and what is left of it
pub made : {s : Sheet} {c : CallArgs} {x : Told} {L R : Clients} {t : Trace} {I' : Image} {s' : Sheet}
    → Stepped Called s.image.now s.session (record { args = c; lends = lent (map (λ (k : Client). k) L) blank }) (report_of x (map (λ (k : Client). k) R)) t I'
    → L ≡ s.client ∷ [] → length R ≡ 1 → s'.image.now ≡ I' → s'.session ≡ x.session → s'.client ≡ get_or R 0 s.client → Made s c x R t s'
made {s} {L = L} {R = R} stepped lent one image session client =
    record { stepped = rw (← image) at (rw (map-id {A = Client} L, map-id {A = Client} R, lent) at stepped); session = session; clients = one_left R s.client one ∙ rw (← client) }

-- its answer, behind a text, and where the sheet stands with it
module _ {s : Sheet} {c : CallArgs} {x : Told} {R : Clients} {t : Trace} {s' : Sheet} (made : Made s c x R t s') (b : Board) («is» : BoardAt b s) where
  here : Stepped Called b.device.image b.device.session (call_on b c) (report_of x R) t s'.image.now
  here = rw («is».0, «is».1, «is».2) made.stepped

  pub call_text : (before : List ℕ) (key : String) {p p' : Page} → Appended p (answer_of (before ++ text key) x) p' → Appended p (before ++ answer_text key (answer_on b c)) p'
  unfolding answer_text
  call_text before key f = appended_as (rw (here.0.1.0, here.0.1.2) (simp append_assoc)) f

  pub call_step : BoardAt (board_step b c) s'
  unfolding board_step
  call_step =
      let q = stepped_device b.device (call_on b c) (report_of x R) t s'.image.now here in
      (q.0, q.1 ∙ sym made.session, sym here.0.1.4 ∙ made.clients)
