-- The opening of a formatted image is where a history starts.
use mathlib.Core.Path.{◌≡◌, refl, sym}
use mathlib.Core.Bool.{true}
use mathlib.Core.List.{[], ◌∷◌}
use lib.ListN.{length}
use borrow.Author.Tests.{eq-eqb}
use Rattle.model.specs.Session.{adr}
use Rattle.model.specs.declared.Layout.{Layout}
use Rattle.model.specs.declared.Session.{Session}
use Rattle.model.specs.Words.{Image}
use Rattle.model.specs.Layout.{sizes_ok, image_size}
use Rattle.model.specs.Status.{first_error}
use Rattle.model.specs.Format.{formatted, format_outcome}
use Rattle.model.specs.Ops.{Trace}
use Rattle.model.specs.Clients.{Clients}
use Rattle.model.specs.Outcome.{Told}
use Rattle.model.specs.Reference.{open_args}
use Rattle.model.specs.History.{opened_image, device_step, start}
use Rattle.model.specs.Shares.{alone}
use Rattle.text.specs.Text.{text}
use Rattle.printer.specs.declared.Page.{Page}
use Rattle.printer.specs.Page.{Appended}
use Rattle.printer.proofs.AppendedLaws.{appended_then}
use Rattle.calls.specs.declared.Sheet.{Sheet}
use Rattle.calls.specs.Printed.{Board, board_step, opened_board, open_text}
use Rattle.calls.specs.Ran.{answer_of, BoardAt, Opened}
use Rattle.calls.proofs.CallLaws.{Made, call_text, call_step}

-- a format of a right length with right sizes is served
pub formats : (l : Layout) (I J : Image) → sizes_ok l ≡ true → length I ≡ image_size l → J ≡ (format_outcome l I).image → J ≡ formatted l
unfolding format_outcome first_error
formats l I J s e f = rw (s, eq-eqb (length I) (image_size l) e) at f

-- a module that stands at the formatted image and a session, and the one client, which has taken nothing
abbrev standing : Layout → Session → Board
standing l s = record { device = record { layout = l; durable = formatted l; played = []; adr_played = []; image = formatted l; session = s }; clients = alone l 0 }

pub opened : (l : Layout) {s s' : Sheet} {x : Told} {R : Clients} {t : Trace} {p q r : Page} → s.image.now ≡ formatted l → s.client ∷ [] ≡ alone l 0
    → Made s (open_args l adr) x R t s' → Appended p (answer_of (text "open=") x) q → Appended q (text "\n") r → Opened l p s' r
unfolding open_text board_step device_step opened_board start opened_image
opened l {s} e one made answer line =
    let b = standing l s.session in
    let at : BoardAt b s = (sym e, refl, sym one) in
    (appended_then (call_text made b at [] "open=" answer) line, call_step made b at)
