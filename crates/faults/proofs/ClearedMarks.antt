-- Fault 2: with the marks cleared the second write copies nothing, and the backup segment still holds what stood before
-- the first.
use Prim.Native.Nat.{ℕ}
use mathlib.Core.Path.{◌≡◌, refl, sym, ap, subst}
use mathlib.Core.Logic.{⊎_elim}
use mathlib.Core.List.{◌++◌}
use native.Mathlib.Omega.{arith}
use lib.Dec.{lit<}
use lib.ListN.{get_or}
use Rattle.model.specs.Words.{Image}
use Rattle.model.specs.Ops.{Ops}
use Rattle.model.specs.Session.{adr, fresh_session}
use Rattle.model.specs.Reference.{Page}
use Rattle.model.specs.History.{called_ops}
use Rattle.model.specs.Crash.{CrashImage}
use Rattle.cases.specs.Turns.{Point, begin, call_at, turns}
use Rattle.cases.specs.Table.{write, a_word}
use Rattle.faults.specs.Faults.{lent_long, l111, one, two_calls, marks_cleared, ShowsStale, ClearedMarks}
use Rattle.model.proofs.Laws.Crash.Images.{newest}
use Rattle.cases.proofs.Compute.{model_rules, same, same_equal}
use Rattle.cases.proofs.Shown.{no_checkpoint}
use Rattle.faults.proofs.TwoCalls.{image, old, new, before, saved, stands, a_word_lem, calls_permitted, old_shown}

abbrev cleared : Point
cleared = saved (image 1 2 1 new) (fresh_session l111 adr)

clears : marks_cleared (turns (begin l111 adr (one 0) (lent_long l111)) two_calls) ≡ cleared
unfolding marks_cleared
clears = ap marks_cleared stands

abbrev played : Ops
played = before ++ called_ops cleared.state.device (call_at cleared (write 0 8 a_word)) 2

wrong : ShowsStale cleared
unfolding model_rules same
wrong = record {
  permitted = (a_word_lem, (λ x. tt), lit< tt);
  left = image 1 2 2 new;
  crash = subst (λ (H : Image). CrashImage (image 0 1 0 old) played H) (same_equal _ _ refl) (newest (image 0 1 0 old) played);
  accepted = refl;
  page = old;
  shown = old_shown;
  wrong = ⊎_elim (λ e. let z : ◌≡◌ {A = ℕ} 40 1 = ap (λ (P : Page). get_or P 0 0) e in omega arith) (λ w. no_checkpoint w.0.0);
}

pub cleared_marks_lem : ClearedMarks (begin l111 adr (one 0) (lent_long l111))
cleared_marks_lem = (calls_permitted (begin l111 adr (one 0) (lent_long l111)), subst ShowsStale (sym clears) wrong)
