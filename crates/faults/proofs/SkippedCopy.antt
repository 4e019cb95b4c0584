-- Fault 3: the backup segment keeps its old bytes, and the next write makes them the checkpoint.
use Prim.Native.Nat.{ℕ}
use mathlib.Core.Path.{◌≡◌, refl, sym, ap, subst}
use mathlib.Core.Logic.{inl, ⊎_elim}
use mathlib.Core.List.{◌∷◌}
use native.Mathlib.Omega.{arith}
use lib.Dec.{lit<}
use lib.ListN.{get_or, replicate}
use Rattle.model.specs.Words.{Image}
use Rattle.model.specs.Layout.{unpaired}
use Rattle.model.specs.Session.{adr}
use Rattle.model.specs.Ops.{store, apply}
use Rattle.model.specs.Format.{container}
use Rattle.model.specs.Reference.{Page}
use Rattle.model.specs.History.{called_ops}
use Rattle.model.specs.CrashSafety.{Reads}
use Rattle.model.specs.Shares.{alone}
use Rattle.cases.specs.Turns.{Point, point_of, call_at}
use Rattle.cases.specs.Table.{write, a_word}
use Rattle.faults.specs.Faults.{l111, one, skipping_action, skipping_ops, skipping_opened, skipping_start, SkippedCopy}
use Rattle.model.proofs.Laws.Crash.Images.{newest}
use Rattle.cases.proofs.Compute.{model_rules, same, same_equal}
use Rattle.cases.proofs.Shown.{no_checkpoint}
use Rattle.cases.proofs.Starts.{standing}
use Rattle.faults.proofs.Shown.{only_block}
use Rattle.faults.proofs.TwoCalls.{a_word_lem}

abbrev stale : Point
stale = point_of (standing l111 adr (one 0) (replicate 256 40)) (alone l111 0)

starts : skipping_start l111 (one 0) ≡ stale
unfolding model_rules skipping_action skipping_ops skipping_start
starts = refl

-- the crash leaves state 2, and opening copies the backup's old bytes to the main segment
abbrev left : Image
left = apply (store 128 2) (one 0)

abbrev recovered : Image
recovered = container l111 0 (2 ∷ replicate 63 0) (replicate 64 0) (0 ∷ replicate 63 unpaired) (replicate 512 90)

recovers : skipping_opened l111 left ≡ recovered
unfolding model_rules skipping_action skipping_ops same
recovers = same_equal _ _ refl

shown : Reads l111 recovered (replicate 256 90) (replicate 256 90)
unfolding model_rules
shown = only_block (record { status = refl; working = refl; checkpoint = inl refl })

wrong : SkippedCopy stale
unfolding model_rules
wrong = record {
  permitted = (a_word_lem, (λ x. tt), lit< tt);
  left = left;
  crash = newest (one 0) (called_ops stale.state.device (call_at stale (write 0 0 a_word)) 2);
  accepted = refl;
  page = replicate 256 90;
  shown = subst (λ (I : Image). Reads l111 I (replicate 256 90) (replicate 256 90)) (sym recovers) shown;
  wrong = ⊎_elim (λ e. let z : ◌≡◌ {A = ℕ} 90 40 = ap (λ (P : Page). get_or P 0 0) e in omega arith) (λ w. no_checkpoint w.0.0);
}

pub skipped_copy_lem : SkippedCopy (skipping_start l111 (one 0))
skipped_copy_lem = subst SkippedCopy (sym starts) wrong
