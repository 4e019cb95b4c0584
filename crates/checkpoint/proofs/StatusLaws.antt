-- Laws of a checkpoint's refusals: what holds of image and session where those of them let it pass.
use Prim.Native.Nat.{◌≤◌}
use mathlib.Core.Path.{◌≡◌, sym, ◌∙◌}
use mathlib.Core.Logic.{◌≢◌}
use mathlib.Core.Bool.{cond}
use mathlib.Core.List.{◌++◌}
use native.Mathlib.Omega.{arith}
use lib.ListN.{length}
use borrow.Author.Tests.{eqb-true, not-false}
use Rattle.std.specs.Prelude.{Err}
use Rattle.model.specs.declared.Session.{Session}
use Rattle.model.specs.declared.Refusal.{Refusal}
use Rattle.model.specs.Words.{Image}
use Rattle.model.specs.Layout.{metadata_size}
use Rattle.model.specs.Status.{refusal_number, first_error, served}
use Rattle.model.specs.Container.{active_state, committed_epoch}
use Rattle.model.specs.Session.{context_errors, with_checkpoint}
use Rattle.model.specs.Ops.{Trace}
use Rattle.model.specs.Clients.{Clients, clients_errors, cleared}
use Rattle.model.specs.Outcome.{lent, told, Gives}
use Rattle.model.specs.Checkpoint.{checkpoint_ops, epoch_errors, lent_errors, checkpoint_status, checkpoint_outcome}
use Rattle.model.proofs.Laws.Status.{served_condition, refusal_refuses, stage_refused, after-served}
use Rattle.model.proofs.Laws.Container.{sizes_ok_lem}
use Rattle.model.proofs.Laws.Layout.{metadata_inside}
use Rattle.trace.proofs.CallLaws.{gives_refused}
use Rattle.session.proofs.SessionLaws.{words_within}
use Rattle.checkpoint.specs.Advance.{last_epoch, Advancing}

module _ (s : Session) (I : Image) (z : 0 ≡ first_error (context_errors s I)) where
  -- 1 to 5 leave a metadata
  pub long_enough : metadata_size ≤ length I
  long_enough = omega (arith, metadata_inside s.layout, eqb-true (length I) _ (not-false _ (served_condition (context_errors s I) (omega arith) (sym z) 2)))

  -- with an epoch that can be raised they leave what the operations go by
  pub advancing : committed_epoch I ≢ last_epoch → Advancing s.layout I s.dirty_blocks
  advancing raises =
      let r = served_condition (context_errors s I) (omega arith) (sym z) in
      let k = (sizes_ok_lem s.layout).0 (not-false _ (r 1)) in
      record {
        mains = k.0.1;
        blocks = k.2.1;
        long = long_enough;
        raises = raises;
        within = words_within s (active_state I) k.0.1 (not-false _ (r 5));
      }
