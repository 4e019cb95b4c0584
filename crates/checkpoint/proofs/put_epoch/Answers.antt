use Prim.Native.Nat.{suc, ◌+◌}
use mathlib.Core.Path.{◌≡◌}
use mathlib.Core.List.{[], ◌∷◌}
use native.Mathlib.Omega.{arith}
use Rattle.model.specs.Layout.{epoch_at}
use Rattle.model.specs.Container.{committed_epoch}
use Rattle.model.specs.Ops.{clwb}
use Rattle.model.specs.Checkpoint.{epoch_ops}
use Rattle.trace.proofs.EmitLaws.{fits_first, fits_then, emitted_then}
use Rattle.checkpoint.proofs.put_epoch.Goals as goal

pub store-requires : goal.store-requires
unfolding epoch_ops
store-requires c =
    let w : c.word_at-epoch.result + 1 ≡ suc (committed_epoch c.args.image.now) = omega (arith, c.word_at-epoch.ensures) in
    rw w (fits_first (clwb epoch_at ∷ []) c.requires.fits)

pub clwb-requires : goal.clwb-requires
unfolding epoch_ops
clwb-requires c =
    let w : c.word_at-epoch.result + 1 ≡ suc (committed_epoch c.args.image.now) = omega (arith, c.word_at-epoch.ensures) in
    fits_then c.requires.fits (rw w at c.store.ensures)

pub returns : goal.returns
unfolding epoch_ops
returns c =
    let w : c.word_at-epoch.result + 1 ≡ suc (committed_epoch c.args.image.now) = omega (arith, c.word_at-epoch.ensures) in
    emitted_then (rw w at c.store.ensures) c.clwb.ensures
