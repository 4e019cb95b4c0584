use Prim.Native.Nat.{◌+◌}
use mathlib.Core.List.{[], ◌∷◌}
use Rattle.model.specs.Layout.{pairs_at}
use Rattle.model.specs.Ops.{store_byte}
use Rattle.model.specs.Write.{pair_ops}
use Rattle.trace.specs.Emit.{Fits}
use Rattle.trace.proofs.EmitLaws.{fits_first, fits_then, emitted_then}
use Rattle.copy.proofs.put_pair.Goals as goal

pub put_byte-requires-clause-fits : goal.put_byte-requires-clause-fits
unfolding pair_ops
put_byte-requires-clause-fits c =
    let a = c.args in
    let room : Fits a.out.now (store_byte a.image.now (pairs_at + a.backup) a.main ∷ []) = fits_first _ c.requires.fits in
    room

pub clwb-requires : goal.clwb-requires
unfolding pair_ops
clwb-requires c = fits_then c.requires.fits c.put_byte.ensures

pub returns : goal.returns
unfolding pair_ops
returns c = emitted_then c.put_byte.ensures c.clwb.ensures
