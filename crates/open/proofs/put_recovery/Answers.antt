use mathlib.Core.Path.{◌≡◌, refl, sym, ◌∙◌}
use native.Mathlib.Omega.{arith}
use Rattle.model.specs.Open.{recovery_ops}
use Rattle.trace.proofs.EmitLaws.{emitted_none, emitted_each, emitted_then, fits_first, fits_then, fits_each}
use Rattle.open.proofs.put_recovery.Goals as goal

pub loop-i-init : goal.loop-i-init
loop-i-init c = emitted_none _

pub put_segment-requires-clause-fits : goal.put_segment-requires-clause-fits
unfolding recovery_ops
put_segment-requires-clause-fits c =
    let l = c.loop-i in
    fits_each l.i _ _ (omega arith) (fits_first _ (record { room = c.requires.fits.room })) l.invariant

pub loop-i-preserved : goal.loop-i-preserved
loop-i-preserved c = emitted_each c.loop-i.i _ c.loop-i.invariant c.put_segment.ensures

pub sfence-requires : goal.sfence-requires
unfolding recovery_ops
sfence-requires c =
    let e : c.loop-i.i ≡ c.args.layout.mains = omega arith in
    fits_then (record { room = c.requires.fits.room }) (rw e at c.loop-i.invariant)

pub returns : goal.returns
unfolding recovery_ops
returns c =
    let e : c.loop-i.i ≡ c.args.layout.mains = omega arith in
    let p = emitted_then (rw e at c.loop-i.invariant) c.sfence.ensures in
    record { same = refl; kind = refl; stands = c.out-1.given.1 (sym p.same) ∙ p.stands; next = p.next }
