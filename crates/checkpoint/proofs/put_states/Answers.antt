use mathlib.Core.Path.{◌≡◌, sym}
use native.Mathlib.Omega.{arith}
use Rattle.model.specs.Layout.{line_words}
use Rattle.model.specs.Ops.{stores}
use Rattle.trace.proofs.EmitLaws.{fits_as, fits_first, fits_then, fits_each, emitted_as, emitted_none, emitted_each, emitted_then}
use Rattle.checkpoint.proofs.StateLaws.{states_written}
use Rattle.checkpoint.proofs.put_states.Goals as goal

pub loop-k-init : goal.loop-k-init
unfolding stores
loop-k-init c = emitted_none _

pub store-requires : goal.store-requires
unfolding stores
store-requires c =
    let f = fits_as (sym (states_written c.args.image.now c.args.segments _ _ c.active_at-from.ensures.0 c.inactive_at-to.ensures.0)) c.requires.fits in
    rw c.next_word-word.ensures (fits_each c.loop-k.k line_words _ (omega arith) (fits_first _ f) c.loop-k.invariant)

pub loop-k-preserved : goal.loop-k-preserved
unfolding stores
loop-k-preserved c = emitted_each c.loop-k.k _ c.loop-k.invariant (rw c.next_word-word.ensures at c.store.ensures)

pub clwb-requires : goal.clwb-requires
clwb-requires c =
    let e : c.loop-k.k ≡ line_words = omega arith in
    fits_then (fits_as (sym (states_written c.args.image.now c.args.segments _ _ c.active_at-from.ensures.0 c.inactive_at-to.ensures.0)) c.requires.fits) (rw e at c.loop-k.invariant)

pub returns : goal.returns
returns c =
    let e : c.loop-k.k ≡ line_words = omega arith in
    emitted_as (emitted_then (rw e at c.loop-k.invariant) c.clwb.ensures) (states_written c.args.image.now c.args.segments _ _ c.active_at-from.ensures.0 c.inactive_at-to.ensures.0)
