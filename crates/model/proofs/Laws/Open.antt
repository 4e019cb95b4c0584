-- A refused opening answers the session of zeros, and that is refused with 1.
use Prim.Native.Nat.{ℕ}
use mathlib.Core.Path.{◌≡◌, refl}
use mathlib.Core.Logic.{◌≢◌}
use borrow.Author.Tests.{ne_eqb}
use Rattle.model.specs.declared.Layout.{Layout}
use Rattle.model.specs.Words.{Image}
use Rattle.model.specs.Layout.{in_range, sizes_ok}
use Rattle.model.specs.Status.{first_error}
use Rattle.model.specs.Session.{fresh_session, zero_session}
use Rattle.model.specs.Outcome.{Lent, outcome_of}
use Rattle.model.specs.Open.{open_status, open_outcome}
use Rattle.model.specs.Write.{WriteArgs, write_status}
use Rattle.model.specs.Discard.{discard_status}
use Rattle.model.specs.Checkpoint.{checkpoint_status}

pub refused_session : (l : Layout) (d : ℕ) (I : Image) (t : Lent) → open_status l d I t ≢ 0 → (open_outcome l d I t).session ≡ zero_session
unfolding open_outcome outcome_of
refused_session l d I t h = rw (ne_eqb _ _ h)

pub zero_write : (I : Image) (w : WriteArgs) (t : Lent) → write_status zero_session I w t ≡ 1
unfolding write_status zero_session fresh_session first_error sizes_ok in_range
zero_write I w t = refl

pub zero_discard : (I : Image) (i : ℕ) (t : Lent) → discard_status zero_session I i t ≡ 1
unfolding discard_status zero_session fresh_session first_error sizes_ok in_range
zero_discard I i t = refl

pub zero_checkpoint : (I : Image) (t : Lent) → checkpoint_status zero_session I t ≡ 1
unfolding checkpoint_status zero_session fresh_session first_error sizes_ok in_range
zero_checkpoint I t = refl
