-- Recovery by a line of states, of which an opening is the instance by the active line. Assumes nothing.
use Rattle.std.specs.Prelude.{ℕ, ◌+◌, ◌≤◌, ◌<◌, ◌≡◌, Bool, true, false, ◌++◌, length}
use Rattle.model.specs.declared.Layout.{Layout}
use Rattle.model.specs.declared.Action.{Action}
use Rattle.model.specs.declared.Action.TheVariants.{Nothing, ZeroMain, CopyToBackup, CopyToMain}
use Rattle.model.specs.Words.{Image}
use Rattle.model.specs.Layout.{most, SizesOk, image_size}
use Rattle.model.specs.Status.{Errors, first_error}
use Rattle.model.specs.Container.{seg_state, backup_to_main, Valid, is_paired, valid_errors}
use Rattle.model.specs.Session.{is_dirty, fresh_session, zero_session, domain_errors}
use Rattle.model.specs.Ops.{for_domain, trace_errors}
use Rattle.model.specs.Clients.{clients_errors, cleared}
use Rattle.model.specs.Open.{recovery_ops}
use Rattle.model.specs.Outcome.{Lent, Outcome, outcome_of}

-- what recovery goes by: an image of the layout's size, and a line of states that is valid with the pairs
pub record ValidBy (l : Layout) (I : Image) (line : ℕ) : Type 0 where
  pub sizes : SizesOk l
  pub long : length I ≡ image_size l
  pub inside : line + most ≤ length I
  pub valid : Valid l (seg_state I line) (backup_to_main I)

-- the paired main segments, as bits of a number
abbrev pub PairedSet : Layout → Image → ℕ → Type 0
PairedSet l I set = (i : ℕ) → i < l.mains → is_dirty set i ≡ is_paired l (backup_to_main I) i

-- an action that reads or writes the backup segment
abbrev pub takes_backup : Action → Bool
takes_backup Nothing = false
takes_backup ZeroMain = false
takes_backup CopyToBackup = true
takes_backup CopyToMain = true

-- ---- refusals and outcome of recovery, for a kind d of module, of an image that refusals 1 to 3 let pass

abbrev pub recovery_errors : Layout → ℕ → Image → ℕ → Lent → Errors
recovery_errors l d I line k =
    valid_errors l I line ++ domain_errors d ++ clients_errors l k.clients ++ trace_errors (for_domain d (recovery_ops l I line)) k.trace

unfoldable pub recovery_outcome : Layout → ℕ → Image → ℕ → Lent → Outcome
recovery_outcome l d I line k =
    outcome_of (first_error (recovery_errors l d I line k)) zero_session (fresh_session l d) k.clients (cleared k.clients) d (recovery_ops l I line)
