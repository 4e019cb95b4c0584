-- Opening, which recovers (SPECIFICATION 9). Assumes nothing.
use Rattle.std.specs.Prelude.{ℕ, Bool, true, false, [], ◌∷◌, ◌++◌}
use Rattle.model.specs.declared.Layout.{Layout}
use Rattle.model.specs.declared.Action.{Action}
use Rattle.model.specs.declared.Action.TheVariants.{Nothing, ZeroMain, CopyToBackup, CopyToMain}
use Rattle.model.specs.Range.{cat}
use Rattle.model.specs.Words.{Image}
use Rattle.model.specs.Layout.{main_at, backup_at}
use Rattle.model.specs.Status.{Errors, first_error}
use Rattle.model.specs.Container.{active_line, seg_state, backup_to_main, is_paired, paired_backup, by_state, container_errors}
use Rattle.model.specs.Session.{fresh_session, zero_session, domain_errors}
use Rattle.model.specs.Ops.{sfence, Ops, trace_errors, for_domain, copy_segment, zero_segment}
use Rattle.model.specs.Clients.{clients_errors, cleared}
use Rattle.model.specs.Outcome.{Lent, Outcome, outcome_of}

-- the opening table, by state and whether the main segment is paired; the two cells that cannot be do nothing
unfoldable pub recovery_action : ℕ → Bool → Action
recovery_action st true = by_state st Nothing CopyToBackup CopyToMain
recovery_action st false = by_state st ZeroMain Nothing Nothing

-- an action on main segment i and backup segment j
unfoldable pub action_ops : Layout → Image → ℕ → ℕ → Action → Ops
action_ops l I i j Nothing = []
action_ops l I i j ZeroMain = zero_segment l (main_at l i)
action_ops l I i j CopyToBackup = copy_segment l I (main_at l i) (backup_at l j)
action_ops l I i j CopyToMain = copy_segment l I (backup_at l j) (main_at l i)

-- what recovery does about main segment i, by a line of states
unfoldable pub recover_segment : Layout → Image → ℕ → ℕ → Ops
recover_segment l I line i =
    action_ops l I i (paired_backup l (backup_to_main I) i) (recovery_action (seg_state I line i) (is_paired l (backup_to_main I) i))

-- the main segments upward, then one fence
unfoldable pub recovery_ops : Layout → Image → ℕ → Ops
recovery_ops l I line = cat l.mains (recover_segment l I line) ++ sfence ∷ []

-- it is given the sizes and the kind d of module: 1 to 4, 5, 13 and 11
abbrev pub open_errors : Layout → ℕ → Image → Lent → Errors
open_errors l d I k =
    container_errors l I ++ domain_errors d ++ clients_errors l k.clients ++ trace_errors (for_domain d (recovery_ops l I (active_line I))) k.trace

unfoldable pub open_status : Layout → ℕ → Image → Lent → ℕ
open_status l d I k = first_error (open_errors l d I k)

-- served, it sets what the clients have taken to 0
unfoldable pub open_outcome : Layout → ℕ → Image → Lent → Outcome
open_outcome l d I k =
    outcome_of (open_status l d I k) zero_session (fresh_session l d) k.clients (cleared k.clients) d (recovery_ops l I (active_line I))
