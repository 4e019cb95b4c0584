-- What the calls of a history make of the segment states (SPECIFICATION 11.2, 11.6) and of the pairs (3.3, 10.7), and that a main segment
-- without a checkpoint stays empty until it is written. Proved in proofs/States.antt. Assumes nothing.
use Rattle.std.specs.Prelude.{ℕ, ◌+◌, ◌<◌, ◌≡◌, ◌≢◌, Bool, true, false, cond, ◌&&◌, List, [], ◌∷◌, eqb}
use Rattle.model.specs.declared.Layout.{Layout}
use Rattle.model.specs.declared.Session.{Session}
use Rattle.model.specs.Range.{one_if}
use Rattle.model.specs.Words.{Image, Bytes}
use Rattle.model.specs.Layout.{most, ss_initial, ss_backup}
use Rattle.model.specs.Status.{served}
use Rattle.model.specs.Container.{active_state, backup_to_main, new_backup}
use Rattle.model.specs.Session.{dirty_segment}
use Rattle.model.specs.Outcome.{Lent}
use Rattle.model.specs.Open.{open_status}
use Rattle.model.specs.Write.{WriteArgs, needs_copy, needs_backup}
use Rattle.model.specs.Checkpoint.{next_state}
use Rattle.model.specs.Reads.{checkpoint_block}
use Rattle.model.specs.Reference.{CallArgs, open_args, write_args, discard_args, checkpoint_args}
use Rattle.model.specs.History.{Call, call_write, Device, State, outcome, step, run, opened_image, Permitted, AllPermitted}
use Rattle.model.specs.CrashSafety.{InEveryHistory}
use Rattle.model.specs.NewBackup.{TakenNew}

-- the state of main segment i after a served call: an opening and a discard keep it, a write turns that of the segment which it copies to 2,
-- a checkpoint makes the next states
abbrev pub served_state : Session → Image → CallArgs → ℕ → ℕ
served_state s I (open_args l d) i = active_state I i
served_state s I (write_args w) i = cond (needs_copy s I w.main && eqb i w.main) ss_backup (active_state I i)
served_state s I (discard_args n) i = active_state I i
served_state s I checkpoint_args i = next_state (active_state I i) (dirty_segment s i)

-- and after any call: one that is refused keeps it
abbrev pub state_after : Device → Call → ℕ → ℕ
state_after d c i = cond (served (outcome d c).status) (served_state d.session d.image c.args i) (active_state d.image i)

-- the states of a history are these: the opening that it starts with keeps them, and each call makes them
pub record StatesFollow : Type 0 where
  pub opening : (l : Layout) (d : ℕ) (I : Image) (k : Lent) → Bytes I → open_status l d I k ≡ 0
      → (i : ℕ) → i < l.mains → active_state (opened_image l d I k) i ≡ active_state I i
  pub calls : InEveryHistory (λ s.
      (c : Call) → Permitted c → (i : ℕ) → i < s.device.layout.mains → active_state (step s c).device.image i ≡ state_after s.device c i)

-- ---- the pairs

-- the pair of backup segment j after a served call: a write that needs a new backup segment gives it its main segment, and nothing else
-- changes a pair
abbrev pub served_pair : Session → Image → CallArgs → ℕ → ℕ
served_pair s I (open_args l d) j = backup_to_main I j
served_pair s I (write_args w) j =
    cond (needs_backup s I w.main && eqb j (new_backup s.layout (active_state I) (backup_to_main I))) w.main (backup_to_main I j)
served_pair s I (discard_args n) j = backup_to_main I j
served_pair s I checkpoint_args j = backup_to_main I j

-- and after any call: one that is refused keeps it
abbrev pub pair_after : Device → Call → ℕ → ℕ
pair_after d c j = cond (served (outcome d c).status) (served_pair d.session d.image c.args j) (backup_to_main d.image j)

-- the pairs of a history are these
pub record PairsFollow : Type 0 where
  pub opening : (l : Layout) (d : ℕ) (I : Image) (k : Lent) → Bytes I → open_status l d I k ≡ 0
      → (j : ℕ) → j < most → backup_to_main (opened_image l d I k) j ≡ backup_to_main I j
  pub calls : InEveryHistory (λ s.
      (c : Call) → Permitted c → (j : ℕ) → j < most → backup_to_main (step s c).device.image j ≡ pair_after s.device c j)

-- a served write that needs a new backup segment and takes that of another main segment leaves this one without (its next copy is then a
-- whole one, by `WriteTakesNew`)
abbrev pub TakenUnpaired : Type 0
TakenUnpaired = InEveryHistory (λ s.
    let I : Image = s.device.image in
    (w : WriteArgs) (k : Lent) → Bytes w.bytes → (outcome s.device (call_write w k)).status ≡ 0
    → needs_backup s.device.session I w.main ≡ true
    → (j : ℕ) → TakenNew s.device.layout (active_state I) (backup_to_main I) j → backup_to_main I j < s.device.layout.mains
    → (n : ℕ) → n < s.device.layout.backups → backup_to_main (step s (call_write w k)).device.image n ≢ backup_to_main I j)

-- ---- empty stays empty

-- a call is a write to main segment i
abbrev pub is_write_to : ℕ → CallArgs → Bool
is_write_to i (open_args l d) = false
is_write_to i (write_args w) = eqb w.main i
is_write_to i (discard_args n) = false
is_write_to i checkpoint_args = false

-- the writes to main segment i that a list of calls serves
unfoldable pub writes_to : ℕ → State → List Call → ℕ
writes_to i s [] = 0
writes_to i s (c ∷ cs) = one_if (is_write_to i c.args && served (outcome s.device c).status) + writes_to i (step s c) cs

-- main segment i has no checkpoint and is not dirty
pub record Empty (d : Device) (i : ℕ) : Type 0 where
  pub state : active_state d.image i ≡ ss_initial
  pub clean : dirty_segment d.session i ≡ false

-- such a segment stays so until a write to it is served, and its checkpoint read gives nothing
abbrev pub EmptyStays : Type 0
EmptyStays = InEveryHistory (λ s.
    (i : ℕ) → i < s.device.layout.mains → Empty s.device i → (cs : List Call) → AllPermitted cs → writes_to i s cs ≡ 0
    → Empty (run s cs).device i × ((b : ℕ) → checkpoint_block s.device.layout (run s cs).device.image i b ≡ []))
