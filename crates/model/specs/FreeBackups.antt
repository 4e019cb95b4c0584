-- How many backup segments are in use, and when a write is refused with 9 (SPECIFICATION 11.5): a checkpoint frees every backup
-- segment, also that of a main segment which an opening restored and nobody wrote. The statements about one image are proved in
-- proofs/Laws/FreeBackups.antt, those about histories in proofs/FreeBackups.antt. Assumes nothing.
use Rattle.std.specs.Prelude.{ℕ, ◌+◌, ◌<◌, ◌≡◌, ◌↔◌, ◌≢◌, Bool, true, false, not, ◌&&◌, List, [], ◌∷◌, eqb}
use Rattle.model.specs.declared.Layout.{Layout}
use Rattle.model.specs.declared.Session.{Session}
use Rattle.model.specs.Range.{sum_to, one_if}
use Rattle.model.specs.Words.{Image, Bytes}
use Rattle.model.specs.Layout.{ss_backup, SizesOk}
use Rattle.model.specs.Status.{first_error, served}
use Rattle.model.specs.Container.{active_state, backup_to_main, Valid, Free, is_free, free_backups}
use Rattle.model.specs.Outcome.{Lent}
use Rattle.model.specs.Open.{open_status}
use Rattle.model.specs.Write.{WriteArgs, needs_copy, early_errors, write_status}
use Rattle.model.specs.Reference.{CallArgs, open_args, write_args, discard_args, checkpoint_args}
use Rattle.model.specs.History.{Call, call_write, call_checkpoint, Device, State, outcome, step, run, start, AllPermitted}
use Rattle.model.specs.CrashSafety.{InEveryHistory}
use Rattle.model.specs.EpochCounts.{checkpoints}

-- ---- one image

-- how many main segments have their checkpoint in a backup segment, by the states st (the trade: levels in state 2)
unfoldable pub mains_in_backup : Layout → (ℕ → ℕ) → ℕ
mains_in_backup l st = sum_to l.mains (λ i. one_if (eqb (st i) ss_backup))

-- how many backup segments are in use
unfoldable pub backups_in_use : Layout → (ℕ → ℕ) → (ℕ → ℕ) → ℕ
backups_in_use l st pr = sum_to l.backups (λ j. one_if (not (is_free st pr j)))

-- in valid metadata as many backup segments are in use as main segments are in state 2, and all others are free
abbrev pub InUseCounted : Type 0
InUseCounted =
    (l : Layout) (st pr : ℕ → ℕ) → SizesOk l → Valid l st pr
    → (backups_in_use l st pr ≡ mains_in_backup l st) × (free_backups l st pr + mains_in_backup l st ≡ l.backups)

-- a write is refused with 9 exactly if no number that comes before applies, it must copy its main segment first, and as many main
-- segments are in state 2 as there are backup segments: its own then has no backup segment either
abbrev pub NineExactly : Type 0
NineExactly =
    (s : Session) (I : Image) (w : WriteArgs) (k : Lent)
    → (write_status s I w k ≡ 9)
    ↔ ((first_error (early_errors s I k.clients w) ≡ 0) × (needs_copy s I w.main ≡ true) × (mains_in_backup s.layout (active_state I) ≡ s.layout.backups))

-- ---- a history

-- main segments in state 2, and backup segments in use, where a module stands
abbrev pub in_backup : Device → ℕ
in_backup d = mains_in_backup d.layout (active_state d.image)

abbrev pub in_use : Device → ℕ
in_use d = backups_in_use d.layout (active_state d.image) (backup_to_main d.image)

-- no write is refused with 9 there
abbrev pub NoNine : Device → Type 0
NoNine d = (w : WriteArgs) (k : Lent) → (outcome d (call_write w k)).status ≢ 9

-- after a served checkpoint no main segment is in state 2 and every backup segment is free, so no write is refused with 9
abbrev pub Frees : Device → Type 0
Frees d = (in_backup d ≡ 0) × ((j : ℕ) → j < d.layout.backups → Free d.layout (active_state d.image) (backup_to_main d.image) j) × NoNine d

abbrev pub CheckpointFrees : Type 0
CheckpointFrees = InEveryHistory (λ s.
    (k : Lent) → (outcome s.device (call_checkpoint k)).status ≡ 0 → Frees (step s (call_checkpoint k)).device)

-- 9 is given only where as many main segments are in state 2 as there are backup segments
abbrev pub NineOnlyFull : Type 0
NineOnlyFull = InEveryHistory (λ s.
    (w : WriteArgs) (k : Lent) → (outcome s.device (call_write w k)).status ≡ 9 → in_backup s.device ≡ s.device.layout.backups)

-- a call is a copying write: it must copy its main segment first
abbrev pub is_copying : Session → Image → CallArgs → Bool
is_copying s I (open_args l d) = false
is_copying s I (write_args w) = needs_copy s I w.main
is_copying s I (discard_args i) = false
is_copying s I checkpoint_args = false

-- the copying writes that a list of calls serves
unfoldable pub copying_writes : State → List Call → ℕ
copying_writes s [] = 0
copying_writes s (c ∷ cs) =
    one_if (is_copying s.device.session s.device.image c.args && served (outcome s.device c).status) + copying_writes (step s c) cs

-- P holds where a module stands, and of a number n, after any calls of which none is a served checkpoint: from the opening that a
-- history starts with, n being the main segments in state 2 that it found and the copying writes served since; and from a served
-- checkpoint of any history, n being the copying writes served since
abbrev pub SinceOpening : (Device → ℕ → Type 0) → Type 0
SinceOpening P =
    (l : Layout) (d : ℕ) (I : Image) (k : Lent) → Bytes I → open_status l d I k ≡ 0
    → (cs : List Call) → AllPermitted cs → checkpoints (start l d I k) cs ≡ 0
    → P (run (start l d I k) cs).device (mains_in_backup l (active_state I) + copying_writes (start l d I k) cs)

abbrev pub SinceCheckpoint : (Device → ℕ → Type 0) → Type 0
SinceCheckpoint P = InEveryHistory (λ s.
    (k : Lent) → (outcome s.device (call_checkpoint k)).status ≡ 0
    → (cs : List Call) → AllPermitted cs → checkpoints (step s (call_checkpoint k)) cs ≡ 0
    → P (run (step s (call_checkpoint k)) cs).device (copying_writes (step s (call_checkpoint k)) cs))

-- n main segments are in state 2, and n backup segments in use: neither an opening nor a refused call changes that
abbrev pub Counted : Device → ℕ → Type 0
Counted d n = (in_backup d ≡ n) × (in_use d ≡ n)

abbrev pub CopiesCounted : Type 0
CopiesCounted = SinceOpening Counted × SinceCheckpoint Counted

-- as long as n is below the number of backup segments, no write is refused with 9: the first S copying writes after a checkpoint are
-- not
abbrev pub NotYet : Device → ℕ → Type 0
NotYet d n = n < d.layout.backups → NoNine d

abbrev pub NoneRefusedYet : Type 0
NoneRefusedYet = SinceOpening NotYet × SinceCheckpoint NotYet
