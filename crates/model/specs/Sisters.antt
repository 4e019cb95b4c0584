-- Demand 2 over a whole history (`ReadsFollowModel`); that the same calls on the same board leave the same tape and the same bytes
-- (`SameBoard`); and sisters of demand 3: replay serves every trace that a call writes, a finished opening leaves nothing open, openings
-- alone are safe. Proved in proofs/Sisters.antt, `ReplayServesAll` in proofs/Laws/Replay.antt. Assumes what specs/Crash.antt does of the
-- hardware, where a crash is spoken of.
use Rattle.std.specs.Prelude.{ℕ, ◌%◌, ◌≡◌, ◌≢◌, ◌⊎◌, List, [], ◌∷◌, length, take}
use Rattle.model.specs.declared.Layout.{Layout}
use Rattle.model.specs.Words.{Image, Bytes}
use Rattle.model.specs.Layout.{line_size}
use Rattle.model.specs.Container.{active_line, checkpoint_bytes}
use Rattle.model.specs.Outcome.{Lent}
use Rattle.model.specs.Replay.{replay_outcome}
use Rattle.model.specs.Open.{recovery_ops, open_status, open_outcome}
use Rattle.model.specs.Crash.{CrashImage}
use Rattle.model.specs.History.{Call, Device, State, outcome, reported, called_ops, step, run, opened_image, start}
use Rattle.model.specs.CrashSafety.{Reads, Recovers, InEveryHistory, Module, Enough, CutOpenings, WithinAdr}

-- demand 2: after every call of a history the two reads give the two pages of the reference model
abbrev pub ReadsFollowModel : Type 0
ReadsFollowModel = InEveryHistory (λ s. Reads s.device.layout s.device.image s.model.working s.model.checkpoint)

-- the same arguments and records, whatever stands on the two traces: these have the same length, or neither is too short
abbrev pub SameCall : Device → Call → Call → Type 0
SameCall d b c =
    (b.args ≡ c.args) × (b.lends.clients ≡ c.lends.clients)
    × ((length b.lends.trace ≡ length c.lends.trace) ⊎ (((outcome d b).status ≢ 11) × ((outcome d c).status ≢ 11)))

-- call after call, from the state s on
abbrev pub SameCalls : State → List Call → List Call → Type 0
SameCalls s [] [] = Unit {0}
SameCalls s [] (c ∷ cs) = ⊥
SameCalls s (b ∷ bs) [] = ⊥
SameCalls s (b ∷ bs) (c ∷ cs) = SameCall s.device b c × SameCalls (step s b) bs cs

-- same board, same tape (SPECIFICATION 3.4)
pub record SameBoard : Type 0 where
  -- wherever a module stands, the same call answers the same and reports the same part of the trace
  pub calls : (d : Device) (b c : Call) → SameCall d b c
      → (outcome d b ≡ outcome d c) × (reported (outcome d b).ops b.lends.trace ≡ reported (outcome d c).ops c.lends.trace)
  -- two histories that start with the same opening of the same image, and have the same calls, stand at the same place after them: image,
  -- session, all operations played, and model
  pub histories : (l : Layout) (d : ℕ) (I : Image) (k m : Lent)
      → k.clients ≡ m.clients → (length k.trace ≡ length m.trace) ⊎ ((open_status l d I k ≢ 11) × (open_status l d I m ≢ 11))
      → (bs cs : List Call) → SameCalls (start l d I k) bs cs → run (start l d I k) bs ≡ run (start l d I m) cs

-- every operation that a call writes is well formed, whatever the image and the session: replay serves the reported part
-- and plays all of it, or the first p where it is stopped there; so it is for openings before, in and after a history
abbrev pub ReplayServesAll : Type 0
ReplayServesAll =
    (d : Device) (c : Call) → length d.image % line_size ≡ 0 → (p : ℕ)
    → ((replay_outcome d.image (reported (outcome d c).ops c.lends.trace) p).status ≡ 0)
    × (called_ops d c p ≡ take p (outcome d c).ops)

-- of an image that was durable, a finished opening leaves one crash image only, so that what a history starts with is durable: on every
-- module whose crash images are among those of kind 0 it is the opened one, which one of kind 0 may leave
abbrev pub OpeningSettles : Type 1
OpeningSettles =
    (M : Module) → WithinAdr M → (l : Layout) (I : Image) (k : Lent) → Bytes I → open_status l M.domain I k ≡ 0
    → CrashImage I (recovery_ops l I (active_line I)) (opened_image l M.domain I k)
    × ((H : Image) → M.leaves I (open_outcome l M.domain I k).ops H → H ≡ opened_image l M.domain I k)

-- openings alone: any image that is accepted, cut in any number of openings, shows its checkpoint
abbrev pub OpeningSafety : Type 1
OpeningSafety =
    (M : Module) → WithinAdr M → (l : Layout) (I : Image) (k : Lent) → Bytes I → open_status l M.domain I k ≡ 0
    → (H : Image) → CutOpenings M l I H
    → (m : Lent) → Enough l M.domain H m → Recovers l M.domain H m (checkpoint_bytes l I (active_line I)) × Bytes H
