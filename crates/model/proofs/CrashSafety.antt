-- DEMAND 3, proved: `crash_safety : CrashSafety` (specs/CrashSafety.antt). Every call of a history meets `Argument`, so what
-- stands keeps standing, and a crash at any moment leaves what recovers to a permitted page; openings keep that, cut or not. The module
-- comes in where it says that its crash images are among those of kind 0. Its instances are in proofs/Domains.antt.
use Prim.Native.Nat.{ℕ}
use mathlib.Core.Path.{◌≡◌, refl}
use mathlib.Core.List.{List, [], ◌∷◌}
use Rattle.model.specs.declared.Layout.{Layout}
use Rattle.model.specs.Words.{Image, Bytes}
use Rattle.model.specs.Outcome.{Lent}
use Rattle.model.specs.Open.{open_status}
use Rattle.model.specs.Crash.{CrashImage}
use Rattle.model.specs.Reference.{CallArgs, open_args, write_args, discard_args, checkpoint_args}
use Rattle.model.specs.History.{Call, State, step, run, start, PermittedArgs, Permitted, AllPermitted}
use Rattle.model.specs.CrashSafety.{Moment, between, during, PermittedAt, adr_played_at, CrashSafety}
use Rattle.model.proofs.Argument.Pages.{contents_of}
use Rattle.model.proofs.Argument.Stands.{Stands, Leaves, Argument, rest_crash}
use Rattle.model.proofs.Argument.OpenCall.{open_argument}
use Rattle.model.proofs.Argument.WriteCall.{write_argument}
use Rattle.model.proofs.Argument.DiscardCall.{discard_argument}
use Rattle.model.proofs.Argument.CheckpointCall.{checkpoint_argument}
use Rattle.model.proofs.Argument.Openings.{domain_known, openings_keep, recovers, start_stands}

-- EVERY CALL meets its argument
pub argument : (s : State) → Stands s → (c : Call) → Permitted c → Argument s c
argument s st c = go c.args
  where
    go : (a : CallArgs) → PermittedArgs a → Argument s (record { args = a; lends = c.lends })
    go (open_args k d) h = open_argument s st k d c.lends
    go (write_args w) h = write_argument s st w c.lends h
    go (discard_args i) h = discard_argument s st i c.lends
    go checkpoint_args h = checkpoint_argument s st c.lends

pub run_stands : (s : State) (cs : List Call) → Stands s → AllPermitted cs → Stands (run s cs)
unfolding run
run_stands s [] st permitted = st
run_stands s (c ∷ cs) st permitted = run_stands (step s c) cs (argument s st c permitted.0).stands permitted.1

pub history_stands : (l : Layout) (d : ℕ) (I : Image) (t : Lent) → Bytes I → open_status l d I t ≡ 0 → (cs : List Call) → AllPermitted cs → Stands (run (start l d I t) cs)
history_stands l d I t b h cs permitted = run_stands (start l d I t) cs (start_stands l d I t b h) permitted

-- A CRASH at any moment, of kind 0
pub crash_leaves : (k : ℕ) (s : State) → Stands s → (m : Moment) → PermittedAt k s.device m → (H : Image)
    → CrashImage s.device.durable (adr_played_at s.device m) H → Leaves s m H
crash_leaves k s st between permitted H c = (s.model.checkpoint, refl, st.whole_checkpoint, rest_crash s st H c)
crash_leaves k s st (during d p) permitted H c = (argument s st d permitted.0).crash p H permitted.2 c

-- DEMAND 3
pub crash_safety : CrashSafety
crash_safety M within l I t b h cs permitted own m pm H c H' openings t' ne =
    let d : ℕ = M.domain in
    let s : State = run (start l d I t) cs in
    let x = crash_leaves d s (history_stands l d I t b h cs permitted) m pm H (within.history l I t b h cs permitted own m pm H c) in
    let known = domain_known l d I t h in
    let r = openings_keep M within known (contents_of s.device.layout x.0) x.3 openings in
    (x.0, x.1, recovers s.device.layout d H' t' x.0 known x.2 r ne, r.fit.bytes)
