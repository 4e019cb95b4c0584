-- What the kind of module changes and what it does not (SPECIFICATION 5.8, 6.10 and 7.6), beside demand 3 for any module
-- (specs/CrashSafety.antt): the traces of kind 0 for the same calls, the page that kind 1 shows, and a module of kind 1 that is opened as
-- kind 0. What happens the other way round is computed in crate `faults` (specs/WrongKind.antt). Proved in proofs/Domains.antt and
-- proofs/Laws/Domain.antt. Assumes what specs/Crash.antt does of the hardware, where a crash is spoken of.
use Rattle.std.specs.Prelude.{ℕ, ◌+◌, ◌*◌, ◌≤◌, ◌≡◌, ◌↔◌, ◌≢◌, ◌⊎◌, true, List, [], ◌∷◌, ◌++◌, length, take}
use Rattle.model.specs.declared.Layout.{Layout}
use Rattle.model.specs.declared.Session.{Session}
use Rattle.model.specs.declared.Plan.TheVariants.{NoCopy, OwnBackup, NewBackup}
use Rattle.model.specs.Words.{Image, Bytes}
use Rattle.model.specs.Session.{adr, eadr, dirty_segment, dirty_word}
use Rattle.model.specs.Ops.{store, clwb, sfence, Ops, Trace, op_numbers, for_domain, first_part}
use Rattle.model.specs.Container.{active_line}
use Rattle.model.specs.Outcome.{Lent, lent, Outcome}
use Rattle.model.specs.Open.{recovery_ops, open_status}
use Rattle.model.specs.Write.{WriteArgs, copy_plan, span_at, span_words, write_ops}
use Rattle.model.specs.Discard.{discard_ops}
use Rattle.model.specs.Checkpoint.{checkpoint_ops, checkpoint_status}
use Rattle.model.specs.Counts.{treated, dirty_count}
use Rattle.model.specs.Crash.{CrashImage, Held}
use Rattle.model.specs.Reference.{Page, CallArgs, open_args, write_args, discard_args, checkpoint_args}
use Rattle.model.specs.History.{Call, Device, State, call_checkpoint, answers, outcome, domain_of, rule_ops, step, run, start, AllPermitted}
use Rattle.model.specs.CrashSafety.{Recovers, Moment, between, during, PermittedAt, played_at, Window, InEveryHistoryOf, Enough, CutOpenings, CrashSafetyFor, eadr_module}

-- ---- the traces of kind 0 for the same calls

-- the session and the arguments of a call with another kind of module
abbrev pub with_domain : ℕ → Session → Session
with_domain d s = record { layout = s.layout; dirty_segments = s.dirty_segments; dirty_blocks = s.dirty_blocks; domain = d }

abbrev pub args_with : ℕ → CallArgs → CallArgs
args_with d (open_args l k) = open_args l d
args_with d (write_args w) = write_args w
args_with d (discard_args i) = discard_args i
args_with d checkpoint_args = checkpoint_args

-- on any image, with any session and arguments, of a call that is served
pub record AdrTraces : Type 0 where
  -- its trace has those of its rule's operations that are for its kind
  pub filtered : (s : Session) (I : Image) (a : CallArgs) (k : Lent) → (answers s I a k).status ≡ 0
      → (answers s I a k).ops ≡ for_domain (domain_of s a) (rule_ops s I a)
  -- with kind 0 and a trace that is long enough the same call is served too, its trace has them all, and it answers the same session but
  -- for the kind, and the same records
  pub whole : (s : Session) (I : Image) (a : CallArgs) (k : Lent) → (answers s I a k).status ≡ 0
      → (t : Trace) → op_numbers * length (rule_ops s I a) ≤ length t
      → let o : Outcome = answers (with_domain adr s) I (args_with adr a) (lent k.clients t) in
      (o.status ≡ 0) × (o.ops ≡ rule_ops s I a)
      × (o.session ≡ with_domain adr (answers s I a k).session) × (o.clients ≡ (answers s I a k).clients)

-- two lists of calls, the first from the state s on: the second has the served ones of the first, with kind 0, the same records and traces
-- that are long enough for it
pub data Beside : State → List Call → List Call → Type 0 where
  done : {s : State} → Beside s [] []
  serves : {s : State} {c c' : Call} {cs cs' : List Call} → (outcome s.device c).status ≡ 0
      → c'.args ≡ args_with adr c.args → c'.lends.clients ≡ c.lends.clients
      → op_numbers * length (rule_ops s.device.session s.device.image c.args) ≤ length c'.lends.trace
      → Beside (step s c) cs cs' → Beside s (c ∷ cs) (c' ∷ cs')
  refuses : {s : State} {c : Call} {cs cs' : List Call} → (outcome s.device c).status ≢ 0 → Beside (step s c) cs cs' → Beside s (c ∷ cs) cs'

-- of any history, with any kinds: the history of kind 0 with the same served calls leaves the same image and the same pages, and what it
-- plays is what is called here the same operations with the flushes put in
abbrev pub AdrHistories : Type 0
AdrHistories =
    (l : Layout) (d : ℕ) (I : Image) (k k' : Lent) → Bytes I → open_status l d I k ≡ 0
    → k'.clients ≡ k.clients → op_numbers * length (recovery_ops l I (active_line I)) ≤ length k'.trace
    → (cs : List Call) → AllPermitted cs → (cs' : List Call) → Beside (start l d I k) cs cs'
    → let s : State = run (start l d I k) cs in
    let s' : State = run (start l adr I k') cs' in
    (s'.device.image ≡ s.device.image) × (s'.device.played ≡ s.device.adr_played) × (s'.model ≡ s.model)

-- the first p operations of a trace are those of a first part of the rule's operations, and no shorter part has p of them
abbrev pub FirstPart : Type 0
FirstPart =
    (d p : ℕ) (O : Ops) → (for_domain d (first_part d p O) ≡ take p (for_domain d O))
    × ((n : ℕ) × (n ≤ length O) × (first_part d p O ≡ take n O)
    × ((m : ℕ) → p ≤ length (for_domain d (take m O)) → length (first_part d p O) ≤ length (take m O)))

-- how many operations a trace has for kind 1 (SPECIFICATION 6.10): those of kind 0 without the flushes. A block that is copied or zeroed is
-- 32; t main segments are treated, m blocks are dirty, and the span of a write meets w words
pub record EadrCounts : Type 0 where
  -- an opening: 32·B·t + 1
  pub opening : (l : Layout) (I : Image) (line : ℕ) → length (for_domain eadr (recovery_ops l I line)) ≡ 32 * l.blocks * treated l I line + 1
  -- a write that copies to a new backup segment: 32·B + 4 + w; to its own: 32·m + 3 + w; one that copies nothing: w
  pub new_backup : (s : Session) (I : Image) (w : WriteArgs) (j : ℕ) → copy_plan s I w.main ≡ NewBackup j
      → length (for_domain eadr (write_ops s I w)) ≡ 32 * s.layout.blocks + 4 + span_words (span_at s.layout w) (length w.bytes)
  pub own_backup : (s : Session) (I : Image) (w : WriteArgs) (j : ℕ) → copy_plan s I w.main ≡ OwnBackup j
      → length (for_domain eadr (write_ops s I w))
      ≡ 32 * dirty_count (dirty_word s w.main) s.layout.blocks + 3 + span_words (span_at s.layout w) (length w.bytes)
  pub no_copy : (s : Session) (I : Image) (w : WriteArgs) → copy_plan s I w.main ≡ NoCopy
      → length (for_domain eadr (write_ops s I w)) ≡ span_words (span_at s.layout w) (length w.bytes)
  -- a discard of a dirty main segment: 32·m
  pub discard : (s : Session) (I : Image) (i : ℕ) → dirty_segment s i ≡ true
      → length (for_domain eadr (discard_ops s I i)) ≡ 32 * dirty_count (dirty_word s i) s.layout.blocks
  -- a checkpoint: 12
  pub checkpoint : (s : Session) (I : Image) → length (for_domain eadr (checkpoint_ops s I)) ≡ 12

-- only write-backs
abbrev pub OnlyClwbs : Ops → Type 0
OnlyClwbs [] = Unit {0}
OnlyClwbs (store p w ∷ O) = ⊥
OnlyClwbs (clwb p ∷ O) = OnlyClwbs O
OnlyClwbs (sfence ∷ O) = ⊥

-- write-backs that no fence has followed yet allow the same crash images
abbrev pub FlushesWait : Type 0
FlushesWait = (I : Image) (W F : Ops) → OnlyClwbs F → (H : Image) → CrashImage I (W ++ F) H ↔ CrashImage I W H

-- so nothing hangs on the shortest part: any first part of the rule's operations of which the trace has the same p allows the same
abbrev pub AnyFirstPart : Type 0
AnyFirstPart =
    (d p n : ℕ) (O : Ops) → p ≤ length (for_domain d O) → for_domain d (take n O) ≡ take p (for_domain d O)
    → (I : Image) (W : Ops) (H : Image) → CrashImage I (W ++ take n O) H ↔ CrashImage I (W ++ first_part d p O) H

-- ---- the page that kind 1 shows

-- a checkpoint has 12 operations there; its window is one moment, after the epoch store and before the last fence
abbrev pub EadrWindow : Type 0
EadrWindow =
    (d : Device) (k : Lent) (p : ℕ) → d.session.domain ≡ eadr → checkpoint_status d.session d.image k ≡ 0
    → Window d (call_checkpoint k) p ↔ (p ≡ 11)

-- the one page that is shown after a crash at a moment: in the window the new one, and else the last completed checkpoint
abbrev pub Shown : State → Moment → Page → Type 0
Shown s between Q = Q ≡ s.model.checkpoint
Shown s (during c p) Q =
    (Window s.device c p × (Q ≡ s.model.working)) ⊎ ((Window s.device c p → ⊥) × (Q ≡ s.model.checkpoint))

-- demand 3 for kind 1, with that page
abbrev pub EadrShows : Type 0
EadrShows = InEveryHistoryOf eadr (λ s.
    (m : Moment) → PermittedAt eadr s.device m
    → (H : Image) → Held s.device.durable (played_at s.device m) H
    → (H' : Image) → CutOpenings eadr_module s.device.layout H H'
    → (k : Lent) → Enough s.device.layout eadr H' k
    → (Q : Page) × Shown s m Q × Recovers s.device.layout eadr H' k Q × Bytes H')

-- ---- in doubt, kind 0

-- a module that holds every store, opened as kind 0: its flushes are needless, and it is safe
abbrev pub InDoubtAdr : Type 0
InDoubtAdr = CrashSafetyFor (record { domain = adr; leaves = Held })
