-- Main segments that are not dirty (SPECIFICATION 11.7): a crash can leave only what stands in them, although some of their blocks may be
-- marked as dirty from before the last checkpoint. A checkpoint flushes those blocks too; a shorter one, which does not, would allow no
-- further crash image. The rule stays as it is: nothing here is a call. Proved in proofs/CleanSegments.antt. Assumes what specs/Crash.antt
-- does of the hardware.
use Rattle.std.specs.Prelude.{ℕ, ◌+◌, ◌*◌, ◌≤◌, ◌<◌, ◌≡◌, ◌↔◌, ◌⊎◌, Bool, false, not, cond, ◌&&◌, List, [], ◌∷◌, ◌++◌, ltb, leb, length, take}
use Rattle.model.specs.declared.Layout.{Layout}
use Rattle.model.specs.declared.Session.{Session}
use Rattle.model.specs.Range.{cat, any_b, sum_to, one_if}
use Rattle.model.specs.Words.{Image, Bytes, byte_at}
use Rattle.model.specs.Layout.{block_size, block_lines, segment_size, main_at}
use Rattle.model.specs.Session.{adr, dirty_word, dirty_segment, dirty_block}
use Rattle.model.specs.Ops.{store, clwb, sfence, Ops, replay, clwbs, each_dirty}
use Rattle.model.specs.Outcome.{Lent}
use Rattle.model.specs.Open.{open_status}
use Rattle.model.specs.Checkpoint.{states_ops, epoch_ops, checkpoint_ops}
use Rattle.model.specs.Crash.{CrashImage}
use Rattle.model.specs.Reference.{Page, CallArgs, open_args, write_args, discard_args, checkpoint_args}
use Rattle.model.specs.History.{Call, Device, State, adr_ops, step, run, opened_image, start, Permitted, AllPermitted, OwnDomain, AllOwnDomain}
use Rattle.model.specs.CrashSafety.{Recovers, Moment, between, during, EpochStored, InEveryHistory, Enough, CutOpenings, adr_module}

-- main segment i of a session was not written since the last checkpoint; the session of zeros, which a refused opening answers and which all
-- calls but an opening refuse, has no main segment
abbrev pub CleanSegment : Session → ℕ → Type 0
CleanSegment s i = (i < s.layout.mains) × (dirty_segment s i ≡ false)

-- between any two calls of a history, so just before any checkpoint, a crash can leave only what stands in such a segment: in each of its
-- bytes, whether the block that holds it is marked as dirty or not. This file speaks of the operations as the traces of kind 0 have them
-- (`adr_played`, `adr_ops`), so of what a module of kind 0 may leave whose openings are given its kind
abbrev pub CleanSettled : Type 0
CleanSettled = InEveryHistory (λ s.
    let σ : Session = s.device.session in
    (i x : ℕ) → CleanSegment σ i → x < segment_size σ.layout
    → (H : Image) → CrashImage s.device.durable s.device.adr_played H
    → byte_at H (main_at σ.layout i + x) ≡ byte_at s.device.image (main_at σ.layout i + x))

-- ---- a checkpoint without their flushes

-- the dirty blocks of dirty main segments alone written back, upward
unfoldable pub flush_dirty_segments : Session → Ops
flush_dirty_segments s = cat s.layout.mains (λ i.
    cond (dirty_segment s i) (each_dirty (dirty_word s i) s.layout.blocks (λ b. clwbs block_lines (main_at s.layout i + block_size * b))) [])

-- these, and all else as in `checkpoint_ops`
unfoldable pub lean_checkpoint_ops : Session → Image → Ops
lean_checkpoint_ops s I =
    flush_dirty_segments s ++ sfence ∷ states_ops I s.dirty_segments ++ sfence ∷ epoch_ops I ++ sfence ∷ []

-- how many blocks are marked as dirty in main segments that are not dirty
unfoldable pub marked_clean : Session → ℕ
marked_clean s = sum_to s.layout.mains (λ i. cond (dirty_segment s i) 0 (sum_to s.layout.blocks (λ b. one_if (dirty_block s i b))))

-- a place lies in a main segment that is not dirty
unfoldable pub in_clean : Session → ℕ → Bool
in_clean s p = any_b s.layout.mains (λ i.
    not (dirty_segment s i) && leb (main_at s.layout i) p && ltb p (main_at s.layout i + segment_size s.layout))

-- operations without the flushes of the places that are to be left out
unfoldable pub leave_out : (ℕ → Bool) → Ops → Ops
leave_out out [] = []
leave_out out (store p w ∷ O) = store p w ∷ leave_out out O
leave_out out (clwb p ∷ O) = cond (out p) (leave_out out O) (clwb p ∷ leave_out out O)
leave_out out (sfence ∷ O) = sfence ∷ leave_out out O

-- the shorter checkpoint would allow no further crash image, and no fewer
pub record CleanFlushesNeedless : Type 0 where
  -- it lacks the flushes in main segments that are not dirty, and those alone
  pub shorter : (s : Session) (I : Image) → lean_checkpoint_ops s I ≡ leave_out (in_clean s) (checkpoint_ops s I)
  -- four for each block that is marked there
  pub fewer : (s : Session) (I : Image) → length (checkpoint_ops s I) ≡ length (lean_checkpoint_ops s I) + block_lines * marked_clean s
  -- played whole, it leaves the same image
  pub leaves : (s : Session) (I J : Image) → replay (lean_checkpoint_ops s I) J ≡ replay (checkpoint_ops s I) J
  -- in every history, cut after any number p of its operations: a crash may leave what it may leave of the checkpoint that is cut after q
  -- of its own, which are the same p and flushes that are left out
  pub cut : InEveryHistory (λ s.
      let σ : Session = s.device.session in
      let C : Ops = checkpoint_ops σ s.device.image in
      let L : Ops = lean_checkpoint_ops σ s.device.image in
      (p : ℕ) → (q : ℕ) × (q ≤ length C) × (take p L ≡ leave_out (in_clean σ) (take q C))
      × ((H : Image) → CrashImage s.device.durable (s.device.adr_played ++ take p L) H ↔ CrashImage s.device.durable (s.device.adr_played ++ take q C) H))
  -- and the other way: of the checkpoint, cut after any number q, a crash may leave what it may leave of the shorter one, cut after the same
  -- operations without the flushes that are left out
  pub back : InEveryHistory (λ s.
      let σ : Session = s.device.session in
      let C : Ops = checkpoint_ops σ s.device.image in
      let L : Ops = lean_checkpoint_ops σ s.device.image in
      (q : ℕ) → (p : ℕ) × (take p L ≡ leave_out (in_clean σ) (take q C))
      × ((H : Image) → CrashImage s.device.durable (s.device.adr_played ++ take p L) H ↔ CrashImage s.device.durable (s.device.adr_played ++ take q C) H))
  -- and played whole, whatever is played afterwards
  pub later : InEveryHistory (λ s.
      let σ : Session = s.device.session in
      let C : Ops = checkpoint_ops σ s.device.image in
      let L : Ops = lean_checkpoint_ops σ s.device.image in
      (E : Ops) (H : Image) → CrashImage s.device.durable (s.device.adr_played ++ L ++ E) H ↔ CrashImage s.device.durable (s.device.adr_played ++ C ++ E) H)

-- ---- a library whose checkpoints all leave them out, and which gives the same statuses and sessions: 11 by the operations of 11.2 too

-- the operations of a call there: of a checkpoint without those flushes, of every other call as they are
abbrev pub lean_of : Session → CallArgs → Ops → Ops
lean_of s (open_args l d) O = O
lean_of s (write_args w) O = O
lean_of s (discard_args i) O = O
lean_of s checkpoint_args O = leave_out (in_clean s) O

abbrev pub lean_ops : Device → Call → Ops
lean_ops d c = lean_of d.session c.args (adr_ops d c)

-- those of a list of calls, one after the other
unfoldable pub lean_played : State → List Call → Ops
lean_played s [] = []
lean_played s (c ∷ cs) = lean_ops s.device c ++ lean_played (step s c) cs

-- and at a moment after operations O, as `PermittedAt`, `played_at` and `MayShow` have it here
abbrev pub LeanPermittedAt : Device → Moment → Type 0
LeanPermittedAt d between = Unit {0}
LeanPermittedAt d (during c p) = Permitted c × OwnDomain adr d c × (p < length (lean_ops d c))

abbrev pub lean_played_at : Ops → Device → Moment → Ops
lean_played_at O d between = O
lean_played_at O d (during c p) = O ++ take p (lean_ops d c)

abbrev pub LeanMayShow : State → Moment → Page → Type 0
LeanMayShow s between Q = Q ≡ s.model.checkpoint
LeanMayShow s (during c p) Q =
    (Q ≡ s.model.checkpoint) ⊎ ((c.args ≡ checkpoint_args) × EpochStored (take p (lean_ops s.device c)) × (Q ≡ s.model.working))

-- demand 3 of such a library on a module of kind 0: in every history its calls leave the image that the same calls leave here, so they go
-- on alike, and a crash at
-- any moment leaves what recovers to a permitted page
abbrev pub LeanSafety : Type 0
LeanSafety =
    (l : Layout) (I : Image) (k : Lent) → Bytes I → open_status l adr I k ≡ 0
    → (cs : List Call) → AllPermitted cs → AllOwnDomain adr (start l adr I k) cs
    → let s : State = run (start l adr I k) cs in
    let O : Ops = lean_played (start l adr I k) cs in
    (replay O (opened_image l adr I k) ≡ s.device.image)
    × ((m : Moment) → LeanPermittedAt s.device m
    → (H : Image) → CrashImage (opened_image l adr I k) (lean_played_at O s.device m) H
    → (H' : Image) → CutOpenings adr_module s.device.layout H H'
    → (k' : Lent) → Enough s.device.layout adr H' k'
    → (Q : Page) × LeanMayShow s m Q × Recovers s.device.layout adr H' k' Q × Bytes H')
