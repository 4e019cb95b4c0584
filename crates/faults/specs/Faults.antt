-- Faults that a reader could mistake for good work (SPECIFICATION 18.1). Each fault is model's own definition with one change,
-- and each statement says that demand 3 then fails: a crash may leave an image that opening refuses, or of which it shows a
-- page that is not permitted, which nobody notices. (`DiscardClearsTouch`, beside the last, breaks demand 2 alone.) One client writes, whose share and limit are all backup segments, and what a faulty
-- call does with its record is right. The module is of kind 0. Proved in proofs/.
use Rattle.std.specs.Prelude.{ℕ, ◌+◌, ◌≡◌, Bool, true, false, cond, List, [], ◌∷◌, ◌++◌, length, take, replicate, set}
use Rattle.model.specs.declared.Layout.{Layout}
use Rattle.model.specs.declared.Session.{Session}
use Rattle.model.specs.declared.Action.{Action}
use Rattle.model.specs.declared.Action.TheVariants.{Nothing, ZeroMain, CopyToMain}
use Rattle.model.specs.declared.Plan.{Plan}
use Rattle.model.specs.declared.Plan.TheVariants.{NoCopy, OwnBackup, NewBackup, NoneFree}
use Rattle.model.specs.Range.{cat}
use Rattle.model.specs.Words.{Image}
use Rattle.model.specs.Layout.{line_size, unpaired, ss_initial, ss_main, ss_backup}
use Rattle.model.specs.Status.{first_error, served}
use Rattle.model.specs.Container.{active_line, active_state, inactive_line, seg_state, backup_to_main, is_paired, paired_backup, any_free, free_backups, new_backup, by_state, checkpoint_bytes}
use Rattle.model.specs.Session.{adr, dirty_word, fresh_session, with_dirty}
use Rattle.model.specs.Ops.{clwb, sfence, Ops, replay, store_byte, for_domain}
use Rattle.model.specs.Outcome.{Lent, lent}
use Rattle.model.specs.Format.{container, formatted}
use Rattle.model.specs.Open.{action_ops, open_status}
use Rattle.model.specs.Write.{WriteArgs, needs_copy, copy_plan, copies, backup_ops, copy_on_write_ops, span_ops, early_errors, late_errors, write_status}
use Rattle.model.specs.Crash.{CrashImage}
use Rattle.model.specs.Reference.{Page}
use Rattle.model.specs.History.{Device, State, opened_image, Permitted}
use Rattle.model.specs.CrashSafety.{Reads, Moment, between, during, PermittedAt, played_at, MayShow, adr_module}
use Rattle.model.specs.Shares.{alone}
use Rattle.cases.specs.Turns.{Point, point_of, begin, Turn, call_at, answer_at, turn, turns, Supposed}
use Rattle.cases.specs.Table.{sizes, l211, long_trace, lent_alone, writes, write, checkpoint, a_word}
use Rattle.cases.specs.Cut.{OnlyShows}
use Rattle.cases.specs.Discards.{discard}

-- ---- how demand 3 fails

-- what an opening is lent
abbrev pub lent_long : Layout → Lent
lent_long l = lent_alone l long_trace

-- what was durable on the device d is accepted, and a crash after the operations O may leave an image that opening refuses
pub record Refuses (d : Device) (O : Ops) : Type 0 where
  pub accepted : open_status d.layout adr d.durable (lent_long d.layout) ≡ 0
  pub left : Image
  pub crash : CrashImage d.durable (d.played ++ O) left
  pub refused : open_status d.layout adr left (lent_long d.layout) ≡ 4

-- a crash at this moment of the state s, where O was played since all was durable, may leave an image that opening accepts and
-- `recover` takes to one whose reads show a page, and it is none of those that demand 3 permits
pub record ShowsOther (recover : Image → Image) (s : State) (m : Moment) (O : Ops) : Type 0 where
  pub permitted : PermittedAt adr s.device m
  pub left : Image
  pub crash : CrashImage s.device.durable O left
  pub accepted : open_status s.device.layout adr left (lent_long s.device.layout) ≡ 0
  pub page : Page
  pub shown : Reads s.device.layout (recover left) page page
  pub wrong : MayShow s m page → ⊥

-- the same where what was played is what the calls report
abbrev pub CalledShowsOther : (Image → Image) → State → Moment → Type 0
CalledShowsOther recover s m = ShowsOther recover s m (played_at s.device m)

-- a history that stands there with another session
abbrev pub with_session : Point → Session → Point
with_session p x = point_of (record {
  device = record {
    layout = p.state.device.layout;
    durable = p.state.device.durable;
    played = p.state.device.played;
    adr_played = p.state.device.adr_played;
    image = p.state.device.image;
    session = x;
  };
  model = p.state.model;
}) p.clients

-- ---- start images: main segments hold 40 and 41, the backup segment 90

abbrev pub l111 : Layout
l111 = sizes 1 1 1

-- one main segment in state 1, and the pair byte of the backup segment
abbrev pub one : ℕ → Image
one pair =
    container l111 0 (1 ∷ replicate 63 0) (replicate line_size 0) (pair ∷ replicate 63 unpaired) (replicate 256 40 ++ replicate 256 90)

-- ---- 1. state 2 stored before the copy's fence

unfoldable pub early_state_ops : Layout → Image → ℕ → ℕ → Plan → Ops
early_state_ops l I word i p =
    cond (copies p) (backup_ops l I word i p ++ store_byte I (active_line I + i) ss_backup ∷ sfence ∷ clwb (active_line I) ∷ sfence ∷ []) []

-- the operations of a write with this fault; what it refuses is not changed
unfoldable pub early_write_ops : Session → Image → WriteArgs → Lent → Ops
early_write_ops s I w k =
    cond (served (write_status s I w k))
    (for_domain s.domain (early_state_ops s.layout I (dirty_word s w.main) w.main (copy_plan s I w.main) ++ span_ops s.layout I w))
    []

-- so where a history stands
abbrev pub early_at : Point → WriteArgs → Ops
early_at p w = early_write_ops p.state.device.session p.state.device.image w (lent p.clients long_trace)

-- from an unpaired main segment: a word written, cut after 39 of its 43 operations
abbrev pub EarlyState : Point → Type 0
EarlyState p = Permitted (call_at p (write 0 0 a_word)) × Refuses p.state.device (take 39 (early_at p (writes 0 0 a_word)))

-- a word written and a checkpoint, for what follows
abbrev pub two_calls : List Turn
two_calls = write 0 0 a_word ∷ checkpoint ∷ []

-- a word written where these leave a paired main segment, in state 1 with its block dirty and its backup behind, and cut
-- after 37 of its 41 operations: opening accepts what is left and shows the backup's old bytes
abbrev pub ShowsBackup : Point → Type 0
ShowsBackup p =
    ShowsOther (λ H. opened_image l111 adr H (lent_long l111)) p.state (during (call_at p (write 0 8 a_word)) 37)
    (p.state.device.played ++ take 37 (early_at p (writes 0 8 a_word)))

abbrev pub EarlyStateUnseen : Point → Type 0
EarlyStateUnseen p = Supposed adr p two_calls × ShowsBackup (turns p two_calls)

-- ---- 2. marks cleared at a checkpoint

unfoldable pub marks_cleared : Point → Point
marks_cleared p = with_session p (fresh_session p.state.device.session.layout p.state.device.session.domain)

-- another word written and cut after 2 of its 5 operations: opening accepts what is left and shows the backup's old bytes
abbrev pub ShowsStale : Point → Type 0
ShowsStale p = CalledShowsOther (λ H. opened_image l111 adr H (lent_long l111)) p.state (during (call_at p (write 0 8 a_word)) 2)

-- from a paired main segment: the two calls, then that
abbrev pub ClearedMarks : Point → Type 0
ClearedMarks p = Supposed adr p two_calls × ShowsStale (marks_cleared (turns p two_calls))

-- ---- 3. opening skips the copy to the backup segment

unfoldable pub skipping_action : ℕ → Bool → Action
skipping_action st true = by_state st Nothing Nothing CopyToMain
skipping_action st false = by_state st ZeroMain Nothing Nothing

unfoldable pub skipping_ops : Layout → Image → Ops
skipping_ops l I =
    cat l.mains (λ i. action_ops l I i (paired_backup l (backup_to_main I) i) (skipping_action (seg_state I (active_line I) i) (is_paired l (backup_to_main I) i)))
    ++ sfence ∷ []

abbrev pub skipping_opened : Layout → Image → Image
skipping_opened l I = replay (skipping_ops l I) I

unfoldable pub skipping_start : Layout → Image → Point
skipping_start l I = point_of (record {
  device = record {
    layout = l;
    durable = skipping_opened l I;
    played = [];
    adr_played = [];
    image = skipping_opened l I;
    session = fresh_session l adr;
  };
  model = record { working = checkpoint_bytes l I (active_line I); checkpoint = checkpoint_bytes l I (active_line I) };
}) (alone l 0)

-- from a paired main segment whose backup is stale: a word written, cut after 2 of its 5 operations
abbrev pub SkippedCopy : Point → Type 0
SkippedCopy p = CalledShowsOther (skipping_opened l111) p.state (during (call_at p (write 0 0 a_word)) 2)

-- ---- 4. whether a backup segment is free, how many are, and which is the new one, judged by the inactive line

-- the right plan with the states of this line in the place of the active line's
unfoldable pub inactive_plan : Session → Image → ℕ → Plan
inactive_plan s I i =
    cond (needs_copy s I i)
    (cond (is_paired s.layout (backup_to_main I) i) (OwnBackup (paired_backup s.layout (backup_to_main I) i))
    (cond (any_free s.layout (seg_state I (inactive_line I)) (backup_to_main I))
    (NewBackup (new_backup s.layout (seg_state I (inactive_line I)) (backup_to_main I))) NoneFree))
    NoCopy

-- the operations of a write by it, and what that refuses
unfoldable pub inactive_ops : Session → Image → WriteArgs → Ops
inactive_ops s I w =
    copy_on_write_ops s.layout I (dirty_word s w.main) w.main (inactive_plan s I w.main) ++ span_ops s.layout I w

unfoldable pub inactive_status : Session → Image → WriteArgs → Lent → ℕ
inactive_status s I w k =
    first_error (early_errors s I k.clients w
    ++ late_errors (inactive_plan s I w.main) k.clients w.client (free_backups s.layout (seg_state I (inactive_line I)) (backup_to_main I))
    (for_domain s.domain (inactive_ops s I w)) k.trace)

unfoldable pub inactive_write_ops : Session → Image → WriteArgs → Lent → Ops
inactive_write_ops s I w k = cond (served (inactive_status s I w k)) (for_domain s.domain (inactive_ops s I w)) []

-- main segment 0 in state 2 with the only backup, but not so on the inactive line, and main segment 1 in state 1
abbrev pub two : Image
two =
    container l211 0 (2 ∷ 1 ∷ replicate 62 0) (1 ∷ 1 ∷ replicate 62 0) (0 ∷ replicate 63 unpaired)
    (replicate 256 40 ++ replicate 256 41 ++ replicate 256 90)

-- a word written to main segment 1, which a right write refuses with 9; this one, cut after its first operation
abbrev pub InactiveLine : Point → Type 0
InactiveLine p =
    let d : Device = p.state.device in
    ((answer_at p (write 1 0 a_word)).status ≡ 9)
    × Refuses d (take 1 (inactive_write_ops d.session d.image (writes 1 0 a_word) (lent p.clients long_trace)))

-- ---- 5. only the first block of a span becomes dirty

abbrev pub l112 : Layout
l112 = sizes 1 1 2

-- two words, the first at the end of block 0 and the second at the start of block 1
abbrev pub two_words : WriteArgs
two_words = writes 0 248 (a_word ++ a_word)

abbrev pub write_two : Turn
write_two = write 0 248 (a_word ++ a_word)

-- the session after a write with this fault
unfoldable pub first_session : Session → Image → WriteArgs → Session
first_session s I w = with_dirty s w.main w.block 1 (cond (needs_copy s I w.main) 0 (dirty_word s w.main))

unfoldable pub first_marked : Point → Point
first_marked p = with_session (turn p write_two) (first_session p.state.device.session p.state.device.image two_words)

-- the two words written, and a checkpoint, played whole, which writes back block 0 alone: opening then shows a page that is neither
-- this checkpoint nor the one before
pub record FirstMarked (p : Point) : Type 0 where
  pub permitted : Permitted (call_at p write_two)
  pub count : length (answer_at (first_marked p) checkpoint).ops ≡ 18
  pub shows : CalledShowsOther (λ H. opened_image l112 adr H (lent_long l112)) (turn (first_marked p) checkpoint).state between
  pub mixed : shows.page ≡ p.state.model.checkpoint → ⊥

-- with both blocks dirty the same calls leave what shows this checkpoint alone
abbrev pub BothMarked : Point → Type 0
BothMarked p =
    Supposed adr p (write_two ∷ checkpoint ∷ [])
    × OnlyShows adr_module (turns p (write_two ∷ checkpoint ∷ [])).state between (replicate 248 0 ++ a_word ++ a_word ++ replicate 248 0)

-- ---- 6. a discard that clears the marks

-- a word written to an empty main segment, and dropped
abbrev pub word_dropped : List Turn
word_dropped = write 0 0 a_word ∷ discard 0 ∷ []

-- with this fault: no block is dirty then; the segment still is
unfoldable pub clears_marks : Point → Point
clears_marks p = with_session p (record {
  layout = p.state.device.session.layout;
  dirty_segments = p.state.device.session.dirty_segments;
  dirty_blocks = set p.state.device.session.dirty_blocks 0 0;
  domain = p.state.device.session.domain;
})

-- a checkpoint, played whole, which flushes no block: opening then shows the word, which no checkpoint ever had
pub record DiscardClearsMarks (p : Point) : Type 0 where
  pub permitted : Supposed adr p word_dropped
  pub count : length (answer_at (clears_marks (turns p word_dropped)) checkpoint).ops ≡ 14
  pub shows : CalledShowsOther (λ H. opened_image l111 adr H (lent_long l111)) (turn (clears_marks (turns p word_dropped)) checkpoint).state between
  pub dropped : shows.page ≡ a_word ++ replicate 248 0
  pub saved : (turn (clears_marks (turns p word_dropped)) checkpoint).state.model.checkpoint ≡ replicate 256 0

-- with the marks kept the same calls leave what shows zeros alone
abbrev pub DiscardKeepsMarks : Point → Type 0
DiscardKeepsMarks p =
    Supposed adr p (word_dropped ++ checkpoint ∷ []) × OnlyShows adr_module (turns p (word_dropped ++ checkpoint ∷ [])).state between (replicate 256 0)

-- beside it a discard that clears the touch: no page shows it, but the checkpoint leaves the segment in state 0, and not in state 1
unfoldable pub clears_touch : Point → Point
clears_touch p = with_session p (record {
  layout = p.state.device.session.layout;
  dirty_segments = 0;
  dirty_blocks = p.state.device.session.dirty_blocks;
  domain = p.state.device.session.domain;
})

abbrev pub DiscardClearsTouch : Point → Type 0
DiscardClearsTouch p =
    (active_state (turn (clears_touch (turns p word_dropped)) checkpoint).state.device.image 0 ≡ ss_initial)
    × (active_state (turn (turns p word_dropped) checkpoint).state.device.image 0 ≡ ss_main)

-- THE SIX FAULTS, the first both ways, and the last two beside what is right
pub record Faults : Type 0 where
  pub early_state : EarlyState (begin l111 adr (one unpaired) (lent_long l111))
  pub early_state_unseen : EarlyStateUnseen (begin l111 adr (one 0) (lent_long l111))
  pub cleared_marks : ClearedMarks (begin l111 adr (one 0) (lent_long l111))
  pub skipped_copy : SkippedCopy (skipping_start l111 (one 0))
  pub inactive_line : InactiveLine (begin l211 adr two (lent_long l211))
  pub first_marked : FirstMarked (begin l112 adr (formatted l112) (lent_long l112))
  pub both_marked : BothMarked (begin l112 adr (formatted l112) (lent_long l112))
  pub discard_clears_marks : DiscardClearsMarks (begin l111 adr (formatted l111) (lent_long l111))
  pub discard_keeps_marks : DiscardKeepsMarks (begin l111 adr (formatted l111) (lent_long l111))
  pub discard_clears_touch : DiscardClearsTouch (begin l111 adr (formatted l111) (lent_long l111))
