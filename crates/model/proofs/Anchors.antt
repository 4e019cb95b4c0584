-- Single rules of the specification, each on an instance that is small enough to be computed: closed numbers, a container of a
-- few segments of one block, an image of some hundred bytes. They need the definitions alone, and no
-- law rests on them. The checker takes modules by name, this one before all laws: a definition that departs from its rule is
-- refused here, with the two sides that then differ.
use Prim.Native.Nat.{ℕ, suc, ◌+◌, ◌*◌, ◌/◌, ◌≤◌}
use mathlib.Core.Path.{◌≡◌, refl, sym, ap, ◌∙◌}
use mathlib.Core.Bool.{true, false}
use mathlib.Core.List.{List, [], ◌∷◌, ◌++◌}
use native.Mathlib.Omega.{arith}
use lib.ListN.{length, take, drop, get_or, replicate, length-append, get_or-append}
use Rattle.model.specs.Clients.{no_client}
use Rattle.model.specs.declared.Layout.{Layout}
use Rattle.model.specs.declared.Plan.TheVariants.{OwnBackup, NewBackup, NoneFree}
use Rattle.model.specs.Range.{cat, all_b, any_b, or_next, first_b}
use Rattle.model.specs.Words.{Image, little_endian, word_of, word_at, bytes_of, overlay}
use Rattle.model.specs.Layout.{line_size, unpaired, ss_main, layout_of, in_range, sizes_ok, image_size, state_line, epoch_at}
use Rattle.model.specs.Status.{first_error}
use Rattle.model.specs.Container.{committed_epoch, active_line, inactive_line, is_paired, valid_metadata, is_free, any_free, new_backup, by_state, header_ok}
use Rattle.model.specs.Session.{bit, set_bit, set_bits, dirty_word, dirty_segment, fresh_session, zero_session, with_dirty, with_checkpoint, adr, eadr}
use Rattle.model.specs.Ops.{store, clwb, sfence, encode, replay, stores, clwbs, put_block, persist_copy, copy_segment, store_byte, for_domain}
use Rattle.model.specs.Outcome.{Lent, outcome_of, lent}
use Rattle.model.specs.Replay.{well_formed, all_well_formed, replay_count, replay_status}
use Rattle.model.specs.Format.{container, formatted}
use Rattle.model.specs.Open.{recovery_action, action_ops, open_status, open_outcome}
use Rattle.model.specs.Write.{WriteArgs, write_args_of, needs_copy, copy_plan, copy_dirty, backup_ops, state_ops, copy_on_write_ops, span_ops, span_bad}
use Rattle.model.specs.Checkpoint.{flush_dirty, states_ops, epoch_ops, checkpoint_ops}
use Rattle.model.specs.Reads.{read_status}
use Rattle.model.specs.Crash.{KeepsDurable, Stage, CrashImage}
use Rattle.model.specs.CrashExact.{has_fence, floor_from, floor}
use Rattle.model.specs.Reference.{Model, open_args, write_args, model_step}
use Rattle.model.specs.History.{Device, call_open, device_step}
use Rattle.model.specs.FlushDurable.{flush_all}

-- one main segment at 512 and one backup segment at 768, of one block
abbrev small : Layout
small = layout_of 1 1 1

-- ---- words and operations

-- the least significant byte of a word comes first: the bytes 1 to 8 are hexadecimal 0807060504030201
pub least_byte_first : word_at (1 ∷ 2 ∷ 3 ∷ 4 ∷ 5 ∷ 6 ∷ 7 ∷ 8 ∷ []) 0 ≡ 578437695752307201
unfolding word_of little_endian
least_byte_first = refl

-- kind 1 stores a word at a place, kind 2 writes the line of a place back, kind 3 is a fence
pub kinds : encode (store 8 5 ∷ clwb 64 ∷ sfence ∷ []) ≡ 1 ∷ 8 ∷ 5 ∷ 2 ∷ 64 ∷ 0 ∷ 3 ∷ 0 ∷ 0 ∷ []
unfolding encode
kinds = refl

-- places are below the image length: on an image of one line a store at 56 is served, and one at 64 refused with 12
pub places_end : (replay_status (replicate 64 0) (1 ∷ 56 ∷ 5 ∷ []) 1 ≡ 0) × (replay_status (replicate 64 0) (1 ∷ 64 ∷ 5 ∷ []) 1 ≡ 12)
unfolding replay_status first_error all_well_formed replay_count well_formed all_b
places_end = (refl, refl)

-- of three operations replay plays the first two where two are asked for, and all three where five are
pub played_count : (replay_count (1 ∷ 8 ∷ 5 ∷ 2 ∷ 0 ∷ 0 ∷ 3 ∷ 0 ∷ 0 ∷ []) 2 ≡ 2) × (replay_count (1 ∷ 8 ∷ 5 ∷ 2 ∷ 0 ∷ 0 ∷ 3 ∷ 0 ∷ 0 ∷ []) 5 ≡ 3)
unfolding replay_count
played_count = (refl, refl)

-- a copy reads at its first place and stores at its second, upward
pub copy_direction : (I : Image) → take 2 (copy_segment small I 512 768) ≡ store 768 (word_at I 512) ∷ store 776 (word_at I 520) ∷ []
unfolding copy_segment persist_copy put_block stores cat
copy_direction I = refl

-- ---- what a crash may leave

-- a store whose line was written back may be lost as long as no fence followed
pub flush_alone_lost : (I : Image) (p w : ℕ) → CrashImage I (store p w ∷ clwb p ∷ []) I
unfolding replay
flush_alone_lost I p w = record {
  long = refl;
  lines = λ ℓ. record {
    k = 0;
    within = omega arith;
    durable = λ A C D q l e. omega (arith, simp length-append at (ap length e));
    agree = λ i e. refl;
  };
}

-- once a fence followed, it is kept
pub fenced_kept : (p w k : ℕ) → KeepsDurable (p / line_size) (store p w ∷ clwb p ∷ sfence ∷ []) k → 1 ≤ k
fenced_kept p w k h = h (store p w ∷ []) [] [] p refl refl

-- so it is with a store that `flush_all` follows, which writes its line back and ends with a fence
pub flush_all_kept : floor 0 (store 0 5 ∷ flush_all (replicate 128 0)) ≡ 1
unfolding flush_all clwbs cat floor_from has_fence
flush_all_kept = refl

-- each line on its own: the first line may be as it was, whatever stands on the others
pub line_alone : (x y z : Image) (p w : ℕ) → length x ≡ line_size → Stage 0 (x ++ y) (store p w ∷ []) (x ++ z)
unfolding replay
line_alone x y z p w long = record {
  k = 0;
  within = omega arith;
  durable = λ A C D q l e. omega (arith, simp length-append at (ap length e));
  agree = λ i e. get_or-append x z 0 i (omega arith) ∙ sym (get_or-append x y 0 i (omega arith));
}

-- ---- the order of operations

-- copy on write, after the 36 operations of the copy: a fence, state 2 stored and written back, a fence; so state 2 does
-- not arrive before the copy
pub state_after_copy : (I : Image)
    → drop 36 (copy_on_write_ops small I 1 0 (OwnBackup 0)) ≡ sfence ∷ store_byte I (active_line I + 0) 2 ∷ clwb (active_line I) ∷ sfence ∷ []
unfolding copy_on_write_ops backup_ops copy_dirty state_ops persist_copy put_block stores clwbs cat bit
state_after_copy I = refl

-- a checkpoint with no dirty block, after its first fence and the 8 stores of states: written back, a fence, the epoch
-- stored and written back, a fence; so the epoch does not arrive before the states
pub epoch_after_states : (I : Image)
    → drop 9 (checkpoint_ops (fresh_session small adr) I) ≡ clwb (inactive_line I) ∷ sfence ∷ store epoch_at (suc (committed_epoch I)) ∷ clwb epoch_at ∷ sfence ∷ []
unfolding checkpoint_ops flush_dirty states_ops epoch_ops stores cat fresh_session bit
epoch_after_states I = refl

-- the trace of kind 1 has stores and fences, and no write-back; that of kind 0 has all three
pub no_flush_kept : (for_domain eadr (store 8 1 ∷ clwb 0 ∷ sfence ∷ []) ≡ store 8 1 ∷ sfence ∷ [])
    × (for_domain adr (store 8 1 ∷ clwb 0 ∷ sfence ∷ []) ≡ store 8 1 ∷ clwb 0 ∷ sfence ∷ [])
unfolding for_domain
no_flush_kept = (refl, refl)

-- ---- opening

-- it copies a paired main segment in state 1 to its backup, so that a half-made copy does not stay
pub backup_renewed : (I : Image) → take 1 (action_ops small I 0 0 (recovery_action ss_main true)) ≡ store 768 (word_at I 512) ∷ []
unfolding action_ops recovery_action by_state copy_segment persist_copy put_block stores cat
backup_renewed I = refl

-- refused, it answers a session of zeros, the kind of module among them
pub refused_zeros : (I : Image) (t : Lent) → (open_outcome (layout_of 65 1 1) eadr I t).session ≡ zero_session
unfolding open_outcome open_status outcome_of first_error sizes_ok in_range fresh_session zero_session
refused_zeros I t = refl

-- which the next call is given
pub zeros_count : (d : Device) (t : Lent) → (device_step d (call_open (layout_of 65 1 1) eadr t)).session ≡ zero_session
unfolding device_step open_outcome open_status outcome_of first_error sizes_ok in_range fresh_session zero_session
zeros_count d t = refl

-- in the reference model it drops what was written and not checkpointed
pub edits-dropped : (l k : Layout) (d : ℕ) (w : WriteArgs) (m : Model)
    → model_step l (open_args k d) true (model_step l (write_args w) true m) ≡ record { working = m.checkpoint; checkpoint = m.checkpoint }
unfolding model_step
edits-dropped l k d w m = refl

-- ---- checkpoint and write

-- a block that was written is dirty also after the checkpoint, so that the next write copies it: 36 operations
pub mark_copied : (I : Image) → length (copy_dirty small I (dirty_word (with_checkpoint (with_dirty (fresh_session small adr) 0 0 1 0)) 0) 0 0) ≡ 36
unfolding with_checkpoint with_dirty fresh_session set_bits set_bit copy_dirty persist_copy put_block stores clwbs cat bit
mark_copied I = refl

-- a write and a checkpoint leave a session of the same kind of module
pub kind_carried : ((with_dirty (fresh_session small eadr) 0 0 1 0).domain ≡ eadr) × ((with_checkpoint (fresh_session small eadr)).domain ≡ eadr)
unfolding with_checkpoint with_dirty fresh_session
kind_carried = (refl, refl)

-- three main segments: the first in state 2, the others in state 1; by the inactive line all are in state 1. So the backup segment of the
-- first holds a checkpoint, though it would be free by the inactive line
abbrev taken : ℕ → List ℕ → Image
taken backups pairs =
    container (layout_of 3 backups 1) 0 (2 ∷ 1 ∷ 1 ∷ replicate 61 0) (1 ∷ 1 ∷ 1 ∷ replicate 61 0) (pairs ++ replicate 62 unpaired)
    (replicate (256 * (3 + backups)) 0)

-- with no other backup segment a write to the third main segment finds none free, and with that of the second it takes that one
pub none_free_lem : (copy_plan (fresh_session (layout_of 3 1 1) adr) (taken 1 (0 ∷ unpaired ∷ [])) 2 ≡ NoneFree)
    × (copy_plan (fresh_session (layout_of 3 2 1) adr) (taken 2 (0 ∷ 1 ∷ [])) 2 ≡ NewBackup 1)
unfolding copy_plan needs_copy dirty_segment fresh_session bit is_paired any_free is_free new_backup any_b first_b or_next container bytes_of state_line word_of little_endian
none_free_lem = (refl, refl)

-- states and pairs from a list
abbrev from : List ℕ → ℕ → ℕ
from xs i = get_or xs i 0

-- of four backup segments, whose main segments are in state 1 and in state 2 where they are paired: the lowest that is unpaired, though a
-- lower one is free; where all are paired, the lowest whose main segment is in state 1; else none, which is their number
pub new_lowest : (new_backup (layout_of 4 4 1) (from (1 ∷ 2 ∷ 1 ∷ 1 ∷ [])) (from (0 ∷ 1 ∷ unpaired ∷ unpaired ∷ [])) ≡ 2)
    × (new_backup (layout_of 4 4 1) (from (2 ∷ 1 ∷ 2 ∷ 1 ∷ [])) (from (0 ∷ 3 ∷ 2 ∷ 1 ∷ [])) ≡ 1)
    × (new_backup (layout_of 4 4 1) (from (2 ∷ 2 ∷ 2 ∷ 2 ∷ [])) (from (0 ∷ 3 ∷ 2 ∷ 1 ∷ [])) ≡ 4)
unfolding new_backup any_b first_b or_next
new_lowest = (refl, refl, refl)

-- ---- spans

-- two bytes at the last place of a block: the second is the first of the next block; the other bytes of their words stay
pub over_the_end : span_ops (layout_of 1 1 2) (replicate 1536 9) (write_args_of 0 0 0 255 (7 ∷ 8 ∷ []))
    ≡ store 760 0x0709090909090909 ∷ store 768 0x0909090909090908 ∷ []
unfolding span_ops stores cat word_of little_endian overlay
over_the_end = refl

-- they leave no main segment of two blocks from block 0 on, and they do from block 1 on, where one byte does not
pub segment_end : (span_bad (layout_of 1 1 2) (write_args_of 0 0 0 255 (7 ∷ 8 ∷ [])) ≡ false) × (span_bad (layout_of 1 1 2) (write_args_of 0 0 1 255 (7 ∷ 8 ∷ [])) ≡ true)
    × (span_bad (layout_of 1 1 2) (write_args_of 0 0 1 255 (7 ∷ [])) ≡ false)
unfolding span_bad
segment_end = (refl, refl, refl)

-- an offset of 256 is bad though there are more blocks, and so is a span without bytes
pub offset_end : (span_bad (layout_of 1 1 2) (write_args_of 0 0 0 256 (7 ∷ [])) ≡ true) × (span_bad (layout_of 1 1 2) (write_args_of 0 0 0 0 []) ≡ true)
unfolding span_bad
offset_end = (refl, refl)

-- ---- refusals

-- a read gives 6 for a main segment and 7 for a block that is not there
pub six_and_seven : (read_status small (formatted small) 1 0 ≡ 6) × (read_status small (formatted small) 0 1 ≡ 7)
unfolding read_status first_error sizes_ok in_range image_size header_ok valid_metadata all_b is_paired any_b formatted container bytes_of state_line word_of little_endian
six_and_seven = (refl, refl)

-- and the lower of the two where both apply
pub lower_first : read_status small (formatted small) 1 1 ≡ 6
unfolding read_status first_error sizes_ok in_range image_size header_ok valid_metadata all_b is_paired any_b formatted container bytes_of state_line word_of little_endian
lower_first = refl

-- an opening judges the kind of module before the records of clients, of which nine are too many
pub kind_first : open_status small 2 (formatted small) (lent (replicate 9 no_client) []) ≡ 5
unfolding open_status first_error sizes_ok in_range image_size header_ok valid_metadata all_b is_paired any_b formatted container bytes_of state_line word_of little_endian
kind_first = refl
