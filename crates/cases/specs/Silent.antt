-- Empty is not silent (SPECIFICATION 17.11): the board of 17.2, 2 main segments, 1 backup segment, 1 block, and one client. Zeros are written to
-- main segment 0 and saved, so it is silent; main segment 1 is empty, until a byte written there is dropped and the board saved once more.
-- No byte of a checkpoint is ever other than zero, and yet the board is not like one that was just formatted. Beside it a board and a
-- session that no history left, on which a checkpoint with no main segment dirty makes another one. Proved in proofs/Silent.antt.
use Rattle.std.specs.Prelude.{ℕ, ◌*◌, ◌≡◌, false, List, [], ◌∷◌, ◌++◌, length, take, drop, replicate}
use Rattle.model.specs.declared.Session.{Session}
use Rattle.model.specs.Range.{one_if}
use Rattle.model.specs.Words.{Image}
use Rattle.model.specs.Layout.{block_size, line_size, most, unpaired, segment_size}
use Rattle.model.specs.Container.{active_line, checkpoint_bytes}
use Rattle.model.specs.Session.{adr, dirty_segment, fresh_session}
use Rattle.model.specs.Outcome.{Lent, Outcome}
use Rattle.model.specs.Format.{container}
use Rattle.model.specs.Checkpoint.{checkpoint_outcome}
use Rattle.model.specs.Reads.{checkpoint_part}
use Rattle.model.specs.Same.{same_bytes, same_outcome}
use Rattle.model.specs.History.{State, replayed_image}
use Rattle.cases.specs.Turns.{turns, Supposed}
use Rattle.cases.specs.Table.{Case, l211, fresh, long_trace, lent_alone, write, checkpoint, case, AsExpected, calls, opened}
use Rattle.cases.specs.Discards.{discard}

-- the board once main segment 0 is silent: one checkpoint, in which it is in state 1
abbrev pub zeros_board : Image
zeros_board = container l211 1 (replicate line_size 0) (1 ∷ replicate 63 0) (replicate most unpaired) (replicate (3 * block_size) 0)

-- 1 if two boards have the same checkpoint; if all their checkpoint bytes agree, which used to be all that was asked
abbrev pub same_as : Image → Image → ℕ
same_as I J = one_if (same_outcome l211 I J).same

abbrev pub same_bytes_as : Image → Image → ℕ
same_bytes_as I J = one_if (same_bytes (segment_size l211 * 2) (checkpoint_bytes l211 I (active_line I)) (checkpoint_bytes l211 J (active_line J)))

-- what is read after a call: the active states; how long the checkpoint part of each main segment is; whether the bytes agree with those of
-- the formatted board; whether the board is like that one, in both orders; and like the silent one
abbrev pub seen_same : Outcome → State → List ℕ
seen_same o s =
    let I : Image = s.device.image in
    take 2 (drop (active_line I) I) ++ (checkpoint_part l211 I 0 0).size ∷ (checkpoint_part l211 I 1 0).size ∷ same_bytes_as fresh I
    ∷ same_as fresh I ∷ same_as I fresh ∷ same_as zeros_board I ∷ same_as I zeros_board ∷ []

-- the numbers expected: status and operations; states; parts; the bytes always agree; like the formatted board; like the silent one
abbrev pub seeing_same : ℕ → ℕ → List ℕ → List ℕ → ℕ → ℕ → List ℕ
seeing_same status ops states parts as_formatted as_silent = (status ∷ ops ∷ []) ++ states ++ parts ++ 1 ∷ as_formatted ∷ as_formatted ∷ as_silent ∷ as_silent ∷ []

-- zeros written and saved
unfoldable pub zeros_saved : List Case
zeros_saved =
    case 1 (write 0 0 (0 ∷ [])) seen_same (seeing_same 0 1 (0 ∷ 0 ∷ []) (0 ∷ 0 ∷ []) 1 0)
    ∷ case 2 checkpoint seen_same (seeing_same 0 18 (1 ∷ 0 ∷ []) (256 ∷ 0 ∷ []) 0 1)
    ∷ []

-- a checkpoint with no main segment dirty; zeros written again, which copies, and saved; a byte written to the empty one, dropped, and saved
unfoldable pub zeros_again : List Case
zeros_again =
    case 3 checkpoint seen_same (seeing_same 0 18 (1 ∷ 0 ∷ []) (256 ∷ 0 ∷ []) 0 1)
    ∷ case 4 (write 0 0 (0 ∷ [])) seen_same (seeing_same 0 43 (2 ∷ 0 ∷ []) (256 ∷ 0 ∷ []) 0 1)
    ∷ case 5 checkpoint seen_same (seeing_same 0 18 (1 ∷ 0 ∷ []) (256 ∷ 0 ∷ []) 0 1)
    ∷ case 6 (write 1 0 (1 ∷ [])) seen_same (seeing_same 0 1 (1 ∷ 0 ∷ []) (256 ∷ 0 ∷ []) 0 1)
    ∷ case 7 (discard 1) seen_same (seeing_same 0 32 (1 ∷ 0 ∷ []) (256 ∷ 0 ∷ []) 0 1)
    ∷ case 8 checkpoint seen_same (seeing_same 0 22 (1 ∷ 1 ∷ []) (256 ∷ 256 ∷ []) 0 0)
    ∷ []

-- THE STORY
pub record SilentStory : Type 0 where
  pub permitted : Supposed adr opened (calls (zeros_saved ++ zeros_again))
  pub answered : AsExpected opened (zeros_saved ++ zeros_again)
  -- the board after the first checkpoint is the silent one, byte for byte
  pub silent : (turns opened (calls zeros_saved)).state.device.image ≡ zeros_board

-- ---- a board and a session that no history left

-- main segment 0 is in state 2, and differs from its backup segment
abbrev pub unequal_board : Image
unequal_board =
    container l211 0 (2 ∷ replicate 63 0) (replicate line_size 0) (0 ∷ replicate 63 unpaired)
    (replicate block_size 5 ++ replicate block_size 0 ++ replicate block_size 6)

-- nothing is dirty
abbrev pub clean_session : Session
clean_session = fresh_session l211 adr

abbrev pub clean_lent : Lent
clean_lent = lent_alone l211 long_trace

abbrev pub clean_outcome : Outcome
clean_outcome = checkpoint_outcome clean_session unequal_board clean_lent

-- the board after the checkpoint
abbrev pub board_after : Image
board_after = replayed_image unequal_board clean_outcome.ops clean_lent.trace (length clean_outcome.ops)

-- a checkpoint made while no main segment is dirty is served there, and leaves another checkpoint: that it keeps it is a fact of histories
-- (`CheckpointKept` in model's specs/SameCheckpoint.antt)
pub record CleanElsewhere : Type 0 where
  pub clean : (i : ℕ) → dirty_segment clean_session i ≡ false
  pub served : clean_outcome.status ≡ 0
  pub accepted : (same_outcome l211 unequal_board board_after).status ≡ 0
  pub unlike : (same_outcome l211 unequal_board board_after).same ≡ false
