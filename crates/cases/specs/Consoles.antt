-- Two clients on one board (SPECIFICATION 17; the trade: two consoles): 3 main segments, 2 backup segments, 1 block; clients 0 and 1, each
-- with share 1 and limit 2, in one run.
--
-- The first life: a formatted image is opened, and client 0 writes a byte to each of the three main segments. They are in state 0, so that
-- nothing is copied and nothing charged. A checkpoint turns all to state 1. Client 0 writes main segment 0, which is copied first, and has
-- taken one. For main segment 1 it would take a second; one is free, but that is client 1's share, and it is refused with 15. Client 1
-- writes main segment 1 and takes it. Now none is free: for main segment 2 both are refused with 9, and a client without a record with 13.
-- A checkpoint frees both backup segments and sets what each has taken to 0, and client 1 writes main segment 2.
--
-- The second life: power fails while both backup segments are in use, and what is left is opened again with the run as it stood. None has
-- taken any now, but the two main segments that the opening restored keep their backup segments in use: client 1 is below its share, and is
-- refused with 9 for main segment 2. So a share is sure from the first checkpoint after an opening on, and no sooner (`SharesKept` in
-- model's specs/Shares.antt). That checkpoint comes. Client 0 writes main segment 0, which has a backup segment and no dirty block: no block
-- is copied, and it is charged all the same. For main segment 1, which has one too, it is refused with 15: that is client 1's share now. And
-- the write of client 1 is served.
--
-- The third: what is left is opened with a run of one client, whose share is 0 and whose limit is 1. After a checkpoint it writes main
-- segment 0; for main segment 1, which has a backup segment that is free, it is refused with 14. Proved in proofs/Consoles.antt.
use Rattle.std.specs.Prelude.{ℕ, ◌≡◌, List, [], ◌∷◌, ◌++◌, map, replicate}
use Rattle.model.specs.declared.Layout.{Layout}
use Rattle.model.specs.Words.{Image, Bytes}
use Rattle.model.specs.Layout.{line_size, unpaired}
use Rattle.model.specs.Session.{adr}
use Rattle.model.specs.Container.{active_state, backup_to_main, free_backups}
use Rattle.model.specs.Clients.{Clients, client_of}
use Rattle.model.specs.Outcome.{Lent, lent, Outcome}
use Rattle.model.specs.Format.{container, formatted}
use Rattle.model.specs.Open.{open_outcome}
use Rattle.model.specs.Write.{write_args_of}
use Rattle.model.specs.History.{State}
use Rattle.model.specs.CrashSafety.{between, adr_module}
use Rattle.model.specs.Shares.{BelowShare, SharesHold}
use Rattle.cases.specs.Turns.{Point, begin, Turn, turns, Supposed}
use Rattle.cases.specs.Table.{Case, answer, sizes, long_trace, turn_write, checkpoint, case, AsExpected, calls}
use Rattle.cases.specs.Cut.{MayLeave}
use Rattle.cases.specs.Restored.{segments, board_of}

abbrev pub l321 : Layout
l321 = sizes 3 2 1

-- the two clients, who have taken so many
abbrev pub two_clients : ℕ → ℕ → Clients
two_clients a b = client_of 1 2 a ∷ client_of 1 2 b ∷ []

-- what an opening is lent: records, and a trace that is long enough for it
abbrev pub lent_opening : Clients → Lent
lent_opening R = lent R (replicate 327 0)

-- the byte x written by client k to main segment i, at its start
abbrev pub put_by : ℕ → ℕ → ℕ → Turn
put_by k i x = turn_write (write_args_of k i 0 0 (x ∷ [])) long_trace

-- what is read off a call: how many each client has taken then, how many backup segments are free; states and pairs
abbrev pub counts : Outcome → State → List ℕ
counts o s =
    map (λ c. c.used) o.clients ++ free_backups l321 (active_state s.device.image) (backup_to_main s.device.image) ∷ []

abbrev pub on_board : Outcome → State → List ℕ
on_board o s = counts o s ++ board_of l321 s

-- ---- the first life

abbrev pub opened : Point
opened = begin l321 adr (formatted l321) (lent_opening (two_clients 0 0))

-- its calls, until both backup segments are in use: status and number of operations; taken by client 0, by client 1, free; states; pairs
unfoldable pub both_taken : List Case
both_taken =
    case 1 (put_by 0 0 10) on_board ((0 ∷ 1 ∷ []) ++ (0 ∷ 0 ∷ 2 ∷ []) ++ (0 ∷ 0 ∷ 0 ∷ []) ++ (255 ∷ 255 ∷ []))
    ∷ case 2 (put_by 0 1 11) on_board ((0 ∷ 1 ∷ []) ++ (0 ∷ 0 ∷ 2 ∷ []) ++ (0 ∷ 0 ∷ 0 ∷ []) ++ (255 ∷ 255 ∷ []))
    ∷ case 3 (put_by 0 2 12) on_board ((0 ∷ 1 ∷ []) ++ (0 ∷ 0 ∷ 2 ∷ []) ++ (0 ∷ 0 ∷ 0 ∷ []) ++ (255 ∷ 255 ∷ []))
    ∷ case 4 checkpoint on_board ((0 ∷ 26 ∷ []) ++ (0 ∷ 0 ∷ 2 ∷ []) ++ (1 ∷ 1 ∷ 1 ∷ []) ++ (255 ∷ 255 ∷ []))
    ∷ case 5 (put_by 0 0 20) on_board ((0 ∷ 43 ∷ []) ++ (1 ∷ 0 ∷ 1 ∷ []) ++ (2 ∷ 1 ∷ 1 ∷ []) ++ (0 ∷ 255 ∷ []))
    ∷ case 6 (put_by 0 1 21) on_board ((15 ∷ 0 ∷ []) ++ (1 ∷ 0 ∷ 1 ∷ []) ++ (2 ∷ 1 ∷ 1 ∷ []) ++ (0 ∷ 255 ∷ []))
    ∷ case 7 (put_by 1 1 21) on_board ((0 ∷ 43 ∷ []) ++ (1 ∷ 1 ∷ 0 ∷ []) ++ (2 ∷ 2 ∷ 1 ∷ []) ++ (0 ∷ 1 ∷ []))
    ∷ []

-- and from there on
unfoldable pub freed_again : List Case
freed_again =
    case 8 (put_by 1 2 22) on_board ((9 ∷ 0 ∷ []) ++ (1 ∷ 1 ∷ 0 ∷ []) ++ (2 ∷ 2 ∷ 1 ∷ []) ++ (0 ∷ 1 ∷ []))
    ∷ case 9 (put_by 0 2 22) on_board ((9 ∷ 0 ∷ []) ++ (1 ∷ 1 ∷ 0 ∷ []) ++ (2 ∷ 2 ∷ 1 ∷ []) ++ (0 ∷ 1 ∷ []))
    ∷ case 10 (put_by 2 2 22) on_board ((13 ∷ 0 ∷ []) ++ (1 ∷ 1 ∷ 0 ∷ []) ++ (2 ∷ 2 ∷ 1 ∷ []) ++ (0 ∷ 1 ∷ []))
    ∷ case 11 checkpoint on_board ((0 ∷ 26 ∷ []) ++ (0 ∷ 0 ∷ 2 ∷ []) ++ (1 ∷ 1 ∷ 1 ∷ []) ++ (0 ∷ 1 ∷ []))
    ∷ case 12 (put_by 1 2 22) on_board ((0 ∷ 43 ∷ []) ++ (0 ∷ 1 ∷ 1 ∷ []) ++ (1 ∷ 1 ∷ 2 ∷ []) ++ (2 ∷ 1 ∷ []))
    ∷ []

-- where it stands when both are in use, and what is left if power fails there
abbrev pub in_use : Point
in_use = turns opened (calls both_taken)

abbrev pub left_in_use : Image
left_in_use =
    container l321 1 (replicate line_size 0) (2 ∷ 2 ∷ 1 ∷ replicate 61 0) (0 ∷ 1 ∷ replicate 62 unpaired)
    (segments (20 ∷ 21 ∷ 12 ∷ []) ++ segments (10 ∷ 11 ∷ []))

-- ---- the second life

abbrev pub restarted : Point
restarted = begin l321 adr left_in_use (lent_opening (two_clients 1 1))

unfoldable pub after_restart : List Case
after_restart =
    case 1 (put_by 1 2 22) on_board ((9 ∷ 0 ∷ []) ++ (0 ∷ 0 ∷ 0 ∷ []) ++ (2 ∷ 2 ∷ 1 ∷ []) ++ (0 ∷ 1 ∷ []))
    ∷ case 2 checkpoint on_board ((0 ∷ 14 ∷ []) ++ (0 ∷ 0 ∷ 2 ∷ []) ++ (1 ∷ 1 ∷ 1 ∷ []) ++ (0 ∷ 1 ∷ []))
    ∷ case 3 (put_by 0 0 30) on_board ((0 ∷ 5 ∷ []) ++ (1 ∷ 0 ∷ 1 ∷ []) ++ (2 ∷ 1 ∷ 1 ∷ []) ++ (0 ∷ 1 ∷ []))
    ∷ case 4 (put_by 0 1 31) on_board ((15 ∷ 0 ∷ []) ++ (1 ∷ 0 ∷ 1 ∷ []) ++ (2 ∷ 1 ∷ 1 ∷ []) ++ (0 ∷ 1 ∷ []))
    ∷ case 5 (put_by 1 2 22) on_board ((0 ∷ 43 ∷ []) ++ (1 ∷ 1 ∷ 0 ∷ []) ++ (2 ∷ 1 ∷ 2 ∷ []) ++ (0 ∷ 2 ∷ []))
    ∷ []

-- ---- one client whose share is 0 and whose limit is 1

abbrev pub limited : Point
limited = begin l321 adr left_in_use (lent_opening (client_of 0 1 0 ∷ []))

-- taken by it, free
unfoldable pub at_limit : List Case
at_limit =
    case 1 checkpoint on_board ((0 ∷ 14 ∷ []) ++ (0 ∷ 2 ∷ []) ++ (1 ∷ 1 ∷ 1 ∷ []) ++ (0 ∷ 1 ∷ []))
    ∷ case 2 (put_by 0 0 30) on_board ((0 ∷ 5 ∷ []) ++ (1 ∷ 1 ∷ []) ++ (2 ∷ 1 ∷ 1 ∷ []) ++ (0 ∷ 1 ∷ []))
    ∷ case 3 (put_by 0 1 31) on_board ((14 ∷ 0 ∷ []) ++ (1 ∷ 1 ∷ []) ++ (2 ∷ 1 ∷ 1 ∷ []) ++ (0 ∷ 1 ∷ []))
    ∷ []

-- ---- the story

pub record ConsolesStory : Type 0 where
  -- the first life is a history that demand 3 speaks of; its calls answer so
  pub first_bytes : Bytes (formatted l321)
  pub first_opens : answer (open_outcome l321 adr (formatted l321) (lent_opening (two_clients 0 0))) ≡ 0 ∷ 109 ∷ []
  pub taking_permitted : Supposed adr opened (calls both_taken)
  pub greedy_refused : AsExpected opened both_taken
  pub freed_permitted : Supposed adr in_use (calls freed_again)
  pub freed : AsExpected in_use freed_again
  -- a crash when both backup segments are in use may leave this image
  pub left : MayLeave adr_module in_use.state between left_in_use
  -- so is the second life; its opening restores two main segments and sets what each has taken to 0
  pub bytes : Bytes left_in_use
  pub opens : answer (open_outcome l321 adr left_in_use (lent_opening (two_clients 1 1))) ≡ 0 ∷ 73 ∷ []
  pub cleared : restarted.clients ≡ two_clients 0 0
  pub restored : board_of l321 restarted.state ≡ (2 ∷ 2 ∷ 1 ∷ []) ++ (0 ∷ 1 ∷ [])
  -- client 1 is below its share there, which is not sure yet
  pub below : BelowShare restarted.clients 1
  pub not_yet_sure : SharesHold restarted.state.device restarted.clients → ⊥
  pub permitted : Supposed adr restarted (calls after_restart)
  pub sure_again : AsExpected restarted after_restart
  -- the third
  pub limited_opens : answer (open_outcome l321 adr left_in_use (lent_opening (client_of 0 1 0 ∷ []))) ≡ 0 ∷ 73 ∷ []
  pub limited_permitted : Supposed adr limited (calls at_limit)
  pub limit_reached : AsExpected limited at_limit
