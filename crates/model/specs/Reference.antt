-- The reference model (SPECIFICATION 8.3; the trade: the book) that a history is compared with. It sees the arguments of a
-- call and whether it was served, and neither image, session nor trace. Assumes nothing.
use Rattle.std.specs.Prelude.{ℕ, ◌+◌, ◌*◌, Bool, true, false, List, take, drop}
use Rattle.std.proofs.lemmas.List.Edits.{sets}
use Rattle.model.specs.declared.Layout.{Layout}
use Rattle.model.specs.Layout.{block_size, segment_size}
use Rattle.model.specs.Write.{WriteArgs}

-- the bytes of all main segments, one after the other
abbrev pub Page : Type 0
Page = List ℕ

-- the working state and the checkpoint state (the trade: working and saved page)
pub record Model : Type 0 where
  pub working : Page
  pub checkpoint : Page

-- the arguments of a call: of an opening, the sizes and the kind of module; of a discard, its main segment
pub data CallArgs : Type 0 where
  open_args : Layout → ℕ → CallArgs
  write_args : WriteArgs → CallArgs
  discard_args : ℕ → CallArgs
  checkpoint_args : CallArgs

-- where block b of main segment i stands in a page
abbrev pub page_at : Layout → ℕ → ℕ → ℕ
page_at l i b = block_size * (i * l.blocks + b)

abbrev pub page_block : Layout → Page → ℕ → ℕ → List ℕ
page_block l P i b = take block_size (drop (page_at l i b) P)

-- the bytes of main segment i
abbrev pub page_segment : Layout → Page → ℕ → List ℕ
page_segment l P i = take (segment_size l) (drop (page_at l i 0) P)

-- what a call does to the model: a discard counts as a write of the main segment's bytes of the checkpoint
unfoldable pub model_step : Layout → CallArgs → Bool → Model → Model
model_step l (open_args k d) true m = record { working = m.checkpoint; checkpoint = m.checkpoint }
model_step l (open_args k d) false m = m
model_step l (write_args w) true m =
    record { working = sets m.working (page_at l w.main w.block + w.offset) w.bytes; checkpoint = m.checkpoint }
model_step l (write_args w) false m = m
model_step l (discard_args i) true m =
    record { working = sets m.working (page_at l i 0) (page_segment l m.checkpoint i); checkpoint = m.checkpoint }
model_step l (discard_args i) false m = m
model_step l checkpoint_args true m = record { working = m.working; checkpoint = m.working }
model_step l checkpoint_args false m = m
