-- The C interface: a session as words (the trade: the card), and what opening, write, discard and checkpoint return, by model's outcome of
-- the call. The contracts of crate capi, the exported functions, are said in these terms; the other calls' in model's own.
-- docs/SPECIFICATION.md, section 19. Assumes nothing.
use Rattle.std.specs.Prelude.{ℕ, ◌+◌, ◌-◌, ◌≡◌, [], ◌∷◌, ◌++◌, length, get_or, take, drop}
use Rattle.model.specs.declared.Layout.{Layout}
use Rattle.model.specs.declared.Session.{Session}
use Rattle.model.specs.Layout.{layout_of, most}
use Rattle.model.specs.Words.{Image}
use Rattle.model.specs.Ops.{Trace, written}
use Rattle.model.specs.Clients.{Clients}
use Rattle.model.specs.Outcome.{lent, Outcome}
use Rattle.model.specs.Open.{open_outcome}
use Rattle.model.specs.Write.{WriteArgs, write_outcome}
use Rattle.model.specs.Discard.{discard_outcome}
use Rattle.model.specs.Checkpoint.{checkpoint_outcome}
use Rattle.clients.specs.Words.{Words}

-- ---- a session as words

-- where the dirty segments stand: after the three sizes
abbrev pub dirty_segments_at : ℕ
dirty_segments_at = 3

-- where the words of dirty blocks start: after the dirty segments
abbrev pub dirty_blocks_at : ℕ
dirty_blocks_at = 4

-- how many words a session has: these, a word of dirty blocks for each main segment, and the kind of module
abbrev pub session_words : ℕ
session_words = dirty_blocks_at + most + 1

-- where the kind of module stands: it is the last of the words
abbrev pub domain_at : Words → ℕ
domain_at w = length w - 1

-- the three sizes, the dirty segments, for each main segment its word of dirty blocks, and the kind of module
unfoldable pub words_of : Session → Words
words_of s = s.layout.mains ∷ s.layout.backups ∷ s.layout.blocks ∷ s.dirty_segments ∷ s.dirty_blocks ++ s.domain ∷ []

-- the session that stands in words
unfoldable pub session_in : Words → Session
session_in w =
    record {
      layout = layout_of (get_or w 0 0) (get_or w 1 0) (get_or w 2 0);
      dirty_segments = get_or w dirty_segments_at 0;
      dirty_blocks = take (domain_at w - dirty_blocks_at) (drop dirty_blocks_at w);
      domain = get_or w (domain_at w) 0;
    }

-- ---- opening, write, discard and checkpoint

-- what a call returns and leaves: its number, the words of the session, the records of clients, the trace, and how many operations stand on
-- it
pub record Returned : Type 0 where
  pub number : ℕ
  pub session : Words
  pub clients : Clients
  pub trace : Trace
  pub ops : ℕ

-- by an outcome: its number, its session, its records, its operations on the trace t, and how many they are
abbrev pub returned : Trace → Outcome → Returned
returned t o = record { number = o.status; session = words_of o.session; clients = o.clients; trace = written o.ops t; ops = length o.ops }

-- of each call; an opening takes the kind d of module, all others the session that stands in the words s, and all but a discard are lent the
-- records R, which stand in words too (crate clients, specs/Words.antt); a discard leaves them, whatever they are
abbrev pub open_returned : Layout → ℕ → Image → Clients → Trace → Returned
open_returned l d I R t = returned t (open_outcome l d I (lent R t))

abbrev pub write_returned : Image → Words → Clients → WriteArgs → Trace → Returned
write_returned I s R w t = returned t (write_outcome (session_in s) I w (lent R t))

abbrev pub discard_returned : Image → Words → Clients → ℕ → Trace → Returned
discard_returned I s R i t = returned t (discard_outcome (session_in s) I i (lent R t))

abbrev pub checkpoint_returned : Image → Words → Clients → Trace → Returned
checkpoint_returned I s R t = returned t (checkpoint_outcome (session_in s) I (lent R t))

-- number, session, records, trace and number of operations are those that are returned
abbrev pub Returns : Returned → ℕ → Words → Clients → Trace → ℕ → Type 0
Returns r number s R t ops = (number ≡ r.number) × (s ≡ r.session) × (R ≡ r.clients) × (t ≡ r.trace) × (ops ≡ r.ops)
