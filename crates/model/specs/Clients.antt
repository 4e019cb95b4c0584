-- The records of clients (SPECIFICATION 5.7; the trade: consoles), which are lent to opening, write and checkpoint together: how many
-- backup segments each is sure of, how many it may take, and how many it has taken. Sums are sums of natural numbers. Assumes nothing.
use Rattle.std.specs.Prelude.{ℕ, suc, ◌-◌, Bool, false, cond, ◌||◌, List, [], ◌∷◌, map, leb, ltb, eqb, length, get_or, set}
use Rattle.model.specs.declared.Layout.{Layout}
use Rattle.model.specs.declared.Client.{Client}
use Rattle.model.specs.Range.{any_b, sum_to}
use Rattle.model.specs.Status.{Errors}

-- the records of all clients, in the order of their numbers (the trade: a run of console records); at most 8
abbrev pub Clients : Type 0
Clients = List Client

abbrev pub most_clients : ℕ
most_clients = 8

-- a record (the trade: share, limit, taken); the one that stands for a client outside the run
abbrev pub client_of : ℕ → ℕ → ℕ → Client
client_of reserved quota used = record { reserved = reserved; quota = quota; used = used }

abbrev pub no_client : Client
no_client = client_of 0 0 0

-- the record of client k
abbrev pub client_at : Clients → ℕ → Client
client_at R k = get_or R k no_client

-- a record with another number taken
abbrev pub with_used : ℕ → Client → Client
with_used n c = client_of c.reserved c.quota n

-- the records after a write that copies its main segment, made by client k: it has taken one more
unfoldable pub charged : Clients → ℕ → Clients
charged R k = set R k (with_used (suc (client_at R k).used) (client_at R k))

-- the records after an opening or a checkpoint: none has taken any
unfoldable pub cleared : Clients → Clients
cleared R = map (with_used 0) R

-- ---- shares

-- what a client has not taken yet of what is reserved for it: nothing where it has taken that many or more
abbrev pub unused : Client → ℕ
unused c = c.reserved - c.used

-- what all reserve; what all have unused; and what the others than client k have
abbrev pub reserved_total : Clients → ℕ
reserved_total R = sum_to (length R) (λ j. (client_at R j).reserved)

abbrev pub unused_total : Clients → ℕ
unused_total R = sum_to (length R) (λ j. unused (client_at R j))

abbrev pub unused_of_others : Clients → ℕ → ℕ
unused_of_others R k = sum_to (length R) (λ j. cond (eqb j k) 0 (unused (client_at R j)))

-- ---- refusal 13

-- a share above its limit, or more taken than the limit
abbrev pub client_bad : Client → Bool
client_bad c = ltb c.quota c.reserved || ltb c.quota c.used

-- more than 8 records, a bad one among them, or shares that add up to more than there are backup segments
unfoldable pub clients_bad : Layout → Clients → Bool
clients_bad l R =
    ltb most_clients (length R) || any_b (length R) (λ j. client_bad (client_at R j)) || ltb l.backups (reserved_total R)

-- for an opening and a checkpoint; for a write by client k, which must have a record
abbrev pub clients_errors : Layout → Clients → Errors
clients_errors l R = (13, clients_bad l R) ∷ []

abbrev pub client_errors : Layout → Clients → ℕ → Errors
client_errors l R k = (13, leb (length R) k || clients_bad l R) ∷ []

-- ---- refusals 14 and 15, for a write that copies its main segment (`copying`), made by client k, while so many backup segments are
-- free, that of the main segment included

-- the client has taken as many as it may
abbrev pub quota_reached : Clients → ℕ → Bool
quota_reached R k = leb (client_at R k).quota (client_at R k).used

-- the free ones do not exceed what the others have unused
abbrev pub all_reserved : Clients → ℕ → ℕ → Bool
all_reserved R k free = leb free (unused_of_others R k)

abbrev pub share_errors : Bool → Clients → ℕ → ℕ → Errors
share_errors copying R k free =
    (14, cond copying (quota_reached R k) false) ∷ (15, cond copying (all_reserved R k free) false) ∷ []
