-- Records of clients that stand in words: share, limit and taken, three words each, as the C interface has them. Assumes nothing.
use Rattle.std.specs.Prelude.{ℕ, List, map, get_or}
use Rattle.model.specs.declared.Client.{Client}
use Rattle.model.specs.Clients.{Clients, client_of}

abbrev pub Words : Type 0
Words = List ℕ

-- one record
abbrev pub client_in : Words → Client
client_in w = client_of (get_or w 0 0) (get_or w 1 0) (get_or w 2 0)

-- all of them, in their order
abbrev pub clients_in : List Words → Clients
clients_in v = map client_in v
