-- The records of clients as a value, as the calls judge them. Assumes nothing.
use Rattle.std.specs.Prelude.{ℕ, zero, suc, min, length, set, replicate}
use Rattle.model.specs.Clients.{Clients, most_clients, no_client, client_at}
use Rattle.clients.specs.declared.Run.{Run}

-- eight records with nothing in them
unfoldable pub no_clients : Clients
no_clients = replicate most_clients no_client

-- the first i of the records R, in an array of eight
unfoldable pub copied : ℕ → Clients → Clients
copied zero R = no_clients
copied (suc i) R = set (copied i R) i (client_at R i)

abbrev pub run_of : ℕ → Clients → Run
run_of count clients = record { count = count; clients = clients }

-- the records R as a value: how many there are, and the first eight
abbrev pub loaded : Clients → Run
loaded R = run_of (length R) (copied (min (length R) most_clients) R)
