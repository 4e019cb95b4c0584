-- What a write on a session that is lent answers, as model's answer of a write and as the records that it leaves; the same of one with
-- session and records as values. Assumes nothing.
use Rattle.std.specs.Prelude.{ℕ, set, Result, Ok, Err}
use Rattle.model.specs.declared.Session.{Session}
use Rattle.model.specs.declared.Client.{Client}
use Rattle.model.specs.declared.Answer.{Answer}
use Rattle.model.specs.declared.Refusal.{Refusal}
use Rattle.model.specs.Clients.{Clients, client_at, with_used}
use Rattle.session.specs.Parts.{session_of}
use Rattle.write.specs.declared.Written.{Written}

-- the session s after a served write to main segment i: the dirty segments and that segment's word of dirty blocks are the answer's
abbrev pub written_session : Session → ℕ → Written → Session
written_session s i w = session_of s.layout w.dirty_segments (set s.dirty_blocks i w.word) s.domain

-- the answer of a write to main segment i in the session s
abbrev pub written_answer : Session → ℕ → Result Written Refusal → Result Answer Refusal
written_answer s i (Ok w) = Ok (record { session = written_session s i w; ops = w.ops })
written_answer s i (Err r) = Err r

-- the records R after a write by client k: served, that client has taken as many as the answer says; refused, R stays
abbrev pub written_clients : Clients → ℕ → Result Written Refusal → Clients
written_clients R k (Ok w) = set R k (with_used w.used (client_at R k))
written_clients R k (Err r) = R

-- the answer, where a record stands beside it, and the records R after that write by client k
abbrev pub run_answer : Result (Answer × Client) Refusal → Result Answer Refusal
run_answer (Ok p) = Ok p.0
run_answer (Err r) = Err r

abbrev pub run_clients : Clients → ℕ → Result (Answer × Client) Refusal → Clients
run_clients R k (Ok p) = set R k p.1
run_clients R k (Err r) = R
