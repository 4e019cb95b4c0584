-- What a discard on a session that is lent answers, as model's answer of a discard. Assumes nothing.
use Rattle.std.specs.Prelude.{ℕ, Result, Ok, Err}
use Rattle.model.specs.declared.Session.{Session}
use Rattle.model.specs.declared.Answer.{Answer}
use Rattle.model.specs.declared.Refusal.{Refusal}

-- the answer of a discard in the session s, which it keeps
abbrev pub discarded_answer : Session → Result ℕ Refusal → Result Answer Refusal
discarded_answer s (Ok n) = Ok (record { session = s; ops = n })
discarded_answer s (Err r) = Err r
