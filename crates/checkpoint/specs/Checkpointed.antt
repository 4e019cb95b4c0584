-- What a checkpoint on a session that is lent answers, as model's answer of a checkpoint. Assumes nothing.
use Rattle.std.specs.Prelude.{ℕ, Result, Ok, Err}
use Rattle.model.specs.declared.Session.{Session}
use Rattle.model.specs.declared.Answer.{Answer}
use Rattle.model.specs.declared.Refusal.{Refusal}
use Rattle.model.specs.Session.{with_checkpoint}

-- the answer of a checkpoint in the session s: it has s without dirty segments
abbrev pub checkpointed_answer : Session → Result ℕ Refusal → Result Answer Refusal
checkpointed_answer s (Ok n) = Ok (record { session = with_checkpoint s; ops = n })
checkpointed_answer s (Err r) = Err r
