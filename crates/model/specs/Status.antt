-- Status numbers (SPECIFICATION 14) and the rule that picks one. Assumes nothing.
use Rattle.std.specs.Prelude.{ℕ, Bool, cond, List, [], ◌∷◌, eqb}
use Rattle.std.specs.Prelude.{Result, Ok, Err}
use Rattle.model.specs.declared.Refusal.{Refusal}
use Rattle.model.specs.declared.Refusal.TheVariants.{BadSize, BadLength, Foreign, Invalid, BadSession, NoSuchMain, NoSuchBlock, BadSpan, NoFreeBackup, EpochLimit, TraceShort, TraceBad, BadClients, QuotaReached, BackupsReserved}

-- the number of each refusal (SPECIFICATION 14.1)
abbrev pub refusal_number : Refusal → ℕ
refusal_number BadSize = 1
refusal_number BadLength = 2
refusal_number Foreign = 3
refusal_number Invalid = 4
refusal_number BadSession = 5
refusal_number NoSuchMain = 6
refusal_number NoSuchBlock = 7
refusal_number BadSpan = 8
refusal_number NoFreeBackup = 9
refusal_number EpochLimit = 10
refusal_number TraceShort = 11
refusal_number TraceBad = 12
refusal_number BadClients = 13
refusal_number QuotaReached = 14
refusal_number BackupsReserved = 15

-- the number of a call's status: 0 where it is served, whatever it then gives, and else that of its refusal
abbrev pub code_of : {A : Type 0} → Result A Refusal → ℕ
code_of (Ok a) = 0
code_of (Err r) = refusal_number r

-- a call's list of refusals: each number with the condition under which it applies
abbrev pub Errors : Type 0
Errors = List (ℕ × Bool)

-- the number of the first condition that holds, or 0: the call is served
unfoldable pub first_error : Errors → ℕ
first_error [] = 0
first_error (e ∷ es) = cond e.1 e.0 (first_error es)

-- whether a status number means that the call is served
abbrev pub served : ℕ → Bool
served e = eqb e 0
