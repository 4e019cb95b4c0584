-- How many bytes a reading put at the start of its buffer, also where a read failed. Assumes nothing.
use Rattle.std.specs.Prelude.{ℕ, Result, Ok, Err}
use Rattle.stdin.specs.declared.ReadFailed.{ReadFailed}

abbrev pub count_of : Result ℕ ReadFailed → ℕ
count_of (Ok count) = count
count_of (Err failed) = failed.count
