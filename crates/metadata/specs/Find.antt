-- What a search for a backup segment answers: a helper's, which says nothing that users rely on. Assumes nothing.
use Rattle.std.specs.Prelude.{ℕ, cond, ltb}
use Rattle.std.specs.Prelude.{Option, None, Some}

-- what a search answers that looks for a number below the number of backup segments
unfoldable pub found_below : ℕ → ℕ → Option ℕ
found_below backups j = cond (ltb j backups) (Some j) None
