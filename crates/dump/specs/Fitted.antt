-- What a lent buffer holds that was offered a text: the text at its start and what stood behind, or, if it is too short for the whole text, what
-- it held. Assumes nothing.
use Rattle.std.specs.Prelude.{ℕ, cond, List, ◌++◌, leb, length, drop}

unfoldable pub fitted : List ℕ → List ℕ → List ℕ
fitted text out = cond (leb (length text) (length out)) (text ++ drop (length text) out) out
