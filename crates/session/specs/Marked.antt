-- Which main segments have a dirty block, as bits of a word: a helper's, which says nothing that users rely on. Assumes nothing.
use Rattle.std.specs.Prelude.{ℕ, zero, suc, cond, List, eqb, get_or}
use Rattle.model.specs.Session.{set_bit}

-- those of the first n main segments whose word of dirty blocks is not 0
unfoldable pub marked_segments : List ℕ → ℕ → ℕ
marked_segments words zero = 0
marked_segments words (suc n) = cond (eqb (get_or words n 0) 0) (marked_segments words n) (set_bit (marked_segments words n) n)
