use Prim.Native.Nat.{ℕ}
use mathlib.Core.Path.{ap, ◌∙◌}
use Rattle.model.specs.Words.{word_of}
use Rattle.words.proofs.ByteLaws.{each_byte}
use Rattle.words.proofs.each.Goals as goal

pub returns : goal.returns
returns c = each_byte c.from.result ∙ ap (λ (b : ℕ). word_of (λ k. b) 0) c.from.ensures
