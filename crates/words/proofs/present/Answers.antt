use mathlib.Core.Path.{◌∙◌, ap}
use Prim.Native.Nat.{ℕ}
use Rattle.words.proofs.ByteLaws.{present_of, present_word}
use Rattle.words.proofs.present.Goals as goal

pub returns : goal.returns
returns c f h e = ap (λ (w : ℕ). present_of w) e ∙ present_word f h
