use mathlib.Core.Path.{ap, ◌∙◌}
use Prim.Native.Nat.{ℕ, ◌+◌}
use native.Mathlib.Nat.{zero-add}
use Rattle.std.proofs.Common.{rules, tests}
use Rattle.model.specs.Words.{byte_at}
use Rattle.model.proofs.Laws.Words.{word_moved}
use Rattle.inspect.proofs.WordLaws.{filled}
use Rattle.inspect.proofs.word_or_zero.Goals as goal

pub returns : goal.returns
returns c =
    let bytes = c.from_fn.result in
    let at = c.args.at in
    let I = c.args.image.now in
    c.join.ensures ∙ word_moved (byte_at bytes) (byte_at I) 0 at (λ k l. ap (byte_at bytes) (zero-add k) ∙ filled _ _ (λ (k : ℕ). byte_at I (at + k)) bytes (λ k y q t. search (rules, tests)) 8 0 c.from_fn.ensures.items.each k k l (zero-add k))
