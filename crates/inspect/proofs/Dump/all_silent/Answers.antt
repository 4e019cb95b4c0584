use mathlib.Core.Path.{refl, ◌∙◌}
use Prim.Native.Nat.{ℕ}
use mathlib.Core.List.{[]}
use native.Mathlib.Omega.{arith}
use Rattle.std.proofs.Common.{rules, tests}
use Rattle.std.proofs.lemmas.Iterator.{YieldsList-from_range}
use Rattle.std.proofs.lemmas.Iterator.Search.{all_from_yields_List}
use Rattle.model.specs.Layout.{block_size}
use Rattle.model.specs.Reads.{checkpoint_block}
use Rattle.model.specs.Same.{same_bytes}
use Rattle.inspect.proofs.LineLaws.{all_range}
use Rattle.inspect.proofs.Dump.all_silent.Goals as goal

pub returns : goal.returns
returns c =
    let a = c.args in
    let n = a.self.layout.blocks in
    let silent = λ (b : ℕ). same_bytes block_size (checkpoint_block a.self.layout a.self.image.now a.main b) [] in
    all_from_yields_List silent _ _ c.all.result c.all.ensures.ran (YieldsList-from_range 0 n n refl (omega arith)) (λ x b q k. search (rules, tests)) ∙ all_range n silent
