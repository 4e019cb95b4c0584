use Prim.Native.Nat.{ℕ, ◌*◌, ◌^◌}
use mathlib.Core.Path.{◌≡◌, sym, ap, ◌∙◌}
use mathlib.Core.Bool.{cond}
use native.Mathlib.Nat.{zero-mul, div-eq_of_lt}
use Rattle.model.specs.Session.{set_bits}
use Rattle.model.specs.Write.{copies}
use Rattle.write.proofs.written_word.Goals as goal
use Rattle.write.proofs.written_word.Goals.{then-has_copy, else-has_copy}

pub returns : goal.returns
returns c client bytes x =
    let a = c.args in
    let p = 2 ^ a.layout.blocks in
    let kept : c.if-has_copy.kept ≡ cond (copies a.plan) 0 a.word =
    elim c.if-has_copy.branch [
      | then-has_copy w ↦ rw (sym c.has_copy.ensures ∙ w.if-has_copy.true) (w.kept-is ∙ w.clear_blocks-kept.ensures ∙ ap (λ (n : ℕ). n * p) (div-eq_of_lt c.requires.block_lt_blocks.2) ∙ zero-mul p)
      | else-has_copy w ↦ rw (sym c.has_copy.ensures ∙ w.if-has_copy.false) w.kept-is
    ] in
    rw (x, ← kept) (c.set_blocks.ensures ∙ ap (set_bits _ a.span.place.block) c.blocks-2.ensures)
