use Prim.Native.Nat.{ℕ, ◌/◌, ◌<◌}
use mathlib.Core.Path.{ap, ap₂, ◌∙◌}
use lib.Bits.{bit_xor, xor_lt}
use lib.Count.{count_trailing_zeros}
use borrow.Author.Rules.{rules}
use Rattle.words.proofs.ByteLaws.{each_one, xor_bytes, byte_place}
use Rattle.words.proofs.first_byte.Goals as goal

pub returns : goal.returns
returns c f h e =
    let a = c.args in
    let byte : a.byte < 256 = search rules in
    let x = ap₂ bit_xor e c.each.ensures ∙ xor_bytes f a.byte byte h in
    ap (λ (n : ℕ). n / 8) c.from.ensures
    ∙ ap (λ (w : ℕ). count_trailing_zeros 64 (bit_xor w each_one) / 8)
    (c.present-found.ensures (λ k. bit_xor (f k) a.byte) (λ k l. xor_lt 8 (f k) a.byte (h k l) byte) x)
    ∙ byte_place f a.byte
