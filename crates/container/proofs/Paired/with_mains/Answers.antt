use Rattle.std.proofs.Common.{ℕ, ◌+◌, ◌*◌, ◌%◌, ◌^◌, ◌<◌, ap, ◌∙◌, arith, get_or, ne_eqb}
use lib.Bits.{bit_or}
use Rattle.container.specs.declared.Paired.{Paired}
use Rattle.container.specs.Scan.{lay_pair}
use Rattle.container.proofs.PairLaws.{lay_below, lay_part, lay_parts, low_parts}
use Rattle.container.proofs.Paired.with_mains.Goals as goal

pub overflow_shl-set : goal.overflow_shl-set
overflow_shl-set c = low_parts c.args.word c.loop-pair.pair-index c.to_le_bytes-pair-items.ensures c.requires.word_value (omega arith)

pub loop-pair-preserved : goal.loop-pair-preserved
loop-pair-preserved c =
    let l = c.loop-pair in
    let e = c.to_le_bytes-pair-items.ensures in
    let b = get_or c.to_le_bytes-pair-items.result l.pair-index 0 in
    let low : b < 64 = low_parts c.args.word l.pair-index e c.requires.word_value (omega arith) in
    let set = bit_or l.set (1 * 2 ^ b % 18446744073709551616) in
    ap (λ (n : ℕ). record { set = set; count = n }) (omega arith)
    ∙ lay_below (record { set = l.set; count = c.args.self.count + l.pair-index }) b (ne_eqb b 255 (λ z. omega arith)) low
    ∙ ap (λ (p : Paired). lay_pair p b) l.invariant ∙ lay_part c.args.self c.args.word e l.pair-index (omega arith)

pub returns : goal.returns
returns c =
    let l = c.loop-pair in
    ap (λ (n : ℕ). record { set = l.set; count = n }) (omega arith) ∙ l.invariant
    ∙ lay_parts c.args.self c.args.word c.to_le_bytes-pair-items.ensures l.pair-index (omega arith)
