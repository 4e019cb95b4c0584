use Rattle.std.proofs.Common.{ap, ◌∙◌, arith, get_or}
use Rattle.container.specs.declared.Paired.{Paired}
use Rattle.container.specs.Scan.{lay_pair}
use Rattle.container.proofs.PairLaws.{lay_part, lay_parts, lay_count}
use Rattle.container.proofs.Paired.with_any.Goals as goal

pub loop-pair-preserved : goal.loop-pair-preserved
loop-pair-preserved c =
    let l = c.loop-pair in
    let b = get_or c.to_le_bytes-pair-items.result l.pair-index 0 in (
      c.with-next.ensures ∙ ap (λ (p : Paired). lay_pair p b) l.invariant.0 ∙ lay_part c.args.self c.args.word c.to_le_bytes-pair-items.ensures l.pair-index (omega arith),
      omega (arith, ap (λ (p : Paired). p.count) c.with-next.ensures, lay_count l.next b),
    )

pub returns : goal.returns
returns c = c.loop-pair.invariant.0 ∙ lay_parts c.args.self c.args.word c.to_le_bytes-pair-items.ensures c.loop-pair.pair-index (omega arith)
