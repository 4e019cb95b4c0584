use Rattle.std.proofs.Common.{refl, ap}
use lib.Dec.{eqb}
use Rattle.parser.proofs.ReadLaws.{group_read, group_stands}
use Rattle.parser.proofs.group_at.Goals as goal

pub returns-clause-reads : goal.returns-clause-reads
returns-clause-reads c =
    group_read _ _ c.split_line.ensures c.split_line-2.ensures c.split_line-3.ensures c.split_line-4.ensures c.split_line-5.ensures
    c.number_in.ensures c.number_in-2.ensures c.number_in-3.ensures c.value_of.ensures (ap (λ n. eqb n 1) c.number_in-4.ensures) refl

pub returns-clause-stands : goal.returns-clause-stands
returns-clause-stands c =
    group_stands _ _ c.split_line.ensures c.split_line-2.ensures c.split_line-3.ensures c.split_line-4.ensures c.split_line-5.ensures c.value_of.ensures refl
