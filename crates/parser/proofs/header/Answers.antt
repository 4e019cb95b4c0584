use Rattle.std.proofs.Common.{refl}
use Rattle.parser.proofs.ReadLaws.{header_short, short_stands, header_long, long_stands}
use Rattle.parser.proofs.header.Goals as goal

pub returns-then-not-is_named-clause-reads : goal.returns-then-not-is_named-clause-reads
returns-then-not-is_named-clause-reads c =
    header_short _ c.split_line.ensures c.split_line-2.ensures c.number_in-mains.ensures c.is_named.ensures
    c.if-not-is_named.true c.default_backups.ensures c.number_in-blocks.ensures c.new-layout.ensures refl

pub returns-then-not-is_named-clause-stands : goal.returns-then-not-is_named-clause-stands
returns-then-not-is_named-clause-stands c =
    short_stands _ c.split_line.ensures c.split_line-2.ensures c.number_in-mains.ensures c.is_named.ensures c.if-not-is_named.true refl

pub returns-clause-reads : goal.returns-clause-reads
returns-clause-reads c =
    header_long _ c.split_line.ensures c.split_line-2.ensures c.number_in-mains.ensures c.is_named.ensures
    c.if-not-is_named.false c.split_line-3.ensures c.number_in-backups.ensures c.number_in-blocks-2.ensures c.new-layout-2.ensures refl

pub returns-clause-stands : goal.returns-clause-stands
returns-clause-stands c =
    long_stands _ c.split_line.ensures c.split_line-2.ensures c.number_in-mains.ensures c.is_named.ensures c.if-not-is_named.false c.split_line-3.ensures refl
