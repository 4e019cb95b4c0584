use Rattle.printer.proofs.AppendedLaws.{appended_as}
use Rattle.upgrade.proofs.AnswerLaws.{says, leaves_out, too_long, short_enough, rewrites}
use Rattle.upgrade.proofs.upgrade_good.Goals as goal

pub returns-then-is_named : goal.returns-then-is_named
returns-then-is_named c =
    appended_as (says _ _ _ _ _ c.split_line.ensures c.split_line-2.ensures c.is_named.ensures c.number_in-backups.result c.if-is_named.true c.number_in-backups.ensures)
    c.number.ensures.appended

pub returns-then-size-gt-MOST_BYTES : goal.returns-then-size-gt-MOST_BYTES
returns-then-size-gt-MOST_BYTES c =
    appended_as (too_long _ _ _ _ _ c.split_line.ensures c.split_line-2.ensures c.is_named.ensures c.if-is_named.false c.requires.good c.if-size-gt-MOST_BYTES.true)
    c.number-then-size-gt-MOST_BYTES.ensures.appended

pub put_rewritten-requires : goal.put_rewritten-requires
put_rewritten-requires c =
    record {
      leaves_out = leaves_out _ _ _ _ _ c.split_line.ensures c.split_line-2.ensures c.is_named.ensures c.if-is_named.false c.requires.good;
      size = short_enough _ _ _ _ _ c.split_line.ensures c.split_line-2.ensures c.is_named.ensures c.if-is_named.false c.requires.good c.if-size-gt-MOST_BYTES.false;
      room = c.requires.room;
    }

pub returns : goal.returns
returns c =
    appended_as (rewrites _ _ _ _ _ c.split_line.ensures c.split_line-2.ensures c.is_named.ensures c.if-is_named.false c.requires.good c.if-size-gt-MOST_BYTES.false)
    c.put_rewritten.ensures
