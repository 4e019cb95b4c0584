use Rattle.std.proofs.Common.{ℕ, arith, ap, length, length-append}
use Rattle.printer.proofs.AppendedLaws.{appended_then, appended_as}
use Rattle.upgrade.proofs.RewritingLaws.{line_put, parts_put, line, first_short, rewritten_size}
use Rattle.upgrade.proofs.put_rewritten.Goals as goal

pub text-requires : goal.text-requires
text-requires c =
    record { room = omega (arith, c.requires.room.room, first_short _ c.requires.leaves_out, ap length c.split_line.ensures.first) }

pub number-requires : goal.number-requires
number-requires c =
    let t = c.text.ensures in
    record { room = omega (arith, t.end, t.size, c.requires.room.room, first_short _ c.requires.leaves_out, ap length c.split_line.ensures.first) }

pub text-requires-2 : goal.text-requires-2
text-requires-2 c =
    let s = c.split_line.ensures in
    let t = c.text.ensures in
    let n = c.number.ensures.appended in
    record {
      room = omega (
        arith,
        t.end,
        t.size,
        n.end,
        n.size,
        c.requires.room.room,
        c.requires.size,
        rewritten_size _ c.requires.leaves_out,
        line_put _ _ _ s c.number_in-mains.result c.number_in-mains.ensures (line _ c.requires.leaves_out),
        ap length s.joined,
        length-append {A = ℕ},
      );
    }

pub returns : goal.returns
returns c =
    appended_as (parts_put _ _ _ c.split_line.ensures c.number_in-mains.result c.number_in-mains.ensures)
    (appended_then (appended_then c.text.ensures c.number.ensures.appended) c.text-2.ensures)
