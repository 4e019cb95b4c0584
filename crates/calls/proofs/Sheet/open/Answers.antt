use mathlib.Core.Path.{refl}
use native.Mathlib.Omega.{arith}
use Rattle.model.specs.Range.{cat}
use Rattle.model.specs.Session.{zero_session}
use Rattle.text.specs.Text.{text}
use Rattle.calls.specs.declared.Sheet.{Sheet}
use Rattle.calls.specs.Printed.{blank}
use Rattle.calls.proofs.CallLaws.{made}
use Rattle.calls.proofs.OpenLaws.{formats, opened}
use Rattle.calls.proofs.Sheet.open.Goals as goal

pub returns-clause-opened : goal.returns-clause-opened
unfolding zero_session blank text cat
returns-clause-opened c =
    let l = c.args.layout in
    let lent : Sheet = record {
      image = record { ref_ptr = c.args.image.ref_ptr; ghost_name = c.args.image.ghost_name; now = c.crpm_format.new.image };
      session = c.fresh-session.result;
      client = record { reserved = l.backups; quota = l.backups; used = 0 };
    } in
    let zero = rw c.new.ensures at c.fresh-session.ensures in
    let left = c.answered.ensures in
    let formatted = formats l c.args.image.now _ c.requires.image_len.1 c.requires.image_len.0 c.crpm_format.ensures.image_after in
    let stepped = rw (← zero) at (c.step_open-opened.ensures c.fresh-session.result) in
    let m = made {s = lent} {s' = c.answered.new.self} stepped c.from_mut-clients.ensures.value (omega arith) left.same.1 left.session left.same.2 in
    opened l {s = lent} formatted refl m left.appended c.text.ensures
