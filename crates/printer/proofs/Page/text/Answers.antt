use mathlib.Core.Path.{refl, sym, ap, ◌∙◌}
use Prim.Native.Nat.{◌+◌, ◌-◌}
use mathlib.Core.List.{◌++◌, append_assoc}
use native.Mathlib.Omega.{arith}
use lib.ListN.{length, take, length-append}
use lib.Seq.{length-take-le, take_at}
use borrow.Rule.Slice.PartMut.{post_of, same_len_mid, mid_len, drop_put}
use Rattle.printer.proofs.Page.text.Goals as goal

pub returns : goal.returns
returns c =
    let from = c.args.self.now.end in
    let out = c.args.self.now.out.now in
    let t = c.args.text.now in
    let end = from + length t in
    rw c.copy_from_slice.ensures.after (record {
      same = refl;
      end = refl;
      size = same_len_mid from (end - from) out t (omega (arith, mid_len from end out));
      holds = ap (take end) (sym (append_assoc (take from out) t (post_of from (end - from) out))) ∙ take_at (take from out ++ t) _ end (omega (arith, length-append (take from out) t, length-take-le from out));
      rest = drop_put from end out t (omega arith) (omega arith) (omega arith);
    })
