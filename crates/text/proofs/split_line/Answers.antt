use Rattle.std.proofs.Common.{◌∙◌, ap}
use lib.ListN.{take, drop}
use Rattle.text.proofs.LineLaws.{split_at_end}
use Rattle.text.proofs.split_line.Goals as goal

pub returns : goal.returns
returns c =
    let i = c.args.input.now in
    let s = c.split_at.ensures in
    split_at_end i _ _ (s.front ∙ ap (λ n. take n i) c.line_len.ensures.0) (s.back ∙ ap (λ n. drop n i) c.line_len.ensures.0)
