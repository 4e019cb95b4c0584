use Rattle.std.proofs.Common.{◌+◌, ◌&&◌, ap, ◌∙◌, ap₂, arith}
use Rattle.model.specs.Words.{byte_at}
use Rattle.container.proofs.LineLaws.{rest_halves, rest_second}
use Rattle.container.proofs.rest_is.Goals as goal

pub returns-then-n-lt-HALF_LINE : goal.returns-then-n-lt-HALF_LINE
returns-then-n-lt-HALF_LINE c =
    let a = c.args in
    let I = a.image.now in
    ap₂ ◌&&◌ c.half_is.ensures c.half_is-then-n-lt-HALF_LINE.ensures
    ∙ rest_halves (λ i. byte_at I (a.line + i)) (λ i. byte_at I (a.line + 32 + i)) a.value a.n (λ i. ap (byte_at I) (omega arith)) (omega arith)

pub returns : goal.returns
returns c =
    let a = c.args in
    let I = a.image.now in
    c.half_is-2.ensures ∙ rest_second (λ i. byte_at I (a.line + i)) (λ i. byte_at I (a.line + 32 + i)) a.value a.n (λ i. ap (byte_at I) (omega arith)) (omega arith)
