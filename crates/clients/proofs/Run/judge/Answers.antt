use Rattle.std.proofs.Common.{◌≡◌, ◌<◌, ℕ, ◌+◌, sym, ap, ◌∙◌, [], take, arith}
use Rattle.std.proofs.lemmas.Grind.{common_steps}
use Rattle.model.specs.Status.{code_of}
use Rattle.std.proofs.lemmas.List.{length-take}
use Rattle.model.specs.Range.{sum_to}
use Rattle.model.specs.Clients.{client_at, client_bad}
use Rattle.model.proofs.Laws.Range.{sum_none, sum_more}
use Rattle.model.proofs.Laws.Status.{first_holds, first_fails, first_of_none}
use Rattle.clients.proofs.RunLaws.{any_nothing, any_one_more, bad_count, bad_record, bad_sum, none_bad, kept}
use Rattle.clients.proofs.Run.judge.Goals as goal

pub returns-then-self-gt-MOST_CLIENTS-clause-result_value : goal.returns-then-self-gt-MOST_CLIENTS-clause-result_value
returns-then-self-gt-MOST_CLIENTS-clause-result_value c = λ R e. first_holds 13 _ [] (bad_count c.args.layout c.args.self R e (omega (arith, c.if-self-gt-MOST_CLIENTS.true)))

pub loop-c-init : goal.loop-c-init
loop-c-init c = (any_nothing _, omega (arith, sum_none (λ j. (client_at c.args.self.clients j).reserved)))

pub returns-then-client_bad-clause-result_value : goal.returns-then-client_bad-clause-result_value
returns-then-client_bad-clause-result_value c = λ R e.
    let a = c.args in
    let w = kept a.self c.loop-c.c-index c.loop-c-test.true in
    first_holds 13 _ []
    (bad_record a.layout a.self R e (omega arith) c.loop-c.c-index w.0 (ap client_bad (sym w.1) ∙ sym c.client_bad.ensures ∙ c.if-client_bad.true))

pub returns-in_err-left-clause-result_value : goal.returns-in_err-left-clause-result_value
returns-in_err-left-clause-result_value c = λ R e.
    let a = c.args in
    let k = c.loop-c.c-index in
    let w = kept a.self k c.loop-c-test.true in
    let bad : code_of c.from_residual.result ≡ 13 = grind (arith, common_steps) in
    let more : c.loop-c.left < (client_at (take a.self.count a.self.clients) k).reserved = grind (arith, common_steps) in
    bad
    ∙ first_holds 13 _ []
    (bad_sum a.layout a.self R e (omega arith) (k + 1) (omega (arith, w.0))
    (omega (arith, rw w.1 at more, c.loop-c.invariant.1, sum_more k (λ j. (client_at a.self.clients j).reserved))))

pub loop-c-preserved : goal.loop-c-preserved
loop-c-preserved c =
    let a = c.args in
    let k = c.loop-c.c-index in
    let w = kept a.self k c.loop-c-test.true in
    let rest : c.in_ok-left.left + (client_at (take a.self.count a.self.clients) k).reserved ≡ c.loop-c.left = grind (arith, common_steps) in (
      any_one_more k (λ j. client_bad (client_at a.self.clients j)) c.loop-c.invariant.0 (ap client_bad (sym w.1) ∙ sym c.client_bad.ensures ∙ c.if-client_bad.false),
      omega (arith, rw w.1 at rest, c.loop-c.invariant.1, sum_more k (λ j. (client_at a.self.clients j).reserved)),
    )

pub returns-clause-result_value : goal.returns-clause-result_value
returns-clause-result_value c = λ R e.
    let a = c.args in
    let w = c.loop-c.invariant in
    let all : c.loop-c.c-index ≡ a.self.count = omega (arith, length-take a.self.count a.self.clients) in
    first_fails 13 0 _ []
    (none_bad a.layout a.self R e (omega arith) (rw all at w.0) (omega (arith, w.1, ap (λ (m : ℕ). sum_to m (λ j. (client_at a.self.clients j).reserved)) all)))
    first_of_none
