use Rattle.std.proofs.Common.{◌≡◌, sym, ap, ◌∙◌, true, false, leb, arith}
use Rattle.model.specs.Clients.{quota_reached, all_reserved}
use Rattle.model.proofs.Laws.Status.{first_holds, first_fails, first_of_none}
use Rattle.clients.proofs.RunLaws.{under_limit, unused_others}
use Rattle.clients.proofs.Run.judge_share.Goals as goal

pub returns-then-all_reserved-clause-result_value : goal.returns-then-all_reserved-clause-result_value
returns-then-all_reserved-clause-result_value c = λ R e.
    let a = c.args in
    let q : quota_reached R a.client ≡ false = under_limit a.self R e a.client c.requires.0 (omega arith) in
    let s : all_reserved R a.client a.free ≡ true = ap (leb a.free) (sym (unused_others a.self R e c.requires.1 a.client)) ∙ sym c.all_reserved.ensures ∙ c.if-all_reserved.true in
    rw c.if-not-copying.false (first_fails 14 15 _ _ q (first_holds 15 _ _ s))

pub returns-clause-result_value : goal.returns-clause-result_value
returns-clause-result_value c = λ R e.
    let a = c.args in
    let q : quota_reached R a.client ≡ false = under_limit a.self R e a.client c.requires.0 (omega arith) in
    let s : all_reserved R a.client a.free ≡ false = ap (leb a.free) (sym (unused_others a.self R e c.requires.1 a.client)) ∙ sym c.all_reserved.ensures ∙ c.if-all_reserved.false in
    rw c.if-not-copying.false (first_fails 14 0 _ _ q (first_fails 15 0 _ _ s first_of_none))
