use Rattle.std.proofs.Common.{◌≡◌, ℕ, ◌+◌, ◌*◌, ◌/◌, ◌≤◌, Bool, cond, sym, ap, ◌∙◌, arith}
use Rattle.std.specs.Prelude.{Result, Ok, Err}
use Rattle.model.specs.Session.{is_dirty}
use Rattle.model.specs.Container.{seg_state, backup_to_main}
use Rattle.container.specs.declared.Paired.{Paired}
use Rattle.container.specs.Scan.{lay_pairs}
use Rattle.container.proofs.ValidLaws.{tested_by, tested_valid, tested_paired, examined}
use Rattle.container.proofs.examine.Goals as goal

pub returns-then-pairs_ok-states_ok : goal.returns-then-pairs_ok-states_ok
returns-then-pairs_ok-states_ok c =
    let I = c.args.image.now in
    let l = c.args.layout in
    let st = seg_state I c.args.line in
    let pr = backup_to_main I in
    let p = 8 * c.div_ceil.result in
    let q = 8 * c.div_ceil-2.result in
    let e = c.of_words-set.ensures in
    let set = c.of_words-set.result.set in
    let told : Bool → Result ℕ ℕ = λ b. cond b (Ok set) (Err set) in
    let pairs : l.backups ≤ p = omega arith in
    let count : c.div_ceil.result ≡ (l.backups + 7) / 8 = omega arith in
    let states : l.mains ≤ q = omega arith in
    let test = tested_by l st pr p q pairs states (omega arith) (omega arith) e c.from.ensures c.within.ensures c.states_fit-states_ok.ensures c.rest_is.ensures c.rest_is-2.ensures in
    examined l st pr _ set (sym (ap told c.if-pairs_ok-states_ok.true)) (test ∙ tested_valid l st pr p q pairs states (omega arith) (omega arith))
    (ap (λ (x : Paired). x.set) e ∙ ap (λ (n : ℕ). (lay_pairs pr (8 * n)).set) count)
    (λ h i m. ap (λ (x : Paired). is_dirty x.set i) e ∙ tested_paired l st pr p q pairs states (omega arith) (omega arith) (sym test ∙ h) i m)

pub returns-else-pairs_ok-states_ok : goal.returns-else-pairs_ok-states_ok
returns-else-pairs_ok-states_ok c =
    let I = c.args.image.now in
    let l = c.args.layout in
    let st = seg_state I c.args.line in
    let pr = backup_to_main I in
    let p = 8 * c.div_ceil.result in
    let q = 8 * c.div_ceil-2.result in
    let e = c.of_words-set.ensures in
    let set = c.of_words-set.result.set in
    let told : Bool → Result ℕ ℕ = λ b. cond b (Ok set) (Err set) in
    let pairs : l.backups ≤ p = omega arith in
    let count : c.div_ceil.result ≡ (l.backups + 7) / 8 = omega arith in
    let states : l.mains ≤ q = omega arith in
    let test = tested_by l st pr p q pairs states (omega arith) (omega arith) e c.from.ensures c.within.ensures c.states_fit-states_ok.ensures c.rest_is.ensures c.rest_is-2.ensures in
    examined l st pr _ set (sym (ap told c.if-pairs_ok-states_ok.false)) (test ∙ tested_valid l st pr p q pairs states (omega arith) (omega arith))
    (ap (λ (x : Paired). x.set) e ∙ ap (λ (n : ℕ). (lay_pairs pr (8 * n)).set) count)
    (λ h i m. ap (λ (x : Paired). is_dirty x.set i) e ∙ tested_paired l st pr p q pairs states (omega arith) (omega arith) (sym test ∙ h) i m)
