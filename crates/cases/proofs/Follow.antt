-- A test of a story's rows, which the checker computes, and the law that the test means equality. It runs over the same rows made another
-- way, with the image after each call computed once before the next call reads it.
use Prim.Native.Nat.{ℕ}
use mathlib.Core.Path.{◌≡◌, refl, sym, ap, ap₂, subst, ◌∙◌}
use mathlib.Core.Bool.{Bool, true, ◌&&◌}
use mathlib.Core.List.{List, [], ◌∷◌, map}
use Rattle.model.specs.Words.{Image}
use Rattle.cases.specs.Turns.{Point, point_of, Turn, turn, turns}
use Rattle.cases.specs.Table.{Row, Case, case, answer_only, row_of, follow, AsExpected, calls, opened}
use Rattle.model.proofs.Laws.Range.{and_left, and_right}
use Rattle.cases.proofs.Compute.{same, same_equal, known, known_same}
use Rattle.cases.proofs.Quick.{quick_args, quick_same}

-- ---- a test of rows

unfoldable pub agree : List Row → Bool
agree [] = true
agree (r ∷ rs) = same r.given r.expected && agree rs

pub agree_equal : (rs : List Row) → agree rs ≡ true → map (λ r. r.given) rs ≡ map (λ r. r.expected) rs
unfolding agree
agree_equal [] e = refl
agree_equal (r ∷ rs) e =
    ap₂ ◌∷◌ (same_equal r.given r.expected (and_left _ (agree rs) e)) (agree_equal rs (and_right (same r.given r.expected) (agree rs) e))

-- ---- the image of a point, computed before it is handed on

abbrev pub with_image : Point → List ℕ → Point
with_image p I = point_of (record {
  device = record {
    layout = p.state.device.layout;
    durable = p.state.device.durable;
    played = p.state.device.played;
    adr_played = p.state.device.adr_played;
    image = I;
    session = p.state.device.session;
  };
  model = p.state.model;
}) p.clients

abbrev pub known_point : {A : Type 0} → Point → (Point → A) → A
known_point p k = known p.state.device.image (λ I. k (with_image p I))

pub known_point_lem : {A : Type 0} (p : Point) (k : Point → A) → known_point p k ≡ k p
known_point_lem p k = known_same p.state.device.image (λ I. k (with_image p I))

-- the rows, and where the last call leaves the history, handed on together
unfoldable pub follow_known : {A : Type 0} → List Case → Point → (List Row → Point → A) → A
follow_known [] p k = k [] p
follow_known (c ∷ cs) p k = known (quick_args p c.call.trace c.call.args) (λ I.
    let q : Point = with_image (turn p c.call) I in follow_known cs q (λ rs last. k (row_of p c q ∷ rs) last))

follow_same : {A : Type 0} (cs : List Case) (p : Point) (k : List Row → Point → A) → follow_known cs p k ≡ k (follow cs p) (turns p (calls cs))
unfolding follow_known follow turns
follow_same [] p k = refl
follow_same (c ∷ cs) p k =
    let q : Point = turn p c.call in
    known_same (quick_args p c.call.trace c.call.args) (λ I. follow_known cs (with_image q I) (λ rs last. k (row_of p c (with_image q I) ∷ rs) last))
    ∙ ap (λ (I : Image). follow_known cs (with_image q I) (λ rs last. k (row_of p c (with_image q I) ∷ rs) last)) (quick_same p c.call)
    ∙ follow_same cs q (λ rs last. k (row_of p c q ∷ rs) last)

-- a test of them
pub follow_test : (cs : List Case) (p : Point) (test : List Row → Point → Bool) → follow_known cs p test ≡ true → test (follow cs p) (turns p (calls cs)) ≡ true
follow_test cs p test e = sym (follow_same cs p test) ∙ e

-- the same from the opening of a fresh board on, with the image after it computed first
pub from_opening : (cs : List Case) (test : List Row → Point → Bool) → known_point opened (λ p. follow_known cs p test) ≡ true
    → test (follow cs opened) (turns opened (calls cs)) ≡ true
from_opening cs test e = follow_test cs opened test (sym (known_point_lem opened (λ p. follow_known cs p test)) ∙ e)

-- a story that starts where q stands
pub as_expected : {p q : Point} → p ≡ q → (cs : List Case) → agree (follow cs q) ≡ true → AsExpected p cs
as_expected {p} e cs test = agree_equal (follow cs p) (subst (λ (r : Point). agree (follow cs r) ≡ true) (sym e) test)

-- the image that some calls leave, of which nothing else is read
abbrev unread : Turn → Case
unread c = case 0 c answer_only []

unread_calls : (cs : List Turn) → calls (map unread cs) ≡ cs
unread_calls [] = refl
unread_calls (c ∷ cs) = ap (λ (ds : List Turn). c ∷ ds) (unread_calls cs)

abbrev pub leaves : List Turn → Point → Image → Bool
leaves cs p J = follow_known (map unread cs) p (λ rs last. same last.state.device.image J)

pub leaves_equal : (cs : List Turn) (p : Point) (J : Image) → leaves cs p J ≡ true → (turns p cs).state.device.image ≡ J
leaves_equal cs p J test =
    ap (λ (ds : List Turn). (turns p ds).state.device.image) (sym (unread_calls cs))
    ∙ same_equal _ _ (follow_test (map unread cs) p (λ rs last. same last.state.device.image J) test)
