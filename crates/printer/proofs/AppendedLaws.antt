-- Laws of texts appended to a page.
use Prim.Native.Nat.{ℕ}
use mathlib.Core.Path.{◌≡◌, refl, sym, ap, ap₂, ◌∙◌}
use mathlib.Core.List.{List, [], ◌++◌, append_assoc, append-nil}
use native.Mathlib.Omega.{arith}
use lib.ListN.{length, take, drop, length-append, length-take, take-append-drop}
use lib.Seq.{drop-drop}
use Rattle.io.specs.Counts.{IsPrefixLen}
use Rattle.printer.specs.declared.Page.{Page}
use Rattle.printer.specs.Page.{Begun, Appended}

-- nothing
pub appended_none : {p : Page} → Appended p [] p
appended_none {p} = record { same = refl; end = omega arith; size = refl; holds = sym (append-nil (take p.end p.out.now)); rest = refl }

-- one text, then another
pub appended_then : {p q r : Page} {t u : List ℕ} → Appended p t q → Appended q u r → Appended p (t ++ u) r
appended_then {p} {q} {r} {t} {u} f g = record {
  same = g.same ∙ f.same;
  end = omega (arith, length-append t u, f.end, g.end);
  size = g.size ∙ f.size;
  holds = g.holds ∙ ap (λ (x : List ℕ). x ++ u) f.holds ∙ append_assoc (take p.end p.out.now) t u;
  rest = g.rest ∙ further q.out.now ∙ ap (drop (length u)) f.rest ∙ sym (further p.out.now);
}
  where
    further : (l : List ℕ) → drop r.end l ≡ drop (length u) (drop q.end l)
    further l = ap (λ (k : ℕ). drop k l) g.end ∙ sym (drop-drop (length u) q.end l)

-- the same text by another name
pub appended_as : {p q : Page} {t u : List ℕ} → t ≡ u → Appended p t q → Appended p u q
appended_as e f = rw e at f

-- what a caller sees of a text at the start of a buffer
pub appended_first : {a t : List ℕ} {p q : Page} → Begun a p → Appended p t q → IsPrefixLen q.end q.out.now × ((q.end ≡ length t) × (q.out.now ≡ t ++ drop q.end a))
appended_first {a} {t} {p} {q} s f =
    let holds = rw s.end at f.holds in
    let size : q.end ≡ length (take q.end q.out.now) = omega (arith, ap length holds) in
    ((omega (arith, size, length-take q.end q.out.now), size), (omega arith, sym (take-append-drop q.end q.out.now) ∙ ap₂ ◌++◌ holds (rw s.holds at f.rest)))
