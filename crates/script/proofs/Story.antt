-- The story of a loop over groups: what they printed so far, and what the groups that are left print, is what all print.
use Prim.Native.Nat.{ℕ, suc}
use mathlib.Core.Path.{◌≡◌, refl, sym, ap, ◌∙◌}
use mathlib.Core.List.{List, [], ◌∷◌, ◌++◌, append_assoc, append-nil}
use Rattle.model.specs.declared.Layout.{Layout}
use Rattle.parser.specs.Script.{good, Group}
use Rattle.printer.specs.declared.Page.{Page}
use Rattle.printer.specs.Page.{Appended}
use Rattle.printer.proofs.AppendedLaws.{appended_none, appended_then, appended_as}
use Rattle.calls.specs.declared.Sheet.{Sheet}
use Rattle.calls.specs.Printed.{Board, after_group, group_text, groups_text, opened_board, script_text}
use Rattle.calls.specs.Ran.{BoardAt, Opened}
use Rattle.group.specs.GroupRan.{GroupRan}
use Rattle.script.specs.SheetRan.{GroupsRan, ScriptRan}

-- the groups gs were to be run from s on, with the page p; the groups gs' are left, the first of which has the number n, with s' and p'
abbrev pub Story : Sheet → List Group → Page → Sheet → ℕ → List Group → Page → Type 0
Story s gs p s' n gs' p' =
    (b : Board) → BoardAt b s
    → (done : List ℕ) × Appended p done p'
    × ((k : Board) × BoardAt k s' × (groups_text b 1 gs ≡ done ++ groups_text k n gs'))

module _ (s : Sheet) (gs : List Group) (p : Page) where
  -- none is run
  pub story_none : Story s gs p s 1 gs p
  story_none b «is» = ([], appended_none, (b, «is», refl))

  module _ (s' : Sheet) (n : ℕ) (gs' : List Group) (p' : Page) (story : Story s gs p s' n gs' p') where
    -- one group more
    pub story_more : (g : Group) (hs : List Group) (s'' : Sheet) (p'' : Page) → gs' ≡ g ∷ hs → GroupRan s' n g p' s'' p'' → Story s gs p s'' (suc n) hs p''
    unfolding groups_text
    story_more g hs s'' p'' e x b «is» =
        let y = story b «is» in
        let k = y.2.0 in
        let z = x k y.2.1 in
        let t = group_text k n g in (
          y.0 ++ t,
          appended_then y.1 z.0,
          (
            after_group k g,
            z.1,
            y.2.2 ∙ ap (λ (v : List Group). y.0 ++ groups_text k n v) e ∙ sym (append_assoc y.0 t (groups_text (after_group k g) (suc n) hs)),
          ),
        )

    -- none left
    pub story_end : gs' ≡ [] → GroupsRan s gs p p'
    unfolding groups_text
    story_end e b «is» =
        let y = story b «is» in
        appended_as (sym (y.2.2 ∙ ap (λ (v : List Group). y.0 ++ groups_text y.2.0 n v) e ∙ append-nil y.0)) y.1

-- an opening, then the groups
pub script_ran : (l : Layout) (gs : List Group) (s : Sheet) (p q r : Page) → Opened l p s q → GroupsRan s gs q r → ScriptRan (good l gs) p r
unfolding script_text
script_ran l gs s p q r o f = appended_then o.0 (f (opened_board l) o.1)
