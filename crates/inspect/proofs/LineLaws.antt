-- Laws of a dump's lines: values that are there or not, and lists.
use Prim.Native.Nat.{ℕ, zero, suc, ◌+◌, ◌≤◌, ◌<◌}
use mathlib.Core.Path.{◌≡◌, refl, sym, ap, ap₂, ◌∙◌}
use mathlib.Core.Bool.{Bool, true, false, cond, ◌&&◌, ◌||◌}
use mathlib.Core.List.{[], ◌∷◌, ◌++◌, map-id}
use native.Mathlib.Omega.{arith}
use native.Mathlib.Numerals.{add-one}
use lib.ListN.{length}
use borrow.Author.Tests.{eq-eqb}
use Rattle.std.specs.Prelude.{Result, Ok, Err}
use Rattle.std.specs.Result.{is_ok}
use Rattle.std.proofs.Math.Bool.{and-true}
use Rattle.std.specs.List.{list_all, range_with_len}
use Rattle.std.proofs.lemmas.List.Folds.{list_all-append}
use Rattle.std.proofs.lemmas.List.FromFn.{map-range_with_len_more}
use Rattle.model.specs.declared.Layout.{Layout}
use Rattle.model.specs.declared.Refusal.{Refusal}
use Rattle.model.specs.Status.{code_of, served}
use Rattle.model.proofs.Laws.Status.{refusal_refuses}
use Rattle.model.specs.Range.{all_b, any_b}
use Rattle.model.specs.Words.{Image}
use Rattle.model.proofs.Laws.Range.{or_none}
use Rattle.reads.proofs.ReadLaws.{readable}
use Rattle.text.specs.Text.{text}
use Rattle.printer.specs.declared.Page.{Page}
use Rattle.printer.specs.Decimal.{decimal}
use Rattle.printer.specs.Page.{Appended}
use Rattle.printer.proofs.AppendedLaws.{appended_none, appended_then}
use Rattle.inspect.specs.DumpText.{listed, dump_status}

-- ---- a main segment

-- what the code's test of a status says
pub ok_served : (r : Result (Unit {0}) Refusal) (n : ℕ) → code_of r ≡ n → is_ok r ≡ served n
ok_served (Ok a) n e = ap served e
ok_served (Err r) n e = sym (refusal_refuses r) ∙ ap served e

-- what the code may go by
pub record Ready (l : Layout) (I : Image) (i : ℕ) : Type 0 where
  pub backups : l.backups ≤ 64
  pub main : i < 64
  pub long : 320 ≤ length I
  pub blocks : l.blocks ≤ 64

pub ready : (l : Layout) (I : Image) (i : ℕ) → dump_status l I ≡ 0 → i < l.mains → Ready l I i
ready l I i e h =
    let r = readable l I 0 0 (eq-eqb _ 0 e) in
    let z = r.sizes in
    record {
      backups = omega (arith, z.1.0);
      main = omega (arith, z.0);
      long = omega (arith, r.metadata);
      blocks = omega (arith, z.1.1);
    }

-- a test of every number below a bound, as a walk upward makes it
pub all_range : (n : ℕ) (P : ℕ → Bool) → list_all P (range_with_len 0 n) ≡ all_b n P
unfolding all_b
all_range zero P = refl
all_range (suc n) P =
    let more = simp map-id at (map-range_with_len_more (λ (x : ℕ). x) 0 n n (omega arith)) in
    ap (λ (k : ℕ). list_all P (range_with_len 0 k)) (sym (add-one n)) ∙ ap (list_all P) more ∙ list_all-append P (range_with_len 0 n) (n ∷ []) ∙ ap₂ ◌&&◌ (all_range n P) (and-true (P n))

-- ---- a list

module _ (P : ℕ → Bool) where
  -- the next number, which is to stand on it or is not
  pub listed_more : (n : ℕ) {p q r : Page} → P n ≡ true → Appended p (listed n P) q → Appended q (cond (any_b n P) (text ",") [] ++ decimal n) r → Appended p (listed (n + 1) P) r
  unfolding listed
  listed_more n h f g = rw (add-one, h) (appended_then f g)

  pub listed_same : (n : ℕ) {p q : Page} → P n ≡ false → Appended p (listed n P) q → Appended p (listed (n + 1) P) q
  unfolding listed
  listed_same n h f = rw (add-one, h) (appended_then f appended_none)

  pub any_more : (n : ℕ) → any_b (n + 1) P ≡ (any_b n P || P n)
  unfolding any_b
  any_more n = rw add-one

  pub listed_nothing : (n : ℕ) → any_b n P ≡ false → listed n P ≡ []
  unfolding listed any_b
  listed_nothing zero h = refl
  listed_nothing (suc n) h = let k = or_none (any_b n P) (P n) h in rw (listed_nothing n k.0, k.1)
