-- What the statements of demand 3 permit, and no more: the pages that may be shown, the pages that reads can give, openings
-- that are cut, calls of a history. These laws need the definitions alone. The checker takes modules by name, this one
-- first: a statement that permits more than the specification, or excludes a call, is refused here.
use Prim.Native.Nat.{ℕ, ◌+◌, ◌≤◌}
use mathlib.Core.Path.{◌≡◌, sym, ap, ◌∙◌}
use mathlib.Core.Logic.{⊎_elim}
use mathlib.Core.List.{List, [], ◌∷◌}
use native.Mathlib.Omega.{arith}
use lib.ListN.{length, drop, length-drop}
use lib.Seq.{length-take-le}
use Rattle.model.specs.Outcome.{Lent}
use Rattle.model.specs.declared.Layout.{Layout}
use Rattle.model.specs.Words.{Image, Bytes}
use Rattle.model.specs.Layout.{block_size}
use Rattle.model.specs.Open.{open_outcome}
use Rattle.model.specs.Write.{WriteArgs}
use Rattle.model.specs.Reference.{Page, page_at, page_block}
use Rattle.model.specs.History.{Call, call_write, Device, State, played_ops, Permitted, AllPermitted}
use Rattle.model.specs.CrashSafety.{ReadsBlock, between, during, Window, MayShow, Enough, CutOpenings, again, Module}

-- ---- the pages that may be shown

-- at rest, only the last checkpoint
pub shown_at_rest : (s : State) (Q : Page) → MayShow s between Q → Q ≡ s.model.checkpoint
shown_at_rest s Q m = m

-- outside the window, only the last completed checkpoint
pub shown_outside : (s : State) (c : Call) (p : ℕ) (Q : Page) → (Window s.device c p → ⊥) → MayShow s (during c p) Q → Q ≡ s.model.checkpoint
shown_outside s c p Q closed m = ⊎_elim (λ e. e) (λ w. absurd (closed w.0)) m

-- ---- what the reads show

-- an image shows one page, in every block: two pages that it shows agree
module _ (l : Layout) (I : Image) (i b : ℕ) where
  pub working_one : (W P W' P' : Page) → ReadsBlock l I W P i b → ReadsBlock l I W' P' i b → page_block l W i b ≡ page_block l W' i b
  working_one W P W' P' x y = sym x.working ∙ y.working

  -- a page of full length has no empty block
  pub empty_block : (P : Page) → page_at l i b + block_size ≤ length P → page_block l P i b ≡ [] → ⊥
  empty_block P long e =
      let n : length (page_block l P i b) ≡ block_size = length-take-le block_size (drop (page_at l i b) P) (omega (arith, length-drop (page_at l i b) P)) in
      omega (arith, n, ap length e)

  pub checkpoint-one : (W P W' P' : Page) → page_at l i b + block_size ≤ length P → page_at l i b + block_size ≤ length P'
      → ReadsBlock l I W P i b → ReadsBlock l I W' P' i b → page_block l P i b ≡ page_block l P' i b
  checkpoint-one W P W' P' long long' x y =
      ⊎_elim
      (λ e. ⊎_elim (λ f. sym e ∙ f) (λ f. absurd (empty_block P long (sym e ∙ f.1))) y.checkpoint)
      (λ e. ⊎_elim (λ f. absurd (empty_block P' long' (sym f ∙ e.1))) (λ f. e.2 ∙ sym f.2) y.checkpoint)
      x.checkpoint

-- ---- openings that are cut

-- what stands may be opened, this opening cut, and so any number of openings of what it leaves
pub one_more_opening : (M : Module) (d : Device) (H J : Image) (t : Lent) (p : ℕ) → Enough d.session.layout M.domain d.image t
    → M.leaves d.image (played_ops d.image (open_outcome d.session.layout M.domain d.image t).ops t.trace p) H
    → CutOpenings M d.session.layout H J → CutOpenings M d.session.layout d.image J
one_more_opening M d H J t p long cut rest = let c = again t p long cut rest in c

-- ---- the calls of a history

-- every write of bytes is one of them, served or refused
pub write_permitted : (w : WriteArgs) (t : Lent) → Bytes w.bytes → Permitted (call_write w t)
write_permitted w t small = small

-- and a call is permitted by itself, whatever comes before it
pub call_permitted : (c : Call) (cs : List Call) → Permitted c → AllPermitted cs → AllPermitted (c ∷ cs)
call_permitted c cs here later = (here, later)
