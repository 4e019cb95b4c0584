-- Laws of a span: which spans 8 passes, and the words and blocks that hold a byte of one.
use Prim.Native.Nat.{ℕ, ◌+◌, ◌-◌, ◌*◌, ◌≤◌, ◌<◌}
use mathlib.Core.Path.{◌≡◌, refl, sym, subst, ◌∙◌}
use mathlib.Core.Logic.{◌↔◌, ◌⊎◌, inl, inr, ⊎_elim}
use mathlib.Core.Bool.{Bool, true, false, cond, true≢false}
use native.Mathlib.Omega.{arith}
use native.Mathlib.Decide.{dec_lt, ℕ_discrete}
use lib.ListN.{length}
use borrow.Author.Tests.{ne_eqb, lt-leb, le-ltb}
use Rattle.model.specs.Session.{is_dirty, dirty_word, dirty_block}
use Rattle.model.specs.Write.{needs_copy, span_blocks, write_session, span_bad}
use Rattle.model.specs.Span.{OneFrom, MeetsBlock, SpanPasses, WordsMet, BlocksMet, DirtyMet}
use Rattle.model.proofs.Laws.Session.{dirty_block_same, dirty_block_rest, dirty_block_other, no_bit}
use Rattle.model.proofs.Laws.Write.{span_good}

pub span_passes : SpanPasses
unfolding span_bad
span_passes l w = (
  λ h. let g = span_good l w h in (g.0, omega (arith, g.1), g.2),
  λ g. rw (ne_eqb (length w.bytes) 0 (λ e. omega (arith, g.0)), lt-leb 256 w.offset (omega (arith, g.1)), le-ltb (256 * (l.blocks - w.block)) (w.offset + length w.bytes) g.2),
)

-- the word u holds the byte that stands where it starts, or the first one
pub words_met : WordsMet
words_met a n u some = (λ h. (omega (arith, h), omega (arith, h)), λ h. (8 * u - a, omega (arith, h), omega (arith, h)))

pub blocks_met : BlocksMet
blocks_met l w h = (
  λ b. (λ m. (omega (arith, g, m), omega (arith, g, m)), λ m. (256 * b - (256 * w.block + w.offset), omega (arith, g, m), omega (arith, g, m))),
  λ b m. omega (arith, g, m),
)
  where
    g : (0 < length w.bytes) × (w.offset < 256) × (w.offset + length w.bytes ≤ 256 * (l.blocks - w.block))
    g = span_good l w h

pub dirty_met : DirtyMet
unfolding write_session dirty_block
dirty_met s I w room h i b = elim (ℕ_discrete i w.main) [
  | yes e ↦ own e (dec_lt b w.block) (dec_lt b (w.block + span_blocks w))
  | no ne ↦ other ne
]
  where
    word : Bool → ℕ
    word c = cond c 0 (dirty_word s w.main)

    met : MeetsBlock w b ↔ OneFrom w.block (span_blocks w) b
    met = (blocks_met s.layout w h).0 b

    -- what is to be shown
    Dirty : ℕ → Type 0
    Dirty u =
        (dirty_block (write_session s I w) u b ≡ true)
        ↔ (((u ≡ w.main) × MeetsBlock w b) ⊎ ((u ≡ w.main → needs_copy s I w.main ≡ false) × (dirty_block s u b ≡ true)))

    -- of another segment
    other : (i ≡ w.main → ⊥) → Dirty i
    other ne =
        let same = dirty_block_other s w.main w.block (span_blocks w) (word (needs_copy s I w.main)) i ne b in
        (λ e. inr ((λ q. absurd (ne q)), sym same ∙ e), ⊎_elim (λ m. absurd (ne m.0)) (λ k. same ∙ k.1))

    kept : (c : Bool) → (is_dirty (word c) b ≡ true) ↔ ((c ≡ false) × (is_dirty (dirty_word s w.main) b ≡ true))
    kept true = (λ e. absurd (true≢false (sym e ∙ no_bit b)), λ e. absurd (true≢false e.0))
    kept false = (λ e. (refl, e), λ e. e.1)

    -- of its own, a block that the span does not meet
    out : (b < w.block) ⊎ (w.block + span_blocks w ≤ b) → Dirty w.main
    out x =
        let same = dirty_block_rest s w.main w.block (span_blocks w) (word (needs_copy s I w.main)) room b x in (
          λ e. let k = (kept _).0 (sym same ∙ e) in inr ((λ q. k.0), k.1),
          ⊎_elim (λ m. absurd (⊎_elim (λ y. omega (arith, met.0 m.1)) (λ y. omega (arith, met.0 m.1)) x)) (λ k. same ∙ (kept _).1 (k.0 refl, k.1)),
        )

    own : i ≡ w.main → Dec (b < w.block) → Dec (b < w.block + span_blocks w) → Dirty i
    own e x y = subst Dirty (sym e) (elim x [
      | yes a ↦ out (inl a)
      | no a ↦ elim y [
        | yes c ↦ ((λ q. inl (refl, met.1 (omega arith, c))), λ q. dirty_block_same s w.main w.block (span_blocks w) _ room b (omega arith) c)
        | no c ↦ out (inr (omega arith))
      ]
    ])
