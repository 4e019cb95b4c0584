-- The words that a write's span meets: they stand in the blocks of the span and around its bytes, and their stores lay the bytes
-- over the image.
use Prim.Native.Nat.{ℕ, ◌+◌, ◌-◌, ◌*◌, ◌≤◌, ◌<◌}
use mathlib.Core.Path.{◌≡◌}
use mathlib.Core.Logic.{◌⊎◌, inl, inr}
use mathlib.Core.Bool.{false}
use native.Mathlib.Omega.{arith}
use lib.ListN.{length}
use Rattle.model.specs.declared.Layout.{Layout}
use Rattle.model.specs.Words.{Image, byte_at, Bytes, overlay}
use Rattle.model.specs.Layout.{main_at}
use Rattle.model.specs.Ops.{word_place}
use Rattle.model.specs.Write.{WriteArgs, span_at, span_words, span_blocks, span_ops, span_bad}
use Rattle.model.proofs.Laws.Words.{byte_of_word, overlay-before, overlay-after, overlay_small}
use Rattle.model.proofs.Argument.Runs.{Puts, puts_stores}
use Rattle.model.proofs.Laws.Write.{span_good}

-- a span that stays inside its main segment
pub record SpanOk (l : Layout) (w : WriteArgs) : Type 0 where
  pub main : w.main < l.mains
  pub block : w.block < l.blocks
  pub some : 0 < length w.bytes
  pub fits : w.offset + length w.bytes ≤ 256 * (l.blocks - w.block)
  pub small : Bytes w.bytes

-- which one does that refusals 6, 7 and 8 pass
pub span_within : (l : Layout) (w : WriteArgs) → w.main < l.mains → w.block < l.blocks → span_bad l w ≡ false → Bytes w.bytes → SpanOk l w
span_within l w m n h small =
    let g = span_good l w h in
    record { main = m; block = n; some = g.0; fits = g.2; small = small }

-- the blocks that it meets are blocks of the segment
pub span_inside : (l : Layout) (w : WriteArgs) → SpanOk l w → w.block + span_blocks w ≤ l.blocks
span_inside l w ok = omega (arith, ok)

-- where the words that it meets start, and how many bytes they are
abbrev pub span_first : Layout → WriteArgs → ℕ
span_first l w = word_place (span_at l w)

abbrev pub span_wide : Layout → WriteArgs → ℕ
span_wide l w = 8 * span_words (span_at l w) (length w.bytes)

-- they stand in the blocks, and around the bytes
pub span_bounds : (l : Layout) (w : WriteArgs) → SpanOk l w
    → (main_at l w.main + 256 * w.block ≤ span_first l w) × (span_first l w + span_wide l w ≤ main_at l w.main + 256 * (w.block + span_blocks w))
    × (span_first l w ≤ span_at l w) × (span_at l w + length w.bytes ≤ span_first l w + span_wide l w)
span_bounds l w ok = omega (arith, ok)

module _ (l : Layout) (I : Image) (w : WriteArgs) (ok : SpanOk l w) where
  -- the image with the bytes laid over it
  abbrev pub laid : ℕ → ℕ
  laid = overlay (byte_at I) (span_at l w) w.bytes

  pub span_puts : Bytes I → Puts (span_ops l I w) (span_first l w) (span_wide l w) laid
  unfolding span_ops
  span_puts bytes = puts_stores (span_words (span_at l w) (length w.bytes)) (span_first l w) _ laid
      (λ k b x y. byte_of_word laid (span_first l w + 8 * k) b (overlay_small (byte_at I) (span_at l w) w.bytes bytes ok.small) y)

  -- outside its words nothing is laid
  pub laid_outside : (k : ℕ) → (k < span_first l w) ⊎ (span_first l w + span_wide l w ≤ k) → laid k ≡ byte_at I k
  laid_outside k (inl h) = overlay-before (byte_at I) (span_at l w) w.bytes k (omega (arith, span_bounds l w ok))
  laid_outside k (inr h) = overlay-after (byte_at I) (span_at l w) w.bytes k (omega (arith, span_bounds l w ok))
