-- Laws of sizes and places: what stands in an image stands inside it, on lines of its own.
use Prim.Native.Nat.{ℕ, suc, ◌+◌, ◌*◌, ◌%◌, ◌≤◌, ◌<◌}
use mathlib.Core.Path.{◌≡◌, ap, ◌∙◌}
use mathlib.Core.Logic.{◌⊎◌, inl, inr, ⊎_elim}
use native.Mathlib.Omega.{arith}
use native.Mathlib.Decide.{dec_lt, ℕ_discrete}
use native.Mathlib.Nat.{mul_assoc, mul_comm, mul-le-mul_right, suc-mul}
use Rattle.model.specs.declared.Layout.{Layout}
use Rattle.model.specs.Layout.{line_size, block_size, metadata_size, states_at, image_size, segment_size, segment_at, state_line}

module _ (l : Layout) where
  -- an image ends where the segment after its last would start
  pub image_size_lem : image_size l ≡ segment_at l (l.mains + l.backups)
  unfolding image_size
  image_size_lem =
      ap (λ (n : ℕ). metadata_size + n)
      (mul_assoc block_size l.blocks (l.mains + l.backups)
      ∙ ap (λ (n : ℕ). block_size * n) (mul_comm l.blocks (l.mains + l.backups)))

  pub image_lines_lem : image_size l % line_size ≡ 0
  image_lines_lem = omega (arith, image_size_lem)

  pub metadata_inside : metadata_size ≤ image_size l
  metadata_inside = omega (arith, image_size_lem)

  -- a segment ends before each later one starts
  pub segment_inside : (k n : ℕ) → k < n → segment_at l k + segment_size l ≤ segment_at l n
  segment_inside k n h = omega (arith, suc-mul k l.blocks, mul-le-mul_right l.blocks h)

  pub segment_in_image : (k : ℕ) → k < l.mains + l.backups → segment_at l k + segment_size l ≤ image_size l
  segment_in_image k h = omega (arith, image_size_lem, segment_inside k (l.mains + l.backups) h)

  -- two segments do not meet
  pub segments_apart : (k n : ℕ) → (k ≡ n → ⊥)
      → (segment_at l k + segment_size l ≤ segment_at l n) ⊎ (segment_at l n + segment_size l ≤ segment_at l k)
  segments_apart k n h = go (dec_lt k n)
    where
      go : Dec (k < n) → (segment_at l k + segment_size l ≤ segment_at l n) ⊎ (segment_at l n + segment_size l ≤ segment_at l k)
      go (yes b) = inl (segment_inside k n b)
      go (no b) = inr (segment_inside n k (omega arith))

  -- a byte of segment k is not one of another segment n
  pub apart : (n k i : ℕ) → (n ≡ k → ⊥) → segment_at l k ≤ i → i < segment_at l k + segment_size l → (i < segment_at l n) ⊎ (segment_at l n + segment_size l ≤ i)
  apart n k i h x y = ⊎_elim (λ q. inr (omega arith)) (λ q. inl (omega arith)) (segments_apart n k h)

-- ---- the two lines of states

pub state_line_is : (e : ℕ) → (state_line e ≡ states_at) ⊎ (state_line e ≡ states_at + line_size)
unfolding state_line
state_line_is e = go (ℕ_discrete (e % 2) 0)
  where
    go : Dec (e % 2 ≡ 0) → (states_at + line_size * (e % 2) ≡ states_at) ⊎ (states_at + line_size * (e % 2) ≡ states_at + line_size)
    go (yes h) = inl (omega arith)
    go (no h) = inr (omega arith)

pub state_line_low : (e : ℕ) → states_at ≤ state_line e
unfolding state_line
state_line_low e = omega arith

pub state_line_high : (e : ℕ) → state_line e ≤ states_at + line_size
unfolding state_line
state_line_high e = omega arith

pub state_line_whole : (e : ℕ) → state_line e % line_size ≡ 0
unfolding state_line
state_line_whole e = omega arith

-- one line for an epoch, the other for the next
pub state_line_next : (e : ℕ) → state_line e + state_line (suc e) ≡ states_at + (states_at + line_size)
unfolding state_line
state_line_next e = go (ℕ_discrete (e % 2) 0)
  where
    go : Dec (e % 2 ≡ 0) → states_at + line_size * (e % 2) + (states_at + line_size * (suc e % 2)) ≡ states_at + (states_at + line_size)
    go (yes h) = omega arith
    go (no h) = omega arith
