-- Laws of a walk over a set, from the lowest bit that is left of it to the next: where it stands, its next member, one turn more, its end.
use Prim.Native.Nat.{ℕ, ◌+◌, ◌-◌, ◌^◌, ◌≤◌, ◌<◌}
use mathlib.Core.Path.{◌≡◌, sym, ap, ◌∙◌}
use native.Mathlib.Omega.{arith}
use native.Mathlib.Decide.{dec_lt, ℕ_discrete}
use lib.Bits.{and_le_l}
use Rattle.model.specs.Session.{bit}
use Rattle.model.proofs.Laws.Session.{bit_zero, bits_below}
use Rattle.words.specs.Walk.{Turn}
use Rattle.words.proofs.BitLaws.{Lowest, lowest_bit}

-- a walk over the bits of a set below n has passed those below k, and `rest` has the others
pub record Walk (set n rest k : ℕ) : Type 0 where
  pub small : set < 2 ^ n
  pub fits : rest < 2 ^ 64
  pub within : k ≤ n
  pub passed : (b : ℕ) → b < k → bit rest b ≡ 0
  pub ahead : (b : ℕ) → k ≤ b → bit rest b ≡ bit set b

-- it starts at the set itself
pub walk_start : {set n rest : ℕ} → rest ≡ set → set < 2 ^ n → set < 2 ^ 64 → Walk set n rest 0
walk_start e h l = record { small = h; fits = omega arith; within = omega arith; passed = λ b h. absurd (omega arith); ahead = λ b h. ap (λ (m : ℕ). bit m b) e }

-- and ends where no bit is left
pub walk_left : {set n rest k : ℕ} → Walk set n rest k → rest ≡ 0 → (b : ℕ) → k ≤ b → bit set b ≡ 0
walk_left w e b l = sym (w.ahead b l) ∙ ap (λ (m : ℕ). bit m b) e ∙ bit_zero b

-- a turn: the lowest bit that is left is the next member
module _ {set n rest k b after : ℕ} (w : Walk set n rest k) (t : Turn rest b after) where
  low : Lowest rest after b
  low = rw (t.lowest, t.others) (lowest_bit 64 rest t.some w.fits)

  pub walk_beyond : k ≤ b
  walk_beyond = go (dec_lt b k)
    where
      go : Dec (b < k) → k ≤ b
      go (yes l) = absurd (omega (arith, low.there, w.passed b l))
      go (no l) = omega arith

  pub walk_member : bit set b ≡ 1
  walk_member = sym (w.ahead b walk_beyond) ∙ low.there

  pub walk_below : b < n
  walk_below = (bits_below set n).0 w.small b walk_member

  pub walk_between : (i : ℕ) → k ≤ i → i < b → bit set i ≡ 0
  walk_between i l h = sym (w.ahead i l) ∙ low.below i h

  pub walk_turns : Walk set n after (b + 1)
  walk_turns = record {
    small = w.small;
    fits = omega (arith, t.others, w.fits, and_le_l rest (rest - 1));
    within = omega (arith, walk_below);
    passed = λ i l. passed i l (ℕ_discrete i b);
    ahead = λ i l. low.others i (λ e. absurd (omega arith)) ∙ w.ahead i (omega (arith, walk_beyond));
  }
    where
      passed : (i : ℕ) → i < b + 1 → Dec (i ≡ b) → bit after i ≡ 0
      passed i l (yes e) = ap (bit after) e ∙ low.gone
      passed i l (no e) = low.others i e ∙ low.below i (omega arith)
