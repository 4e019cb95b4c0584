-- Laws of the next states, eight at once in a word as the code has them, and of the line where they are stored.
use Prim.Native.Nat.{ℕ, zero, suc, ◌+◌, ◌*◌, ◌^◌, ◌<◌}
use mathlib.Core.Path.{◌≡◌, refl, sym, ap, ap₂, ◌∙◌}
use mathlib.Core.Bool.{Bool, cond, ◌&&◌}
use mathlib.Core.List.{[], ◌∷◌, ◌++◌}
use native.Mathlib.Omega.{arith}
use native.Mathlib.Decide.{ℕ_discrete}
use native.Mathlib.Nat.{add_assoc, zero-mul}
use lib.Bits.{bit_or, or_block, or_lt}
use lib.Dec.{eqb}
use lib.Pow.{pow_pos}
use borrow.Author.Tests.{ne_eqb}
use Rattle.model.specs.Words.{Image, byte_at, Bytes, word_of, word_at}
use Rattle.model.specs.Layout.{word_size, line_words}
use Rattle.model.specs.Container.{active_line, inactive_line, seg_state, by_state}
use Rattle.model.specs.Session.{bit, is_dirty}
use Rattle.model.specs.Ops.{clwb, stores}
use Rattle.model.specs.Checkpoint.{next_state, next_states, states_ops}
use Rattle.model.proofs.Laws.Range.{or_zero_lem}
use Rattle.model.proofs.Laws.Words.{word_cong}
use Rattle.words.proofs.ByteLaws.{by_bytes, word_from, bit_small}

-- ---- the next states

-- the state of segment i by the line of states and the word of dirty segments
abbrev next : Image → ℕ → ℕ → ℕ → ℕ
next I line m = next_states m (seg_state I line)

-- the next state is 0 for state 0 with a bit that is not set, and else 1
next_present : (st m i k : ℕ) → cond (eqb (bit_or st (bit m i * 2 ^ k)) 0) 0 1 ≡ next_state st (is_dirty m i)
unfolding next_state by_state
next_present st m i k = ap (λ (b : Bool). cond b 0 1) (or_zero_lem st (bit m i * 2 ^ k)) ∙ go st (ℕ_discrete (bit m i) 0)
  where
    go : (st : ℕ) → Dec (bit m i ≡ 0) → cond (eqb st 0 && eqb (bit m i * 2 ^ k) 0) 0 1 ≡ next_state st (is_dirty m i)
    go zero (yes e) = rw (e, zero-mul (2 ^ k))
    go zero (no e) =
        let o : bit m i ≡ 1 = unfold bit in (omega arith) in
        rw (o, ne_eqb (1 * 2 ^ k) 0 (λ z. omega (arith, pow_pos k)))
    go (suc zero) d = refl
    go (suc (suc n)) d = rw (ne_eqb (suc (suc n)) 0 (omega arith))

-- the eight states from segment p on
module _ (I : Image) (line m p : ℕ) (bytes : Bytes I) where
  abbrev state : ℕ → ℕ
  state k = byte_at I (line + p + k)

  -- a state laid over by the segment's bit, where that stands
  abbrev overlaid : ℕ → ℕ
  overlaid k = bit_or (state k) (bit m (p + k) * 2 ^ k)

  pub overlaid_small : (k : ℕ) → k < 8 → overlaid k < 256
  overlaid_small k h = or_lt 8 (state k) (bit m (p + k) * 2 ^ k) (bytes (line + p + k)) (bit_small m p k h)

  pub overlaid_word : (states bits : ℕ) → states ≡ word_at I (line + p) → bits ≡ word_of (λ k. bit m (p + k) * 2 ^ k) 0 → bit_or states bits ≡ word_of overlaid 0
  overlaid_word states bits e b =
      ap₂ bit_or (e ∙ word_from (byte_at I) (line + p)) b
      ∙ unfold word_of in (by_bytes bit_or (or_block 8) refl 8 state (λ k. bit m (p + k) * 2 ^ k) 0 (λ k a h. bytes (line + p + k)) (λ k a h. bit_small m p k h))

  pub next_word_lem : word_of (λ k. cond (eqb (overlaid k) 0) 0 1) 0 ≡ word_of (next I line m) p
  next_word_lem =
      word_cong (λ k. cond (eqb (overlaid k) 0) 0 1) (λ k. next I line m (p + k)) 0
      (λ k a h. next_present (state k) m (p + k) k ∙ ap (λ (n : ℕ). next_state (byte_at I n) (is_dirty m (p + k))) (add_assoc line p k))
      ∙ sym (word_from (next I line m) p)

-- ---- operations

-- the next states, by the places of the two lines
pub states_written : (I : Image) (segments from to : ℕ) → from ≡ active_line I → to ≡ inactive_line I
    → (stores line_words to (λ k. word_of (next I from segments) (word_size * k)) ++ clwb to ∷ []) ≡ states_ops I segments
unfolding states_ops
states_written I segments from to p q = rw (p, q)
