-- A byte stored in its word: it changes that byte only.
use Prim.Native.Nat.{ℕ, zero, suc, ◌+◌, ◌≤◌, ◌<◌}
use mathlib.Core.Path.{◌≡◌, sym, ◌∙◌, subst}
use mathlib.Core.Logic.{inl, inr}
use mathlib.Core.List.{[], ◌∷◌}
use native.Mathlib.Decide.{dec_lt, ℕ_discrete}
use native.Mathlib.Omega.{arith}
use lib.ListN.{length}
use Rattle.model.specs.Words.{Image, byte_at, Bytes, overlay}
use Rattle.model.specs.Ops.{apply, replay, word_place, store_byte}
use Rattle.model.proofs.Laws.Words.{byte_of_word, overlay_same, overlay_other, overlay_small}
use Rattle.model.proofs.Argument.Persist.{replay_clear}
use Rattle.model.proofs.Argument.Runs.{Puts, puts_clear, puts_store}

abbrev pub with_byte : Image → ℕ → ℕ → ℕ → ℕ
with_byte I k b = overlay (byte_at I) k (b ∷ [])

one_small : (b : ℕ) → b < 256 → Bytes (b ∷ [])
one_small b h zero = h
one_small b h (suc k) = omega arith

byte_puts : (I : Image) (k b : ℕ) → Bytes I → b < 256 → Puts (store_byte I k b ∷ []) (word_place k) 8 (with_byte I k b)
byte_puts I k b h small = puts_store (word_place k) _ (with_byte I k b)
    (λ m x. byte_of_word (with_byte I k b) (word_place k) m (overlay_small (byte_at I) k (b ∷ []) h (one_small b small)) x)

-- in an image that agrees with I on the word, it changes that byte only
pub byte_stored : (I J : Image) (k b m : ℕ) → Bytes I → b < 256 → word_place k + 8 ≤ length J
    → ((n : ℕ) → word_place k ≤ n → n < word_place k + 8 → byte_at J n ≡ byte_at I n) → byte_at (apply (store_byte I k b) J) m ≡ with_byte J k b m
unfolding replay
byte_stored I J k b m h small n agree = go (ℕ_discrete m k) (dec_lt m (word_place k)) (dec_lt m (word_place k + 8))
  where
    puts : Puts (store_byte I k b ∷ []) (word_place k) 8 (with_byte I k b)
    puts = byte_puts I k b h small

    go : Dec (m ≡ k) → Dec (m < word_place k) → Dec (m < word_place k + 8) → byte_at (apply (store_byte I k b) J) m ≡ with_byte J k b m
    go (yes e) x y = puts.leaves J m n (omega arith) (omega arith)
        ∙ subst (λ (t : ℕ). with_byte I k b t ≡ with_byte J k b t) (sym e) (overlay_same (byte_at I) k b ∙ sym (overlay_same (byte_at J) k b))
    go (no e) (yes x) y = replay_clear (store_byte I k b ∷ []) J m (puts_clear puts m (inl x)) ∙ sym (overlay_other (byte_at J) k b m e)
    go (no e) (no x) (no y) = replay_clear (store_byte I k b ∷ []) J m (puts_clear puts m (inr (omega arith))) ∙ sym (overlay_other (byte_at J) k b m e)
    go (no e) (no x) (yes y) = puts.leaves J m n (omega arith) y ∙ overlay_other (byte_at I) k b m e ∙ sym (agree m (omega arith) y) ∙ sym (overlay_other (byte_at J) k b m e)
