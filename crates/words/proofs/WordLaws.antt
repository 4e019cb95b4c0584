-- Laws of a word that code stores as a slice of eight bytes.
use Prim.Native.Nat.{ℕ, ◌+◌, ◌-◌, ◌≤◌}
use mathlib.Core.Path.{◌≡◌, refl, sym, ap, ap₂, ◌∙◌}
use mathlib.Core.List.{List, ◌∷◌}
use native.Mathlib.Omega.{arith}
use lib.ListN.{length}
use lib.Seq.{take-length}
use borrow.Rule.Slice.PartMut.{put_mid}
use Rattle.std.specs.Int.{w64, to_le_bytes}
use Rattle.std.proofs.lemmas.List.Edits.{sets, sets-eq}
use Rattle.std.proofs.lemmas.Slice.{put_mid-paste}
use Rattle.model.specs.Words.{Image, bytes_of, store_word}

-- the bytes of a word, as the library counts them
pub word_parts : (w : ℕ) → to_le_bytes w64 w ≡ bytes_of 8 w
unfolding bytes_of
word_parts w = ap₂ ◌∷◌ refl (ap₂ ◌∷◌ (omega arith) (ap₂ ◌∷◌ (omega arith) (ap₂ ◌∷◌ (omega arith) (ap₂ ◌∷◌ (omega arith) (ap₂ ◌∷◌ (omega arith) (ap₂ ◌∷◌ (omega arith) (ap₂ ◌∷◌ (omega arith) refl)))))))

-- a slice that is written whole, as its elements are set one after the other
slice_set : (I bs : List ℕ) (p k : ℕ) → length bs ≡ k → p + k ≤ length I → put_mid p (p + k - p) I bs ≡ sets I p bs
slice_set I bs p k e h =
    put_mid-paste p (p + k - p) I bs bs (length bs) refl (omega arith) refl
    ∙ rw (take-length bs) (sym (sets-eq bs I p (omega arith)))

-- the slice of eight bytes from a place on, written with those of a word
pub word_stored : (I : Image) (p w : ℕ) {bs : List ℕ} → p + 8 ≤ length I → bs ≡ to_le_bytes w64 w → put_mid p (p + 8 - p) I bs ≡ store_word I p w
unfolding store_word
word_stored I p w {bs} h e = slice_set I bs p 8 (ap length e) h ∙ ap (sets I p) (e ∙ word_parts w)
