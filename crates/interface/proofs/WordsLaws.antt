-- Laws of specs/Interface.antt: a session and its words.
use Prim.Native.Nat.{ℕ, suc, ◌+◌, ◌-◌, ◌<◌}
use mathlib.Core.Path.{◌≡◌, sym, ap, ap₂, ◌∙◌}
use mathlib.Core.List.{[], ◌∷◌, ◌++◌}
use native.Mathlib.Omega.{arith}
use lib.ListN.{length, get_or, set, take, drop, length-append, length-take, length-drop}
use lib.Seq.{take_all, take-suc, take-append_seam, get_or-append_seam, set-append_left}
use Rattle.model.specs.declared.Session.{Session}
use Rattle.model.specs.Layout.{most}
use Rattle.session.specs.Parts.{session_of}
use Rattle.clients.specs.Words.{Words}
use Rattle.interface.specs.Interface.{dirty_segments_at, dirty_blocks_at, session_words, domain_at, words_of, session_in}

-- ---- nothing is lost in the words

pub session_words_lem : (s : Session) → session_in (words_of s) ≡ s
unfolding session_in words_of
session_words_lem s =
    let D = s.dirty_blocks in
    let n : domain_at (words_of s) - dirty_blocks_at ≡ length D = omega (arith, length-append D (s.domain ∷ [])) in
    let m : domain_at (words_of s) ≡ suc (suc (suc (suc (length D)))) = omega (arith, length-append D (s.domain ∷ [])) in
    ap₂ (λ (B : Words) (d : ℕ). record { layout = s.layout; dirty_segments = s.dirty_segments; dirty_blocks = B; domain = d })
    (ap (λ (k : ℕ). take k (D ++ s.domain ∷ [])) n ∙ take-append_seam D (s.domain ∷ []))
    (ap (λ (k : ℕ). get_or (words_of s) k 0) m ∙ get_or-append_seam D s.domain [] 0)

pub words_session : (w : Words) → length w ≡ session_words → words_of (session_in w) ≡ w
unfolding session_in words_of
words_session [] e = let z : ⊥ = omega (arith, e) in absurd z
words_session (a ∷ []) e = let z : ⊥ = omega (arith, e) in absurd z
words_session (a ∷ b ∷ []) e = let z : ⊥ = omega (arith, e) in absurd z
words_session (a ∷ b ∷ c ∷ []) e = let z : ⊥ = omega (arith, e) in absurd z
words_session (a ∷ b ∷ c ∷ d ∷ r) e =
    let n : domain_at (a ∷ b ∷ c ∷ d ∷ r) ≡ suc (suc (suc (suc most))) = omega (arith, e) in
    ap (λ (k : ℕ). a ∷ b ∷ c ∷ d ∷ (take (k - dirty_blocks_at) r ++ get_or (a ∷ b ∷ c ∷ d ∷ r) k 0 ∷ [])) n
    ∙ ap (λ (x : Words). a ∷ b ∷ c ∷ d ∷ x) (sym (take-suc r most 0 (omega (arith, e))) ∙ take_all (suc most) r (omega (arith, e)))

-- ---- the parts of a session that stands in words

-- the words of dirty blocks are as many as they can be
words_length : (w : Words) → length w ≡ session_words → length (session_in w).dirty_blocks ≡ most
unfolding session_in
words_length w e = omega (arith, e, length-take (domain_at w - dirty_blocks_at) (drop dirty_blocks_at w), length-drop dirty_blocks_at w)

-- with another word of dirty blocks for main segment i
word_stored : (s : Session) (i v : ℕ) → i < length s.dirty_blocks
    → set (words_of s) (dirty_blocks_at + i) v ≡ words_of (session_of s.layout s.dirty_segments (set s.dirty_blocks i v) s.domain)
unfolding words_of
word_stored s i v h =
    let e : dirty_blocks_at + i ≡ suc (suc (suc (suc i))) = omega arith in
    ap (λ (k : ℕ). set (words_of s) k v) e
    ∙ ap (λ (x : Words). s.layout.mains ∷ s.layout.backups ∷ s.layout.blocks ∷ s.dirty_segments ∷ x) (set-append_left s.dirty_blocks (s.domain ∷ []) i v h)

-- the session s, which stands in the words w
module _ (w : Words) (e : length w ≡ session_words) (s : Session) (v : s ≡ session_in w) where
  -- as it is
  words_kept : w ≡ words_of s
  words_kept = sym (ap words_of v ∙ words_session w e)

  -- with other dirty segments
  pub segments_stored : (d : ℕ) → set w dirty_segments_at d ≡ words_of (session_of s.layout d s.dirty_blocks s.domain)
  unfolding words_of
  segments_stored d = ap (λ (x : Words). set x dirty_segments_at d) words_kept

  -- and with another word of dirty blocks for main segment i
  pub write_stored : (d i b : ℕ) → i < most
      → set (set w dirty_segments_at d) (dirty_blocks_at + i) b ≡ words_of (session_of s.layout d (set s.dirty_blocks i b) s.domain)
  write_stored d i b h =
      ap (λ (x : Words). set x (dirty_blocks_at + i) b) (segments_stored d)
      ∙ word_stored (session_of s.layout d s.dirty_blocks s.domain) i b (omega (arith, h, words_length w e, ap (λ (x : Session). length x.dirty_blocks) v))
