-- Laws of the session's validity: the words of dirty blocks in two runs, the states that it depends on, and refusals 1 to 5.
use Prim.Native.Nat.{ℕ, ◌+◌, ◌-◌, ◌^◌, ◌≤◌, ◌<◌}
use mathlib.Core.Path.{◌≡◌, refl, sym, ap, ap₂, ◌∙◌}
use mathlib.Core.Bool.{Bool, true, false, not, cond, ◌&&◌}
use native.Mathlib.Omega.{arith}
use lib.Dec.{eqb, ltb, leb}
use lib.ListN.{length, get_or, take, drop, length-drop}
use lib.Seq.{get_or-take, get_or-drop}
use lib.Bits.{bit_or}
use native.Mathlib.Decide.{dec_lt}
use Rattle.std.specs.Prelude.{fold}
use Rattle.std.proofs.lemmas.List.{take_all}
use Rattle.std.proofs.lemmas.Grind.{common_steps}
use borrow.Author.Tests.{lt-ltb, le-ltb, eq-eqb, eqb-true, ltb-true}
use Rattle.model.specs.declared.Layout.{Layout}
use Rattle.model.specs.declared.Session.{Session}
use Rattle.model.specs.Range.{all_b}
use Rattle.model.specs.Words.{Image}
use Rattle.model.specs.Layout.{most, SizesOk, metadata_size}
use Rattle.model.specs.Status.{first_error}
use Rattle.model.specs.Container.{seg_state, active_line, active_state, container_errors}
use Rattle.model.specs.Session.{is_dirty, dirty_word, dirty_segment, valid_session, session_errors, context_errors}
use Rattle.model.proofs.Laws.Range.{both, and_left, and_right, all_at, all_from, all_ext, same_test}
use Rattle.model.proofs.Laws.Layout.{metadata_inside}
use Rattle.model.proofs.Laws.Status.{after-served}
use Rattle.model.proofs.Laws.Container.{container_ok}
use Rattle.session.proofs.UnionLaws.{union_within, union_zero}

-- the words below n have no bit from k on, and the rest none at all
module _ (words : ℕ → ℕ) (n k : ℕ) (h : n ≤ 64) where
  abbrev below : ℕ → Bool
  below i = ltb (words i) (2 ^ k)

  abbrev clear : ℕ → Bool
  clear i = eqb (words (n + i)) 0

  abbrev either : ℕ → Bool
  either i = ltb (words i) (cond (ltb i n) (2 ^ k) 1)

  words_in_two : (all_b n below && all_b (64 - n) clear) ≡ all_b 64 either
  words_in_two = same_test _ _ there back
    where
      there : (all_b n below && all_b (64 - n) clear) ≡ true → all_b 64 either ≡ true
      there e = all_from 64 _ (λ i l. go i l (dec_lt i n))
        where
          go : (i : ℕ) → i < 64 → Dec (i < n) → either i ≡ true
          go i l (yes b) = rw (lt-ltb i n b) (all_at n below (and_left (all_b n below) (all_b (64 - n) clear) e) i b)
          go i l (no b) =
              let q : n + (i - n) ≡ i = omega arith in
              let z = rw q at (all_at (64 - n) clear (and_right (all_b n below) (all_b (64 - n) clear) e) (i - n) (omega arith)) in
              rw (le-ltb i n (omega arith)) (lt-ltb (words i) 1 (omega (arith, eqb-true (words i) 0 z)))

      back : all_b 64 either ≡ true → (all_b n below && all_b (64 - n) clear) ≡ true
      back e =
          both (all_from n below (λ i l. rw (lt-ltb i n l) at (all_at 64 either e i (omega arith))))
          (all_from (64 - n) clear
          (λ i l.
          let z = rw (le-ltb (n + i) n (omega arith)) at (all_at 64 either e (n + i) (omega arith)) in
          eq-eqb (words (n + i)) 0 (omega (arith, ltb-true (words (n + i)) 1 z))))

-- validity by the tests that the code makes, of a session of 64 words or more
pub valid_view_tests : (s : Session) (st : ℕ → ℕ) → s.layout.mains ≤ 64 → 64 ≤ length s.dirty_blocks
    → (ltb s.dirty_segments (2 ^ s.layout.mains)
    && (ltb (fold bit_or 0 (take s.layout.mains s.dirty_blocks)) (2 ^ s.layout.blocks)
    && (eqb (fold bit_or 0 (take (64 - s.layout.mains) (drop s.layout.mains s.dirty_blocks))) 0
    && (all_b s.layout.mains (λ (i : ℕ). not (is_dirty s.dirty_segments i && eqb (st i) 1)) && leb s.domain 1))))
    ≡ valid_session s st
unfolding valid_session dirty_segment
valid_view_tests s st h l =
    let words = s.dirty_blocks in
    let m = s.layout.mains in
    let used = union_within s.layout.blocks words m (omega arith) in
    let none =
    union_zero (drop m words) (64 - m) (omega (arith, length-drop m words))
    ∙ all_ext (64 - m) _ (λ i. eqb (dirty_word s (m + i)) 0) (λ i b. ap (λ (x : ℕ). eqb x 0) (get_or-drop m words i 0)) in
    let blocks = ap₂ ◌&&◌ used none ∙ words_in_two (dirty_word s) m s.layout.blocks h in
    let kind : leb s.domain 1 ≡ not (ltb 1 s.domain) = grind (arith, common_steps) in
    grind (arith, common_steps)

-- and of a session of 64 words, of which those behind the main segments are all that is left
pub valid_session_tests : (s : Session) (st : ℕ → ℕ) → s.layout.mains ≤ 64 → length s.dirty_blocks ≡ 64
    → (ltb s.dirty_segments (2 ^ s.layout.mains)
    && (ltb (fold bit_or 0 (take s.layout.mains s.dirty_blocks)) (2 ^ s.layout.blocks)
    && (eqb (fold bit_or 0 (drop s.layout.mains s.dirty_blocks)) 0
    && (all_b s.layout.mains (λ (i : ℕ). not (is_dirty s.dirty_segments i && eqb (st i) 1)) && leb s.domain 1))))
    ≡ valid_session s st
valid_session_tests s st h l =
    let m = s.layout.mains in
    let rest = drop m s.dirty_blocks in
    rw (take_all (64 - m) rest (omega (arith, l, length-drop m s.dirty_blocks))) at (valid_view_tests s st h (omega (arith, l)))

-- in a valid session no word of dirty blocks has a bit beyond the blocks
pub words_within : (s : Session) (st : ℕ → ℕ) → s.layout.mains ≤ most → valid_session s st ≡ true → (i : ℕ) → i < s.layout.mains
    → dirty_word s i < 2 ^ s.layout.blocks
unfolding valid_session
words_within s st m v i h =
    ltb-true _ _ (rw (lt-ltb i s.layout.mains h) at (all_at most _ (and_right (ltb s.dirty_segments (2 ^ s.layout.mains)) _ (and_left _ _ (and_left _ _ v))) i (omega arith)))

-- validity depends on the states of main segments only
pub valid_session_cong : (s : Session) (f g : ℕ → ℕ) → ((i : ℕ) → i < s.layout.mains → f i ≡ g i) → valid_session s f ≡ valid_session s g
unfolding valid_session
valid_session_cong s f g h =
    rw (all_ext s.layout.mains (λ (i : ℕ). not (dirty_segment s i && eqb (f i) 1)) (λ (i : ℕ). not (dirty_segment s i && eqb (g i) 1))
    (λ i l. ap (λ (x : ℕ). not (dirty_segment s i && eqb x 1)) (h i l)))

-- a line of states handed on as a part of the image
pub valid_session_part : (s : Session) (I : Image) (line : ℕ) → s.layout.mains ≤ 64
    → valid_session s (λ (i : ℕ). get_or (take (line + 64 - line) (drop line I)) i 0) ≡ valid_session s (seg_state I line)
valid_session_part s I line m = valid_session_cong s _ _ (λ i l. get_or-take (line + 64 - line) (drop line I) i 0 (omega arith) ∙ get_or-drop line I i 0)

-- ---- refusals 1 to 5

-- what 1 to 4 leave, where none of them applies
pub container_left : (l : Layout) (I : Image) → 0 ≡ first_error (container_errors l I) → SizesOk l × (metadata_size ≤ length I)
container_left l I e = let k = container_ok l I (sym e) in (k.sizes, omega (arith, k.long, metadata_inside l))

-- refusal 5, by the line of states that the code handed on
pub session_judged : (s : Session) (I : Image) (line : ℕ) (valid : Bool) → 0 ≡ first_error (container_errors s.layout I)
    → line ≡ active_line I → valid ≡ valid_session s (λ (i : ℕ). get_or (take (line + 64 - line) (drop line I)) i 0)
    → cond valid 0 5 ≡ first_error (context_errors s I)
unfolding first_error
session_judged s I line valid e p q =
    let k = container_left s.layout I e in
    let v : valid ≡ valid_session s (active_state I) = q ∙ valid_session_part s I line k.0.0.1 ∙ ap (λ (x : ℕ). valid_session s (seg_state I x)) p in
    rw v (go (valid_session s (active_state I))) ∙ sym (after-served (container_errors s.layout I) (session_errors s I) (omega arith) (sym e))
  where
    go : (b : Bool) → ◌≡◌ {A = ℕ} (cond b 0 5) (cond (not b) 5 0)
    go true = refl
    go false = refl
