-- The bench on a module of kind 1, computed: its calls, and the three images of which a cut leaves one.
use Prim.Native.Nat.{ℕ, suc, ◌+◌}
use mathlib.Core.Path.{◌≡◌, refl, sym, ap, subst, ◌∙◌}
use mathlib.Core.Bool.{true}
use mathlib.Core.List.{[], ◌∷◌, ◌++◌}
use lib.Dec.{T, leb}
use lib.ListN.{length, replicate}
use Rattle.model.specs.Words.{Image}
use Rattle.model.specs.Layout.{main_at}
use Rattle.model.specs.Session.{eadr, zero_session}
use Rattle.model.specs.Ops.{Ops, store, replay, zero_segment}
use Rattle.model.specs.Outcome.{Lent}
use Rattle.model.specs.Format.{container, formatted}
use Rattle.model.specs.Open.{recover_segment, open_outcome}
use Rattle.model.specs.Reference.{Page}
use Rattle.model.specs.History.{State, opened_image}
use Rattle.model.specs.CrashSafety.{Recovers, Moment, between, during, played_at, Enough, eadr_module}
use Rattle.model.specs.Shares.{alone}
use Rattle.cases.specs.Turns.{Point, point_of, call_at, turn, Supposed}
use Rattle.cases.specs.Table.{answer, l211, fresh, long_trace, lent_alone, write, checkpoint, a_word, calls}
use Rattle.cases.specs.Cut.{OnlyShows, zeros}
use Rattle.cases.specs.Eadr.{story, opened, written, word_page, EadrStory}
use Rattle.model.proofs.Domains.{both_kinds}
use Rattle.cases.proofs.Compute.{model_rules, same, same_equal, small, fit_args, fit_turns, all_supposed, known}
use Rattle.cases.proofs.Quick.{quick_write, quick_args}
use Rattle.cases.proofs.Follow.{agree, follow_known, follow_test, as_expected}
use Rattle.cases.proofs.Blocks.{laid, Recovered, recovered_none, recovered_zero, recovered_all}
use Rattle.cases.proofs.Starts.{standing, started}
use Rattle.cases.proofs.Shown.{shows_any}

abbrev k211 : Lent
k211 = lent_alone l211 long_trace

-- ---- openings

short : answer (open_outcome l211 eadr fresh (lent_alone l211 (replicate 194 0))) ≡ 11 ∷ 0 ∷ []
unfolding model_rules
short = refl

opens : answer (open_outcome l211 eadr fresh (lent_alone l211 (replicate 195 0))) ≡ 0 ∷ 65 ∷ []
unfolding model_rules
opens = refl

refused : answer (open_outcome l211 2 fresh k211) ≡ 5 ∷ 0 ∷ []
unfolding model_rules
refused = refl

zero_session_lem : (open_outcome l211 2 fresh k211).session ≡ zero_session
unfolding model_rules
zero_session_lem = refl

abbrev F : Image
F = formatted l211

-- the zeros that an opening writes stand there already
reopened : opened_image l211 eadr fresh k211 ≡ F
unfolding model_rules same
reopened = recovered_all l211 eadr fresh k211 128 F refl refl (zeroes 1 refl tt refl (zeroes 0 refl tt refl (recovered_none l211 F 128)))
  where
    zeroes : (n : ℕ) → recover_segment l211 F 128 n ≡ zero_segment l211 (main_at l211 n) → T (leb (main_at l211 n + 256) (length F))
        → same (laid F (main_at l211 n) (replicate 256 0)) F ≡ true → Recovered l211 F 128 n F → Recovered l211 F 128 (suc n) F
    zeroes n = recovered_zero l211 F 128 n F F

abbrev first_point : Point
first_point = point_of (standing l211 eadr F zeros) (alone l211 0)

starts : opened ≡ first_point
unfolding model_rules same
starts = started l211 eadr fresh F k211 zeros refl reopened (same_equal _ _ refl)

-- ---- the calls

story_tested : follow_known story first_point (λ rs last. agree rs) ≡ true
unfolding model_rules turn story quick_write quick_args follow_known known small same agree
story_tested = refl

permitted : Supposed eadr opened (calls story)
unfolding story small fit_args fit_turns
permitted = all_supposed eadr opened (calls story) refl

-- ---- the cuts

-- where the checkpoint is made, written out; its operations with the write-backs put in are the same so far
abbrev word : Ops
word = store 512 0x0807060504030201 ∷ []

abbrev before : State
before = record {
  device = record {
    layout = l211;
    durable = F;
    played = word;
    adr_played = word;
    image = replay word F;
    session = record { layout = l211; dirty_segments = 1; dirty_blocks = 1 ∷ replicate 63 0; domain = eadr };
  };
  model = record { working = word_page; checkpoint = zeros };
}

abbrev point_before : Point
point_before = point_of before (alone l211 0)

writes_word : turn first_point (write 0 0 a_word) ≡ point_before
unfolding model_rules turn
writes_word = refl

stands : written ≡ point_before
stands = ap (λ (p : Point). turn p (write 0 0 a_word)) starts ∙ writes_word

-- before the epoch's store, and after it
abbrev cut_image : ℕ → Image
cut_image epoch = container l211 epoch (replicate 64 0) (1 ∷ replicate 63 0) (replicate 64 255) (a_word ++ replicate 760 0)

-- what was played leaves this image, of which every opening shows this page
only : (s : State) (m : Moment) (J : Image) (Q : Page) → replay (played_at s.device m) s.device.durable ≡ J
    → ((k : Lent) → Enough s.device.layout eadr J k → Recovers s.device.layout eadr J k Q) → OnlyShows eadr_module s m Q
only s m J Q is shows H held k =
    subst (λ (K : Image). Enough s.device.layout eadr K k → Recovers s.device.layout eadr K k Q) (sym (held ∙ is)) (shows k)

old_shown : (k : Lent) → Enough l211 eadr (cut_image 0) k → Recovers l211 eadr (cut_image 0) k zeros
unfolding model_rules same small
old_shown = shows_any eadr_module both_kinds.eadr_within l211 (cut_image 0) k211 zeros refl refl refl

new_shown : (k : Lent) → Enough l211 eadr (cut_image 1) k → Recovers l211 eadr (cut_image 1) k word_page
unfolding model_rules same small
new_shown = shows_any eadr_module both_kinds.eadr_within l211 (cut_image 1) k211 word_page refl refl refl

cut_10 : OnlyShows eadr_module before (during (call_at point_before checkpoint) 10) zeros
unfolding model_rules same
cut_10 = only before (during (call_at point_before checkpoint) 10) (cut_image 0) zeros (same_equal _ _ refl) old_shown

cut_11 : OnlyShows eadr_module before (during (call_at point_before checkpoint) 11) word_page
unfolding model_rules same
cut_11 = only before (during (call_at point_before checkpoint) 11) (cut_image 1) word_page (same_equal _ _ refl) new_shown

cut_12 : OnlyShows eadr_module (turn point_before checkpoint).state between word_page
unfolding model_rules turn same
cut_12 = only (turn point_before checkpoint).state between (cut_image 1) word_page (same_equal _ _ refl) new_shown

-- THE STORY
pub eadr-story : EadrStory
eadr-story = record {
  short = short;
  opens = opens;
  refused = refused;
  zero = zero_session_lem;
  permitted = permitted;
  answered = as_expected starts story (follow_test story first_point (λ rs last. agree rs) story_tested);
  before = subst (λ (p : Point). OnlyShows eadr_module p.state (during (call_at p checkpoint) 10) zeros) (sym stands) cut_10;
  stored = subst (λ (p : Point). OnlyShows eadr_module p.state (during (call_at p checkpoint) 11) word_page) (sym stands) cut_11;
  after = subst (λ (p : Point). OnlyShows eadr_module (turn p checkpoint).state between word_page) (sym stands) cut_12;
}
