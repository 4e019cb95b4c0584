-- Where faults 1 and 2 start: a paired main segment after a word written and a checkpoint, which leave it in state 1 with its
-- block dirty and its backup one checkpoint behind; and what opening shows once its state is 2 again and nothing was copied.
use Prim.Native.Nat.{ℕ}
use mathlib.Core.Path.{◌≡◌, refl, sym, ap, subst, ◌∙◌}
use mathlib.Core.Logic.{inl}
use mathlib.Core.List.{List, ◌∷◌, ◌++◌}
use lib.ListN.{replicate}
use Rattle.model.specs.declared.Session.{Session}
use Rattle.model.specs.Words.{Image, Bytes}
use Rattle.model.specs.Layout.{unpaired}
use Rattle.model.specs.Session.{adr, fresh_session}
use Rattle.model.specs.Ops.{Ops, replay}
use Rattle.model.specs.Format.{container}
use Rattle.model.specs.Write.{write_ops}
use Rattle.model.specs.Checkpoint.{checkpoint_ops}
use Rattle.model.specs.Reference.{Page}
use Rattle.model.specs.History.{opened_image}
use Rattle.model.specs.CrashSafety.{Reads}
use Rattle.model.specs.Shares.{alone}
use Rattle.cases.specs.Turns.{Point, point_of, begin, turn, turns, Supposed}
use Rattle.cases.specs.Table.{writes, write, checkpoint, a_word}
use Rattle.faults.specs.Faults.{lent_long, l111, one, two_calls}
use Rattle.cases.proofs.Compute.{model_rules, same, same_equal, small, small_bytes, fit_args, fit_turns, all_supposed}
use Rattle.cases.proofs.Starts.{standing, opened_by, started_by}
use Rattle.faults.proofs.Shown.{only_block}

-- an image of the history: epoch, the two states, the bytes of the main segment
abbrev pub image : ℕ → ℕ → ℕ → List ℕ → Image
image epoch even odd main =
    container l111 epoch (even ∷ replicate 63 0) (odd ∷ replicate 63 0) (0 ∷ replicate 63 unpaired) (main ++ replicate 256 40)

abbrev pub old : Page
old = replicate 256 40

abbrev pub new : Page
new = a_word ++ replicate 248 40

-- the session after the write, and after the checkpoint
abbrev dirty : Session
dirty = record { layout = l111; dirty_segments = 1; dirty_blocks = 1 ∷ replicate 63 0; domain = adr }

abbrev pub marked : Session
marked = record { layout = l111; dirty_segments = 0; dirty_blocks = 1 ∷ replicate 63 0; domain = adr }

-- the operations of the two calls
abbrev first : Ops
first = write_ops (fresh_session l111 adr) (image 0 1 0 old) (writes 0 0 a_word)

abbrev pub before : Ops
before = first ++ checkpoint_ops dirty (image 0 2 0 new)

-- the write is charged, and the checkpoint clears that
abbrev written : Image → Point
written I = point_of (record {
  device = record { layout = l111; durable = image 0 1 0 old; played = first; adr_played = first; image = I; session = dirty };
  model = record { working = new; checkpoint = old };
}) (alone l111 1)

-- after the two calls, with this image and this session
abbrev pub saved : Image → Session → Point
saved I s = point_of (record {
  device = record { layout = l111; durable = image 0 1 0 old; played = before; adr_played = before; image = I; session = s };
  model = record { working = new; checkpoint = new };
}) (alone l111 0)

abbrev opened : Point
opened = point_of (standing l111 adr (image 0 1 0 old) old) (alone l111 0)

starts : begin l111 adr (one 0) (lent_long l111) ≡ opened
unfolding model_rules same
starts = started_by l111 adr (one 0) (image 0 1 0 old) (lent_long l111) old refl refl refl

writes_first : turn opened (write 0 0 a_word) ≡ written (image 0 2 0 new)
unfolding model_rules turn same
writes_first = ap written (same_equal _ _ refl)

saves : turn (written (image 0 2 0 new)) checkpoint ≡ saved (image 1 2 1 new) marked
unfolding model_rules turn same
saves = ap (λ (I : Image). saved I marked) (same_equal _ _ refl)

pub stands : turns (begin l111 adr (one 0) (lent_long l111)) two_calls ≡ saved (image 1 2 1 new) marked
unfolding turns
stands =
    ap (λ (p : Point). turn (turn p (write 0 0 a_word)) checkpoint) starts ∙ ap (λ (p : Point). turn p checkpoint) writes_first ∙ saves

-- the image that their operations leave
pub replayed : replay before (image 0 1 0 old) ≡ image 1 2 1 new
unfolding model_rules same
replayed = same_equal _ _ refl

-- a word is written with bytes, so that the two calls are permitted
pub a_word_lem : Bytes a_word
unfolding small
a_word_lem = small_bytes a_word refl

pub calls_permitted : (p : Point) → Supposed adr p two_calls
unfolding small fit_args fit_turns
calls_permitted p = all_supposed adr p two_calls refl

-- ---- state 2 again, with the new bytes in the main segment and the old ones in its backup

recovers : opened_image l111 adr (image 1 2 2 new) (lent_long l111) ≡ image 1 2 2 old
unfolding model_rules same
recovers = opened_by l111 adr (image 1 2 2 new) (image 1 2 2 old) (lent_long l111) refl refl

old_reads : Reads l111 (image 1 2 2 old) old old
unfolding model_rules
old_reads = only_block (record { status = refl; working = refl; checkpoint = inl refl })

pub old_shown : Reads l111 (opened_image l111 adr (image 1 2 2 new) (lent_long l111)) old old
old_shown = subst (λ (I : Image). Reads l111 I old old) (sym recovers) old_reads
