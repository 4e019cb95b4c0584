-- What a discard restores (specs/DiscardRestores.antt), proved: the reads before it and after it give the pages of the reference model, of
-- which the later has the checkpoint's bytes in the one main segment; and its stores are in that segment alone.
use Prim.Native.Nat.{ℕ, ◌+◌, ◌*◌, ◌<◌}
use mathlib.Core.Path.{◌≡◌, refl, sym, ap, ◌∙◌, subst, subst₂}
use mathlib.Core.Logic.{inl, inr, ⊎_elim}
use native.Mathlib.Omega.{arith}
use borrow.Author.Tests.{eq-eqb}
use lib.ListN.{length, get_or}
use lib.Seq.{take-length}
use Rattle.model.proofs.Laws.Domain.{domain_replay}
use Rattle.model.specs.declared.Layout.{Layout}
use Rattle.model.specs.declared.Session.{Session}
use Rattle.model.specs.Words.{Image, byte_at}
use Rattle.model.specs.Layout.{segment_size}
use Rattle.model.specs.Ops.{Ops, replay}
use Rattle.model.specs.Outcome.{Lent, outcome_of}
use Rattle.model.specs.Discard.{discard_ops, discard_status, discard_outcome}
use Rattle.model.specs.Reads.{working_block}
use Rattle.model.specs.Reference.{Page, page_at, page_block, model_step}
use Rattle.model.specs.History.{call_discard, Device, State, outcome, device_step, step}
use Rattle.model.specs.DiscardRestores.{Restores, DiscardRestores}
use Rattle.model.proofs.Laws.Open.{zero_discard}
use Rattle.model.proofs.Laws.Ops.{replayed_image_lem}
use Rattle.model.proofs.Laws.Replay.{discard_main, call_ok}
use Rattle.model.proofs.Argument.Persist.{Clear, replay_clear}
use Rattle.model.proofs.Argument.Stores.{Outside}
use Rattle.model.proofs.Argument.Discard.{discard_clear}
use Rattle.model.proofs.Argument.Pages.{contents_of, Whole, parts_same, block_inside}
use Rattle.model.proofs.Argument.Stands.{Stands, whole_lines, inv_at, session_known}
use Rattle.model.proofs.Argument.DiscardCall.{page, page_here, discard_argument}
use Rattle.model.proofs.CrashSafety.{history_stands}
use Rattle.model.proofs.Sisters.{stands_read}

-- two pages with the same contents in a main segment have the same blocks there
pub block_same : (l : Layout) (P Q : Page) → Whole l P → Whole l Q → (i b : ℕ) → i < l.mains → b < l.blocks
    → ((x : ℕ) → x < segment_size l → contents_of l P i x ≡ contents_of l Q i x) → page_block l P i b ≡ page_block l Q i b
block_same l P Q wp wq i b hi hb same =
    parts_same P Q (page_at l i b) (page_at l i b) (omega (arith, wp, block_inside l i b hi hb)) (omega (arith, wq, block_inside l i b hi hb))
    (λ x h. ap (λ (n : ℕ). get_or P n 0) (omega arith) ∙ same (256 * b + x) (omega arith) ∙ ap (λ (n : ℕ). get_or Q n 0) (omega arith))

module _ (s : State) (st : Stands s) (i : ℕ) (k : Lent) (h : (outcome s.device (call_discard i k)).status ≡ 0) where
  abbrev d : Device
  d = s.device

  abbrev l : Layout
  l = s.device.layout

  abbrev after : State
  after = step s (call_discard i k)

  known : d.session ≡ st.session
  unfolding discard_outcome outcome_of
  known = session_known s st (λ x. discard_status x d.image i k) (zero_discard d.image i k) (λ e. omega (arith, e, h))

  inside : i < l.mains
  unfolding discard_outcome outcome_of
  inside = omega (arith, discard_main d.session d.image i k h, ap (λ (x : Session). x.layout.mains) known, ap (λ (x : Layout). x.mains) st.sized)

  after_stands : Stands after
  after_stands = (discard_argument s st i k).stands

  after_page : after.model.working ≡ page s st i k
  unfolding step model_step
  after_page = rw (eq-eqb _ _ h)

  after_whole : Whole l (page s st i k)
  unfolding step device_step
  after_whole = subst (Whole l) after_page after_stands.whole_working

  after_read : (u b : ℕ) → u < l.mains → b < l.blocks → working_block l after.device.image u b ≡ page_block l (page s st i k) u b
  unfolding step device_step
  after_read u b hu hb = (stands_read after after_stands u b hu hb).working ∙ ap (λ (W : Page). page_block l W u b) after_page

  here_same : (b : ℕ) → b < l.blocks → working_block l after.device.image i b ≡ page_block l s.model.checkpoint i b
  here_same b hb =
      after_read i b inside hb
      ∙ block_same l (page s st i k) s.model.checkpoint after_whole st.whole_checkpoint i b inside hb (page_here s st i k inside)

  after_image : after.device.image ≡ replay (discard_ops d.session d.image i) d.image
  unfolding step device_step discard_outcome outcome_of
  after_image =
      let O : Ops = (outcome d (call_discard i k)).ops in
      replayed_image_lem d.image O k.trace (length O) (whole_lines s st) (call_ok d (call_discard i k))
      ∙ ap (λ (X : Ops). replay X d.image) (take-length O ∙ rw (eq-eqb _ _ h) refl) ∙ domain_replay d.session.domain (discard_ops d.session d.image i) d.image

  -- it stores into the segment alone
  outside_clear : (n : ℕ) → Outside l i n → Clear n (discard_ops d.session d.image i)
  outside_clear n o = subst₂ (λ (x : Session) (J : Image). Clear n (discard_ops x J i)) (sym known) (sym st.image)
      (discard_clear d.adr_played d.durable st.session _ _ st.bytes (inv_at s st st.session.layout st.sized) i
      (subst (λ (x : Layout). i < x.mains) (sym st.sized) inside) n (subst (λ (x : Layout). Outside x i n) (sym st.sized) o))

  others_same : (n : ℕ) → Outside l i n → byte_at after.device.image n ≡ byte_at d.image n
  others_same n o = ap (λ (J : Image). byte_at J n) after_image ∙ replay_clear (discard_ops d.session d.image i) d.image n (outside_clear n o)

  session_same : after.device.session ≡ d.session
  unfolding step device_step discard_outcome outcome_of
  session_same = rw (eq-eqb _ _ h)

  restores : Restores s i k
  restores = record {
    restored = λ b hb. ⊎_elim (λ e. inl (here_same b hb ∙ sym e)) (λ e. inr (e.0, here_same b hb ∙ e.2)) (stands_read s st i b inside hb).checkpoint;
    others = others_same;
    session = session_same;
  }

pub discard_restores : DiscardRestores
discard_restores l n I t b h cs permitted i k ok = restores _ (history_stands l n I t b h cs permitted) i k ok
