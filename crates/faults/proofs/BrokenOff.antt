-- A program that ended inside a checkpoint while the power stayed on, opened again without a flush: the opening renews the backup
-- segment by the new epoch, and a crash may bring the old epoch back.
use Prim.Native.Nat.{ℕ}
use mathlib.Core.Path.{◌≡◌, refl, sym, ap, ap₂, subst, ◌∙◌}
use mathlib.Core.List.{[], ◌∷◌, ◌++◌, append_assoc}
use lib.Dec.{lit<}
use lib.ListN.{replicate}
use Rattle.model.specs.Words.{Image}
use Rattle.model.specs.Layout.{unpaired}
use Rattle.model.specs.Session.{adr}
use Rattle.model.specs.Ops.{Ops, store, clwb, sfence, replay, persist_copy}
use Rattle.model.specs.Format.{container}
use Rattle.model.specs.Open.{open_status, open_outcome}
use Rattle.model.specs.Crash.{CrashImage}
use Rattle.model.specs.CrashExact.{has_fence, floor_from}
use Rattle.model.specs.Reference.{Page}
use Rattle.model.specs.History.{device_step, step}
use Rattle.model.specs.CrashSafety.{PermittedAt, played_at, Recovers}
use Rattle.model.specs.FlushDurable.{image_at}
use Rattle.model.proofs.Laws.Crash.Images.{crash_after}
use Rattle.model.proofs.Argument.Persist.{replay_append}
use Rattle.model.specs.Shares.{alone}
use Rattle.cases.specs.Turns.{Point, point_of, begin, turn, turns, Supposed}
use Rattle.cases.specs.Table.{l211, a_word}
use Rattle.cases.proofs.Compute.{model_rules, same, same_equal, small, fit_args, fit_turns, all_supposed}
use Rattle.cases.proofs.Shown.{shows}
use Rattle.cases.proofs.Starts.{standing, started_by}
use Rattle.faults.specs.Faults.{lent_long}
use Rattle.faults.specs.Unflushed.{once, two_writes, edited, ended, BrokenOff}
use Rattle.faults.proofs.Alone.{elsewhere, avoids, first_lost}

abbrev old : Page
old = replicate 256 40 ++ replicate 256 0

opens : open_status l211 adr once (lent_long l211) ≡ 0
unfolding model_rules
opens = refl

abbrev opened : Point
opened = point_of (standing l211 adr once old) (alone l211 0)

begins : begin l211 adr once (lent_long l211) ≡ opened
unfolding model_rules same
begins = started_by l211 adr once once (lent_long l211) old opens refl refl

-- where the program stands before its checkpoint
abbrev before : Point
before = turns opened two_writes

stands : edited ≡ before
stands = ap (λ (p : Point). turns p two_writes) begins

-- all that was carried out but the store of the epoch
abbrev first : Ops
first =
    sfence ∷ store 192 2 ∷ clwb 192 ∷ sfence ∷ store 512 0x0807060504030201 ∷ store 768 0x0807060504030201
    ∷ clwb 512 ∷ clwb 576 ∷ clwb 640 ∷ clwb 704 ∷ clwb 768 ∷ clwb 832 ∷ clwb 896 ∷ clwb 960 ∷ sfence
    ∷ store 128 0x0101 ∷ store 136 0 ∷ store 144 0 ∷ store 152 0 ∷ store 160 0 ∷ store 168 0 ∷ store 176 0 ∷ store 184 0 ∷ clwb 128 ∷ sfence ∷ []

parts : played_at before.state.device (ended before) ≡ first ++ store 0 2 ∷ []
unfolding model_rules turn turns
parts = refl

-- a board in epoch e, with these bytes in its backup segment
abbrev board : ℕ → Image → Image
board e spare =
    container l211 e (1 ∷ 1 ∷ replicate 62 0) (2 ∷ replicate 63 0) (0 ∷ replicate 63 unpaired)
    ((a_word ++ replicate 248 40) ++ (a_word ++ replicate 248 0) ++ spare)

leaves : replay first once ≡ board 1 (replicate 256 40)
unfolding model_rules same
leaves = same_equal _ _ refl

advances : replay (store 0 2 ∷ []) (board 1 (replicate 256 40)) ≡ board 2 (replicate 256 40)
unfolding model_rules same
advances = same_equal _ _ refl

ends : image_at before.state.device (ended before) ≡ board 2 (replicate 256 40)
unfolding turn turns step device_step
ends =
    ap (λ (X : Ops). replay X once) parts ∙ replay_append first (store 0 2 ∷ []) once ∙ ap (λ (J : Image). replay (store 0 2 ∷ []) J) leaves
    ∙ advances

-- the opening copies main segment 0 to its backup segment
abbrev renewed : Ops
renewed = persist_copy (board 2 (replicate 256 40)) 512 1024 ++ sfence ∷ []

reopens : open_status l211 adr (board 2 (replicate 256 40)) (lent_long l211) ≡ 0
unfolding model_rules
reopens = refl

reopening : (open_outcome l211 adr (board 2 (replicate 256 40)) (lent_long l211)).ops ≡ renewed
unfolding model_rules
reopening = refl

renews : replay renewed (board 1 (replicate 256 40)) ≡ board 1 (a_word ++ replicate 248 40)
unfolding model_rules same
renews = same_equal _ _ refl

-- the epoch need not arrive: no call wrote its line back and fenced
epoch_lost : CrashImage (board 1 (replicate 256 40)) (store 0 2 ∷ renewed) (replay renewed (board 1 (replicate 256 40)))
unfolding model_rules floor_from has_fence avoids elsewhere
epoch_lost = first_lost (board 1 (replicate 256 40)) 0 2 renewed refl refl refl

lost : CrashImage once (first ++ store 0 2 ∷ renewed) (board 1 (a_word ++ replicate 248 40))
lost =
    crash_after once _ first (store 0 2 ∷ renewed)
    (subst (λ (T : Image). CrashImage T (store 0 2 ∷ renewed) (board 1 (a_word ++ replicate 248 40))) (sym leaves)
    (subst (CrashImage (board 1 (replicate 256 40)) (store 0 2 ∷ renewed)) renews epoch_lost))

-- ---- what the calls are

permitted : Supposed adr (begin l211 adr once (lent_long l211)) two_writes
unfolding small fit_args fit_turns
permitted = all_supposed adr (begin l211 adr once (lent_long l211)) two_writes refl

more : PermittedAt adr before.state.device (ended before)
unfolding model_rules turn turns
more = (tt, (λ x. tt), lit< tt)

old_page_lem : before.state.model.checkpoint ≡ old
unfolding model_rules turn turns
old_page_lem = refl

new_page_lem : before.state.model.working ≡ (a_word ++ replicate 248 40) ++ (a_word ++ replicate 248 0)
unfolding model_rules turn turns
new_page_lem = refl

-- all of it together, in the order in which it was carried out
carried_out : first ++ store 0 2 ∷ renewed
    ≡ played_at before.state.device (ended before) ++ (open_outcome l211 adr (image_at before.state.device (ended before)) (lent_long l211)).ops
carried_out =
    sym (append_assoc first (store 0 2 ∷ []) renewed)
    ∙ ap₂ (λ (X Y : Ops). X ++ Y) (sym parts) (sym (ap (λ (J : Image). (open_outcome l211 adr J (lent_long l211)).ops) ends ∙ reopening))

crash : CrashImage before.state.device.durable
    (played_at before.state.device (ended before) ++ (open_outcome l211 adr (image_at before.state.device (ended before)) (lent_long l211)).ops)
    (board 1 (a_word ++ replicate 248 40))
unfolding turn turns step device_step
crash = subst (λ (X : Ops). CrashImage once X (board 1 (a_word ++ replicate 248 40))) carried_out lost

mixed : Recovers l211 adr (board 1 (a_word ++ replicate 248 40)) (lent_long l211) ((a_word ++ replicate 248 40) ++ replicate 256 0)
unfolding model_rules same small
mixed = shows l211 (board 1 (a_word ++ replicate 248 40)) (lent_long l211) _ refl refl refl

pub broken_off_lem : BrokenOff
broken_off_lem = record {
  opens = opens;
  permitted = (permitted, subst (λ (p : Point). PermittedAt adr p.state.device (ended p)) (sym stands) more);
  old = ap (λ (p : Point). p.state.model.checkpoint) stands ∙ old_page_lem;
  new = ap (λ (p : Point). p.state.model.working) stands ∙ new_page_lem;
  served =
      ap (λ (p : Point). open_status l211 adr (image_at p.state.device (ended p)) (lent_long l211)) stands
      ∙ ap (λ (J : Image). open_status l211 adr J (lent_long l211)) ends ∙ reopens;
  left = board 1 (a_word ++ replicate 248 40);
  crash = subst (λ (p : Point). CrashImage p.state.device.durable
      (played_at p.state.device (ended p) ++ (open_outcome l211 adr (image_at p.state.device (ended p)) (lent_long l211)).ops) (board 1 (a_word ++ replicate 248 40)))
      (sym stands) crash;
  shown = mixed;
}
