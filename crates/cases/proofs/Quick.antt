-- The image after a call, computed without the words of a copy, which cost most: for a write that takes a new backup segment, by the law of
-- its copy.
use Prim.Native.Nat.{ℕ, ◌+◌, ◌%◌}
use mathlib.Core.Path.{◌≡◌, refl, sym, ap, ◌∙◌}
use mathlib.Core.Bool.{Bool, true, false, cond, ◌&&◌}
use lib.Dec.{leb, eqb}
use lib.ListN.{length}
use borrow.Author.Tests.{eqb-true, leb-true}
use Rattle.model.specs.declared.Session.{Session}
use Rattle.model.specs.declared.Plan.{Plan}
use Rattle.model.specs.declared.Plan.TheVariants.{NoCopy, OwnBackup, NewBackup, NoneFree}
use Rattle.model.specs.Words.{Image}
use Rattle.model.specs.Layout.{line_size, segment_size, main_at, backup_at}
use Rattle.model.specs.Ops.{Trace, replay}
use Rattle.model.specs.Outcome.{Lent, lent, Outcome}
use Rattle.model.specs.Write.{WriteArgs, copy_plan, write_ops, write_status}
use Rattle.model.specs.Reference.{CallArgs, open_args, write_args, discard_args, checkpoint_args}
use Rattle.cases.specs.Turns.{Point, Turn, turn}
use Rattle.cases.specs.Table.{turn_write}
use Rattle.model.proofs.Laws.Range.{and_left, and_right}
use Rattle.model.proofs.Laws.Domain.{domain_replay}
use Rattle.cases.proofs.Compute.{small, small_bytes}
use Rattle.cases.proofs.Goes.{turn_image, copy_image, copying, write-served}

-- an image in which main segment and new backup segment have their places
abbrev has_places : Session → Image → WriteArgs → ℕ → Bool
has_places x I w j =
    eqb (length I % line_size) 0 && (small I
    && (leb (main_at x.layout w.main + segment_size x.layout) (length I) && leb (backup_at x.layout j + segment_size x.layout) (length I)))

-- a served write that takes the new backup segment j by that law, and any other call as it is
unfoldable pub quick_write : Point → WriteArgs → Trace → Plan → Image
quick_write p w t (NewBackup j) =
    cond (eqb (write_status p.state.device.session p.state.device.image w (lent p.clients t)) 0
    && has_places p.state.device.session p.state.device.image w j)
    (copy_image p.state.device.session p.state.device.image w j) (turn p (turn_write w t)).state.device.image
quick_write p w t NoCopy = (turn p (turn_write w t)).state.device.image
quick_write p w t (OwnBackup j) = (turn p (turn_write w t)).state.device.image
quick_write p w t NoneFree = (turn p (turn_write w t)).state.device.image

unfoldable pub quick_args : Point → Trace → CallArgs → Image
quick_args p t (open_args l d) = (turn p (record { args = open_args l d; trace = t })).state.device.image
quick_args p t (write_args w) = quick_write p w t (copy_plan p.state.device.session p.state.device.image w.main)
quick_args p t (discard_args i) = (turn p (record { args = discard_args i; trace = t })).state.device.image
quick_args p t checkpoint_args = (turn p (record { args = checkpoint_args; trace = t })).state.device.image

quick_write_lem : (p : Point) (w : WriteArgs) (t : Trace) (q : Plan) → copy_plan p.state.device.session p.state.device.image w.main ≡ q
    → quick_write p w t q ≡ (turn p (turn_write w t)).state.device.image
unfolding quick_write
quick_write_lem p w t NoCopy plan = refl
quick_write_lem p w t (OwnBackup j) plan = refl
quick_write_lem p w t NoneFree plan = refl
quick_write_lem p w t (NewBackup j) plan = go (eqb (write_status x I w k) 0 && has_places x I w j) refl
  where
    x : Session
    x = p.state.device.session

    I : Image
    I = p.state.device.image

    k : Lent
    k = lent p.clients t

    go : (b : Bool) → (eqb (write_status x I w k) 0 && has_places x I w j) ≡ b
        → cond b (copy_image x I w j) (turn p (turn_write w t)).state.device.image ≡ (turn p (turn_write w t)).state.device.image
    go false e = refl
    go true e =
        let served : write_status x I w k ≡ 0 = eqb-true _ _ (and_left (eqb (write_status x I w k) 0) _ e) in
        let places : has_places x I w j ≡ true = and_right (eqb (write_status x I w k) 0) _ e in
        let later = and_right (eqb (length I % line_size) 0) _ places in
        let inside = and_right (small I) _ later in
        sym (turn_image (turn_write w t) p (eqb-true _ _ (and_left (eqb (length I % line_size) 0) _ places))
        ∙ ap (λ (a : Outcome). replay a.ops I) (write-served x I w k served) ∙ domain_replay x.domain (write_ops x I w) I
        ∙ copying x I w j plan (small_bytes I (and_left (small I) _ later))
        (leb-true _ _ (and_left (leb (main_at x.layout w.main + segment_size x.layout) (length I)) _ inside))
        (leb-true _ _ (and_right (leb (main_at x.layout w.main + segment_size x.layout) (length I)) _ inside)))

pub quick_same : (p : Point) (c : Turn) → quick_args p c.trace c.args ≡ (turn p c).state.device.image
unfolding quick_args
quick_same p c = go c.args
  where
    go : (a : CallArgs) → quick_args p c.trace a ≡ (turn p (record { args = a; trace = c.trace })).state.device.image
    go (open_args l d) = refl
    go (write_args w) = quick_write_lem p w c.trace _ refl
    go (discard_args i) = refl
    go checkpoint_args = refl
