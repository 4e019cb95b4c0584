-- Laws of a call that the code made: what is carried out of it is what the model's call writes, and its step is the model's
-- step.
use Prim.Native.Nat.{ℕ, ◌*◌, ◌%◌, ◌≤◌}
use mathlib.Core.Path.{◌≡◌, refl, sym, ap, ap₂, ◌∙◌}
use mathlib.Core.Bool.{Bool, true, false, cond}
use mathlib.Core.Logic.{◌≢◌}
use mathlib.Core.List.{[], ◌++◌}
use native.Mathlib.Omega.{arith}
use native.Mathlib.Decide.{ℕ_discrete}
use Rattle.std.proofs.Common.{Result, Ok, Err, IfOk, MatchResult, rules}
use lib.ListN.{length, take, drop, length-append}
use lib.Seq.{take-nil, take-length, take-append-le}
use borrow.Author.Tests.{ne_eqb}
use Rattle.model.specs.declared.Session.{Session}
use Rattle.model.specs.Words.{Image}
use Rattle.model.specs.Layout.{line_size}
use Rattle.model.specs.Status.{served}
use Rattle.model.specs.Ops.{op_numbers, Ops, Trace, encode, decode, written, replay}
use Rattle.model.specs.declared.Answer.{Answer}
use Rattle.model.specs.declared.Refusal.{Refusal}
use Rattle.model.specs.Clients.{Clients}
use Rattle.model.specs.Outcome.{Lent, Outcome, outcome_of, told, Gives}
use Rattle.model.specs.Open.{open_status, open_outcome}
use Rattle.model.specs.Write.{write_status, write_outcome}
use Rattle.model.specs.Discard.{discard_status, discard_outcome}
use Rattle.model.specs.Checkpoint.{checkpoint_status, checkpoint_outcome}
use Rattle.model.specs.Replay.{replay_count, replay_status, replay_outcome, replayed_ops}
use Rattle.model.specs.Reference.{CallArgs, open_args, write_args, discard_args, checkpoint_args}
use Rattle.model.specs.History.{Call, Device, answers, outcome, reported, played_ops, called_ops, replayed_image, device_step}
use Rattle.model.proofs.Laws.Layout.{image_lines_lem}
use Rattle.model.proofs.Laws.Container.{container_then}
use Rattle.model.proofs.Laws.Ops.{length-encode, take-encode, decode-encode, reported_is, played_ops_lem, replayed_image_lem}
use Rattle.model.proofs.Laws.Replay.{call_ok}
use Rattle.driver.specs.Stepped.{Report, report_of, Reports, Called, carried, Stepped}

-- ---- what stands on the trace

module _ (o : Outcome) (T : Trace) (r : Report) (t : Trace) (g : Reports o T r t) where
  -- the operations that are reported stand on the trace
  part_inside : 3 * r.ops ≤ length t
  unfolding written
  part_inside =
      omega (arith, g.2, ap (λ (x : Trace). length x) g.3, length-append (encode o.ops) (drop (3 * length o.ops) T), length-encode o.ops)

  pub part_reported : take (op_numbers * r.ops) t ≡ reported o.ops T
  unfolding reported
  part_reported = ap₂ (λ (n : ℕ) (x : Trace). take (3 * n) x) g.2 g.3

  -- and the first of them are the call's first operations
  pub carried_first : (p : ℕ) → p ≤ r.ops → carried t p ≡ take p o.ops
  unfolding written
  carried_first p h =
      ap (λ (x : Trace). carried x p) g.3
      ∙ ap decode (take-append-le (3 * p) (encode o.ops) _ (omega (arith, h, g.2, length-encode o.ops)) ∙ take-encode p o.ops)
      ∙ decode-encode (take p o.ops)

  pub carried_all : carried t r.ops ≡ o.ops
  carried_all = carried_first r.ops (omega arith) ∙ ap (λ (n : ℕ). take n o.ops) g.2 ∙ take-length o.ops

-- ---- what replay plays of it

-- only an image of whole lines is served
served_whole : (s : Session) (I : Image) (a : CallArgs) (t : Lent) → (answers s I a t).status ≡ 0 → length I % line_size ≡ 0
unfolding open_outcome write_outcome discard_outcome checkpoint_outcome outcome_of open_status write_status discard_status checkpoint_status
served_whole s I (open_args l d) t h = omega (arith, (container_then l I _ h).0.long, image_lines_lem l)
served_whole s I (write_args w) t h = omega (arith, (container_then s.layout I _ h).0.long, image_lines_lem s.layout)
served_whole s I (discard_args i) t h = omega (arith, (container_then s.layout I _ h).0.long, image_lines_lem s.layout)
served_whole s I checkpoint_args t h = omega (arith, (container_then s.layout I _ h).0.long, image_lines_lem s.layout)

-- and a refused call writes nothing
none_written : (e : ℕ) (O : Ops) → e ≢ 0 → cond (served e) O [] ≡ []
none_written e O h = rw (ne_eqb e 0 h) refl

refused_none : (s : Session) (I : Image) (a : CallArgs) (t : Lent) → (answers s I a t).status ≢ 0 → (answers s I a t).ops ≡ []
unfolding open_outcome write_outcome discard_outcome checkpoint_outcome outcome_of
refused_none s I (open_args l d) t h = none_written (open_status l d I t) _ h
refused_none s I (write_args w) t h = none_written (write_status s I w t) _ h
refused_none s I (discard_args i) t h = none_written (discard_status s I i t) _ h
refused_none s I checkpoint_args t h = none_written (checkpoint_status s I t) _ h

none_played : (I : Image) (t : Trace) (p : ℕ) → played_ops I [] t p ≡ []
unfolding played_ops replayed_ops encode decode
none_played I t p = rw (reported_is [] t) (ap decode (take-nil (3 * (replay_outcome I [] p).played)))

none_replayed : (I : Image) (t : Trace) (p : ℕ) → replayed_image I [] t p ≡ I
unfolding replayed_image replay_outcome replayed_ops encode decode replay
none_replayed I t p = rw (reported_is [] t) (go (served (replay_status I [] p)) (replay_count [] p))
  where
    go : (b : Bool) (n : ℕ) → cond b (replay (decode (take (3 * n) [])) I) I ≡ I
    go true n = rw (take-nil (3 * n)) refl
    go false n = refl

module _ (d : Device) (c : Call) where
  -- so replay plays what a call writes, whatever the image
  pub replay_carries : (p : ℕ) → called_ops d c p ≡ take p (outcome d c).ops
  replay_carries p = go (ℕ_discrete (length d.image % line_size) 0)
    where
      go : Dec (length d.image % line_size ≡ 0) → called_ops d c p ≡ take p (outcome d c).ops
      go (yes whole) = played_ops_lem _ _ _ p whole (call_ok d c)
      go (no not) =
          let e : (outcome d c).ops ≡ [] = refused_none _ _ c.args _ (λ h. not (served_whole _ _ c.args _ h)) in
          rw e (none_played d.image c.lends.trace p ∙ sym (take-nil p))

  pub replay_leaves : replayed_image d.image (outcome d c).ops c.lends.trace (length (outcome d c).ops) ≡ replay (outcome d c).ops d.image
  unfolding replay
  replay_leaves = go (ℕ_discrete (length d.image % line_size) 0)
    where
      go : Dec (length d.image % line_size ≡ 0)
          → replayed_image d.image (outcome d c).ops c.lends.trace (length (outcome d c).ops) ≡ replay (outcome d c).ops d.image
      go (yes whole) =
          replayed_image_lem _ _ _ _ whole (call_ok d c) ∙ ap (λ (X : Ops). replay X d.image) (take-length (outcome d c).ops)
      go (no not) =
          let e : (outcome d c).ops ≡ [] = refused_none _ _ c.args _ (λ h. not (served_whole _ _ c.args _ h)) in
          rw e (none_replayed d.image c.lends.trace 0)

-- ---- the step of the code is the module's step

module _ (d : Device) (c : Call) (r : Report) (t : Trace) (k : Called d.image d.session c r t) where
  pub called_carried : (p : ℕ) → p ≤ r.ops → carried t p ≡ called_ops d c p
  called_carried p h = carried_first (outcome d c) c.lends.trace r t k.1 p h ∙ sym (replay_carries d c p)

  -- replay of the reported part leaves what carrying it out leaves
  device_replayed : (I' : Image) → I' ≡ (replay_outcome d.image (take (op_numbers * r.ops) t) r.ops).image
      → Stepped Called d.image d.session c r t I'
  unfolding replayed_image
  device_replayed I' e = (
    k,
    e ∙ ap₂ (λ (x : Trace) (n : ℕ). (replay_outcome d.image x n).image) (part_reported (outcome d c) c.lends.trace r t k.1) k.1.2
        ∙ replay_leaves d c ∙ ap (λ (X : Ops). replay X d.image) (sym (carried_all (outcome d c) c.lends.trace r t k.1)),
  )

-- so, of what a call of the library tells: what it reports fits on the trace that it leaves; and replayed whole, it is a step
pub told_fits : (o : Outcome) (T : Trace) (s : Session) (a : Result Answer Refusal) (R : Clients) (t : Trace)
    → Gives o T (told s a) t R → IfOk a (λ x. op_numbers * x.ops ≤ length t)
told_fits o T s (Ok x) R t g = part_inside o T (report_of (told s (Ok x)) R) t g
told_fits o T s (Err r) R t g = search rules

pub told_step : (I : Image) (s s' : Session) (c : Call) (a : Result Answer Refusal) (R : Clients) (t : Trace) (I' : Image)
    → Called I s c (report_of (told s' a) R) t
    → MatchResult a (λ x. I' ≡ (replay_outcome I (take (op_numbers * x.ops) t) x.ops).image) (λ _. I' ≡ I)
    → Stepped Called I s c (report_of (told s' a) R) t I'
unfolding replay decode
told_step I s s' c (Ok x) R t I' k e =
    device_replayed (record { layout = s.layout; durable = I; played = []; adr_played = []; image = I; session = s }) c (report_of (told s' (Ok x)) R) t k I' e
told_step I s s' c (Err r) R t I' k e = (k, e)

pub stepped_device : (d : Device) (c : Call) (r : Report) (t : Trace) (I' : Image) → Stepped Called d.image d.session c r t I'
    → ((device_step d c).image ≡ I') × ((device_step d c).session ≡ r.session) × ((device_step d c).played ≡ d.played ++ carried t r.ops)
unfolding device_step
stepped_device d c r t I' k =
    let g = k.0.1 in (
      sym (k.1 ∙ ap (λ (X : Ops). replay X d.image) (carried_all (outcome d c) c.lends.trace r t g) ∙ sym (replay_leaves d c)),
      sym g.1,
      ap (λ (X : Ops). d.played ++ X) (ap (λ (n : ℕ). called_ops d c n) (sym g.2) ∙ sym (called_carried d c r t k.0 r.ops (omega arith))),
    )
