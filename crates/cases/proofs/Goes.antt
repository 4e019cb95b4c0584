-- What one call of a history leaves: its image, its session and its records; what the operations of a write leave; and what a write answers,
-- by their number, and a checkpoint.
use Prim.Native.Nat.{ℕ, ◌+◌, ◌*◌, ◌%◌, ◌≤◌}
use mathlib.Core.Path.{◌≡◌, refl, ap, ap₂, ◌∙◌}
use mathlib.Core.Bool.{true, false}
use mathlib.Core.List.{[], ◌∷◌, ◌++◌}
use native.Mathlib.Omega.{arith}
use lib.Dec.{ltb}
use lib.ListN.{length}
use lib.Seq.{take-length}
use Rattle.model.specs.declared.Session.{Session}
use Rattle.model.specs.declared.Plan.{Plan}
use Rattle.model.specs.declared.Plan.TheVariants.{NoCopy, NewBackup}
use Rattle.model.specs.Words.{Image, Bytes}
use Rattle.model.specs.Layout.{line_size, segment_size, main_at, backup_at}
use Rattle.model.specs.Container.{active_state, backup_to_main, free_backups, segment_bytes}
use Rattle.model.specs.Session.{dirty_word, with_checkpoint}
use Rattle.model.specs.Status.{first_error, served}
use Rattle.model.specs.Clients.{Clients, cleared, share_errors}
use Rattle.model.specs.Ops.{op_numbers, Ops, sfence, trace_short, apply, replay, copy_segment, for_domain}
use Rattle.model.specs.Outcome.{Lent, lent, Outcome, outcome_of}
use Rattle.model.specs.Write.{WriteArgs, copy_plan, copies, pair_ops, backup_ops, state_ops, copy_on_write_ops, span_ops, write_ops, write_session, write_clients, early_errors, backup_errors, write_status, write_outcome}
use Rattle.model.specs.Checkpoint.{checkpoint_ops, checkpoint_status, checkpoint_outcome}
use Rattle.model.specs.History.{answers, device_step, step}
use Rattle.cases.specs.Turns.{Point, Turn, call_at, answer_at, turn}
use Rattle.model.proofs.Laws.Ops.{replayed_image_lem}
use Rattle.model.proofs.Laws.Counts.Write.{copy_count, span_count, count_write}
use Rattle.model.proofs.Laws.Replay.{call_ok}
use Rattle.model.proofs.Argument.Persist.{length-replay, replay_append}
use Rattle.cases.proofs.Blocks.{laid, copied}

-- at the point stand this image, this session and these records
pub record At (p : Point) (I : Image) (x : Session) (R : Clients) : Type 0 where
  pub image : p.state.device.image ≡ I
  pub session : p.state.device.session ≡ x
  pub clients : p.clients ≡ R

-- what a call answers on them
abbrev pub answer_on : Session → Image → Clients → Turn → Outcome
answer_on x I R c = answers x I c.args (lent R c.trace)

pub answers_at : {I : Image} {x : Session} {R : Clients} (c : Turn) (p : Point) → At p I x R → answer_at p c ≡ answer_on x I R c
answers_at c p h = λ i. answer_on (h.session i) (h.image i) (h.clients i) c

-- the image after one call is what its operations leave
pub turn_image : (c : Turn) (p : Point) → length p.state.device.image % line_size ≡ 0
    → (turn p c).state.device.image ≡ replay (answer_at p c).ops p.state.device.image
unfolding turn step device_step
turn_image c p whole =
    replayed_image_lem p.state.device.image (answer_at p c).ops c.trace (length (answer_at p c).ops) whole (call_ok p.state.device (call_at p c))
    ∙ ap (λ (O : Ops). replay O p.state.device.image) (take-length (answer_at p c).ops)

-- what it leaves
pub goes : {I J : Image} {x y : Session} {R Q : Clients} (c : Turn) → length I % line_size ≡ 0
    → (answer_on x I R c).session ≡ y → (answer_on x I R c).clients ≡ Q → replay (answer_on x I R c).ops I ≡ J
    → (p : Point) → At p I x R → At (turn p c) J y Q
unfolding turn step device_step
goes c whole session clients image p h =
    let o = answers_at c p h in
    record {
      image = turn_image c p (omega (arith, whole, ap length h.image)) ∙ ap₂ (λ (a : Outcome) (I : Image). replay a.ops I) o h.image ∙ image;
      session = ap (λ (a : Outcome). a.session) o ∙ session;
      clients = ap (λ (a : Outcome). a.clients) o ∙ clients;
    }

-- ---- the operations of a write

-- where nothing is copied
pub uncopied : (x : Session) (I : Image) (w : WriteArgs) → copy_plan x I w.main ≡ NoCopy → write_ops x I w ≡ span_ops x.layout I w
unfolding write_ops copy_on_write_ops
uncopied x I w plan = rw plan

-- where a main segment is copied first: replayed one part after the other
parts : (C S E : Ops) (I K : Image) → replay C I ≡ K → replay (C ++ sfence ∷ S ++ sfence ∷ [] ++ E) I ≡ replay E (replay S K)
unfolding replay apply
parts C S E I K e =
    replay_append (C ++ sfence ∷ S ++ sfence ∷ []) E I
    ∙ ap (replay E) (replay_append (C ++ sfence ∷ S) (sfence ∷ []) I ∙ replay_append C (sfence ∷ S) I ∙ ap (replay S) e)

-- what they leave, by what its backup leaves
pub backed : (x : Session) (I K : Image) (w : WriteArgs) (p : Plan) → copy_plan x I w.main ≡ p → copies p ≡ true
    → replay (backup_ops x.layout I (dirty_word x w.main) w.main p) I ≡ K
    → replay (write_ops x I w) I ≡ replay (span_ops x.layout I w) (replay (state_ops I w.main) K)
unfolding write_ops copy_on_write_ops
backed x I K w p plan copied e =
    rw (plan, copied) (parts (backup_ops x.layout I (dirty_word x w.main) w.main p) (state_ops I w.main) (span_ops x.layout I w) I K e)

-- with the new backup segment j
abbrev pub copy_image : Session → Image → WriteArgs → ℕ → Image
copy_image x I w j =
    replay (span_ops x.layout I w) (replay (state_ops I w.main)
    (laid (replay (pair_ops I w.main j) I) (backup_at x.layout j) (segment_bytes x.layout I (main_at x.layout w.main))))

pub copying : (x : Session) (I : Image) (w : WriteArgs) (j : ℕ) → copy_plan x I w.main ≡ NewBackup j
    → Bytes I → main_at x.layout w.main + segment_size x.layout ≤ length I → backup_at x.layout j + segment_size x.layout ≤ length I
    → replay (write_ops x I w) I ≡ copy_image x I w j
unfolding backup_ops
copying x I w j plan bytes has room =
    backed x I _ w (NewBackup j) plan refl
    (replay_append (pair_ops I w.main j) (copy_segment x.layout I (main_at x.layout w.main) (backup_at x.layout j)) I
    ∙ copied x.layout I (replay (pair_ops I w.main j) I) (main_at x.layout w.main) (backup_at x.layout j) bytes has
    (omega (arith, length-replay (pair_ops I w.main j) I)))

-- ---- what a write and a checkpoint answer

-- how many operations a write has
abbrev pub count_of : Session → Image → WriteArgs → ℕ
count_of x I w = copy_count x.domain x.layout (dirty_word x w.main) (copy_plan x I w.main) + span_count x.layout w

-- its status if it has n
abbrev pub status_of : Session → Image → WriteArgs → Lent → ℕ → ℕ
status_of x I w k n =
    first_error (early_errors x I k.clients w ++ backup_errors (copy_plan x I w.main)
    ++ share_errors (copies (copy_plan x I w.main)) k.clients w.client (free_backups x.layout (active_state I) (backup_to_main I))
    ++ (11, ltb (length k.trace) (op_numbers * n)) ∷ [])

pub write_status_lem : (x : Session) (I : Image) (w : WriteArgs) (k : Lent) (n e : ℕ) → count_of x I w ≡ n → status_of x I w k n ≡ e
    → write_status x I w k ≡ e
unfolding write_status trace_short
write_status_lem x I w k n e count test = rw (count_write x.domain x I w ∙ count) test

-- served, and refused
pub write-served : (x : Session) (I : Image) (w : WriteArgs) (k : Lent) → write_status x I w k ≡ 0
    → write_outcome x I w k
    ≡ record { status = 0; session = write_session x I w; clients = write_clients x I w k.clients; ops = for_domain x.domain (write_ops x I w) }
unfolding write_outcome outcome_of
write-served x I w k h = rw h

pub write_refused : (x : Session) (I : Image) (w : WriteArgs) (k : Lent) (e : ℕ) → served e ≡ false → write_status x I w k ≡ e
    → write_outcome x I w k ≡ record { status = e; session = x; clients = k.clients; ops = [] }
unfolding write_outcome outcome_of
write_refused x I w k e not h = rw (h, not)

pub checkpoint-served : (x : Session) (I : Image) (k : Lent) → checkpoint_status x I k ≡ 0
    → checkpoint_outcome x I k ≡ record { status = 0; session = with_checkpoint x; clients = cleared k.clients; ops = for_domain x.domain (checkpoint_ops x I) }
unfolding checkpoint_outcome outcome_of
checkpoint-served x I k h = rw h
