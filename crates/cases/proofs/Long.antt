-- The long writes, call by call: image, session, what the client has taken, and pages before each of them and after it. What a checkpoint answers and
-- leaves is computed. Of a write its words are not: its status and its number of operations follow from the law that counts them
-- (`count_write`), what it leaves from the laws of copies and of spans, and only the numbers and the lists that these speak of are computed.
-- The crashes follow from demand 3, and in the window from two computed images.
use Prim.Native.Nat.{ℕ, ◌+◌, ◌*◌, ◌%◌, ◌<◌, ◌≤◌}
use mathlib.Core.Path.{◌≡◌, refl, sym, ap, ap₂, subst, subst₂, ◌∙◌}
use mathlib.Core.Bool.{true}
use mathlib.Core.List.{List, [], ◌∷◌, ◌++◌}
use native.Mathlib.Omega.{arith}
use lib.Dec.{lit≤}
use lib.ListN.{length, take, drop, replicate}
use lib.Seq.{sets, sets-eq}
use Rattle.model.specs.declared.Layout.{Layout}
use Rattle.model.specs.declared.Session.{Session}
use Rattle.model.specs.declared.Plan.TheVariants.{NoCopy, OwnBackup, NewBackup}
use Rattle.model.specs.Range.{cat, sum_to}
use Rattle.model.specs.Words.{Image, Bytes, byte_at, word_of, bytes_of, overlay}
use Rattle.model.specs.Layout.{line_size, unpaired}
use Rattle.model.specs.Container.{segment_bytes}
use Rattle.model.specs.Session.{adr, bit, dirty_word, fresh_session, with_checkpoint}
use Rattle.model.specs.Clients.{Clients, cleared}
use Rattle.model.specs.Ops.{Ops, encode, replay, stores, copy_segment, for_domain}
use Rattle.model.specs.Outcome.{Lent, lent, Outcome}
use Rattle.model.specs.Format.{container, formatted}
use Rattle.model.specs.Open.{open_status, open_outcome}
use Rattle.model.specs.Write.{WriteArgs, copy_plan, span_ops, state_ops, pair_ops, copy_dirty, backup_ops, write_ops, write_session, write_clients, write_status, write_outcome}
use Rattle.model.specs.Counts.{dirty_count}
use Rattle.model.specs.Checkpoint.{checkpoint_ops, checkpoint_status, checkpoint_outcome}
use Rattle.model.specs.Reference.{Page, page_at, model_step}
use Rattle.model.specs.History.{State, device_step, step, run, opened_image}
use Rattle.model.specs.CrashSafety.{Reads, Recovers, during, adr_module}
use Rattle.model.specs.Shares.{alone}
use Rattle.cases.specs.Turns.{Point, point_of, Turn, call_at, answer_at, turn, turns, made, Supposed}
use Rattle.cases.specs.Table.{answer, sizes, long_trace, turn_write, checkpoint, follow, AsExpected, calls}
use Rattle.cases.specs.Cut.{OnlyShows, CutCheckpoint}
use Rattle.cases.specs.Long.{l114, longest_trace, filling, fill, marks, operation, marks_and_ends, story, opened, after_l2, after_l3, after_l4, after_l5, no_bytes, first_bytes, second_bytes, LongStory}
use Rattle.model.proofs.Laws.Domain.{domain_stores, domain_replay}
use Rattle.model.proofs.Laws.Counts.Write.{count_write}
use Rattle.model.proofs.Argument.SpanWords.{SpanOk}
use Rattle.model.proofs.Argument.Write.{span_ok}
use Rattle.model.proofs.Sisters.{reads_follow_model}
use Rattle.cases.proofs.Compute.{model_rules, same, same_equal, small, small_bytes, fit_args, fit_turns, all_supposed}
use Rattle.cases.proofs.Starts.{standing, started, Holds, turns_hold}
use Rattle.cases.proofs.Blocks.{laid, copied, spanned, recovered_none, recovered_zero, recovered_all}
use Rattle.cases.proofs.Goes.{At, answers_at, goes, uncopied, backed, copying, count_of, status_of, write_status_lem, write-served, write_refused, checkpoint-served}
use Rattle.cases.proofs.Shown.{shows, stores_epoch, no_checkpoint, shows_during, shows_between, cut_checkpoint}

-- ---- where the story stands

-- its image, its session, what the client has taken, and both pages
record Has (p : Point) (I : Image) (x : Session) (taken : ℕ) (W P : Page) : Type 0 where
  here : At p I x (alone l114 taken)
  sized : p.state.device.layout ≡ l114
  working : p.state.model.working ≡ W
  checkpoint : p.state.model.checkpoint ≡ P

-- a call answers this with n operations, and leaves this
abbrev Goes : Point → Turn → Outcome → ℕ → Image → Session → ℕ → Page → Page → Type 0
Goes p c o n J y taken W P = (answer_at p c ≡ o) × (length o.ops ≡ n) × Has (turn p c) J y taken W P

-- what a served write answers, a refused one, and a checkpoint
abbrev wrote : Session → ℕ → Session → Image → WriteArgs → Outcome
wrote y taken x I w = record { status = 0; session = y; clients = alone l114 taken; ops = for_domain x.domain (write_ops x I w) }

abbrev refused : Session → ℕ → Outcome
refused x taken = record { status = 8; session = x; clients = alone l114 taken; ops = [] }

abbrev saved : Session → Session → Image → Outcome
saved y x I = record { status = 0; session = y; clients = alone l114 0; ops = for_domain x.domain (checkpoint_ops x I) }

-- where a write stands in a page
abbrev place_of : WriteArgs → ℕ
place_of w = page_at l114 w.main w.block + w.offset

-- what a write is lent where the client has taken so many
abbrev having : ℕ → Lent
having taken = lent (alone l114 taken) longest_trace

-- a served write, before which m were taken and after which m' are
writes_on : (I : Image) (x : Session) (m : ℕ) (W P : Page) (w : WriteArgs) (n : ℕ) (J : Image) (y : Session) (m' : ℕ) (X : Page)
    → length I % line_size ≡ 0 → small I ≡ true → small w.bytes ≡ true
    → count_of x I w ≡ n → status_of x I w (having m) n ≡ 0 → write_session x I w ≡ y → write_clients x I w (alone l114 m) ≡ alone l114 m'
    → (Bytes I → SpanOk x.layout w → replay (write_ops x I w) I ≡ J)
    → place_of w + length w.bytes ≤ length W → same (laid W (place_of w) w.bytes) X ≡ true
    → (p : Point) → Has p I x m W P → Goes p (turn_write w longest_trace) (wrote y m' x I w) n J y m' X P
unfolding turn step device_step model_step
writes_on I x m W P w n J y m' X whole bytes given count status answered charge leaves room page p h =
    let served : write_status x I w (having m) ≡ 0 = write_status_lem x I w (having m) n 0 count status in
    let o : write_outcome x I w (having m) ≡ wrote y m' x I w =
    write-served x I w (having m) served
    ∙ ap₂ (λ (z : Session) (R : Clients). record { status = 0; session = z; clients = R; ops = for_domain x.domain (write_ops x I w) }) answered charge in
    let g = goes (turn_write w longest_trace) whole (ap (λ (a : Outcome). a.session) o) (ap (λ (a : Outcome). a.clients) o)
    (ap (λ (a : Outcome). replay a.ops I) o ∙ domain_replay x.domain (write_ops x I w) I
    ∙ leaves (small_bytes I bytes) (span_ok x I w (having m) (small_bytes w.bytes given) served)) p h.here in
    let e : answer_at p (turn_write w longest_trace) ≡ wrote y m' x I w = answers_at (turn_write w longest_trace) p h.here ∙ o in (
      e,
      count_write x.domain x I w ∙ count,
      record {
        here = g;
        sized = h.sized;
        working = rw (e, h.sized)
            (ap (λ (Q : Page). sets Q (place_of w) w.bytes) h.working ∙ sets-eq w.bytes W (place_of w) room ∙ same_equal _ _ page);
        checkpoint = rw e h.checkpoint;
      },
    )

-- one that is refused with 8
refuses : (I : Image) (x : Session) (m : ℕ) (W P : Page) (w : WriteArgs) (n : ℕ) → length I % line_size ≡ 0
    → count_of x I w ≡ n → status_of x I w (having m) n ≡ 8
    → (p : Point) → Has p I x m W P → Goes p (turn_write w longest_trace) (refused x m) 0 I x m W P
unfolding turn step device_step model_step replay
refuses I x m W P w n whole count status p h =
    let o : write_outcome x I w (having m) ≡ refused x m = write_refused x I w (having m) 8 refl (write_status_lem x I w (having m) n 8 count status) in
    let g = goes (turn_write w longest_trace) whole (ap (λ (a : Outcome). a.session) o) (ap (λ (a : Outcome). a.clients) o)
    (ap (λ (a : Outcome). replay a.ops I) o) p h.here in
    let e : answer_at p (turn_write w longest_trace) ≡ refused x m = answers_at (turn_write w longest_trace) p h.here ∙ o in
    (e, refl, record { here = g; sized = h.sized; working = rw e h.working; checkpoint = rw e h.checkpoint })

-- a checkpoint
saves : (I : Image) (x : Session) (m : ℕ) (W P : Page) (n : ℕ) (J : Image) (y : Session) → length I % line_size ≡ 0
    → checkpoint_status x I (lent (alone l114 m) long_trace) ≡ 0
    → length (for_domain x.domain (checkpoint_ops x I)) ≡ n → with_checkpoint x ≡ y → same (replay (checkpoint_ops x I) I) J ≡ true
    → (p : Point) → Has p I x m W P → Goes p checkpoint (saved y x I) n J y 0 W W
unfolding turn step device_step model_step cleared
saves I x m W P n J y whole served count answered leaves p h =
    let o : checkpoint_outcome x I (lent (alone l114 m) long_trace) ≡ saved y x I =
    checkpoint-served x I (lent (alone l114 m) long_trace) served ∙ ap (λ (z : Session). saved z x I) answered in
    let g = goes checkpoint whole (ap (λ (a : Outcome). a.session) o) (ap (λ (a : Outcome). a.clients) o)
    (ap (λ (a : Outcome). replay a.ops I) o ∙ domain_replay x.domain (checkpoint_ops x I) I ∙ same_equal _ _ leaves) p h.here in
    let e : answer_at p checkpoint ≡ saved y x I = answers_at checkpoint p h.here ∙ o in
    (e, count, record { here = g; sized = h.sized; working = rw e h.working; checkpoint = rw e h.working })

-- ---- images and sessions

-- the pages after L6, and after the write of L7 that is served
abbrev third_bytes : Page
third_bytes = replicate 30 0 ++ replicate 700 7 ++ replicate 256 6 ++ replicate 38 0

abbrev last_bytes : Page
last_bytes = replicate 30 0 ++ replicate 994 8

-- an image of the story: epoch, the two states, the pair, the main segment and the backup segment; and a session
abbrev image : ℕ → ℕ → ℕ → ℕ → Page → Page → Image
image epoch even odd pair main backup =
    container l114 epoch (even ∷ replicate 63 0) (odd ∷ replicate 63 0) (pair ∷ replicate 63 unpaired) (main ++ backup)

abbrev session : ℕ → ℕ → Session
session segments blocks = record { layout = l114; dirty_segments = segments; dirty_blocks = blocks ∷ replicate 63 0; domain = adr }

-- what stands after L1, L2, ..
abbrev I1 : Image
I1 = image 0 0 0 255 no_bytes no_bytes

abbrev I2 : Image
I2 = image 0 0 0 255 first_bytes no_bytes

abbrev I3 : Image
I3 = image 1 0 1 255 first_bytes no_bytes

abbrev I4 : Image
I4 = image 1 0 2 0 second_bytes first_bytes

abbrev I5 : Image
I5 = image 2 1 2 0 second_bytes first_bytes

abbrev I6 : Image
I6 = image 2 2 2 0 third_bytes second_bytes

abbrev I7 : Image
I7 = image 2 2 2 0 last_bytes second_bytes

-- ---- L1

abbrev F : Image
F = formatted l114

opens : open_status l114 adr F (having 0) ≡ 0
unfolding model_rules
opens = refl

bytes : Bytes F
unfolding model_rules small
bytes = small_bytes F refl

-- the zeros that the opening writes stand there already
reopened : opened_image l114 adr F (having 0) ≡ I1
unfolding model_rules same
reopened =
    recovered_all l114 adr F (having 0) 128 I1 refl refl
    (recovered_zero l114 F 128 0 F I1 refl tt refl (recovered_none l114 F 128))

starts : opened ≡ point_of (standing l114 adr I1 no_bytes) (alone l114 0)
unfolding model_rules same
starts = started l114 adr F I1 (having 0) no_bytes opens reopened (same_equal _ _ refl)

has_1 : Has opened I1 (session 0 0) 0 no_bytes no_bytes
unfolding fresh_session
has_1 = subst (λ (p : Point). Has p I1 (session 0 0) 0 no_bytes no_bytes) (sym starts) (record {
  here = record { image = refl; session = refl; clients = refl };
  sized = refl;
  working = refl;
  checkpoint = refl;
})

answered_1 : answer (open_outcome l114 adr F (having 0)) ≡ 0 ∷ 145 ∷ []
unfolding model_rules
answered_1 = refl

-- ---- L2 to L7

-- L2: nothing is copied
abbrev first : WriteArgs
first = filling 0 30 700 5

plan_2 : copy_plan (session 0 0) I1 0 ≡ NoCopy
unfolding model_rules
plan_2 = refl

leaves_2 : Bytes I1 → SpanOk l114 first → replay (write_ops (session 0 0) I1 first) I1 ≡ I2
unfolding container bytes_of same
leaves_2 bytes ok =
    ap (λ (O : Ops). replay O I1) (uncopied (session 0 0) I1 first plan_2)
    ∙ spanned l114 I1 I1 first ok bytes (lit≤ tt) refl ∙ same_equal (laid I1 542 first.bytes) I2 refl

goes_2 : Goes opened (fill 0 30 700 5) (wrote (session 1 7) 0 (session 0 0) I1 first) 89 I2 (session 1 7) 0 first_bytes no_bytes
unfolding model_rules same small
goes_2 =
    writes_on I1 (session 0 0) 0 no_bytes no_bytes first 89 I2 (session 1 7) 0 first_bytes refl refl refl refl refl refl refl leaves_2
    (lit≤ tt) refl opened has_1

goes_3 : Goes after_l2 checkpoint (saved (session 0 7) (session 1 7) I2) 26 I3 (session 0 7) 0 first_bytes first_bytes
unfolding model_rules same
goes_3 = saves I2 (session 1 7) 0 first_bytes no_bytes 26 I3 (session 0 7) refl refl refl refl refl after_l2 goes_2.2

-- L4: all blocks are copied, to a new backup segment
abbrev second : WriteArgs
second = filling 1 30 700 6

plan_4 : copy_plan (session 0 7) I3 0 ≡ NewBackup 0
unfolding model_rules
plan_4 = refl

-- the image once the copy is made and the state is 2
abbrev K4 : Image
K4 = image 1 0 2 0 first_bytes first_bytes

backed_4 : replay (state_ops I3 0) (laid (replay (pair_ops I3 0 0) I3) 1536 (segment_bytes l114 I3 512)) ≡ K4
unfolding model_rules same
backed_4 = same_equal _ K4 refl

leaves_4 : Bytes I3 → SpanOk l114 second → replay (write_ops (session 0 7) I3 second) I3 ≡ I4
unfolding container bytes_of same
leaves_4 bytes ok =
    copying (session 0 7) I3 second 0 plan_4 bytes (lit≤ tt) (lit≤ tt) ∙ ap (replay (span_ops l114 I3 second)) backed_4
    ∙ spanned l114 I3 K4 second ok bytes (lit≤ tt) (same_equal (segment_bytes l114 K4 512) (segment_bytes l114 I3 512) refl)
    ∙ same_equal (laid K4 798 second.bytes) I4 refl

goes_4 : Goes after_l3 (fill 1 30 700 6) (wrote (session 1 14) 1 (session 0 7) I3 second) 239 I4 (session 1 14) 1 second_bytes first_bytes
unfolding model_rules same small
goes_4 =
    writes_on I3 (session 0 7) 0 first_bytes first_bytes second 239 I4 (session 1 14) 1 second_bytes refl refl refl refl refl refl refl leaves_4
    (lit≤ tt) refl after_l3 goes_3.2

goes_5 : Goes after_l4 checkpoint (saved (session 0 14) (session 1 14) I4) 26 I5 (session 0 14) 0 second_bytes second_bytes
unfolding model_rules same
goes_5 = saves I4 (session 1 14) 1 second_bytes first_bytes 26 I5 (session 0 14) refl refl refl refl refl after_l4 goes_4.2

-- L6: the three blocks that are dirty are copied, to the backup segment that it has
abbrev third : WriteArgs
third = filling 0 30 700 7

plan_6 : copy_plan (session 0 14) I5 0 ≡ OwnBackup 0
unfolding model_rules
plan_6 = refl

three_blocks : (I : Image) → backup_ops l114 I 14 0 (OwnBackup 0) ≡ copy_segment (sizes 1 1 3) I 768 1792
unfolding backup_ops copy_dirty copy_segment cat bit
three_blocks I = refl

abbrev K6 : Image
K6 = image 2 2 2 0 second_bytes second_bytes

backed_6 : replay (state_ops I5 0) (laid I5 1792 (segment_bytes (sizes 1 1 3) I5 768)) ≡ K6
unfolding model_rules same
backed_6 = same_equal _ K6 refl

leaves_6 : Bytes I5 → SpanOk l114 third → replay (write_ops (session 0 14) I5 third) I5 ≡ I6
unfolding container bytes_of same
leaves_6 bytes ok =
    backed (session 0 14) I5 (laid I5 1792 (segment_bytes (sizes 1 1 3) I5 768)) third (OwnBackup 0) plan_6 refl
    (ap (λ (O : Ops). replay O I5) (three_blocks I5) ∙ copied (sizes 1 1 3) I5 I5 768 1792 bytes (lit≤ tt) (lit≤ tt))
    ∙ ap (replay (span_ops l114 I5 third)) backed_6
    ∙ spanned l114 I5 K6 third ok bytes (lit≤ tt) (same_equal (segment_bytes l114 K6 512) (segment_bytes l114 I5 512) refl)
    ∙ same_equal (laid K6 542 third.bytes) I6 refl

abbrev after_l6 : Point
after_l6 = turn after_l5 (fill 0 30 700 7)

goes_6 : Goes after_l5 (fill 0 30 700 7) (wrote (session 1 7) 1 (session 0 14) I5 third) 201 I6 (session 1 7) 1 third_bytes second_bytes
unfolding model_rules dirty_count sum_to same small
goes_6 =
    writes_on I5 (session 0 14) 0 second_bytes second_bytes third 201 I6 (session 1 7) 1 third_bytes refl refl refl refl refl refl refl leaves_6
    (lit≤ tt) refl after_l5 goes_5.2

-- L7
goes_71 : Goes after_l6 (fill 2 30 700 8) (refused (session 1 7) 1) 0 I6 (session 1 7) 1 third_bytes second_bytes
unfolding model_rules small
goes_71 = refuses I6 (session 1 7) 1 third_bytes second_bytes (filling 2 30 700 8) 89 refl refl refl after_l6 goes_6.2

abbrev after71 : Point
after71 = turn after_l6 (fill 2 30 700 8)

goes_72 : Goes after71 (fill 0 256 1 8) (refused (session 1 7) 1) 0 I6 (session 1 7) 1 third_bytes second_bytes
unfolding model_rules small
goes_72 = refuses I6 (session 1 7) 1 third_bytes second_bytes (filling 0 256 1 8) 1 refl refl refl after71 goes_71.2

abbrev after72 : Point
after72 = turn after71 (fill 0 256 1 8)

abbrev last : WriteArgs
last = filling 0 30 994 8

plan_73 : copy_plan (session 1 7) I6 0 ≡ NoCopy
unfolding model_rules
plan_73 = refl

leaves_73 : Bytes I6 → SpanOk l114 last → replay (write_ops (session 1 7) I6 last) I6 ≡ I7
unfolding container bytes_of same
leaves_73 bytes ok =
    ap (λ (O : Ops). replay O I6) (uncopied (session 1 7) I6 last plan_73)
    ∙ spanned l114 I6 I6 last ok bytes (lit≤ tt) refl ∙ same_equal (laid I6 542 last.bytes) I7 refl

goes_73 : Goes after72 (fill 0 30 994 8) (wrote (session 1 15) 1 (session 1 7) I6 last) 125 I7 (session 1 15) 1 last_bytes second_bytes
unfolding model_rules same small
goes_73 =
    writes_on I6 (session 1 7) 1 third_bytes second_bytes last 125 I7 (session 1 15) 1 last_bytes refl refl refl refl refl refl refl leaves_73
    (lit≤ tt) refl after72 goes_72.2

abbrev after73 : Point
after73 = turn after72 (fill 0 30 994 8)

goes_74 : Goes after73 (fill 0 30 995 8) (refused (session 1 15) 1) 0 I7 (session 1 15) 1 last_bytes second_bytes
unfolding model_rules small
goes_74 = refuses I7 (session 1 15) 1 last_bytes second_bytes (filling 0 30 995 8) 126 refl refl refl after73 goes_73.2

-- ---- the rows

-- status, number of operations, dirty blocks
row_is : (p : Point) (c : Turn) (o : Outcome) (n : ℕ) → answer_at p c ≡ o → length o.ops ≡ n
    → answer (answer_at p c) ++ marks (answer_at p c) (turn p c).state ≡ o.status ∷ n ∷ dirty_word o.session 0 ∷ []
row_is p c o n e count =
    ap (λ (a : Outcome). answer a ++ marks a (turn p c).state) e ∙ ap (λ (k : ℕ). o.status ∷ k ∷ dirty_word o.session 0 ∷ []) count

-- the first and the last of 89 stores, whatever their words
ends : (f : ℕ → ℕ) → take 2 (encode (stores 89 536 f)) ++ take 2 (drop 264 (encode (stores 89 536 f))) ≡ 1 ∷ 536 ∷ 1 ∷ 1240 ∷ []
unfolding encode stores cat
ends f = refl

-- L2's has these too
row_2 : answer (answer_at opened (fill 0 30 700 5)) ++ marks_and_ends (answer_at opened (fill 0 30 700 5)) after_l2.state
    ≡ 0 ∷ 89 ∷ 7 ∷ 1 ∷ 536 ∷ 1 ∷ 1240 ∷ []
unfolding span_ops
row_2 =
    ap (λ (a : Outcome). answer a ++ marks_and_ends a after_l2.state) goes_2.0
    ∙ ap (λ (k : ℕ). 0 ∷ k ∷ 7 ∷ operation 0 (wrote (session 1 7) 0 (session 0 0) I1 first) ++ operation 88 (wrote (session 1 7) 0 (session 0 0) I1 first))
    goes_2.1
    ∙ ap (λ (O : Ops). 0 ∷ 89 ∷ 7 ∷ take 2 (encode O) ++ take 2 (drop 264 (encode O)))
    (ap (for_domain adr) (uncopied (session 0 0) I1 first plan_2) ∙ domain_stores adr 89 536 _)
    ∙ ap (λ (ns : List ℕ). 0 ∷ 89 ∷ 7 ∷ ns) (ends (λ k. word_of (overlay (byte_at I1) 542 first.bytes) (536 + 8 * k)))

answered : AsExpected opened story
unfolding story follow
answered =
    ap₂ ◌∷◌ row_2
    (ap₂ ◌∷◌ (row_is after_l2 checkpoint _ 26 goes_3.0 goes_3.1)
    (ap₂ ◌∷◌ (row_is after_l3 (fill 1 30 700 6) _ 239 goes_4.0 goes_4.1)
    (ap₂ ◌∷◌ (row_is after_l4 checkpoint _ 26 goes_5.0 goes_5.1)
    (ap₂ ◌∷◌ (row_is after_l5 (fill 0 30 700 7) _ 201 goes_6.0 goes_6.1)
    (ap₂ ◌∷◌ (row_is after_l6 (fill 2 30 700 8) _ 0 goes_71.0 goes_71.1)
    (ap₂ ◌∷◌ (row_is after71 (fill 0 256 1 8) _ 0 goes_72.0 goes_72.1)
    (ap₂ ◌∷◌ (row_is after72 (fill 0 30 994 8) _ 125 goes_73.0 goes_73.1)
    (ap₂ ◌∷◌ (row_is after73 (fill 0 30 995 8) _ 0 goes_74.0 goes_74.1) refl))))))))

permitted : Supposed adr opened (calls story)
unfolding story small fit_args fit_turns
permitted = all_supposed adr opened (calls story) refl

-- ---- the crashes

-- L2 and L4 are given bytes
given_2 : Bytes first.bytes
unfolding small
given_2 = small_bytes first.bytes refl

given_4 : Bytes second.bytes
unfolding small
given_4 = small_bytes second.bytes refl

-- the calls of the story up to some of them
holds : (cs : List Turn) → Supposed adr opened cs → Holds (turns opened cs).state
holds = turns_hold l114 F (having 0) bytes opens

holds_2 : Holds after_l2.state
unfolding turns made
holds_2 = holds (fill 0 30 700 5 ∷ []) ((given_2, tt), ((λ x. tt), tt))

holds_3 : Holds after_l3.state
unfolding turns made
holds_3 = holds (fill 0 30 700 5 ∷ checkpoint ∷ []) ((given_2, (tt, tt)), ((λ x. tt), ((λ x. tt), tt)))

holds_4 : Holds after_l4.state
unfolding turns made
holds_4 =
    holds (fill 0 30 700 5 ∷ checkpoint ∷ fill 1 30 700 6 ∷ [])
    ((given_2, (tt, (given_4, tt))), ((λ x. tt), ((λ x. tt), ((λ x. tt), tt))))

-- what the checkpoint of L3 leaves before the epoch's store, and after it
abbrev cut_image : ℕ → Image
cut_image epoch = image epoch 0 1 255 first_bytes no_bytes

shows_old : Recovers l114 adr (cut_image 0) (having 0) no_bytes
unfolding model_rules same small
shows_old = shows l114 (cut_image 0) (having 0) no_bytes refl refl refl

shows_new : Recovers l114 adr (cut_image 1) (having 0) first_bytes
unfolding model_rules same small
shows_new = shows l114 (cut_image 1) (having 0) first_bytes refl refl refl

cut : CutCheckpoint 26 after_l2 no_bytes first_bytes
unfolding model_rules same stores_epoch
cut =
    let h = goes_2.2 in
    cut_checkpoint after_l2 holds_2 I2 (session 1 7) (alone l114 0) 26 h.here refl (lit≤ tt)
    no_bytes first_bytes (cut_image 0) (cut_image 1) refl refl refl refl refl (having 0)
    (subst (λ (l : Layout). Recovers l adr (cut_image 0) (having 0) no_bytes) (sym h.sized) shows_old)
    (subst (λ (l : Layout). Recovers l adr (cut_image 1) (having 0) first_bytes) (sym h.sized) shows_new) h.checkpoint h.working

copies_safely : (p : ℕ) → p < 239 → OnlyShows adr_module after_l3.state (during (call_at after_l3 (fill 1 30 700 6)) p) first_bytes
copies_safely p more =
    shows_during after_l3.state holds_3 (call_at after_l3 (fill 1 30 700 6)) given_4 (λ x. tt) p first_bytes
    (omega (arith, more, ap (λ (o : Outcome). length o.ops) goes_4.0 ∙ goes_4.1)) (λ w. no_checkpoint w.0) goes_3.2.checkpoint

-- ---- the reads after L5

reads : Reads l114 after_l5.state.device.image second_bytes second_bytes
unfolding turn turns made run
reads =
    let h = goes_5.2 in
    let s : State = after_l5.state in
    let r : Reads s.device.layout s.device.image s.model.working s.model.checkpoint =
    reads_follow_model l114 adr F (having 0) bytes opens (made opened (fill 0 30 700 5 ∷ checkpoint ∷ fill 1 30 700 6 ∷ checkpoint ∷ []))
    (given_2, (tt, (given_4, (tt, tt)))) in
    subst (λ (l : Layout). Reads l s.device.image second_bytes second_bytes) h.sized
    (subst₂ (λ (W P : Page). Reads s.device.layout s.device.image W P) h.working h.checkpoint r)

-- THE STORY
pub long_story : LongStory
long_story = record {
  bytes = bytes;
  opens = answered_1;
  permitted = permitted;
  answered = answered;
  cut = cut;
  copying = copies_safely;
  copied = shows_between after_l4.state holds_4 first_bytes goes_4.2.checkpoint;
  reads = reads;
}
