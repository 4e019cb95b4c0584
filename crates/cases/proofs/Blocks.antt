-- A run of stores to one stretch, a segment copied or filled with zeros, and the bytes of a write, as one list laid into the image,
-- which the checker computes in one pass instead of one for each byte; and a recovery by such passes, one main segment after the other.
use Prim.Native.Nat.{ℕ, suc, ◌+◌, ◌-◌, ◌≤◌, ◌<◌}
use mathlib.Core.Path.{◌≡◌, refl, sym, ap, subst, ◌∙◌}
use mathlib.Core.Logic.{◌⊎◌, inl, inr}
use mathlib.Core.Bool.{true}
use mathlib.Core.List.{List, [], ◌∷◌, ◌++◌}
use native.Mathlib.Decide.{dec_lt}
use native.Mathlib.Omega.{arith}
use lib.Dec.{T, leb, lit≤}
use lib.ListN.{length, take, drop, get_or, replicate, length-take, length-drop, length-replicate, get_or-replicate}
use lib.Seq.{sets, length-sets, sets-eq, ext_get_or, get_or-take, get_or-drop}
use Rattle.model.specs.declared.Layout.{Layout}
use Rattle.model.specs.Range.{cat}
use Rattle.model.specs.Words.{Image, Bytes, byte_at, overlay}
use Rattle.model.specs.Layout.{segment_size, main_at, backup_at}
use Rattle.model.specs.Container.{active_line, segment_bytes}
use Rattle.model.specs.Ops.{Ops, sfence, apply, replay, persist_zero, copy_segment, zero_segment}
use Rattle.model.specs.Outcome.{Lent}
use Rattle.model.specs.Open.{recover_segment, recovery_ops, open_status}
use Rattle.model.specs.Write.{WriteArgs, span_at, span_ops}
use Rattle.model.specs.History.{opened_image}
use Rattle.model.proofs.Laws.Words.{sets_at, sets_other, byte_of_zero, overlay_cong, overlay_sets}
use Rattle.model.proofs.Argument.Persist.{length-replay, replay_clear, replay_append}
use Rattle.model.proofs.Argument.Runs.{Puts, puts_clear, puts_blocks}
use Rattle.model.proofs.Argument.SpanWords.{SpanOk, span_inside, span_first, span_wide, span_bounds, span_puts, laid_outside}
use Rattle.model.proofs.Argument.Recovery.Segment.{puts_copy}
use Rattle.model.proofs.Argument.Openings.{opened_is}
use Rattle.cases.proofs.Compute.{same, same_equal}

-- the bytes vs in the place of those from a on
abbrev pub laid : Image → ℕ → List ℕ → Image
laid J a vs = take a J ++ vs ++ drop (a + length vs) J

lays : {O : Ops} {a n : ℕ} {f : ℕ → ℕ} → Puts O a n f → (J : Image) (vs : List ℕ) → length vs ≡ n → a + n ≤ length J
    → ((k : ℕ) → k < n → get_or vs k 0 ≡ f (a + k)) → replay O J ≡ laid J a vs
lays {O} {a} {n} {f} puts J vs long room are =
    ext_get_or 0 (replay O J) (sets J a vs) (length-replay O J ∙ sym (length-sets J a vs)) (λ i x. go i (dec_lt i a) (dec_lt i (a + n)))
    ∙ sets-eq vs J a (omega arith)
  where
    go : (i : ℕ) → Dec (i < a) → Dec (i < a + n) → byte_at (replay O J) i ≡ byte_at (sets J a vs) i
    go i (yes h) d = replay_clear O J i (puts_clear puts i (inl h)) ∙ sym (sets_other vs J a i (λ x y. omega arith))
    go i (no h) (no d) = replay_clear O J i (puts_clear puts i (inr (omega arith))) ∙ sym (sets_other vs J a i (λ x y. omega arith))
    go i (no h) (yes d) =
        let e : a + (i - a) ≡ i = omega arith in
        subst (λ (k : ℕ). byte_at (replay O J) k ≡ byte_at (sets J a vs) k) e
        (puts.leaves J (a + (i - a)) room (omega arith) (omega arith) ∙ sym (are (i - a) (omega arith)) ∙ sym (sets_at vs J a (i - a) (omega arith) (omega arith)))

-- a segment copied, and one filled with zeros
pub copied : (l : Layout) (I J : Image) (from to : ℕ) → Bytes I → from + segment_size l ≤ length I → to + segment_size l ≤ length J
    → replay (copy_segment l I from to) J ≡ laid J to (segment_bytes l I from)
copied l I J from to bytes has room =
    lays (puts_copy l I from to bytes) J (segment_bytes l I from)
    (length-take (segment_size l) (drop from I) ∙ omega (arith, length-drop from I)) room
    (λ k x.
    let e : to + k - to ≡ k = omega arith in
    get_or-take (segment_size l) (drop from I) k 0 x ∙ get_or-drop from I k 0 ∙ ap (λ (n : ℕ). byte_at I (from + n)) (sym e))

zeroed : (l : Layout) (J : Image) (to : ℕ) → to + segment_size l ≤ length J → replay (zero_segment l to) J ≡ laid J to (replicate (segment_size l) 0)
unfolding zero_segment persist_zero
zeroed l J to room =
    lays (puts_blocks l.blocks to (λ m k. 0) (λ i. 0) (λ m k b x y z. byte_of_zero b)) J (replicate (segment_size l) 0)
    (length-replicate (segment_size l) 0) room (λ k x. get_or-replicate (segment_size l) k 0 0 x)

-- ---- a span

-- the bytes of a write are laid into an image whose main segment is that of the image which the write was given
pub spanned : (l : Layout) (I J : Image) (w : WriteArgs) → SpanOk l w → Bytes I → main_at l w.main + segment_size l ≤ length J
    → segment_bytes l J (main_at l w.main) ≡ segment_bytes l I (main_at l w.main)
    → replay (span_ops l I w) J ≡ laid J (span_at l w) w.bytes
spanned l I J w ok bytes room alike =
    ext_get_or 0 (replay (span_ops l I w) J) (sets J (span_at l w) w.bytes)
    (length-replay (span_ops l I w) J ∙ sym (length-sets J (span_at l w) w.bytes))
    (λ i x. go i (dec_lt i (span_first l w)) (dec_lt i (span_first l w + span_wide l w)))
    ∙ sets-eq w.bytes J (span_at l w) (omega (arith, span_bounds l w ok, span_inside l w ok))
  where
    puts : Puts (span_ops l I w) (span_first l w) (span_wide l w) (overlay (byte_at I) (span_at l w) w.bytes)
    puts = span_puts l I w ok bytes

    over : (i : ℕ) → byte_at (sets J (span_at l w) w.bytes) i ≡ overlay (byte_at J) (span_at l w) w.bytes i
    over i = overlay_sets J (span_at l w) w.bytes i (omega (arith, span_bounds l w ok, span_inside l w ok))

    byte : (K : Image) (i : ℕ) → main_at l w.main ≤ i → i < main_at l w.main + segment_size l
        → byte_at K i ≡ byte_at (segment_bytes l K (main_at l w.main)) (i - main_at l w.main)
    byte K i low high =
        let e : main_at l w.main + (i - main_at l w.main) ≡ i = omega arith in
        ap (byte_at K) (sym e)
        ∙ sym (get_or-take (segment_size l) (drop (main_at l w.main) K) (i - main_at l w.main) 0 (omega arith)
        ∙ get_or-drop (main_at l w.main) K (i - main_at l w.main) 0)

    given : (i : ℕ) → main_at l w.main ≤ i → i < main_at l w.main + segment_size l → byte_at I i ≡ byte_at J i
    given i low high = byte I i low high ∙ ap (λ (K : Image). byte_at K (i - main_at l w.main)) (sym alike) ∙ sym (byte J i low high)

    outside : (i : ℕ) → (i < span_first l w) ⊎ (span_first l w + span_wide l w ≤ i)
        → byte_at (replay (span_ops l I w) J) i ≡ byte_at (sets J (span_at l w) w.bytes) i
    outside i h = replay_clear (span_ops l I w) J i (puts_clear puts i h) ∙ sym (over i ∙ laid_outside l J w ok i h)

    go : (i : ℕ) → Dec (i < span_first l w) → Dec (i < span_first l w + span_wide l w)
        → byte_at (replay (span_ops l I w) J) i ≡ byte_at (sets J (span_at l w) w.bytes) i
    go i (yes h) d = outside i (inl h)
    go i (no h) (no d) = outside i (inr (omega arith))
    go i (no h) (yes d) =
        puts.leaves J i (omega (arith, span_bounds l w ok, span_inside l w ok)) (omega arith) d
        ∙ overlay_cong (byte_at I) (byte_at J) (span_at l w) w.bytes i
        (given i (omega (arith, span_bounds l w ok)) (omega (arith, span_bounds l w ok, span_inside l w ok))) ∙ sym (over i)

-- ---- a recovery

-- the recovery of I, by a line of states, leaves J once the first n main segments are done
abbrev pub Recovered : Layout → Image → ℕ → ℕ → Image → Type 0
Recovered l I line n J = replay (cat n (recover_segment l I line)) I ≡ J

pub recovered_none : (l : Layout) (I : Image) (line : ℕ) → Recovered l I line 0 I
unfolding replay cat
recovered_none l I line = refl

recovered_next : (l : Layout) (I : Image) (line n : ℕ) (J K : Image) → Recovered l I line n J → replay (recover_segment l I line n) J ≡ K → Recovered l I line (suc n) K
unfolding cat
recovered_next l I line n J K e turn =
    replay_append (cat n (recover_segment l I line)) (recover_segment l I line n) I ∙ ap (replay (recover_segment l I line n)) e ∙ turn

-- the next is copied from its backup segment j, filled with zeros, or left alone
pub recovered_copy : (l : Layout) (I : Image) (line n j : ℕ) (J K : Image) → Bytes I
    → recover_segment l I line n ≡ copy_segment l I (backup_at l j) (main_at l n)
    → T (leb (backup_at l j + segment_size l) (length I)) → T (leb (main_at l n + segment_size l) (length J))
    → same (laid J (main_at l n) (segment_bytes l I (backup_at l j))) K ≡ true → Recovered l I line n J → Recovered l I line (suc n) K
recovered_copy l I line n j J K bytes is has room test e =
    recovered_next l I line n J K e
    (ap (λ (O : Ops). replay O J) is ∙ copied l I J (backup_at l j) (main_at l n) bytes (lit≤ has) (lit≤ room) ∙ same_equal _ _ test)

pub recovered_zero : (l : Layout) (I : Image) (line n : ℕ) (J K : Image)
    → recover_segment l I line n ≡ zero_segment l (main_at l n) → T (leb (main_at l n + segment_size l) (length J))
    → same (laid J (main_at l n) (replicate (segment_size l) 0)) K ≡ true → Recovered l I line n J → Recovered l I line (suc n) K
recovered_zero l I line n J K is room test e =
    recovered_next l I line n J K e (ap (λ (O : Ops). replay O J) is ∙ zeroed l J (main_at l n) (lit≤ room) ∙ same_equal _ _ test)

pub recovered_idle : (l : Layout) (I : Image) (line n : ℕ) (J : Image) → recover_segment l I line n ≡ [] → Recovered l I line n J → Recovered l I line (suc n) J
unfolding replay
recovered_idle l I line n J is e = recovered_next l I line n J J e (ap (λ (O : Ops). replay O J) is)

-- all are done
pub recovered_all : (l : Layout) (d : ℕ) (I : Image) (k : Lent) (line : ℕ) (J : Image) → open_status l d I k ≡ 0 → active_line I ≡ line
    → Recovered l I line l.mains J → opened_image l d I k ≡ J
unfolding recovery_ops replay apply
recovered_all l d I k line J served active e =
    opened_is l d I k served ∙ ap (λ (x : ℕ). replay (recovery_ops l I x) I) active
    ∙ replay_append (cat l.mains (recover_segment l I line)) (sfence ∷ []) I ∙ e
