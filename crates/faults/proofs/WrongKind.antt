-- A module of kind 0 that was opened as kind 1: where no write-back was played, no line need have arrived.
use Prim.Native.Nat.{ℕ, suc}
use mathlib.Core.Path.{◌≡◌, refl, sym, ap, subst, ◌∙◌}
use mathlib.Core.Bool.{Bool, true, false, false≢true}
use mathlib.Core.List.{List, [], ◌∷◌}
use native.Mathlib.Omega.{arith}
use lib.ListN.{get_or}
use Rattle.model.specs.declared.Layout.{Layout}
use Rattle.model.specs.Words.{Image, Bytes}
use Rattle.model.specs.Container.{active_line, checkpoint_bytes}
use Rattle.model.specs.Session.{adr, eadr}
use Rattle.model.specs.Ops.{Ops, store, clwb, sfence, replay}
use Rattle.model.specs.Open.{open_status}
use Rattle.model.specs.Crash.{CrashImage}
use Rattle.model.specs.CrashExact.{floor_from}
use Rattle.model.specs.Reference.{Page}
use Rattle.model.specs.History.{Call, State, device_step, step, run, start, AllPermitted, AllOwnDomain}
use Rattle.model.specs.CrashSafety.{Recovers, between, none, Enough, WithinAdr, adr_module, eadr_module}
use Rattle.model.specs.Shares.{alone}
use Rattle.cases.specs.Turns.{Point, point_of, begin, turn, turns, made, Supposed}
use Rattle.cases.specs.Table.{Case, follow, calls}
use Rattle.cases.specs.Cut.{MayLeave, OnlyShows}
use Rattle.faults.specs.Faults.{lent_long, l111, two_calls}
use Rattle.faults.specs.WrongKind.{board, no_word, the_word, unflushed, opened_wrong, LostSave, lossy, WrongKind}
use Rattle.model.proofs.Laws.Crash.Floor.{floor_durable}
use Rattle.model.proofs.CrashSafety.{crash_safety}
use Rattle.model.proofs.Domains.{both_kinds}
use Rattle.cases.proofs.Turns.{one-history}
use Rattle.cases.proofs.Compute.{model_rules, same, same_equal, small, small_bytes, fit_args, fit_turns, all_supposed}
use Rattle.cases.proofs.Follow.{agree, as_expected}
use Rattle.cases.proofs.Starts.{standing, started_by, turns_hold}
use Rattle.cases.proofs.Shown.{shows, shows_any, shows_between}
use Rattle.faults.proofs.TwoCalls.{a_word_lem, calls_permitted}

-- ---- no write-back

unfoldable no_clwb : Ops → Bool
no_clwb [] = true
no_clwb (store p w ∷ O) = no_clwb O
no_clwb (clwb p ∷ O) = false
no_clwb (sfence ∷ O) = no_clwb O

no_floor : (n ℓ : ℕ) (O : Ops) → no_clwb O ≡ true → floor_from n ℓ O ≡ 0
unfolding no_clwb floor_from
no_floor n ℓ [] h = refl
no_floor n ℓ (store p w ∷ O) h = no_floor (suc n) ℓ O h
no_floor n ℓ (clwb p ∷ O) h = absurd (false≢true h)
no_floor n ℓ (sfence ∷ O) h = no_floor (suc n) ℓ O h

-- all may be lost
all_lost : (I : Image) (O : Ops) → no_clwb O ≡ true → CrashImage I O I
unfolding replay
all_lost I O h = record {
  long = refl;
  lines = λ ℓ. record { k = 0; within = omega arith; durable = floor_durable ℓ O 0 (omega (arith, no_floor 0 ℓ O h)); agree = λ i e. refl };
}

-- ---- the two histories

-- where they start
abbrev opened : ℕ → Point
opened d = point_of (standing l111 d board no_word) (alone l111 0)

starts_wrong : begin l111 eadr board (lent_long l111) ≡ opened eadr
unfolding model_rules same
starts_wrong = started_by l111 eadr board board (lent_long l111) no_word refl refl refl

starts : begin l111 adr board (lent_long l111) ≡ opened adr
unfolding model_rules same
starts = started_by l111 adr board board (lent_long l111) no_word refl refl refl

-- the rows are as expected, the page is saved, and no write-back was played
lost_save : (p : Point) (d : ℕ) (cs : List Case) → begin l111 d board (lent_long l111) ≡ p
    → AllPermitted (made (begin l111 d board (lent_long l111)) (calls cs))
    → agree (follow cs p) ≡ true → (turns p (calls cs)).state.model.checkpoint ≡ the_word
    → (turns p (calls cs)).state.device.durable ≡ board → no_clwb (turns p (calls cs)).state.device.played ≡ true
    → LostSave (begin l111 d board (lent_long l111)) cs
lost_save p d cs e permitted rows saved durable unwritten = record {
  permitted = permitted;
  answered = as_expected e cs rows;
  saved = ap (λ (q : Point). (turns q (calls cs)).state.model.checkpoint) e ∙ saved;
  crash = subst (λ (q : Point). CrashImage (turns q (calls cs)).state.device.durable (turns q (calls cs)).state.device.played board) (sym e)
      (subst (CrashImage _ (turns p (calls cs)).state.device.played) durable (all_lost _ _ unwritten));
}

first : LostSave (begin l111 eadr board (lent_long l111)) unflushed
unfolding model_rules turn turns made unflushed follow agree same no_clwb
first =
    lost_save (opened eadr) eadr unflushed starts_wrong (a_word_lem, (tt, tt)) refl
    (same_equal (turns (opened eadr) (calls unflushed)).state.model.checkpoint the_word refl) refl refl

later : LostSave (begin l111 adr board (lent_long l111)) opened_wrong
unfolding model_rules turn turns made unflushed opened_wrong follow agree same no_clwb
later =
    lost_save (opened adr) adr opened_wrong starts (tt, (a_word_lem, (tt, tt))) refl
    (same_equal (turns (opened adr) (calls opened_wrong)).state.model.checkpoint the_word refl) refl refl

-- the second opening is served, with a kind that is not the module's
foreign : AllOwnDomain adr (opened adr).state (made (opened adr) (calls opened_wrong)) → ⊥
unfolding model_rules made opened_wrong
foreign own = let z : ◌≡◌ {A = ℕ} 1 0 = own.0 refl in omega arith

-- ---- what is shown

shown : Recovers l111 adr board (lent_long l111) no_word
unfolding model_rules same small
shown = shows l111 board (lent_long l111) no_word refl refl refl

shown_wrong_lem : Recovers l111 eadr board (lent_long l111) no_word
unfolding model_rules same small
shown_wrong_lem =
    shows_any eadr_module both_kinds.eadr_within l111 board (lent_long l111) no_word refl refl refl
    (lent_long l111) ((λ e. omega arith), (λ e. omega arith))

-- with every opening of kind 0
opens : open_status l111 adr board (lent_long l111) ≡ 0
unfolding model_rules
opens = refl

bytes : Bytes board
unfolding model_rules small
bytes = small_bytes board refl

saves : (turns (opened adr) two_calls).state.model.checkpoint ≡ the_word
unfolding model_rules turn turns
saves = refl

right : OnlyShows adr_module (turns (begin l111 adr board (lent_long l111)) two_calls).state between the_word
right =
    let p : Point = begin l111 adr board (lent_long l111) in
    shows_between (turns p two_calls).state (turns_hold l111 board (lent_long l111) bytes opens two_calls (calls_permitted p)) the_word
    (ap (λ (q : Point). (turns q two_calls).state.model.checkpoint) starts ∙ saves)

-- ---- a module of which demand 3 does not speak

opens_wrong : open_status l111 eadr board (lent_long l111) ≡ 0
unfolding model_rules
opens_wrong = refl

unflushed_own : Supposed eadr (begin l111 eadr board (lent_long l111)) (calls unflushed)
unfolding unflushed small fit_args fit_turns
unflushed_own = all_supposed eadr (begin l111 eadr board (lent_long l111)) (calls unflushed) refl

-- the sizes stay those of the start
sized : (run (begin l111 eadr board (lent_long l111)).state (made (begin l111 eadr board (lent_long l111)) (calls unflushed))).device.layout ≡ l111
unfolding run step device_step start made unflushed
sized = refl

enough : Enough l111 eadr board (lent_long l111)
enough = ((λ e. omega (arith, e, opens_wrong)), (λ e. omega (arith, e, opens_wrong)))

no_word_lem : no_word ≡ the_word → ⊥
no_word_lem e = let z : ◌≡◌ {A = ℕ} 0 1 = ap (λ (P : Page). get_or P 0 0) e in omega arith

-- it would show the word, and what is left has none
outside : WithinAdr lossy → ⊥
outside within =
    let p : Point = begin l111 eadr board (lent_long l111) in
    let cs : List Call = made p (calls unflushed) in
    let s : State = run p.state cs in
    let is : (turns p (calls unflushed)).state ≡ s = one-history.same p (calls unflushed) in
    let lost = subst (λ (q : State). MayLeave lossy q between board) is first.crash in
    let lends = subst (λ (l : Layout). Enough l eadr board (lent_long l111)) (sym sized) enough in
    let safe = crash_safety lossy within l111 board (lent_long l111) bytes opens_wrong cs unflushed_own.0 unflushed_own.1 in
    let x = safe between tt board lost board none (lent_long l111) lends in
    no_word_lem (sym shown_wrong_lem.begins ∙ ap (λ (l : Layout). checkpoint_bytes l board (active_line board)) (sym sized)
    ∙ x.2.begins ∙ x.1 ∙ ap (λ (q : State). q.model.checkpoint) (sym is) ∙ first.saved)

pub wrong_kind : WrongKind
wrong_kind = record {
  first = first;
  later = later;
  outside = outside;
  foreign = subst (λ (p : Point). AllOwnDomain adr p.state (made p (calls opened_wrong)) → ⊥) (sym starts) foreign;
  shown = shown;
  shown_wrong = shown_wrong_lem;
  right = right;
}
