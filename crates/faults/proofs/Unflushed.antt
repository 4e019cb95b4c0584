-- A format whose lines nobody wrote back: the line of the sizes never arrives, and an older board keeps its metadata while
-- some of its blocks are zero already.
use Prim.Native.Nat.{ℕ, ◌*◌, ◌<◌}
use mathlib.Core.Path.{◌≡◌, refl, sym, ap, subst, ◌∙◌}
use mathlib.Core.Logic.{◌⊎◌, inl, inr}
use mathlib.Core.Bool.{false}
use mathlib.Core.List.{[], ◌∷◌, ◌++◌}
use native.Mathlib.Omega.{arith}
use native.Mathlib.Decide.{dec_lt}
use lib.ListN.{length, take, replicate}
use Rattle.model.specs.Words.{Image, byte_at, word_of, word_at, little_endian}
use Rattle.model.specs.Layout.{mains_at, unpaired, in_range, sizes_ok, image_size}
use Rattle.model.specs.Status.{first_error}
use Rattle.model.specs.Container.{header_ok}
use Rattle.model.specs.Session.{adr}
use Rattle.model.specs.Ops.{Ops, store, clwb, sfence, replay, stores}
use Rattle.model.specs.Format.{container, formatted, format_outcome}
use Rattle.model.specs.Open.{open_status, open_outcome}
use Rattle.model.specs.Crash.{KeepsDurable, AgreeOn, CrashImage}
use Rattle.model.specs.CrashExact.{has_fence, floor_from, floor}
use Rattle.model.specs.Reference.{Page}
use Rattle.model.specs.FlushDurable.{format_stores}
use Rattle.model.specs.Shares.{alone}
use Rattle.cases.specs.Turns.{Point, point_of, turn, turns}
use Rattle.cases.specs.Table.{l211, a_word}
use Rattle.faults.specs.Faults.{lent_long, two_calls}
use Rattle.faults.specs.Unflushed.{all255, first_opening, RefusedLater, older, HalfOld, Unflushed}
use Rattle.model.proofs.Laws.Words.{word_cong}
use Rattle.model.proofs.Laws.Crash.Floor.{floor_durable, durable_floor, durable_all}
use Rattle.model.proofs.Laws.Crash.Images.{durable_unfenced, every_combination}
use Rattle.model.proofs.Argument.Persist.{Misses}
use Rattle.model.proofs.Argument.Settled.{Off}
use Rattle.model.proofs.Argument.Runs.{each_cat}
use Rattle.model.proofs.FlushDurable.{format_by_stores}
use Rattle.cases.proofs.Compute.{model_rules, same, same_equal, small}
use Rattle.cases.proofs.Shown.{shows}
use Rattle.cases.proofs.Starts.{standing, started_by}
use Rattle.faults.proofs.Alone.{arrives_alone}
use Rattle.faults.proofs.TwoCalls.{calls_permitted}
use Rattle.faults.proofs.BrokenOff.{broken_off_lem}

-- ---- a module of 255s

-- where every line holds no more than it must
oldest : (I : Image) (O : Ops) → (H : Image) × CrashImage I O H × ((ℓ : ℕ) → AgreeOn ℓ H (replay (take (floor ℓ O) O) I))
oldest I O =
    every_combination I O (λ ℓ. floor ℓ O) (λ ℓ. durable_floor ℓ O (length O) (durable_all ℓ O)) (λ ℓ. floor_durable ℓ O (floor ℓ O) (omega arith))

-- a line that was never written back and fenced is as it was
line_lost : (I : Image) (O : Ops) (ℓ : ℕ) → floor ℓ O ≡ 0 → AgreeOn ℓ (oldest I O).0 I
unfolding replay
line_lost I O ℓ low i e = (oldest I O).2 ℓ i e ∙ ap (λ (k : ℕ). byte_at (replay (take k O) I) i) low

abbrev zeros : Page
zeros = replicate 512 0

-- the operations of the two calls
abbrev called : Ops
called =
    store 512 0x0807060504030201
    ∷ clwb 512 ∷ clwb 576 ∷ clwb 640 ∷ clwb 704 ∷ sfence
    ∷ store 192 1 ∷ store 200 0 ∷ store 208 0 ∷ store 216 0 ∷ store 224 0 ∷ store 232 0 ∷ store 240 0 ∷ store 248 0 ∷ clwb 192 ∷ sfence
    ∷ store 0 1 ∷ clwb 0 ∷ sfence ∷ []

formats : (format_outcome l211 all255).status ≡ 0
unfolding model_rules
formats = refl

opens : open_status l211 adr (formatted l211) (lent_long l211) ≡ 0
unfolding model_rules
opens = refl

abbrev opened : Point
opened = point_of (standing l211 adr (formatted l211) zeros) (alone l211 0)

starts : first_opening ≡ opened
unfolding model_rules same
starts = started_by l211 adr (formatted l211) (formatted l211) (lent_long l211) zeros opens refl refl

plays : (turns opened two_calls).state.device.played ≡ called
unfolding model_rules turn turns
plays = refl

saves : (turns opened two_calls).state.model.checkpoint ≡ a_word ++ replicate 504 0
unfolding model_rules turn turns
saves = refl

abbrev played : Ops
played = format_stores l211 ++ (open_outcome l211 adr (formatted l211) (lent_long l211)).ops ++ called

sizes_lost : floor 1 played ≡ 0
unfolding model_rules format_stores floor_from has_fence
sizes_lost = refl

other_sizes : word_at all255 mains_at ≡ 0xffffffffffffffff
unfolding word_of little_endian
other_sizes = refl

-- what the line of the sizes holds decides, wherever the rest stands
refused : (H : Image) → length H ≡ 1280 → AgreeOn 1 H all255 → open_status l211 adr H (lent_long l211) ≡ 3
unfolding open_status first_error sizes_ok in_range image_size header_ok
refused H long lost =
    let sizes : word_at H mains_at ≡ 0xffffffffffffffff = word_cong (byte_at H) (byte_at all255) mains_at (λ i low high. lost i (omega arith)) ∙ other_sizes in
    rw (long, sizes) refl

refused_later_lem : RefusedLater
refused_later_lem = record {
  formats = format_by_stores l211 all255 formats;
  opens = opens;
  permitted = calls_permitted first_opening;
  saved = ap (λ (p : Point). (turns p two_calls).state.model.checkpoint) starts ∙ saves;
  left = (oldest all255 played).0;
  crash = subst (λ (X : Ops). CrashImage all255 (format_stores l211 ++ (open_outcome l211 adr (formatted l211) (lent_long l211)).ops ++ X) (oldest all255 played).0)
      (sym (ap (λ (p : Point). (turns p two_calls).state.device.played) starts ∙ plays)) (oldest all255 played).1;
  refused = refused (oldest all255 played).0 (oldest all255 played).1.long (line_lost all255 played 1 sizes_lost);
}

-- ---- an older board

-- it stands as it was but for main segment 0
abbrev left : Image
left =
    container l211 1 (replicate 64 0) (1 ∷ 1 ∷ replicate 62 0) (replicate 64 unpaired)
    (replicate 256 0 ++ replicate 256 41 ++ replicate 256 0)

-- the stores to the metadata, and those to main segment 0
abbrev metadata : Ops
metadata = stores 64 0 (λ k. word_at (formatted l211) (8 * k))

abbrev block : Ops
block = stores 32 512 (λ k. 0)

parts : take 96 (format_stores l211) ≡ metadata ++ block
unfolding model_rules format_stores
parts = refl

arrives : replay block older ≡ left
unfolding model_rules same
arrives = same_equal _ _ refl

unfenced : has_fence (metadata ++ block) ≡ false
unfolding model_rules has_fence
unfenced = refl

apart : (ℓ : ℕ) → Off ℓ metadata ⊎ (Off ℓ block × KeepsDurable ℓ (metadata ++ block) 0)
unfolding stores
apart ℓ = go (dec_lt ℓ 8)
  where
    go : Dec (ℓ < 8) → Off ℓ metadata ⊎ (Off ℓ block × KeepsDurable ℓ (metadata ++ block) 0)
    go (yes h) = inr ((λ i e. each_cat (Misses i) 32 _ (λ k x. ((λ low high. omega arith), tt))), durable_unfenced ℓ _ 0 unfenced)
    go (no h) = inl (λ i e. each_cat (Misses i) 64 _ (λ k x. ((λ low high. omega arith), tt)))

half_old_lem : HalfOld
unfolding model_rules same small
half_old_lem = record {
  formats = format_by_stores l211 older refl;
  before = shows l211 older (lent_long l211) _ refl refl refl;
  left = left;
  crash = subst (λ (X : Ops). CrashImage older X left) (sym parts) (subst (CrashImage older (metadata ++ block)) arrives (arrives_alone older metadata block apart));
  shown = shows l211 left (lent_long l211) _ refl refl refl;
}

pub unflushed : Unflushed
unflushed = record { refused_later = refused_later_lem; half_old = half_old_lem; broken_off = broken_off_lem }
