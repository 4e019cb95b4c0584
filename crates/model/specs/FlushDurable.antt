-- Every line of an image written back and fenced (`flush_all`): what a caller does after a format, and whenever his program starts, before
-- the opening. Format only stores, and a program that ends while the power stays on leaves its last stores in the cache: a store alone is
-- not durable. Once every line is flushed and fenced, what stands is durable, and a history starts with all durable, as
-- specs/History.antt has it. All this is about a module of kind 0: on one of kind 1 what stands is durable, and a program that ends is a
-- crash of which demand 3 speaks (`eadr_safe` of `BothKinds`). What may happen otherwise is computed in crate `faults`
-- (specs/Unflushed.antt). Proved in proofs/FlushDurable.antt. Assumes what specs/Crash.antt does of the hardware.
use Rattle.std.specs.Prelude.{ℕ, ◌*◌, ◌/◌, ◌%◌, ◌≡◌, ◌↔◌, List, [], ◌∷◌, ◌++◌, length, replicate}
use Rattle.model.specs.declared.Layout.{Layout}
use Rattle.model.specs.Words.{Image, Bytes, word_at}
use Rattle.model.specs.Layout.{word_size, line_size, segment_size, image_size}
use Rattle.model.specs.Container.{active_line, checkpoint_bytes}
use Rattle.model.specs.Session.{adr}
use Rattle.model.specs.Ops.{Ops, sfence, replay, stores, clwbs}
use Rattle.model.specs.Format.{formatted, format_outcome}
use Rattle.model.specs.Outcome.{Lent}
use Rattle.model.specs.Open.{open_status, open_outcome}
use Rattle.model.specs.Crash.{CrashImage}
use Rattle.model.specs.Reference.{Page}
use Rattle.model.specs.History.{Call, Device, State, played_ops, opened_image, start, run}
use Rattle.model.specs.CrashSafety.{Recovers, Moment, PermittedAt, played_at, MayShow, InEveryHistoryOf, Enough, CutOpenings, adr_module}

-- every line of an image written back, upward, and a fence
unfoldable pub flush_all : Image → Ops
flush_all I = clwbs (length I / line_size) 0 ++ sfence ∷ []

-- ---- whatever was played

-- what stands once W was played is one of the images that a crash may leave; and once every line is flushed and fenced it is
-- durable: whatever is played from there on, a crash may leave the same as if it had always stood there
abbrev pub FlushDurable : Type 0
FlushDurable =
    (I : Image) (W : Ops) → length I % line_size ≡ 0
    → CrashImage I W (replay W I) × ((E : Ops) (H : Image) → CrashImage I (W ++ flush_all I ++ E) H ↔ CrashImage (replay W I) E H)

-- power may fail while the lines are written back, before the fence: what is left could have been left before
abbrev pub FlushCut : Type 0
FlushCut = (I : Image) (W : Ops) (n : ℕ) (H : Image) → CrashImage I (W ++ clwbs n 0) H → CrashImage I W H

-- ---- a program that ended while the power stayed on

-- what stands at a moment
abbrev pub image_at : Device → Moment → Image
image_at d m = replay (played_at d m) d.durable

-- at any moment of any history of kind 0 the program ends; what stands is flushed, fenced and opened, and power may fail after any number p of that
-- opening's operations, and in any number of openings after it: the first that finishes shows the checkpoint of what stood, the same
-- after every such cut, and it is one that demand 3 permits at the moment when the program ended
abbrev pub RestartSafety : Type 0
RestartSafety = InEveryHistoryOf adr (λ s.
    (m : Moment) → PermittedAt adr s.device m
    → let J : Image = image_at s.device m in
    (k : Lent) → Enough s.device.layout adr J k → (p : ℕ) (H : Image)
    → CrashImage s.device.durable (played_at s.device m ++ flush_all J ++ played_ops J (open_outcome s.device.layout adr J k).ops k.trace p) H
    → (H' : Image) → CutOpenings adr_module s.device.layout H H'
    → (k' : Lent) → Enough s.device.layout adr H' k'
    → let Q : Page = checkpoint_bytes s.device.layout J (active_line J) in
    MayShow s m Q × Recovers s.device.layout adr H' k' Q × Bytes H')

-- ---- a format

-- format is served on the image J, which was durable, and the operations W, all that was played since, leave what it
-- leaves: its stores, in any order, and whatever came before them
pub record Formats (l : Layout) (J : Image) (W : Ops) : Type 0 where
  pub served : (format_outcome l J).status ≡ 0
  pub leaves : replay W J ≡ (format_outcome l J).image

-- the formatted image, stored word by word, upward
unfoldable pub format_stores : Layout → Ops
format_stores l = stores (image_size l / word_size) 0 (λ k. word_at (formatted l) (word_size * k))

-- which is one such list, on every image that format serves
abbrev pub FormatByStores : Type 0
FormatByStores = (l : Layout) (J : Image) → (format_outcome l J).status ≡ 0 → Formats l J (format_stores l)

-- once every line is written back and fenced, the formatted image is durable: whatever is played from there on, a crash may
-- leave the same as if it had always stood there
abbrev pub FormatDurable : Type 0
FormatDurable =
    (l : Layout) (J : Image) (W : Ops) → Formats l J W
    → (E : Ops) (H : Image) → CrashImage J (W ++ flush_all J ++ E) H ↔ CrashImage (formatted l) E H

-- an opening of it that finished leaves one crash image, the opened one
abbrev pub FormatSettles : Type 0
FormatSettles =
    (l : Layout) (J : Image) (W : Ops) → Formats l J W → (k : Lent) → open_status l adr (formatted l) k ≡ 0
    → (H : Image) → CrashImage J (W ++ flush_all J ++ (open_outcome l adr (formatted l) k).ops) H ↔ (H ≡ opened_image l adr (formatted l) k)

-- so a history starts there with all durable: at any moment of it a crash may leave, counted from J on, what it may leave in
-- the history, of which demand 3 speaks
abbrev pub FormatStarts : Type 0
FormatStarts =
    (l : Layout) (J : Image) (W : Ops) → Formats l J W → (k : Lent) → open_status l adr (formatted l) k ≡ 0
    → (cs : List Call) (m : Moment) (H : Image)
    → let s : State = run (start l adr (formatted l) k) cs in
    CrashImage J (W ++ flush_all J ++ (open_outcome l adr (formatted l) k).ops ++ played_at s.device m) H
    ↔ CrashImage s.device.durable (played_at s.device m) H

-- and power may fail in that first opening, after any number of its operations, and in any number of openings after it: the
-- first that finishes shows zeros
abbrev pub FormatSafety : Type 0
FormatSafety =
    (l : Layout) (J : Image) (W : Ops) → Formats l J W → (k : Lent) → open_status l adr (formatted l) k ≡ 0
    → (p : ℕ) (H : Image) → CrashImage J (W ++ flush_all J ++ played_ops (formatted l) (open_outcome l adr (formatted l) k).ops k.trace p) H
    → (H' : Image) → CutOpenings adr_module l H H'
    → (k' : Lent) → Enough l adr H' k' → Recovers l adr H' k' (replicate (segment_size l * l.mains) 0) × Bytes H'
