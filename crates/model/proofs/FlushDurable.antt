-- Every line written back and fenced (specs/FlushDurable.antt): every line is settled, and what is played afterwards is played on a
-- durable image. So it is after a format, and when a program starts again.
use Prim.Native.Nat.{ℕ, ◌*◌, ◌/◌, ◌%◌, ◌<◌}
use mathlib.Core.Path.{◌≡◌, refl, sym, ap, ◌∙◌, subst, subst₂}
use mathlib.Core.Logic.{◌↔◌}
use mathlib.Core.List.{List, [], ◌∷◌, ◌++◌}
use native.Mathlib.Omega.{arith}
use lib.ListN.{length}
use lib.Seq.{ext_get_or}
use Rattle.model.specs.Session.{adr}
use Rattle.model.specs.Outcome.{Lent, lent}
use Rattle.model.specs.declared.Layout.{Layout}
use Rattle.model.specs.Words.{Image, Bytes, byte_at}
use Rattle.model.specs.Layout.{line_size, SizesOk, image_size}
use Rattle.model.specs.Container.{active_line}
use Rattle.model.specs.Ops.{Ops, sfence, replay, clwbs}
use Rattle.model.specs.Format.{formatted}
use Rattle.model.specs.Open.{recovery_ops, open_status, open_outcome}
use Rattle.model.specs.Crash.{CrashImage}
use Rattle.model.specs.Reference.{Page}
use Rattle.model.specs.History.{Call, State, device_step, step, run, played_ops, opened_image, start}
use Rattle.model.specs.CrashSafety.{Recovers, played_at, MayShow, none, again, adr_module}
use Rattle.model.specs.FlushDurable.{flush_all, FlushDurable, FlushCut, image_at, RestartSafety, Formats, format_stores, FormatByStores, FormatDurable, FormatSettles, FormatStarts, FormatSafety}
use Rattle.model.proofs.Laws.Words.{byte_of_word}
use Rattle.model.proofs.Laws.Layout.{image_lines_lem}
use Rattle.model.proofs.Laws.Format.{formatted-length, formatted-checkpoint, formatted_starts, format_served, format_gives}
use Rattle.model.proofs.Laws.Crash.Flushes.{flushes_wait, only_clwbs}
use Rattle.model.proofs.Laws.Crash.Images.{newest, crash_settled}
use Rattle.model.proofs.Argument.Persist.{each_append, length-replay, replay_clear, replay_append}
use Rattle.model.proofs.Argument.Settled.{Settled, Settles, settles_fence}
use Rattle.model.proofs.Argument.Runs.{Puts, puts_stores, clwbs_none, flushed_clwbs}
use Rattle.model.proofs.Argument.Recovery.{recovery_keeps}
use Rattle.model.proofs.Argument.OpenCall.{accepted}
use Rattle.model.proofs.Argument.Openings.{open_served, opened_is}
use Rattle.model.proofs.Laws.Domain.{domain_adr}
use Rattle.model.proofs.Domains.{adr_within_lem, both_kinds}
use Rattle.model.proofs.Sisters.{opening_settles, opening_safety}

-- ---- the stores of a format

format_puts : (l : Layout) → SizesOk l → Puts (format_stores l) 0 (8 * (image_size l / 8)) (byte_at (formatted l))
unfolding format_stores
format_puts l h =
    puts_stores (image_size l / 8) 0 _ (byte_at (formatted l))
    (λ k b x y. byte_of_word (byte_at (formatted l)) (8 * k) b (formatted_starts l h adr (lent [] [])).0 y ∙ ap (byte_at (formatted l)) (omega arith))

pub format_by_stores : FormatByStores
format_by_stores l I h =
    let s = format_served l I h in
    let O : Ops = format_stores l in
    record {
      served = h;
      leaves =
          ext_get_or 0 (replay O I) (formatted l) (length-replay O I ∙ s.1 ∙ sym (formatted-length l))
          (λ i x. (format_puts l s.0).leaves I i (omega (arith, s.1, image_lines_lem l)) (omega arith) (omega (arith, length-replay O I, s.1, image_lines_lem l)))
          ∙ sym (format_gives l I s.0 s.1).1;
    }

-- ---- every line written back and fenced

flush_settles : (I : Image) (ℓ : ℕ) → length I % line_size ≡ 0 → line_size * ℓ < length I → Settles ℓ (flush_all I)
unfolding flush_all
flush_settles I ℓ whole h = settles_fence ℓ _ (flushed_clwbs ℓ _ 0 refl (omega arith) (omega arith))

flush_replay : (K I : Image) → replay (flush_all K) I ≡ I
unfolding flush_all
flush_replay K I = ext_get_or 0 _ _ (length-replay (flush_all K) I)
    (λ i x. replay_clear (flush_all K) I i (each_append _ (clwbs (length K / line_size) 0) (sfence ∷ []) (clwbs_none _ _ _) tt))

flush_same : (I J : Image) → length I ≡ length J → flush_all I ≡ flush_all J
unfolding flush_all
flush_same I J e = ap (λ (n : ℕ). clwbs (n / line_size) 0 ++ sfence ∷ []) e

pub flush_durable : FlushDurable
flush_durable I W whole = (
  newest I W,
  λ E H. subst (λ (K : Image). CrashImage I (W ++ flush_all I ++ E) H ↔ CrashImage K E H) (replay_append W (flush_all I) I ∙ flush_replay I (replay W I))
      (crash_settled I H (W ++ flush_all I) E (λ ℓ h. flush_settles I ℓ whole h W)),
)

pub flush_cut : FlushCut
flush_cut I W n H c = (flushes_wait I W (clwbs n 0) (only_clwbs n 0) H).0 c

-- ---- a program that starts again

run_durable : (s : State) (cs : List Call) → (run s cs).device.durable ≡ s.device.durable
unfolding run step device_step
run_durable s [] = refl
run_durable s (c ∷ cs) = run_durable (step s c) cs

start_whole : (l : Layout) (d : ℕ) (I : Image) (t : Lent) → open_status l d I t ≡ 0 → (cs : List Call) → length (run (start l d I t) cs).device.durable % line_size ≡ 0
unfolding start
start_whole l n I t h cs =
    let O = recovery_ops l I (active_line I) in
    let e : length (run (start l n I t) cs).device.durable ≡ length (opened_image l n I t) = ap (λ (J : Image). length J) (run_durable (start l n I t) cs) in
    let d : length (opened_image l n I t) ≡ length (replay O I) = ap (λ (J : Image). length J) (opened_is l n I t h) in
    omega (arith, e, d, length-replay O I, (accepted l n I t h).long, image_lines_lem l)

pub restart_safety : RestartSafety
restart_safety l I t b h cs permitted own m at t₁ ne₁ p H c H' openings t' ne =
    let s : State = run (start l adr I t) cs in
    let W : Ops = played_at s.device m in
    let J : Image = image_at s.device m in
    let f = flush_durable s.device.durable W (start_whole l adr I t h cs) in
    let E : Ops = played_ops J (open_outcome s.device.layout adr J t₁).ops t₁.trace p in
    let g : CrashImage J E H = (f.1 E H).0 (subst (λ (F : Ops). CrashImage s.device.durable (W ++ F ++ E) H) (flush_same J s.device.durable (length-replay W s.device.durable)) c) in
    -- a crash may leave J, so an opening of J shows a page that is permitted, and what stands is bytes
    let y = both_kinds.adr_safe l I t b h cs permitted own m at J f.0 J none t₁ ne₁ in
    let o = opening_safety adr_module adr_within_lem s.device.layout J t₁ y.3 y.2.accepted H' (again t₁ p ne₁ g openings) t' ne in
    (subst (MayShow s m) (sym y.2.begins) y.1, o.0, o.1)

-- ---- a format that is flushed

module _ (l : Layout) (I : Image) (W : Ops) (f : Formats l I W) where
  sizes : SizesOk l
  sizes = (format_served l I f.served).0

  whole : length I % line_size ≡ 0
  whole = omega (arith, (format_served l I f.served).1, image_lines_lem l)

  leaves_formatted : replay W I ≡ formatted l
  leaves_formatted = f.leaves ∙ (format_gives l I sizes (format_served l I f.served).1).1

  flushed_replay : replay (W ++ flush_all I) I ≡ formatted l
  flushed_replay = replay_append W (flush_all I) I ∙ flush_replay I (replay W I) ∙ leaves_formatted

  flushed_settled : (ℓ : ℕ) → line_size * ℓ < length I → Settled ℓ (W ++ flush_all I)
  flushed_settled ℓ h = flush_settles I ℓ whole h W

  -- a served opening, played whole
  module _ (t : Lent) (h : open_status l adr (formatted l) t ≡ 0) where
    abbrev O : Ops
    O = recovery_ops l (formatted l) (active_line (formatted l))

    opened-replay : replay (W ++ flush_all I ++ O) I ≡ opened_image l adr (formatted l) t
    opened-replay = replay_append (W ++ flush_all I) O I ∙ ap (replay O) flushed_replay ∙ sym (opened_is l adr (formatted l) t h)

    opened_settled : (ℓ : ℕ) → line_size * ℓ < length I → Settled ℓ (W ++ flush_all I ++ O)
    opened_settled ℓ x = recovery_keeps l (active_line (formatted l)) (formatted l) ℓ (W ++ flush_all I) (flushed_settled ℓ x)

    opened_crash : (E : Ops) (H : Image) → CrashImage I (W ++ flush_all I ++ (open_outcome l adr (formatted l) t).ops ++ E) H ↔ CrashImage (opened_image l adr (formatted l) t) E H
    opened_crash E H =
        subst₂ (λ (X : Ops) (K : Image). CrashImage I (W ++ flush_all I ++ X ++ E) H ↔ CrashImage K E H) (sym ((open_served l adr (formatted l) t h).ops ∙ domain_adr O)) opened-replay
        (crash_settled I H (W ++ flush_all I ++ O) E opened_settled)

pub format_durable : FormatDurable
format_durable l I W f E H =
    subst (λ (K : Image). CrashImage I (W ++ flush_all I ++ E) H ↔ CrashImage K E H) (leaves_formatted l I W f)
    ((flush_durable I W (whole l I W f)).1 E H)

pub format_settles : FormatSettles
format_settles l I W f t h H =
    let d = format_durable l I W f (open_outcome l adr (formatted l) t).ops H in
    let o = opening_settles adr_module adr_within_lem l (formatted l) t (formatted_starts l (sizes l I W f) adr t).0 h in
    (λ c. o.1 H (d.0 c), λ e. d.1 (subst (CrashImage (formatted l) (open_outcome l adr (formatted l) t).ops) (sym e) (subst (λ (X : Ops). CrashImage (formatted l) X (opened_image l adr (formatted l) t)) (sym ((open_served l adr (formatted l) t h).ops ∙ domain_adr _)) o.0)))

pub format_starts : FormatStarts
unfolding start
format_starts l I W f t h cs m H =
    let s : State = run (start l adr (formatted l) t) cs in
    subst (λ (K : Image). CrashImage I (W ++ flush_all I ++ (open_outcome l adr (formatted l) t).ops ++ played_at s.device m) H ↔ CrashImage K (played_at s.device m) H)
    (sym (run_durable (start l adr (formatted l) t) cs)) (opened_crash l I W f t h (played_at s.device m) H)

pub format_safety : FormatSafety
format_safety l I W f t h p H c H' openings t' ne =
    let d = format_durable l I W f (played_ops (formatted l) (open_outcome l adr (formatted l) t).ops t.trace p) H in
    subst (λ (Q : Page). Recovers l adr H' t' Q × Bytes H') (formatted-checkpoint l (sizes l I W f))
    (opening_safety adr_module adr_within_lem l (formatted l) t (formatted_starts l (sizes l I W f) adr t).0 h H' (again t p ((λ e. omega arith), (λ e. omega arith)) (d.0 c) openings) t' ne)
