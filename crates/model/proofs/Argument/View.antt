-- An image is recoverable to the contents that its active line holds; what another image must have in common with it to be
-- recoverable to the same; operations that leave its epoch and states alone.
use Prim.Native.Nat.{ℕ, ◌+◌, ◌≤◌, ◌<◌}
use mathlib.Core.Path.{◌≡◌, sym, ap, ◌∙◌, subst}
use mathlib.Core.List.{◌++◌}
use native.Mathlib.Omega.{arith}
use lib.ListN.{length}
use Rattle.model.specs.declared.Layout.{Layout}
use Rattle.model.specs.Words.{Image, byte_at, Bytes}
use Rattle.model.specs.Layout.{SizesOk, image_size, state_line, segment_size, main_at, backup_at}
use Rattle.model.specs.Container.{active_state, committed_epoch, active_line, seg_state, backup_to_main, HeaderOk}
use Rattle.model.specs.Ops.{Ops, replay}
use Rattle.model.proofs.Laws.Words.{word_cong}
use Rattle.model.proofs.Laws.Layout.{state_line_high}
use Rattle.model.proofs.Argument.Persist.{Clear, replay_clear, replay_append}
use Rattle.model.proofs.Argument.Holds.{Contents, Holds, holds_cong}

-- an image of bytes of the layout's length, with its header
pub record Fit (l : Layout) (I : Image) : Type 0 where
  pub sizes : SizesOk l
  pub long : length I ≡ image_size l
  pub bytes : Bytes I
  pub header : HeaderOk l I

-- recovery by a line of states recovers the image to P
pub record RecoverableBy (l : Layout) (line : ℕ) (I : Image) (P : Contents) : Type 0 where
  pub fit : Fit l I
  pub holds : Holds l (seg_state I line) (backup_to_main I) (byte_at I) P

-- and an opening does, which goes by the active line
abbrev pub Recoverable : Layout → Image → Contents → Type 0
Recoverable l I P = RecoverableBy l (active_line I) I P

-- an image with the same header fits too
pub fit_cong : (l : Layout) (I H : Image) → length H ≡ length I → Bytes H → ((i : ℕ) → 64 ≤ i → i < 88 → byte_at H i ≡ byte_at I i) → Fit l I → Fit l H
fit_cong l I H n small head f = record {
  sizes = f.sizes;
  long = n ∙ f.long;
  bytes = small;
  header = (
    word_cong _ _ 64 (λ i x y. head i x (omega arith)) ∙ f.header.0,
    word_cong _ _ 72 (λ i x y. head i (omega arith) (omega arith)) ∙ f.header.1,
    word_cong _ _ 80 (λ i x y. head i (omega arith) y) ∙ f.header.2,
  );
}

-- what holds by the line of epoch e, where e is the image's epoch
pub recovers_at : (l : Layout) (H : Image) (P : Contents) (e : ℕ) → committed_epoch H ≡ e → Fit l H
    → Holds l (seg_state H (state_line e)) (backup_to_main H) (byte_at H) P → Recoverable l H P
recovers_at l H P e q f h = record { fit = f; holds = subst (λ (k : ℕ). Holds l (seg_state H (state_line k)) (backup_to_main H) (byte_at H) P) (sym q) h }

-- the epoch is that of an image with the same first word
pub epoch_cong : (I H : Image) → ((i : ℕ) → i < 8 → byte_at H i ≡ byte_at I i) → committed_epoch H ≡ committed_epoch I
epoch_cong I H h = word_cong _ _ 0 (λ i x y. h i (omega arith))

-- what H must have in common with I to be recoverable to the same contents, by a line of states
pub record AlikeBy (l : Layout) (line : ℕ) (I H : Image) : Type 0 where
  pub long : length H ≡ length I
  pub bytes : Bytes H
  pub epochs : (i : ℕ) → i < 8 → byte_at H i ≡ byte_at I i
  pub header : (i : ℕ) → 64 ≤ i → i < 88 → byte_at H i ≡ byte_at I i
  pub states : (i : ℕ) → i < 64 → seg_state H line i ≡ seg_state I line i
  pub pairs : (j : ℕ) → j < 64 → backup_to_main H j ≡ backup_to_main I j
  pub owns : (i x : ℕ) → i < l.mains → x < segment_size l → seg_state I line i ≡ 1 → byte_at H (main_at l i + x) ≡ byte_at I (main_at l i + x)
  pub backups : (i j x : ℕ) → i < l.mains → j < l.backups → x < segment_size l → seg_state I line i ≡ 2 → backup_to_main I j ≡ i
      → byte_at H (backup_at l j + x) ≡ byte_at I (backup_at l j + x)

pub recoverable_by_alike : (l : Layout) (line : ℕ) (I H : Image) (P : Contents) → AlikeBy l line I H → RecoverableBy l line I P → RecoverableBy l line H P
recoverable_by_alike l line I H P a r = record {
  fit = fit_cong l I H a.long a.bytes a.header r.fit;
  holds = holds_cong l r.fit.sizes (seg_state I line) (backup_to_main I) (byte_at I) _ _ _ P r.holds a.states a.pairs a.owns a.backups;
}

-- the same for an opening: by the active line, which is that of both
abbrev pub Alike : Layout → Image → Image → Type 0
Alike l I H = AlikeBy l (active_line I) I H

pub recoverable_alike : (l : Layout) (I H : Image) (P : Contents) → Alike l I H → Recoverable l I P → Recoverable l H P
recoverable_alike l I H P a r =
    let b = recoverable_by_alike l (active_line I) I H P a r in
    recovers_at l H P (committed_epoch I) (epoch_cong I H a.epochs) b.fit b.holds

pub alike_state : (l : Layout) (I H : Image) → Alike l I H → (i : ℕ) → i < 64 → active_state H i ≡ active_state I i
alike_state l I H a i h = ap (λ (e : ℕ). byte_at H (state_line e + i)) (epoch_cong I H a.epochs) ∙ a.states i h

-- operations that leave the first line alone leave the epoch
pub low_epoch : (I₀ : Image) (O E : Ops) → ((k : ℕ) → k < 64 → Clear k E) → committed_epoch (replay (O ++ E) I₀) ≡ committed_epoch (replay O I₀)
low_epoch I₀ O E h = ap (λ (J : Image). committed_epoch J) (replay_append O E I₀) ∙ epoch_cong (replay O I₀) (replay E (replay O I₀)) (λ k x. replay_clear E (replay O I₀) k (h k (omega arith)))

-- operations that leave the line of pairs alone leave the pairs
pub low_pairs : (I₀ : Image) (O E : Ops) → ((k : ℕ) → 256 ≤ k → k < 320 → Clear k E) → (j : ℕ) → j < 64 → backup_to_main (replay (O ++ E) I₀) j ≡ backup_to_main (replay O I₀) j
low_pairs I₀ O E h j b = ap (λ (J : Image). backup_to_main J j) (replay_append O E I₀) ∙ replay_clear E (replay O I₀) _ (h _ (omega arith) (omega arith))

-- and those that leave the epoch and the lines of states alone leave the states
pub low_states : (I₀ : Image) (O E : Ops) → ((k : ℕ) → k < 256 → Clear k E) → (i : ℕ) → i < 64 → active_state (replay (O ++ E) I₀) i ≡ active_state (replay O I₀) i
low_states I₀ O E h i b =
    ap (λ (e : ℕ). byte_at (replay (O ++ E) I₀) (state_line e + i)) (low_epoch I₀ O E (λ k x. h k (omega arith)))
    ∙ ap (λ (J : Image). byte_at J (active_line (replay O I₀) + i)) (replay_append O E I₀)
    ∙ replay_clear E (replay O I₀) _ (h _ (omega (arith, state_line_high (committed_epoch (replay O I₀)))))
