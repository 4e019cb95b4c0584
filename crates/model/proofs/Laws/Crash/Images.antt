-- What a crash may leave, and what it must keep (specs/CrashExact.antt): every stage of every line, together, from its floor on;
-- and one image only where every line is settled.
use Prim.Native.Nat.{ℕ, zero, suc, ◌+◌, ◌*◌, ◌/◌, ◌<◌, max}
use mathlib.Core.Path.{◌≡◌, refl, sym, ap, ◌∙◌}
use mathlib.Core.Logic.{◌↔◌}
use mathlib.Core.Bool.{Bool, true, false, cond, ◌&&◌}
use mathlib.Core.List.{[], ◌∷◌, ◌++◌}
use native.Mathlib.Decide.{dec_lt}
use native.Mathlib.Omega.{arith}
use lib.Dec.{eqb}
use lib.ListN.{length, take, drop, length-append, get_or-eq_default}
use lib.Seq.{take-length, take-append-add, ext_get_or}
use Rattle.model.specs.Words.{Image, byte_at}
use Rattle.model.specs.Layout.{line_size}
use Rattle.model.specs.Ops.{store, clwb, sfence, Ops, replay}
use Rattle.model.specs.Crash.{KeepsDurable, AgreeOn, Stage, CrashImage}
use Rattle.model.specs.CrashExact.{Newest, EveryCombination, has_fence, UnfencedLost, floor_from, CrashByFloor}
use Rattle.model.proofs.Argument.Persist.{length-replay, replay_append}
use Rattle.model.proofs.Argument.Settled.{Settled, settled_off, local_crash}
use Rattle.model.proofs.Laws.Crash.Floor.{floor_durable, durable_floor, durable_all}

-- ---- what a crash may leave

-- all that was played
pub newest : Newest
newest I O = record {
  long = length-replay O I;
  lines = λ ℓ. record {
    k = length O;
    within = omega arith;
    durable = durable_all ℓ O;
    agree = λ i e. ap (λ (X : Ops). byte_at (replay X I) i) (sym (take-length O));
  };
}

tabulate : ℕ → (ℕ → ℕ) → Image
tabulate zero f = []
tabulate (suc n) f = f 0 ∷ tabulate n (λ i. f (suc i))

length_tabulate : (n : ℕ) (f : ℕ → ℕ) → length (tabulate n f) ≡ n
unfolding tabulate
length_tabulate zero f = refl
length_tabulate (suc n) f = ap suc (length_tabulate n (λ i. f (suc i)))

byte_tabulate : (n : ℕ) (f : ℕ → ℕ) (i : ℕ) → i < n → byte_at (tabulate n f) i ≡ f i
unfolding tabulate
byte_tabulate zero f i l = absurd (omega arith)
byte_tabulate (suc n) f zero l = refl
byte_tabulate (suc n) f (suc i) l = byte_tabulate n (λ j. f (suc j)) i (omega arith)

-- lines are independent: any stage of each line, together
pub every_combination : EveryCombination
every_combination I O k within durable = (
  H,
  record {
    long = length_tabulate (length I) f;
    lines = λ ℓ. record { k = k ℓ; within = within ℓ; durable = durable ℓ; agree = on_line ℓ };
  },
  on_line,
)
  where
    f : ℕ → ℕ
    f i = byte_at (replay (take (k (i / line_size)) O) I) i

    H : Image
    H = tabulate (length I) f

    bytes : (i : ℕ) → Dec (i < length I) → byte_at H i ≡ f i
    bytes i (yes l) = byte_tabulate (length I) f i l
    bytes i (no l) =
        get_or-eq_default H 0 (omega (arith, length_tabulate (length I) f))
        ∙ sym (get_or-eq_default (replay (take (k (i / line_size)) O) I) 0 (omega (arith, length-replay (take (k (i / line_size)) O) I)))

    on_line : (ℓ : ℕ) → AgreeOn ℓ H (replay (take (k ℓ) O) I)
    on_line ℓ i e = bytes i (dec_lt i (length I)) ∙ ap (λ (n : ℕ). byte_at (replay (take (k n) O) I) i) e

floor_unfenced : (n ℓ : ℕ) (O : Ops) → has_fence O ≡ false → floor_from n ℓ O ≡ 0
unfolding floor_from has_fence
floor_unfenced n ℓ [] h = refl
floor_unfenced n ℓ (store p w ∷ O) h = floor_unfenced (suc n) ℓ O h
floor_unfenced n ℓ (clwb p ∷ O) h = rw (h, floor_unfenced (suc n) ℓ O h) (go (eqb (p / line_size) ℓ))
  where
    go : (b : Bool) → max (cond (b && false) n 0) 0 ≡ 0
    go true = refl
    go false = refl
floor_unfenced n ℓ (sfence ∷ O) h = absurd (let x : ◌≡◌ {A = ℕ} 0 1 = cc in omega arith)

pub durable_unfenced : (ℓ : ℕ) (O : Ops) (k : ℕ) → has_fence O ≡ false → KeepsDurable ℓ O k
durable_unfenced ℓ O k h = floor_durable ℓ O k (omega (arith, floor_unfenced 0 ℓ O h))

-- the oldest stage
pub stage_old : {ℓ : ℕ} {T H : Image} (E : Ops) → has_fence E ≡ false → AgreeOn ℓ H T → Stage ℓ T E H
unfolding replay
stage_old {ℓ} E h a = record { k = 0; within = omega arith; durable = durable_unfenced ℓ E 0 h; agree = a }

-- with no sfence at all, all may be lost
pub unfenced_lost : UnfencedLost
unfenced_lost I O h = record { long = refl; lines = λ ℓ. stage_old O h (λ i e. refl) }

-- what came before may stand whole
durable_after : (ℓ k : ℕ) (O E : Ops) → KeepsDurable ℓ E k → KeepsDurable ℓ (O ++ E) (length O + k)
durable_after ℓ k [] E h A C D p l e = omega (arith, h A C D p l e)
durable_after ℓ k (o ∷ O) E h [] C D p l e = omega arith
durable_after ℓ k (o ∷ O) E h (a ∷ A) C D p l e = omega (arith, durable_after ℓ k O E h A C D p l (ap (drop 1) e))

pub stage_after : (ℓ : ℕ) (I H : Image) (O E : Ops) → Stage ℓ (replay O I) E H → Stage ℓ I (O ++ E) H
stage_after ℓ I H O E s = record {
  k = length O + s.k;
  within = omega (arith, s.within, length-append O E);
  durable = durable_after ℓ s.k O E s.durable;
  agree = λ i e. s.agree i e
      ∙ sym (ap (λ (X : Ops). byte_at (replay X I) i) (take-append-add O E s.k) ∙ ap (λ (J : Image). byte_at J i) (replay_append O (take s.k E) I));
}

pub crash_after : (I H : Image) (O E : Ops) → CrashImage (replay O I) E H → CrashImage I (O ++ E) H
crash_after I H O E c = record { long = c.long ∙ length-replay O I; lines = λ ℓ. stage_after ℓ I H O E (c.lines ℓ) }

-- ---- what it must keep

-- nothing below the floor of a line, and nothing but that
pub crash_by_floor : CrashByFloor
crash_by_floor I H O = (
  λ c. (c.long, λ ℓ. let s = c.lines ℓ in (s.k, durable_floor ℓ O s.k s.durable, s.within, s.agree)),
  λ h. record {
    long = h.0;
    lines = λ ℓ. let s = h.1 ℓ in record { k = s.0; within = s.2; durable = floor_durable ℓ O s.0 s.1; agree = s.3 };
  },
)

-- where every line is settled, there is one crash image only
pub settled_only : (I H : Image) (O : Ops) → ((ℓ : ℕ) → Settled ℓ O) → CrashImage I O H → H ≡ replay O I
settled_only I H O settled c = ext_get_or 0 H (replay O I) (c.long ∙ sym (length-replay O I))
    (λ i l. let s = c.lines (i / line_size) in s.agree i refl ∙ settled (i / line_size) I s.k s.within s.durable i refl)

pub nothing_played : (I H : Image) → CrashImage I [] H → H ≡ I
unfolding replay
nothing_played I H c = settled_only I H [] (λ ℓ. settled_off ℓ [] (λ i e. tt)) c

-- where O settled every line of the image, what it left is durable: what a crash may leave after O and E is what it may
-- leave of E alone
pub crash_settled : (I H : Image) (O E : Ops) → ((ℓ : ℕ) → line_size * ℓ < length I → Settled ℓ O)
    → CrashImage I (O ++ E) H ↔ CrashImage (replay O I) E H
crash_settled I H O E settled = (
  λ c. record { long = c.long ∙ sym (length-replay O I); lines = λ ℓ. stage c ℓ (dec_lt (line_size * ℓ) (length I)) },
  crash_after I H O E,
)
  where
    stage : CrashImage I (O ++ E) H → (ℓ : ℕ) → Dec (line_size * ℓ < length I) → Stage ℓ (replay O I) E H
    stage c ℓ (yes h) = local_crash ℓ I H O E (settled ℓ h) (c.lines ℓ)
    stage c ℓ (no h) = record {
      k = length E;
      within = omega arith;
      durable = durable_all ℓ E;
      agree = λ i e.
          get_or-eq_default H 0 (omega (arith, c.long))
          ∙ sym (get_or-eq_default (replay (take (length E) E) (replay O I)) 0 (omega (arith, length-replay (take (length E) E) (replay O I), length-replay O I)));
    }
