-- What a crash may leave (SPECIFICATION 7; the trade: a cut, what then stands). The whole crash model is this file: `CrashImage` for a
-- module of kind 0 (ADR), `Held` for one of kind 1 (eADR).
--
-- I was durable (the trade: held), and O is every operation played since, across calls. Each line, on its own, holds its
-- bytes after some first part of O, and not less than every store before a clwb of that line that a later sfence of O
-- followed. What is assumed of the hardware is in SPECIFICATION 7.5: a word is not torn, stores to one line arrive in program
-- order, and clwb with sfence keep their promise.
use Rattle.std.specs.Prelude.{ℕ, ◌/◌, ◌≤◌, ◌≡◌, ◌∷◌, ◌++◌, length, take}
use Rattle.model.specs.Words.{Image, byte_at}
use Rattle.model.specs.Layout.{line_size}
use Rattle.model.specs.Ops.{Ops, clwb, sfence, replay}

-- a line is named here by its number ℓ, which is the place of each of its bytes by 64; lines of states elsewhere by their place

-- the first k operations of O keep what is durable of line ℓ: every store before a clwb of the line that a later sfence
-- followed; so k is not below the floor of the line (specs/CrashExact.antt: `FloorExact`)
abbrev pub KeepsDurable : ℕ → Ops → ℕ → Type 0
KeepsDurable ℓ O k = (A C D : Ops) (p : ℕ) → p / line_size ≡ ℓ → O ≡ A ++ clwb p ∷ C ++ sfence ∷ D → length A ≤ k

-- two images agree on line ℓ
abbrev pub AgreeOn : ℕ → Image → Image → Type 0
AgreeOn ℓ H J = (i : ℕ) → i / line_size ≡ ℓ → byte_at H i ≡ byte_at J i

-- line ℓ of H is one that a crash may leave (SPECIFICATION 7.2)
pub record Stage (ℓ : ℕ) (I : Image) (O : Ops) (H : Image) : Type 0 where
  pub k : ℕ
  pub within : k ≤ length O
  pub durable : KeepsDurable ℓ O k
  pub agree : AgreeOn ℓ H (replay (take k O) I)

-- H is one of the images that a crash may leave
pub record CrashImage (I : Image) (O : Ops) (H : Image) : Type 0 where
  pub long : length H ≡ length I
  pub lines : (ℓ : ℕ) → Stage ℓ I O H

-- a module of kind 1: every store played is durable, so a crash leaves one image, the one that was played (SPECIFICATION 7.6)
abbrev pub Held : Image → Ops → Image → Type 0
Held I O H = H ≡ replay O I
