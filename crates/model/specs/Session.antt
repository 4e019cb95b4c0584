-- The volatile session (SPECIFICATION 5; the trade: the card): which main segments and blocks are dirty, and when it is valid.
-- Assumes nothing.
use Rattle.std.specs.Prelude.{ℕ, zero, suc, ◌+◌, ◌^◌, ◌/◌, ◌%◌, ◌≤◌, ◌<◌, ◌≡◌, ◌≢◌, Bool, true, not, cond, ◌&&◌, [], ◌∷◌, ◌++◌, ltb, eqb, get_or, set, replicate}
use Rattle.std.specs.Int.Bits.{bit_or}
use Rattle.model.specs.declared.Layout.{Layout}
use Rattle.model.specs.declared.Session.{Session}
use Rattle.model.specs.Range.{all_b}
use Rattle.model.specs.Words.{Image}
use Rattle.model.specs.Status.{Errors}
use Rattle.model.specs.Container.{active_state, container_errors}
use Rattle.model.specs.Layout.{most, ss_main, layout_of}

-- ---- the kind of module (SPECIFICATION 5.8; the ported paper: its persistence domain)

-- kind 0, ADR: the cache may lose what was not written back; kind 1, eADR: the cache keeps every store
abbrev pub adr : ℕ
adr = 0

abbrev pub eadr : ℕ
eadr = 1

-- there is no such kind
abbrev pub no_domain : ℕ → Bool
no_domain d = ltb eadr d

-- ---- what is dirty

-- bit f of a number, 0 or 1
unfoldable pub bit : ℕ → ℕ → ℕ
bit m f = m / 2 ^ f % 2

-- bit f of a word of dirty bits is set
abbrev pub is_dirty : ℕ → ℕ → Bool
is_dirty m f = eqb (bit m f) 1

-- a number with bit f set, and with the n bits from bit f on set
unfoldable pub set_bit : ℕ → ℕ → ℕ
set_bit m f = bit_or m (2 ^ f)

unfoldable pub set_bits : ℕ → ℕ → ℕ → ℕ
set_bits m f zero = m
set_bits m f (suc n) = set_bit (set_bits m f n) (f + n)

-- the word of dirty blocks of main segment i
abbrev pub dirty_word : Session → ℕ → ℕ
dirty_word s i = get_or s.dirty_blocks i 0

-- main segment i was written since the last checkpoint (the trade: touched)
unfoldable pub dirty_segment : Session → ℕ → Bool
dirty_segment s i = is_dirty s.dirty_segments i

-- block b of main segment i is dirty (the trade: marked)
unfoldable pub dirty_block : Session → ℕ → ℕ → Bool
dirty_block s i b = is_dirty (dirty_word s i) b

-- a session of a layout on a kind of module, with no bit set
unfoldable pub fresh_session : Layout → ℕ → Session
fresh_session l d = record { layout = l; dirty_segments = 0; dirty_blocks = replicate most 0; domain = d }

-- the session of zeros, which a refused opening answers
unfoldable pub zero_session : Session
zero_session = fresh_session (layout_of 0 0 0) adr

-- the session after a write to the n blocks from block b on of main segment i whose word of dirty blocks was m
unfoldable pub with_dirty : Session → ℕ → ℕ → ℕ → ℕ → Session
with_dirty s i b n m =
    record {
      layout = s.layout;
      dirty_segments = set_bit s.dirty_segments i;
      dirty_blocks = set s.dirty_blocks i (set_bits m b n);
      domain = s.domain;
    }

-- the session after a checkpoint: dirty blocks stay, dirty segments are cleared
unfoldable pub with_checkpoint : Session → Session
with_checkpoint s = record { layout = s.layout; dirty_segments = 0; dirty_blocks = s.dirty_blocks; domain = s.domain }

-- a valid session (SPECIFICATION 5.2; the trade: a true card): no bit is set beyond the sizes, no dirty segment is in state 1, and
-- the kind of module is 0 or 1
pub record SessionValid (s : Session) (st : ℕ → ℕ) : Type 0 where
  pub segments : (i : ℕ) → dirty_segment s i ≡ true → i < s.layout.mains
  pub blocks : (i b : ℕ) → dirty_block s i b ≡ true → (i < s.layout.mains) × (b < s.layout.blocks)
  pub moved : (i : ℕ) → dirty_segment s i ≡ true → st i ≢ ss_main
  pub domain : s.domain ≤ eadr

-- the same as a test
unfoldable pub valid_session : Session → (ℕ → ℕ) → Bool
valid_session s st =
    ltb s.dirty_segments (2 ^ s.layout.mains)
    && all_b most (λ i. ltb (dirty_word s i) (cond (ltb i s.layout.mains) (2 ^ s.layout.blocks) 1))
    && all_b s.layout.mains (λ i. not (dirty_segment s i && eqb (st i) ss_main))
    && not (no_domain s.domain)

-- ---- refusal 5, and with 1 to 4 what every call that is given an image and a session knows first

abbrev pub session_errors : Session → Image → Errors
session_errors s I = (5, not (valid_session s (active_state I))) ∷ []

-- of an opening, which is given the kind of module alone
abbrev pub domain_errors : ℕ → Errors
domain_errors d = (5, no_domain d) ∷ []

abbrev pub context_errors : Session → Image → Errors
context_errors s I = container_errors s.layout I ++ session_errors s I
