-- Bytes that no call reads (SPECIFICATION 2.4: metadata bytes not named; 2.5: the inactive line), as one statement: on two
-- images that agree on all other bytes every call answers the same. Proved in proofs/Laws/Unread.antt. Assumes nothing.
use Rattle.std.specs.Prelude.{ℕ, ◌+◌, ◌≤◌, ◌<◌, ◌≡◌, length}
use Rattle.model.specs.declared.Layout.{Layout}
use Rattle.model.specs.declared.Session.{Session}
use Rattle.model.specs.Words.{Image, byte_at}
use Rattle.model.specs.Layout.{word_size, line_size, metadata_size, epoch_at, mains_at, header_end, states_at, pairs_end}
use Rattle.model.specs.Container.{inactive_line}
use Rattle.model.specs.Outcome.{Lent}
use Rattle.model.specs.Open.{open_outcome}
use Rattle.model.specs.Write.{WriteArgs, write_outcome}
use Rattle.model.specs.Discard.{discard_outcome}
use Rattle.model.specs.Checkpoint.{checkpoint_outcome}
use Rattle.model.specs.Reads.{read_status, working_part, checkpoint_part, working_block, checkpoint_block}
use Rattle.model.specs.Same.{same_outcome}

-- byte i is not one of a .. b - 1
abbrev pub Outside : ℕ → ℕ → ℕ → Type 0
Outside a b i = a ≤ i → i < b → ⊥

-- the images agree on every byte but the unnamed ones of the metadata (after the epoch, after the sizes, after the pairs)
-- and those of the inactive line
pub record AgreeNamed (I J : Image) : Type 0 where
  pub long : length I ≡ length J
  pub bytes : (i : ℕ) → Outside (epoch_at + word_size) mains_at i → Outside header_end states_at i → Outside pairs_end metadata_size i
      → Outside (inactive_line I) (inactive_line I + line_size) i → byte_at I i ≡ byte_at J i

-- what every call answers on two such images
pub record SameAnswers (I J : Image) : Type 0 where
  pub opening : (l : Layout) (d : ℕ) (k : Lent) → open_outcome l d I k ≡ open_outcome l d J k
  pub write : (s : Session) (w : WriteArgs) (k : Lent) → write_outcome s I w k ≡ write_outcome s J w k
  pub discard : (s : Session) (i : ℕ) (k : Lent) → discard_outcome s I i k ≡ discard_outcome s J i k
  pub checkpoint : (s : Session) (k : Lent) → checkpoint_outcome s I k ≡ checkpoint_outcome s J k
  -- the reads: their number, the parts that they find, and the bytes there
  pub read : (l : Layout) (i b : ℕ) → read_status l I i b ≡ read_status l J i b
  pub working_found : (l : Layout) (i b : ℕ) → working_part l I i b ≡ working_part l J i b
  pub checkpoint_found : (l : Layout) (i b : ℕ) → checkpoint_part l I i b ≡ checkpoint_part l J i b
  pub working_bytes : (l : Layout) (i b : ℕ) → working_block l I i b ≡ working_block l J i b
  pub checkpoint_bytes : (l : Layout) (i b : ℕ) → checkpoint_block l I i b ≡ checkpoint_block l J i b

pub record NeverRead : Type 0 where
  pub alone : {I J : Image} → AgreeNamed I J → SameAnswers I J
  pub compared : {I J K L : Image} → AgreeNamed I J → AgreeNamed K L → (l : Layout) → same_outcome l I K ≡ same_outcome l J L
