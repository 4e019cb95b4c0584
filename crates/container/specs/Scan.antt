-- The tests that one pass over pairs and one over states make: a helper's, which says nothing that users rely on. That they are the
-- rules of model's Container is shown in proofs/. Assumes nothing.
use Rattle.std.specs.Prelude.{◌≡◌, ℕ, zero, suc, ◌+◌, ◌*◌, ◌/◌, ◌%◌, ◌<◌, Bool, true, false, cond, ◌&&◌, ◌||◌, ◌==◌, nat_lt}
use Rattle.std.specs.Prelude.{Result, Ok, Err}
use Rattle.model.specs.declared.Layout.{Layout}
use Rattle.model.specs.Layout.{word_size, most, unpaired}
use Rattle.model.specs.Session.{is_dirty, set_bit}
use Rattle.model.specs.Container.{is_paired, valid_metadata}
use Rattle.container.specs.declared.Paired.{Paired}

-- bytes of half a line
abbrev pub half_line : ℕ
half_line = 32

-- one pair more: unless it is `unpaired` it is counted, and a main segment below 64 that it names joins the set
unfoldable pub lay_pair : Paired → ℕ → Paired
lay_pair p pair = cond (pair == unpaired) p (record { set = cond (nat_lt pair most) (set_bit p.set pair) p.set; count = p.count + 1 })

-- the n lowest bytes of a word more, as pairs
unfoldable pub lay_bytes : ℕ → Paired → ℕ → Paired
lay_bytes zero p w = p
lay_bytes (suc n) p w = lay_bytes n (lay_pair p (w % 256)) (w / 256)

-- whether the n lowest bytes of a word are all below 64
unfoldable pub low_bytes : ℕ → ℕ → Bool
low_bytes zero w = true
low_bytes (suc n) w = nat_lt (w % 256) most && low_bytes n (w / 256)

-- the first n pairs
unfoldable pub lay_pairs : (ℕ → ℕ) → ℕ → Paired
lay_pairs pr zero = record { set = 0; count = 0 }
lay_pairs pr (suc n) = lay_pair (lay_pairs pr n) (pr n)

-- a state of a main segment whose bit in the set of paired ones is this: 0 or 1 if it is 0, else 1 or 2
unfoldable pub state_fits : ℕ → ℕ → Bool
state_fits paired st = st == paired || st == suc paired

-- the set that the words of pairs lay, whatever they name
abbrev pub laid_set : Layout → (ℕ → ℕ) → ℕ
laid_set l pr = (lay_pairs pr (word_size * ((l.backups + 7) / word_size))).set

-- what the passes find where states and pairs are valid: the set that is laid, which has the main segments that are paired
pub record ValidWith (l : Layout) (st pr : ℕ → ℕ) (set : ℕ) : Type 0 where
  pub valid : valid_metadata l st pr ≡ true
  pub laid : set ≡ laid_set l pr
  pub paired : (i : ℕ) → i < l.mains → is_dirty set i ≡ is_paired l pr i

-- and where they are not: the set that is laid
pub record InvalidWith (l : Layout) (st pr : ℕ → ℕ) (set : ℕ) : Type 0 where
  pub invalid : valid_metadata l st pr ≡ false
  pub laid : set ≡ laid_set l pr

-- what the passes answer: the set that is laid, as a success exactly if states and pairs are valid
abbrev pub ExaminedBy : Layout → (ℕ → ℕ) → (ℕ → ℕ) → Result ℕ ℕ → Type 0
ExaminedBy l st pr (Ok set) = ValidWith l st pr set
ExaminedBy l st pr (Err set) = InvalidWith l st pr set
