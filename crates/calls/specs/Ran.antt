-- What the contracts of the calls of a sheet say; a helper's, nothing that users rely on is said in its terms. Wherever a sheet
-- stands at s and the page is p: s' and p' are where it stands and the page afterwards. Assumes nothing.
use Rattle.std.specs.Prelude.{ℕ, ◌+◌, ◌≡◌, Bool, List, [], ◌∷◌, ◌++◌, length}
use Prim.Native.String.{String}
use Rattle.model.specs.declared.Layout.{Layout}
use Rattle.model.specs.Outcome.{Told}
use Rattle.model.specs.Reference.{CallArgs}
use Rattle.text.specs.Text.{text}
use Rattle.parser.specs.Script.{Group}
use Rattle.printer.specs.declared.Page.{Page}
use Rattle.printer.specs.Decimal.{number_size, decimal}
use Rattle.printer.specs.Page.{Appended}
use Rattle.calls.specs.declared.Sheet.{Sheet}
use Rattle.calls.specs.declared.GroupParts.{GroupParts}
use Rattle.calls.specs.Printed.{Board, answer_on, board_step, answer_text, checkpointed, checkpoint_text, opened_board, open_text}

-- ---- sizes

-- the most bytes of an answer behind its key: two numbers, and the eight bytes of " orders=" between them
abbrev pub answer_size : ℕ
answer_size = number_size + 8 + number_size

-- the most bytes of a call's text: an answer behind a key of six bytes, or of five and before the end of its line
abbrev pub call_size : ℕ
call_size = 6 + answer_size

-- ---- texts and groups by their parts

-- an answer, by the bytes of its key
abbrev pub answer_of : List ℕ → Told → List ℕ
answer_of k t = k ++ decimal t.status ++ text " orders=" ++ decimal t.ops

-- a group of these parts and bytes
abbrev pub group_of_parts : GroupParts → List ℕ → Group
group_of_parts g bytes = record { main = g.place.main; block = g.place.block; offset = g.place.offset; bytes = bytes; checkpoint = g.checkpoint }

-- ---- calls

-- s' has the image of s, which keeps its length
pub record Kept (s s' : Sheet) : Type 0 where
  pub same : s'.image.ghost_name ≡ s.image.ghost_name
  pub size : length s'.image.now ≡ length s.image.now

-- a sheet stands at this image, and with this session and record
abbrev pub BoardAt : Board → Sheet → Type 0
BoardAt b s = (b.device.image ≡ s.image.now) × (b.device.session ≡ s.session) × (b.clients ≡ s.client ∷ [])

-- the opening of a formatted image, and its line
abbrev pub Opened : Layout → Page → Sheet → Page → Type 0
Opened l p s' p' = Appended p (open_text l) p' × BoardAt (opened_board l) s'

-- a call, made and replayed, and its answer
abbrev pub CallRan : Sheet → CallArgs → String → Page → Sheet → Page → Type 0
CallRan s c key p s' p' = (b : Board) → BoardAt b s → Appended p (answer_text key (answer_on b c)) p' × BoardAt (board_step b c) s'

-- a checkpoint, if it is wanted, and its text behind a space
abbrev pub CheckpointRan : Sheet → Bool → Page → Sheet → Page → Type 0
CheckpointRan s wanted p s' p' =
    (b : Board) → BoardAt b s → Appended p (text " " ++ checkpoint_text b wanted) p' × BoardAt (checkpointed b wanted) s'
