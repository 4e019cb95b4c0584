-- The one client of a sheet is never refused for its record or a share: behind the opening of a good sheet, which is served
-- (SheetTrace.antt), no call answers 13, 14 or 15, whatever the groups are. Proved in proofs/SheetShares.antt, by model's `AloneUnhindered`.
-- Assumes nothing.
use Rattle.std.specs.Prelude.{List, [], ◌∷◌}
use Rattle.model.specs.declared.Layout.{Layout}
use Rattle.model.specs.Reference.{CallArgs}
use Rattle.model.specs.History.{PermittedArgs}
use Rattle.model.specs.Shares.{ByFirst, NoShareRefuses}
use Rattle.calls.specs.Printed.{Board, call_on, board_step, opened_board}
use Rattle.calls.specs.SheetTrace.{SheetSizes}

-- a call as a group makes it: a write is of bytes, as pairs of hexadecimal digits are, and the one client's
abbrev pub OfSheet : CallArgs → Type 0
OfSheet c = PermittedArgs c × ByFirst c

abbrev pub AllOfSheet : List CallArgs → Type 0
AllOfSheet [] = Unit {0}
AllOfSheet (c ∷ cs) = OfSheet c × AllOfSheet cs

-- where some calls leave a sheet
unfoldable pub board_after : Board → List CallArgs → Board
board_after b [] = b
board_after b (c ∷ cs) = board_after (board_step b c) cs

abbrev pub SheetUnhindered : Type 0
SheetUnhindered =
    (l : Layout) → SheetSizes l → (cs : List CallArgs) → AllOfSheet cs → (c : CallArgs) → OfSheet c
    → let b : Board = board_after (opened_board l) cs in NoShareRefuses b.device (call_on b c)
