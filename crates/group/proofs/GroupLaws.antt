-- A group's line, from the texts of its parts.
use Prim.Native.Nat.{ℕ}
use mathlib.Core.Path.{◌≡◌}
use mathlib.Core.List.{◌++◌, append_assoc}
use Rattle.model.specs.Container.{committed_epoch}
use Rattle.text.specs.Text.{text}
use Rattle.parser.specs.Script.{Group}
use Rattle.printer.specs.Decimal.{decimal}
use Rattle.calls.specs.Printed.{Board, answer_on, board_step, answer_text, write_of, checkpoint_text, after_group, group_text}

pub group_text_lem : (b : Board) (n : ℕ) (g : Group) (epoch : ℕ) → epoch ≡ committed_epoch (after_group b g).device.image
    → (text "step=" ++ decimal n ++ text " ")
    ++ answer_text "write=" (answer_on b (write_of g))
    ++ (text " " ++ checkpoint_text (board_step b (write_of g)) g.checkpoint)
    ++ (text " epoch=" ++ decimal epoch ++ text "\n")
    ≡ group_text b n g
unfolding group_text
group_text_lem b n g epoch e = rw e (simp append_assoc)
