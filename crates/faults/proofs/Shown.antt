-- Reads of an image with one block, for the faults that show a wrong page.
use Prim.Native.Nat.{zero, suc}
use native.Mathlib.Omega.{arith}
use Rattle.model.specs.Words.{Image}
use Rattle.model.specs.Reference.{Page}
use Rattle.model.specs.CrashSafety.{ReadsBlock, Reads}
use Rattle.faults.specs.Faults.{l111}

pub only_block : {I : Image} {W P : Page} → ReadsBlock l111 I W P 0 0 → Reads l111 I W P
only_block block zero zero i< b< = block
only_block block zero (suc b) i< b< = let z : ⊥ = omega arith in absurd z
only_block block (suc i) b i< b< = let z : ⊥ = omega arith in absurd z
