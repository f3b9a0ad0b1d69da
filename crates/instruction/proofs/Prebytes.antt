-- A prebyte stands for an index register and a pointer, and they for it.
use Rattle.std.proofs.Common.{◌≡◌, Bool, Option, arith}
use Rattle.instruction.specs.declared.mode.Index.{Index}
use Rattle.instruction.specs.declared.prebyte.Prebyte.{Prebyte}
use Rattle.instruction.specs.Prebytes.{prebyte_for, index_behind, pointer_behind}

pub index_again : (i : Index) (b : Bool) → index_behind (prebyte_for i b) ≡ i
index_again i b = grind arith

pub pointer_again : (i : Index) (b : Bool) → pointer_behind (prebyte_for i b) ≡ b
pointer_again i b = grind arith

pub prebyte_again : (p : Option Prebyte) → prebyte_for (index_behind p) (pointer_behind p) ≡ p
prebyte_again p = grind arith
