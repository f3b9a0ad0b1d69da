use Rattle.std.proofs.Common.{refl}
use Rattle.numerals.specs.Numerals.{hex2, hex4}
use Rattle.instruction.specs.Rows.{cycles_of, length_of}
use Rattle.isa.specs.Decode.{decode_of}
use Rattle.isa.specs.Relative.{relative_target}
use Rattle.notation.specs.Texts.{operands_text, statement_text}
use Rattle.worked_examples.proofs.worked_examples.Goals as goal

-- what the bytes decode to is found by computing
-- an attribute that opens the definitions does not close it: each example names an instruction or a fault, which the tactics do not invent
pub returns : goal.returns
unfolding hex2 hex4 cycles_of length_of decode_of relative_target operands_text statement_text
returns c = (
  (_, refl, refl, refl),
  (_, refl, refl, refl),
  (_, refl, refl, refl),
  (_, refl, refl, refl),
  (_, refl, refl, refl),
  refl,
)
