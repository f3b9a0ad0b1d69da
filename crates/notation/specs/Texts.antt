use Rattle.std.specs.Prelude.{ℕ, ◌+◌, ◌%◌, Bool, true, false, List, [], ◌∷◌, ◌++◌, codes, decimal}
use Rattle.numerals.specs.Numerals.{hex2, hex4}
use Rattle.instruction.specs.declared.mode.Index.{Index}
use Rattle.instruction.specs.declared.mode.Index.TheVariants.{X, Y}
use Rattle.instruction.specs.declared.instruction.Operand.{Operand}
use Rattle.instruction.specs.declared.instruction.Operand.TheVariants.{Inherent, Accumulator, IndexRegister, Immediate, Short, Long, Indexed, ShortIndexed, LongIndexed, Relative, Bit, BitRelative, ShortPointer, LongPointer, ShortPointerIndexed, LongPointerIndexed, RelativePointer, BitPointer, BitPointerRelative}
use Rattle.operation.specs.Mnemonics.{mnemonic_text}
use Rattle.instruction.specs.Rows.{length_of}
use Rattle.isa.specs.Relative.{relative_target}
use Rattle.notation.specs.declared.register.Register.{Register}
use Rattle.notation.specs.declared.register.Register.TheVariants as R
use Rattle.notation.specs.declared.shape.Shape.{Shape}
use Rattle.notation.specs.declared.shape.Shape.TheVariants.{OperandAlone, RegisterFirst, RegisterLast, OneRegister, TwoRegisters}
use Rattle.notation.specs.declared.Operands.{Operands}
use Rattle.notation.specs.declared.Statement.{Statement}
use Rattle.notation.specs.Shapes.{shape_of}

-- the name of an index register
abbrev pub index_text : Index → List ℕ
index_text X = codes "X"
index_text Y = codes "Y"

-- the name of the other index register
abbrev pub other_text : Index → List ℕ
other_text X = codes "Y"
other_text Y = codes "X"

-- the name of a register, in an instruction with this index register
abbrev pub register_text : Register → Index → List ℕ
register_text R.A i = codes "A"
register_text R.Index i = index_text i
register_text R.OtherIndex i = other_text i
register_text R.S i = codes "S"
register_text R.Cc i = codes "CC"

-- an operand, in an instruction with this index register, where `next` is the address after the whole instruction: bytes
-- and words in hexadecimal after `$`, a bit in decimal after `#`, a relative offset as the address that it leads to
abbrev pub operand_text : Index → ℕ → Operand → List ℕ
operand_text i next Inherent = []
operand_text i next Accumulator = codes "A"
operand_text i next IndexRegister = index_text i
operand_text i next (Immediate b) = codes "#$" ++ hex2 b
operand_text i next (Short a) = codes "$" ++ hex2 a
operand_text i next (Long w) = codes "$" ++ hex4 w
operand_text i next Indexed = codes "(" ++ (index_text i ++ codes ")")
operand_text i next (ShortIndexed o) = codes "($" ++ (hex2 o ++ (codes "," ++ (index_text i ++ codes ")")))
operand_text i next (LongIndexed w) = codes "($" ++ (hex4 w ++ (codes "," ++ (index_text i ++ codes ")")))
operand_text i next (Relative z) = codes "$" ++ hex4 (relative_target next z)
operand_text i next (Bit k a) = codes "$" ++ (hex2 a ++ (codes ",#" ++ decimal k))
operand_text i next (BitRelative k a z) = codes "$" ++ (hex2 a ++ (codes ",#" ++ (decimal k ++ (codes ",$" ++ hex4 (relative_target next z)))))
operand_text i next (ShortPointer p) = codes "[$" ++ (hex2 p ++ codes "]")
operand_text i next (LongPointer p) = codes "[$" ++ (hex2 p ++ codes ".w]")
operand_text i next (ShortPointerIndexed p) = codes "([$" ++ (hex2 p ++ (codes "]," ++ (index_text i ++ codes ")")))
operand_text i next (LongPointerIndexed p) = codes "([$" ++ (hex2 p ++ (codes ".w]," ++ (index_text i ++ codes ")")))
operand_text i next (RelativePointer p) = codes "[$" ++ (hex2 p ++ codes "]")
operand_text i next (BitPointer k p) = codes "[$" ++ (hex2 p ++ (codes "],#" ++ decimal k))
operand_text i next (BitPointerRelative k p z) = codes "[$" ++ (hex2 p ++ (codes "],#" ++ (decimal k ++ (codes ",$" ++ hex4 (relative_target next z)))))

-- what stands behind a mnemonic: registers and the operand as their shape has them, with a comma between two
abbrev pub shaped : Shape → Index → List ℕ → List ℕ
shaped OperandAlone i operand = operand
shaped (RegisterFirst r) i operand = register_text r i ++ (codes "," ++ operand)
shaped (RegisterLast r) i operand = operand ++ (codes "," ++ register_text r i)
shaped (OneRegister r) i operand = register_text r i
shaped (TwoRegisters to from) i operand = register_text to i ++ (codes "," ++ register_text from i)

-- the operands of an instruction, without the mnemonic
unfoldable pub operands_text : Operands → List ℕ
operands_text x =
    shaped (shape_of x.instruction.operation) x.instruction.index
    (operand_text x.instruction.index x.next x.instruction.operand)

-- whether a text has no characters
abbrev pub is_empty : List ℕ → Bool
is_empty [] = true
is_empty (c ∷ t) = false

-- a text after a blank; an empty one stays empty
abbrev pub after_blank : List ℕ → List ℕ
after_blank [] = []
after_blank (c ∷ t) = codes " " ++ (c ∷ t)

-- the operands of an instruction at an address; `next` is that address plus the instruction's length, modulo 65,536
abbrev pub operands_of : Statement → Operands
operands_of s = record { instruction = s.instruction; next = (s.address + length_of s.instruction) % 65536 }

-- an instruction at an address: its mnemonic and, after a blank, its operands if there are any
unfoldable pub statement_text : Statement → List ℕ
statement_text s = mnemonic_text s.instruction.operation ++ after_blank (operands_text (operands_of s))
