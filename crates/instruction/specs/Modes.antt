use Rattle.std.specs.Prelude.{ℕ, Bool, true, false, Some, None, Option}
use Rattle.instruction.specs.declared.mode.Mode.{Mode}
use Rattle.instruction.specs.declared.mode.Mode.TheVariants.{Inherent, Accumulator, IndexRegister, Immediate, Short, Long, Indexed, ShortIndexed, LongIndexed, Relative, Bit, BitRelative, ShortPointer, LongPointer, ShortPointerIndexed, LongPointerIndexed, RelativePointer, BitPointer, BitPointerRelative}
use Rattle.instruction.specs.declared.instruction.Operand.{Operand}
use Rattle.instruction.specs.declared.instruction.Operand.TheVariants as O

-- the mode of an operand
abbrev pub mode_of : Operand → Mode
mode_of O.Inherent = Inherent
mode_of O.Accumulator = Accumulator
mode_of O.IndexRegister = IndexRegister
mode_of (O.Immediate b) = Immediate
mode_of (O.Short a) = Short
mode_of (O.Long w) = Long
mode_of O.Indexed = Indexed
mode_of (O.ShortIndexed o) = ShortIndexed
mode_of (O.LongIndexed w) = LongIndexed
mode_of (O.Relative z) = Relative
mode_of (O.Bit k a) = Bit
mode_of (O.BitRelative k a z) = BitRelative
mode_of (O.ShortPointer p) = ShortPointer
mode_of (O.LongPointer p) = LongPointer
mode_of (O.ShortPointerIndexed p) = ShortPointerIndexed
mode_of (O.LongPointerIndexed p) = LongPointerIndexed
mode_of (O.RelativePointer p) = RelativePointer
mode_of (O.BitPointer k p) = BitPointer
mode_of (O.BitPointerRelative k p z) = BitPointerRelative

-- the mode in which a pointer stands in for a mode's operand, if there is one
abbrev pub indirect_of : Mode → Option Mode
indirect_of Inherent = None
indirect_of Accumulator = None
indirect_of IndexRegister = None
indirect_of Immediate = None
indirect_of Short = Some ShortPointer
indirect_of Long = Some LongPointer
indirect_of Indexed = None
indirect_of ShortIndexed = Some ShortPointerIndexed
indirect_of LongIndexed = Some LongPointerIndexed
indirect_of Relative = Some RelativePointer
indirect_of Bit = Some BitPointer
indirect_of BitRelative = Some BitPointerRelative
indirect_of ShortPointer = None
indirect_of LongPointer = None
indirect_of ShortPointerIndexed = None
indirect_of LongPointerIndexed = None
indirect_of RelativePointer = None
indirect_of BitPointer = None
indirect_of BitPointerRelative = None

-- the mode whose operand a pointer stands in for; a mode without a pointer is its own
abbrev pub direct_of : Mode → Mode
direct_of Inherent = Inherent
direct_of Accumulator = Accumulator
direct_of IndexRegister = IndexRegister
direct_of Immediate = Immediate
direct_of Short = Short
direct_of Long = Long
direct_of Indexed = Indexed
direct_of ShortIndexed = ShortIndexed
direct_of LongIndexed = LongIndexed
direct_of Relative = Relative
direct_of Bit = Bit
direct_of BitRelative = BitRelative
direct_of ShortPointer = Short
direct_of LongPointer = Long
direct_of ShortPointerIndexed = ShortIndexed
direct_of LongPointerIndexed = LongIndexed
direct_of RelativePointer = Relative
direct_of BitPointer = Bit
direct_of BitPointerRelative = BitRelative

-- whether a pointer stands in for the operand
abbrev pub is_indirect : Mode → Bool
is_indirect Inherent = false
is_indirect Accumulator = false
is_indirect IndexRegister = false
is_indirect Immediate = false
is_indirect Short = false
is_indirect Long = false
is_indirect Indexed = false
is_indirect ShortIndexed = false
is_indirect LongIndexed = false
is_indirect Relative = false
is_indirect Bit = false
is_indirect BitRelative = false
is_indirect ShortPointer = true
is_indirect LongPointer = true
is_indirect ShortPointerIndexed = true
is_indirect LongPointerIndexed = true
is_indirect RelativePointer = true
is_indirect BitPointer = true
is_indirect BitPointerRelative = true

-- how many bytes follow the opcode
abbrev pub operand_bytes : Mode → ℕ
operand_bytes Inherent = 0
operand_bytes Accumulator = 0
operand_bytes IndexRegister = 0
operand_bytes Immediate = 1
operand_bytes Short = 1
operand_bytes Long = 2
operand_bytes Indexed = 0
operand_bytes ShortIndexed = 1
operand_bytes LongIndexed = 2
operand_bytes Relative = 1
operand_bytes Bit = 1
operand_bytes BitRelative = 2
operand_bytes ShortPointer = 1
operand_bytes LongPointer = 1
operand_bytes ShortPointerIndexed = 1
operand_bytes LongPointerIndexed = 1
operand_bytes RelativePointer = 1
operand_bytes BitPointer = 1
operand_bytes BitPointerRelative = 2
