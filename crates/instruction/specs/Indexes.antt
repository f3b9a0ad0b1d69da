use Rattle.std.specs.Prelude.{Bool, true, false}
use Rattle.instruction.specs.declared.mode.Mode.{Mode}
use Rattle.instruction.specs.declared.mode.Mode.TheVariants.{Inherent, Accumulator, IndexRegister, Immediate, Short, Long, Indexed, ShortIndexed, LongIndexed, Relative, Bit, BitRelative, ShortPointer, LongPointer, ShortPointerIndexed, LongPointerIndexed, RelativePointer, BitPointer, BitPointerRelative}

-- whether a mode finds its operand by an index register, or in one
abbrev pub is_indexed : Mode → Bool
is_indexed Inherent = false
is_indexed Accumulator = false
is_indexed IndexRegister = true
is_indexed Immediate = false
is_indexed Short = false
is_indexed Long = false
is_indexed Indexed = true
is_indexed ShortIndexed = true
is_indexed LongIndexed = true
is_indexed Relative = false
is_indexed Bit = false
is_indexed BitRelative = false
is_indexed ShortPointer = false
is_indexed LongPointer = false
is_indexed ShortPointerIndexed = true
is_indexed LongPointerIndexed = true
is_indexed RelativePointer = false
is_indexed BitPointer = false
is_indexed BitPointerRelative = false
