use Rattle.std.specs.Prelude.{ℕ}
use Rattle.instruction.specs.declared.mode.Mode.{Mode}
use Rattle.instruction.specs.declared.mode.Mode.TheVariants.{Inherent, Accumulator, IndexRegister, Immediate, Short, Long, Indexed, ShortIndexed, LongIndexed, Relative, Bit, BitRelative, ShortPointer, LongPointer, ShortPointerIndexed, LongPointerIndexed, RelativePointer, BitPointer, BitPointerRelative}

-- the place of a mode in the order of all modes: the index of its column
abbrev pub mode_number : Mode → ℕ
mode_number Inherent = 0
mode_number Accumulator = 1
mode_number IndexRegister = 2
mode_number Immediate = 3
mode_number Short = 4
mode_number Long = 5
mode_number Indexed = 6
mode_number ShortIndexed = 7
mode_number LongIndexed = 8
mode_number Relative = 9
mode_number Bit = 10
mode_number BitRelative = 11
mode_number ShortPointer = 12
mode_number LongPointer = 13
mode_number ShortPointerIndexed = 14
mode_number LongPointerIndexed = 15
mode_number RelativePointer = 16
mode_number BitPointer = 17
mode_number BitPointerRelative = 18
