-- The bytes of an instruction.
use Rattle.std.specs.Prelude.{ℕ, ◌/◌, ◌%◌, if◌then◌else◌, List, [], ◌∷◌, ◌++◌, Some, None, Option, nat_lt}
use Rattle.std.specs.Int.{cast_unsigned, w8}
use Rattle.instruction.specs.declared.prebyte.Prebyte.{Prebyte}
use Rattle.instruction.specs.declared.instruction.Operand.{Operand}
use Rattle.instruction.specs.declared.instruction.Operand.TheVariants as O
use Rattle.instruction.specs.declared.instruction.Instruction.{Instruction}
use Rattle.instruction.specs.Modes.{mode_of, direct_of}
use Rattle.instruction.specs.Prebytes.{byte_of}
use Rattle.instruction.specs.Rows.{prebyte_of}
use Rattle.isa.specs.Forms.{allowed}
use Rattle.encode.specs.Places.{opcode_in}

-- the bit of an operand, 0 where it has none
abbrev pub bit_of : Operand → ℕ
bit_of O.Inherent = 0
bit_of O.Accumulator = 0
bit_of O.IndexRegister = 0
bit_of (O.Immediate a) = 0
bit_of (O.Short a) = 0
bit_of (O.Long w) = 0
bit_of O.Indexed = 0
bit_of (O.ShortIndexed a) = 0
bit_of (O.LongIndexed w) = 0
bit_of (O.Relative z) = 0
bit_of (O.Bit k a) = k
bit_of (O.BitRelative k a z) = k
bit_of (O.ShortPointer a) = 0
bit_of (O.LongPointer a) = 0
bit_of (O.ShortPointerIndexed a) = 0
bit_of (O.LongPointerIndexed a) = 0
bit_of (O.RelativePointer a) = 0
bit_of (O.BitPointer k a) = k
bit_of (O.BitPointerRelative k a z) = k

-- the bytes after the opcode: words with their high byte first, an address or a pointer before an offset
abbrev pub tail_of : Operand → List ℕ
tail_of O.Inherent = []
tail_of O.Accumulator = []
tail_of O.IndexRegister = []
tail_of (O.Immediate a) = a ∷ []
tail_of (O.Short a) = a ∷ []
tail_of (O.Long w) = w / 256 ∷ w % 256 ∷ []
tail_of O.Indexed = []
tail_of (O.ShortIndexed a) = a ∷ []
tail_of (O.LongIndexed w) = w / 256 ∷ w % 256 ∷ []
tail_of (O.Relative z) = cast_unsigned w8 z ∷ []
tail_of (O.Bit k a) = a ∷ []
tail_of (O.BitRelative k a z) = a ∷ cast_unsigned w8 z ∷ []
tail_of (O.ShortPointer a) = a ∷ []
tail_of (O.LongPointer a) = a ∷ []
tail_of (O.ShortPointerIndexed a) = a ∷ []
tail_of (O.LongPointerIndexed a) = a ∷ []
tail_of (O.RelativePointer a) = a ∷ []
tail_of (O.BitPointer k a) = a ∷ []
tail_of (O.BitPointerRelative k a z) = a ∷ cast_unsigned w8 z ∷ []

-- the prebyte as a list of one byte, or of none
abbrev pub prefix : Option Prebyte → List ℕ
prefix None = []
prefix (Some p) = byte_of p ∷ []

-- the opcode of an instruction, if its operation has such a mode and its bit is 0 to 7
abbrev pub opcode_of : Instruction → Option ℕ
opcode_of i = if nat_lt (bit_of i.operand) 8 then opcode_in i.operation (direct_of (mode_of i.operand)) (bit_of i.operand) else None

-- prebyte, opcode and operand, if the index register may stand there
abbrev pub written : Instruction → Option ℕ → Option (List ℕ)
written i None = None
written i (Some n) =
    if allowed i.index i.operation (direct_of (mode_of i.operand))
    then Some (prefix (prebyte_of i) ++ (n ∷ tail_of i.operand))
    else None

-- the bytes of an instruction; none of a value that is no instruction
unfoldable pub encode_of : Instruction → Option (List ℕ)
encode_of i = written i (opcode_of i)
