-- Encoder and decoder undo each other.
use Rattle.std.specs.Prelude.{◌≡◌, ℕ, List, ◌++◌, length, take, Some, Ok, FitsSigned}
use Rattle.std.specs.Int.{w8}
use Rattle.instruction.specs.declared.instruction.Operand.{Operand}
use Rattle.instruction.specs.declared.instruction.Operand.TheVariants as O
use Rattle.instruction.specs.declared.instruction.Instruction.{Instruction}
use Rattle.isa.specs.declared.decoder.Decoded.{Decoded}
use Rattle.isa.specs.Decode.{decode_of}
use Rattle.encode.specs.Encode.{encode_of}

-- a relative offset is a signed byte, as its type in the code says: -128 to 127
abbrev pub Signed : Operand → Type 0
Signed O.Inherent = Unit {0}
Signed O.Accumulator = Unit {0}
Signed O.IndexRegister = Unit {0}
Signed (O.Immediate a) = Unit {0}
Signed (O.Short a) = Unit {0}
Signed (O.Long w) = Unit {0}
Signed O.Indexed = Unit {0}
Signed (O.ShortIndexed a) = Unit {0}
Signed (O.LongIndexed w) = Unit {0}
Signed (O.Relative z) = FitsSigned w8 z
Signed (O.Bit k a) = Unit {0}
Signed (O.BitRelative k a z) = FitsSigned w8 z
Signed (O.ShortPointer a) = Unit {0}
Signed (O.LongPointer a) = Unit {0}
Signed (O.ShortPointerIndexed a) = Unit {0}
Signed (O.LongPointerIndexed a) = Unit {0}
Signed (O.RelativePointer a) = Unit {0}
Signed (O.BitPointer k a) = Unit {0}
Signed (O.BitPointerRelative k a z) = FitsSigned w8 z

-- an instruction that has bytes is decoded from them, with their number, whatever follows
abbrev pub ReadsBack : Instruction → Type 0
ReadsBack i =
    (bs rest : List ℕ) → encode_of i ≡ Some bs → decode_of (bs ++ rest) ≡ Ok (record { instruction = i; length = length bs })

-- an instruction that was decoded from bytes has exactly those that were taken
abbrev pub WritesBack : List ℕ → Type 0
WritesBack bs = (d : Decoded) → decode_of bs ≡ Ok d → encode_of d.instruction ≡ Some (take d.length bs)
