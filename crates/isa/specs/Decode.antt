-- The instruction at the start of a list of bytes.
use Rattle.std.specs.Prelude.{ℕ, ◌+◌, ◌*◌, ◌/◌, ◌%◌, if◌then◌else◌, List, length, Some, None, Ok, Err, Option, Result, option_map, nat_le, nat_lt, slice_index}
use Rattle.instruction.specs.declared.mode.Mode.{Mode}
use Rattle.instruction.specs.declared.mode.Mode.TheVariants.{Inherent, Accumulator, IndexRegister, Immediate, Short, Long, Indexed, ShortIndexed, LongIndexed, Relative, Bit, BitRelative, ShortPointer, LongPointer, ShortPointerIndexed, LongPointerIndexed, RelativePointer, BitPointer, BitPointerRelative}
use Rattle.instruction.specs.declared.prebyte.Prebyte.{Prebyte}
use Rattle.instruction.specs.declared.instruction.Operand.{Operand}
use Rattle.instruction.specs.declared.instruction.Operand.TheVariants as O
use Rattle.instruction.specs.Modes.{operand_bytes}
use Rattle.instruction.specs.Prebytes.{byte_of, prebyte_at, prebyte_length}
use Rattle.isa.specs.declared.opcode.Form.{Form}
use Rattle.isa.specs.declared.decoder.Decoded.{Decoded}
use Rattle.isa.specs.declared.fault.DecodeFault.{DecodeFault}
use Rattle.isa.specs.declared.fault.DecodeFault.TheVariants.{Void, Outside}
use Rattle.isa.specs.Forms.{form_behind}
use Rattle.isa.specs.Relative.{signed}

-- the bit that an opcode with a bit holds
abbrev pub bit_in : ℕ → ℕ
bit_in n = n % 16 / 2

-- the operand of the opcode n that the bytes a and b follow: words have their high byte first, a pointer or an address comes before an offset
abbrev pub operand_of : Mode → ℕ → ℕ → ℕ → Operand
operand_of Inherent n a b = O.Inherent
operand_of Accumulator n a b = O.Accumulator
operand_of IndexRegister n a b = O.IndexRegister
operand_of Immediate n a b = O.Immediate a
operand_of Short n a b = O.Short a
operand_of Long n a b = O.Long (a * 256 + b)
operand_of Indexed n a b = O.Indexed
operand_of ShortIndexed n a b = O.ShortIndexed a
operand_of LongIndexed n a b = O.LongIndexed (a * 256 + b)
operand_of Relative n a b = O.Relative (signed a)
operand_of Bit n a b = O.Bit (bit_in n) a
operand_of BitRelative n a b = O.BitRelative (bit_in n) a (signed b)
operand_of ShortPointer n a b = O.ShortPointer a
operand_of LongPointer n a b = O.LongPointer a
operand_of ShortPointerIndexed n a b = O.ShortPointerIndexed a
operand_of LongPointerIndexed n a b = O.LongPointerIndexed a
operand_of RelativePointer n a b = O.RelativePointer a
operand_of BitPointer n a b = O.BitPointer (bit_in n) a
operand_of BitPointerRelative n a b = O.BitPointerRelative (bit_in n) a (signed b)

-- the instruction of an opcode n at the place k that stands for f: its operand's bytes have to be there
abbrev pub completed : List ℕ → ℕ → ℕ → Form → Result Decoded DecodeFault
completed bs k n f =
    if nat_lt (length bs) (k + 1 + operand_bytes f.mode)
    then Err Outside
    else Ok (record {
      instruction = record { operation = f.operation; index = f.index; operand = operand_of f.mode n (slice_index bs (k + 1)) (slice_index bs (k + 2)) };
      length = k + 1 + operand_bytes f.mode;
    })

-- an opcode that stands for nothing is void, whatever follows it; the prebyte is told by its byte, if there is one
abbrev pub found : List ℕ → Option Prebyte → ℕ → ℕ → Option Form → Result Decoded DecodeFault
found bs p k n None = Err (Void (record { prebyte = option_map byte_of p; opcode = n }))
found bs p k n (Some f) = completed bs k n f

-- the same with the opcode read at the place k
abbrev pub decode_at : List ℕ → Option Prebyte → ℕ → Result Decoded DecodeFault
decode_at bs p k = if nat_le (length bs) k then Err Outside else found bs p k (slice_index bs k) (form_behind p (slice_index bs k))

-- the instruction at the start of the bytes, and its length; or why there is none. The first byte is a prebyte, or the opcode itself
unfoldable pub decode_of : List ℕ → Result Decoded DecodeFault
decode_of bs = decode_at bs (prebyte_at (slice_index bs 0)) (prebyte_length (prebyte_at (slice_index bs 0)))
