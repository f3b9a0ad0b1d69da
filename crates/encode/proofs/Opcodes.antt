-- The op-code map and the places of the operations undo each other.
use Rattle.std.proofs.Common.{◌≡◌, ℕ, ◌<◌, cond, ltb, map, Some, None, Option, refl, arith}
use Rattle.std.specs.List.{range_with_len}
use Rattle.operation.specs.declared.Operation.{Operation}
use Rattle.operation.proofs.Order.{all, same_everywhere}
use Rattle.instruction.specs.declared.mode.Mode.{Mode}
use Rattle.instruction.specs.declared.mode.Mode.TheVariants.{Inherent, Accumulator, IndexRegister, Immediate, Short, Long, Indexed, ShortIndexed, LongIndexed, Relative, Bit, BitRelative, ShortPointer, LongPointer, ShortPointerIndexed, LongPointerIndexed, RelativePointer, BitPointer, BitPointerRelative}
use Rattle.instruction.specs.Order.{mode_number}
use Rattle.isa.specs.Map.{Plain, plain_at, at}
use Rattle.isa.specs.Decode.{bit_in, operand_of}
use Rattle.isa.proofs.Below.{same_below}
use Rattle.encode.specs.Places.{opcode_in}
use Rattle.encode.specs.Encode.{bit_of}

-- one opcode, through the map and back
abbrev pub again : ℕ → Option Plain → Option ℕ
again n None = Some n
again n (Some (o, m)) = opcode_in o m (bit_of (operand_of m n 0 0))

pub opcode_again : (n : ℕ) → n < 256 → again n (plain_at n) ≡ Some n
opcode_again n h = same_below (λ n. again n (plain_at n)) Some 256 refl n h

-- the bit that an opcode holds, and b in the direct modes that have no bit, which stand before the two that have one
abbrev pub bit_or : Mode → ℕ → ℕ → ℕ
bit_or m n b = cond (ltb (mode_number m) (mode_number Bit)) b (bit_in n)

-- one operation in one mode, through the places and back
abbrev pub Backed : Operation → Mode → ℕ → Option ℕ → Type 0
Backed o m b None = Unit {0}
Backed o m b (Some n) = (plain_at n ≡ at m o) × (bit_or m n b ≡ b)

-- what the map has at an opcode, with the bit there, and what it is to have
abbrev has : Mode → ℕ → Option ℕ → Option (Option Plain × ℕ)
has m b None = None
has m b (Some n) = Some (plain_at n, bit_or m n b)

abbrev is_to_have : Operation → Mode → ℕ → Option ℕ → Option (Option Plain × ℕ)
is_to_have o m b None = None
is_to_have o m b (Some n) = Some (at m o, b)

abbrev had : Mode → ℕ → Operation → Option (Option Plain × ℕ)
had m b o = has m b (opcode_in o m b)

abbrev due : Mode → ℕ → Operation → Option (Option Plain × ℕ)
due m b o = is_to_have o m b (opcode_in o m b)

-- a line for each mode: over all of them `grind` stops at its limit of case splits
in_mode : (m : Mode) → map (λ b. map (had m b) all) (range_with_len 0 8) ≡ map (λ b. map (due m b) all) (range_with_len 0 8)
in_mode Inherent = refl
in_mode Accumulator = refl
in_mode IndexRegister = refl
in_mode Immediate = refl
in_mode Short = refl
in_mode Long = refl
in_mode Indexed = refl
in_mode ShortIndexed = refl
in_mode LongIndexed = refl
in_mode Relative = refl
in_mode Bit = refl
in_mode BitRelative = refl
in_mode ShortPointer = refl
in_mode LongPointer = refl
in_mode ShortPointerIndexed = refl
in_mode LongPointerIndexed = refl
in_mode RelativePointer = refl
in_mode BitPointer = refl
in_mode BitPointerRelative = refl

backed : (o : Operation) (m : Mode) (b : ℕ) (w : Option ℕ) → has m b w ≡ is_to_have o m b w → Backed o m b w
backed o m b w e = grind arith

pub right : (o : Operation) (m : Mode) (b : ℕ) → b < 8 → Backed o m b (opcode_in o m b)
right o m b h =
    backed o m b (opcode_in o m b)
    (same_everywhere (had m b) (due m b) (same_below (λ b. map (had m b) all) (λ b. map (due m b) all) 8 (in_mode m) b h) o)
