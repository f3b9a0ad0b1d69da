-- Prebytes: $90 puts Y for X, $92 puts a pointer in the place of the operand, $91 does both.
use Rattle.std.specs.Prelude.{ℕ, Bool, true, false, if◌then◌else◌, Some, None, Option, ◌==◌}
use Rattle.instruction.specs.declared.mode.Index.{Index}
use Rattle.instruction.specs.declared.mode.Index.TheVariants.{X, Y}
use Rattle.instruction.specs.declared.prebyte.Prebyte.{Prebyte}
use Rattle.instruction.specs.declared.prebyte.Prebyte.TheVariants as P

-- the byte of a prebyte
abbrev pub byte_of : Prebyte → ℕ
byte_of P.Y = 0x90
byte_of P.PointerY = 0x91
byte_of P.Pointer = 0x92

-- the prebyte that a byte is, if it is one
abbrev pub prebyte_at : ℕ → Option Prebyte
prebyte_at b = if b == 0x90 then Some P.Y else (if b == 0x91 then Some P.PointerY else (if b == 0x92 then Some P.Pointer else None))

-- the index register behind a prebyte
abbrev pub index_of : Prebyte → Index
index_of P.Y = Y
index_of P.PointerY = Y
index_of P.Pointer = X

-- whether a pointer stands in the place of the operand behind a prebyte
abbrev pub has_pointer : Prebyte → Bool
has_pointer P.Y = false
has_pointer P.PointerY = true
has_pointer P.Pointer = true

-- the cycles that a prebyte adds
abbrev pub cycles_added : Prebyte → ℕ
cycles_added P.Y = 1
cycles_added P.PointerY = 2
cycles_added P.Pointer = 2

-- the prebyte of an instruction, by its index register and by whether a pointer stands in the place of its operand
abbrev pub prebyte_for : Index → Bool → Option Prebyte
prebyte_for X false = None
prebyte_for Y false = Some P.Y
prebyte_for Y true = Some P.PointerY
prebyte_for X true = Some P.Pointer

-- the index register behind a prebyte or, without one, X
abbrev pub index_behind : Option Prebyte → Index
index_behind None = X
index_behind (Some p) = index_of p

-- whether a pointer stands in the place of the operand: only behind a prebyte
abbrev pub pointer_behind : Option Prebyte → Bool
pointer_behind None = false
pointer_behind (Some p) = has_pointer p

-- the cycles that a prebyte adds, if there is one: 1 for $90, and 2 for $91 and $92, which stand for a pointer
abbrev pub prebyte_cycles : Option Prebyte → ℕ
prebyte_cycles None = 0
prebyte_cycles (Some p) = cycles_added p

-- the bytes that a prebyte adds, if there is one
abbrev pub prebyte_length : Option Prebyte → ℕ
prebyte_length None = 0
prebyte_length (Some p) = 1
