-- Where an operation stands in the op-code map.
use Rattle.std.specs.Prelude.{ℕ, ◌+◌, ◌*◌, ◌%◌, ◌<◌, List, [], ◌∷◌, Some, None, Option, slice_index_or}
use Rattle.operation.specs.declared.Operation.{Operation}
use Rattle.operation.specs.declared.Operation.TheVariants.{Sub, Cp, Sbc, CpIndex, And, Bcp, Ld, St, Xor, Adc, Or, Add, Jp, Call, LdIndex, StIndex, Callr, Neg, Cpl, Srl, Rrc, Sra, Sll, Rlc, Dec, Inc, Tnz, Swap, Clr, Mul, Jra, Jrf, Jrugt, Jrule, Jrnc, Jrc, Jrne, Jreq, Jrnh, Jrh, Jrpl, Jrmi, Jrnm, Jrm, Jril, Jrih, Btjt, Btjf, Bset, Bres, Iret, Ret, Trap, PopA, PopIndex, PopCc, PushA, PushIndex, PushCc, Halt, Wfi, LdIndexFromOther, LdSFromIndex, LdSFromA, LdIndexFromS, LdIndexFromA, Rcf, Scf, Rim, Sim, Rsp, Nop, LdAFromS, LdAFromIndex}
use Rattle.instruction.specs.declared.mode.Mode.{Mode}
use Rattle.instruction.specs.Order.{mode_number}
use Rattle.encode.specs.declared.places.Place.{Place}
use Rattle.encode.specs.declared.places.Place.TheVariants.{Accesses, Stores, Changes, Single, Jump, BitWrite, BitJump}

-- the rows that an operation stands in, and its column there; where there is one row only the opcode itself, or that of bit 0
abbrev pub place_of : Operation → Place
place_of Sub = Accesses 0x0
place_of Cp = Accesses 0x1
place_of Sbc = Accesses 0x2
place_of CpIndex = Accesses 0x3
place_of And = Accesses 0x4
place_of Bcp = Accesses 0x5
place_of Ld = Accesses 0x6
place_of St = Stores 0x7
place_of Xor = Accesses 0x8
place_of Adc = Accesses 0x9
place_of Or = Accesses 0xA
place_of Add = Accesses 0xB
place_of Jp = Stores 0xC
place_of Call = Stores 0xD
place_of LdIndex = Accesses 0xE
place_of StIndex = Stores 0xF
place_of Callr = Jump 0xAD
place_of Neg = Changes 0x0
place_of Cpl = Changes 0x3
place_of Srl = Changes 0x4
place_of Rrc = Changes 0x6
place_of Sra = Changes 0x7
place_of Sll = Changes 0x8
place_of Rlc = Changes 0x9
place_of Dec = Changes 0xA
place_of Inc = Changes 0xC
place_of Tnz = Changes 0xD
place_of Swap = Changes 0xE
place_of Clr = Changes 0xF
place_of Mul = Single 0x42
place_of Jra = Jump 0x20
place_of Jrf = Jump 0x21
place_of Jrugt = Jump 0x22
place_of Jrule = Jump 0x23
place_of Jrnc = Jump 0x24
place_of Jrc = Jump 0x25
place_of Jrne = Jump 0x26
place_of Jreq = Jump 0x27
place_of Jrnh = Jump 0x28
place_of Jrh = Jump 0x29
place_of Jrpl = Jump 0x2A
place_of Jrmi = Jump 0x2B
place_of Jrnm = Jump 0x2C
place_of Jrm = Jump 0x2D
place_of Jril = Jump 0x2E
place_of Jrih = Jump 0x2F
place_of Btjt = BitJump 0x0
place_of Btjf = BitJump 0x1
place_of Bset = BitWrite 0x10
place_of Bres = BitWrite 0x11
place_of Iret = Single 0x80
place_of Ret = Single 0x81
place_of Trap = Single 0x83
place_of PopA = Single 0x84
place_of PopIndex = Single 0x85
place_of PopCc = Single 0x86
place_of PushA = Single 0x88
place_of PushIndex = Single 0x89
place_of PushCc = Single 0x8A
place_of Halt = Single 0x8E
place_of Wfi = Single 0x8F
place_of LdIndexFromOther = Single 0x93
place_of LdSFromIndex = Single 0x94
place_of LdSFromA = Single 0x95
place_of LdIndexFromS = Single 0x96
place_of LdIndexFromA = Single 0x97
place_of Rcf = Single 0x98
place_of Scf = Single 0x99
place_of Rim = Single 0x9A
place_of Sim = Single 0x9B
place_of Rsp = Single 0x9C
place_of Nop = Single 0x9D
place_of LdAFromS = Single 0x9E
place_of LdAFromIndex = Single 0x9F

-- the column of a place, or its opcode
abbrev pub column : Place → ℕ
column (Accesses c) = c
column (Stores c) = c
column (Changes c) = c
column (Single n) = n
column (Jump n) = n
column (BitWrite n) = n
column (BitJump n) = n

-- a row has sixteen columns, and the opcodes of the eight bits lie in two rows at most
abbrev pub InRow : Place → Type 0
InRow (Accesses c) = c < 16
InRow (Stores c) = c < 16
InRow (Changes c) = c < 16
InRow (Single n) = Unit {0}
InRow (Jump n) = Unit {0}
InRow (BitWrite n) = n < 32
InRow (BitJump n) = n < 32

-- the first opcode of each mode's row, in the order of the modes:
--   inherent, A, X, #byte, short, long, (X), (short,X), (long,X), relative, bit, bit and relative
-- a bit has two opcodes of its row
abbrev pub row_starts : Place → ℕ → List (Option ℕ)
row_starts (Accesses c) k = None ∷ None ∷ None ∷ Some 0xA0 ∷ Some 0xB0 ∷ Some 0xC0 ∷ Some 0xF0 ∷ Some 0xE0 ∷ Some 0xD0 ∷ []
row_starts (Stores c) k = None ∷ None ∷ None ∷ None ∷ Some 0xB0 ∷ Some 0xC0 ∷ Some 0xF0 ∷ Some 0xE0 ∷ Some 0xD0 ∷ []
row_starts (Changes c) k = None ∷ Some 0x40 ∷ Some 0x50 ∷ None ∷ Some 0x30 ∷ None ∷ Some 0x70 ∷ Some 0x60 ∷ []
row_starts (Single n) k = Some 0 ∷ []
row_starts (Jump n) k = None ∷ None ∷ None ∷ None ∷ None ∷ None ∷ None ∷ None ∷ None ∷ Some 0 ∷ []
row_starts (BitWrite n) k = None ∷ None ∷ None ∷ None ∷ None ∷ None ∷ None ∷ None ∷ None ∷ None ∷ Some (2 * k) ∷ []
row_starts (BitJump n) k = None ∷ None ∷ None ∷ None ∷ None ∷ None ∷ None ∷ None ∷ None ∷ None ∷ None ∷ Some (2 * k) ∷ []

-- the first opcode of the row of a direct mode, if there is such a row
abbrev pub row_start : Place → Mode → ℕ → Option ℕ
row_start p m k = slice_index_or (row_starts p k) (mode_number m) None

-- the opcode in a column of a row; no column of the map passes $FF, so the remainder changes nothing
abbrev pub in_row : ℕ → Option ℕ → Option ℕ
in_row column None = None
in_row column (Some start) = Some ((start + column) % 256)

-- the opcode of an operation in a direct mode, for the bit k
abbrev pub opcode_in : Operation → Mode → ℕ → Option ℕ
opcode_in o m k = in_row (column (place_of o)) (row_start (place_of o) m k)
