-- Lengths and cycles. The columns of a row are the modes in their order:
--   inherent, A, X, #byte, short, long, (X), (short,X), (long,X), relative, bit, bit and relative, and then for lengths
--   [short], [long.w], ([short],X), ([long.w],X), [relative], [bit], [bit] and relative.
-- 0 stands where the operation has no such mode.
use Rattle.std.specs.Prelude.{ℕ, ◌+◌, if◌then◌else◌, List, [], ◌∷◌, Option, ◌==◌, slice_index}
use Rattle.operation.specs.declared.Operation.{Operation}
use Rattle.operation.specs.declared.Operation.TheVariants.{Sub, Cp, Sbc, CpIndex, And, Bcp, Ld, St, Xor, Adc, Or, Add, Jp, Call, LdIndex, StIndex, Callr, Neg, Cpl, Srl, Rrc, Sra, Sll, Rlc, Dec, Inc, Tnz, Swap, Clr, Mul, Jra, Jrf, Jrugt, Jrule, Jrnc, Jrc, Jrne, Jreq, Jrnh, Jrh, Jrpl, Jrmi, Jrnm, Jrm, Jril, Jrih, Btjt, Btjf, Bset, Bres, Iret, Ret, Trap, PopA, PopIndex, PopCc, PushA, PushIndex, PushCc, Halt, Wfi, LdIndexFromOther, LdSFromIndex, LdSFromA, LdIndexFromS, LdIndexFromA, Rcf, Scf, Rim, Sim, Rsp, Nop, LdAFromS, LdAFromIndex}
use Rattle.instruction.specs.declared.mode.Mode.{Mode}
use Rattle.instruction.specs.declared.prebyte.Prebyte.{Prebyte}
use Rattle.instruction.specs.declared.instruction.Instruction.{Instruction}
use Rattle.instruction.specs.Order.{mode_number}
use Rattle.instruction.specs.Modes.{mode_of, direct_of, is_indirect}
use Rattle.instruction.specs.Prebytes.{prebyte_for, prebyte_cycles, prebyte_length}

-- cycles where an operand is read into a register
abbrev pub reading : List ℕ
reading = 0 ∷ 0 ∷ 0 ∷ 2 ∷ 3 ∷ 4 ∷ 3 ∷ 4 ∷ 5 ∷ 0 ∷ 0 ∷ 0 ∷ []

-- cycles where a register is stored
abbrev pub storing : List ℕ
storing = 0 ∷ 0 ∷ 0 ∷ 0 ∷ 4 ∷ 5 ∷ 4 ∷ 5 ∷ 6 ∷ 0 ∷ 0 ∷ 0 ∷ []

-- cycles of JP
abbrev pub jumping : List ℕ
jumping = 0 ∷ 0 ∷ 0 ∷ 0 ∷ 2 ∷ 3 ∷ 2 ∷ 3 ∷ 4 ∷ 0 ∷ 0 ∷ 0 ∷ []

-- cycles of CALL
abbrev pub calling : List ℕ
calling = 0 ∷ 0 ∷ 0 ∷ 0 ∷ 5 ∷ 6 ∷ 5 ∷ 6 ∷ 7 ∷ 0 ∷ 0 ∷ 0 ∷ []

-- cycles where a register or a byte is read, changed and written back
abbrev pub changing : List ℕ
changing = 0 ∷ 3 ∷ 3 ∷ 0 ∷ 5 ∷ 0 ∷ 5 ∷ 6 ∷ 0 ∷ 0 ∷ 0 ∷ 0 ∷ []

-- cycles of TNZ, which writes nothing back
abbrev pub testing : List ℕ
testing = 0 ∷ 3 ∷ 3 ∷ 0 ∷ 4 ∷ 0 ∷ 4 ∷ 5 ∷ 0 ∷ 0 ∷ 0 ∷ 0 ∷ []

-- cycles where there is no operand
abbrev pub inherent : ℕ → List ℕ
inherent c = c ∷ 0 ∷ 0 ∷ 0 ∷ 0 ∷ 0 ∷ 0 ∷ 0 ∷ 0 ∷ 0 ∷ 0 ∷ 0 ∷ []

-- cycles where there is a relative offset
abbrev pub relative : ℕ → List ℕ
relative c = 0 ∷ 0 ∷ 0 ∷ 0 ∷ 0 ∷ 0 ∷ 0 ∷ 0 ∷ 0 ∷ c ∷ 0 ∷ 0 ∷ []

-- cycles where there is a bit
abbrev pub bit : ℕ → List ℕ
bit c = 0 ∷ 0 ∷ 0 ∷ 0 ∷ 0 ∷ 0 ∷ 0 ∷ 0 ∷ 0 ∷ 0 ∷ c ∷ 0 ∷ []

-- cycles where there is a bit and a relative offset
abbrev pub bit_relative : ℕ → List ℕ
bit_relative c = 0 ∷ 0 ∷ 0 ∷ 0 ∷ 0 ∷ 0 ∷ 0 ∷ 0 ∷ 0 ∷ 0 ∷ 0 ∷ c ∷ []

-- the cycles of an operation in each direct mode
abbrev pub cycle_row : Operation → List ℕ
cycle_row Sub = reading
cycle_row Cp = reading
cycle_row Sbc = reading
cycle_row CpIndex = reading
cycle_row And = reading
cycle_row Bcp = reading
cycle_row Ld = reading
cycle_row St = storing
cycle_row Xor = reading
cycle_row Adc = reading
cycle_row Or = reading
cycle_row Add = reading
cycle_row Jp = jumping
cycle_row Call = calling
cycle_row LdIndex = reading
cycle_row StIndex = storing
cycle_row Callr = relative 6
cycle_row Neg = changing
cycle_row Cpl = changing
cycle_row Srl = changing
cycle_row Rrc = changing
cycle_row Sra = changing
cycle_row Sll = changing
cycle_row Rlc = changing
cycle_row Dec = changing
cycle_row Inc = changing
cycle_row Tnz = testing
cycle_row Swap = changing
cycle_row Clr = changing
cycle_row Mul = inherent 11
cycle_row Jra = relative 3
cycle_row Jrf = relative 3
cycle_row Jrugt = relative 3
cycle_row Jrule = relative 3
cycle_row Jrnc = relative 3
cycle_row Jrc = relative 3
cycle_row Jrne = relative 3
cycle_row Jreq = relative 3
cycle_row Jrnh = relative 3
cycle_row Jrh = relative 3
cycle_row Jrpl = relative 3
cycle_row Jrmi = relative 3
cycle_row Jrnm = relative 3
cycle_row Jrm = relative 3
cycle_row Jril = relative 3
cycle_row Jrih = relative 3
cycle_row Btjt = bit_relative 5
cycle_row Btjf = bit_relative 5
cycle_row Bset = bit 5
cycle_row Bres = bit 5
cycle_row Iret = inherent 9
cycle_row Ret = inherent 6
cycle_row Trap = inherent 10
cycle_row PopA = inherent 4
cycle_row PopIndex = inherent 4
cycle_row PopCc = inherent 4
cycle_row PushA = inherent 3
cycle_row PushIndex = inherent 3
cycle_row PushCc = inherent 3
cycle_row Halt = inherent 2
cycle_row Wfi = inherent 2
cycle_row LdIndexFromOther = inherent 2
cycle_row LdSFromIndex = inherent 2
cycle_row LdSFromA = inherent 2
cycle_row LdIndexFromS = inherent 2
cycle_row LdIndexFromA = inherent 2
cycle_row Rcf = inherent 2
cycle_row Scf = inherent 2
cycle_row Rim = inherent 2
cycle_row Sim = inherent 2
cycle_row Rsp = inherent 2
cycle_row Nop = inherent 2
cycle_row LdAFromS = inherent 2
cycle_row LdAFromIndex = inherent 2

-- lengths, with the opcode and without a prebyte, where an operand is read into a register
abbrev pub reading_length : List ℕ
reading_length = 0 ∷ 0 ∷ 0 ∷ 2 ∷ 2 ∷ 3 ∷ 1 ∷ 2 ∷ 3 ∷ 0 ∷ 0 ∷ 0 ∷ 2 ∷ 2 ∷ 2 ∷ 2 ∷ 0 ∷ 0 ∷ 0 ∷ []

-- lengths where a register is stored, and of JP and CALL: there is no immediate operand
abbrev pub storing_length : List ℕ
storing_length = 0 ∷ 0 ∷ 0 ∷ 0 ∷ 2 ∷ 3 ∷ 1 ∷ 2 ∷ 3 ∷ 0 ∷ 0 ∷ 0 ∷ 2 ∷ 2 ∷ 2 ∷ 2 ∷ 0 ∷ 0 ∷ 0 ∷ []

-- lengths where a register or a byte is read, changed and written back, and of TNZ
abbrev pub changing_length : List ℕ
changing_length = 0 ∷ 1 ∷ 1 ∷ 0 ∷ 2 ∷ 0 ∷ 1 ∷ 2 ∷ 0 ∷ 0 ∷ 0 ∷ 0 ∷ 2 ∷ 0 ∷ 2 ∷ 0 ∷ 0 ∷ 0 ∷ 0 ∷ []

-- lengths where there is no operand
abbrev pub inherent_length : List ℕ
inherent_length = 1 ∷ 0 ∷ 0 ∷ 0 ∷ 0 ∷ 0 ∷ 0 ∷ 0 ∷ 0 ∷ 0 ∷ 0 ∷ 0 ∷ 0 ∷ 0 ∷ 0 ∷ 0 ∷ 0 ∷ 0 ∷ 0 ∷ []

-- lengths where there is a relative offset
abbrev pub relative_length : List ℕ
relative_length = 0 ∷ 0 ∷ 0 ∷ 0 ∷ 0 ∷ 0 ∷ 0 ∷ 0 ∷ 0 ∷ 2 ∷ 0 ∷ 0 ∷ 0 ∷ 0 ∷ 0 ∷ 0 ∷ 2 ∷ 0 ∷ 0 ∷ []

-- lengths where there is a bit
abbrev pub bit_length : List ℕ
bit_length = 0 ∷ 0 ∷ 0 ∷ 0 ∷ 0 ∷ 0 ∷ 0 ∷ 0 ∷ 0 ∷ 0 ∷ 2 ∷ 0 ∷ 0 ∷ 0 ∷ 0 ∷ 0 ∷ 0 ∷ 2 ∷ 0 ∷ []

-- lengths where there is a bit and a relative offset
abbrev pub bit_relative_length : List ℕ
bit_relative_length = 0 ∷ 0 ∷ 0 ∷ 0 ∷ 0 ∷ 0 ∷ 0 ∷ 0 ∷ 0 ∷ 0 ∷ 0 ∷ 3 ∷ 0 ∷ 0 ∷ 0 ∷ 0 ∷ 0 ∷ 0 ∷ 3 ∷ []

-- the length of an operation in each mode
abbrev pub length_row : Operation → List ℕ
length_row Sub = reading_length
length_row Cp = reading_length
length_row Sbc = reading_length
length_row CpIndex = reading_length
length_row And = reading_length
length_row Bcp = reading_length
length_row Ld = reading_length
length_row St = storing_length
length_row Xor = reading_length
length_row Adc = reading_length
length_row Or = reading_length
length_row Add = reading_length
length_row Jp = storing_length
length_row Call = storing_length
length_row LdIndex = reading_length
length_row StIndex = storing_length
length_row Callr = relative_length
length_row Neg = changing_length
length_row Cpl = changing_length
length_row Srl = changing_length
length_row Rrc = changing_length
length_row Sra = changing_length
length_row Sll = changing_length
length_row Rlc = changing_length
length_row Dec = changing_length
length_row Inc = changing_length
length_row Tnz = changing_length
length_row Swap = changing_length
length_row Clr = changing_length
length_row Mul = inherent_length
length_row Jra = relative_length
length_row Jrf = relative_length
length_row Jrugt = relative_length
length_row Jrule = relative_length
length_row Jrnc = relative_length
length_row Jrc = relative_length
length_row Jrne = relative_length
length_row Jreq = relative_length
length_row Jrnh = relative_length
length_row Jrh = relative_length
length_row Jrpl = relative_length
length_row Jrmi = relative_length
length_row Jrnm = relative_length
length_row Jrm = relative_length
length_row Jril = relative_length
length_row Jrih = relative_length
length_row Btjt = bit_relative_length
length_row Btjf = bit_relative_length
length_row Bset = bit_length
length_row Bres = bit_length
length_row Iret = inherent_length
length_row Ret = inherent_length
length_row Trap = inherent_length
length_row PopA = inherent_length
length_row PopIndex = inherent_length
length_row PopCc = inherent_length
length_row PushA = inherent_length
length_row PushIndex = inherent_length
length_row PushCc = inherent_length
length_row Halt = inherent_length
length_row Wfi = inherent_length
length_row LdIndexFromOther = inherent_length
length_row LdSFromIndex = inherent_length
length_row LdSFromA = inherent_length
length_row LdIndexFromS = inherent_length
length_row LdIndexFromA = inherent_length
length_row Rcf = inherent_length
length_row Scf = inherent_length
length_row Rim = inherent_length
length_row Sim = inherent_length
length_row Rsp = inherent_length
length_row Nop = inherent_length
length_row LdAFromS = inherent_length
length_row LdAFromIndex = inherent_length

-- the cycles of an operation in a direct mode, without a prebyte; 0 where there is no such instruction, and in the indirect modes
abbrev pub row_cycles : Operation → Mode → ℕ
row_cycles o m = slice_index (cycle_row o) (mode_number m)

-- the bytes of an operation's opcode and operand in a mode; 0 where there is no such instruction
abbrev pub row_length : Operation → Mode → ℕ
row_length o m = slice_index (length_row o) (mode_number m)

-- a number of a row with what a prebyte adds to it; where the row has none there is nothing to add to
abbrev pub with_prebyte : ℕ → ℕ → ℕ
with_prebyte n more = if n == 0 then 0 else n + more

-- the prebyte of an instruction, if it has one
abbrev pub prebyte_of : Instruction → Option Prebyte
prebyte_of i = prebyte_for i.index (is_indirect (mode_of i.operand))

-- the cycles that an instruction takes
unfoldable pub cycles_of : Instruction → ℕ
cycles_of i = with_prebyte (row_cycles i.operation (direct_of (mode_of i.operand))) (prebyte_cycles (prebyte_of i))

-- the bytes that an instruction has
unfoldable pub length_of : Instruction → ℕ
length_of i = with_prebyte (row_length i.operation (mode_of i.operand)) (prebyte_length (prebyte_of i))
