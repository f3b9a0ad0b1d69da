-- The op-code map: what each opcode without a prebyte stands for. Its high digit is the row, its low digit the column.
use Rattle.std.specs.Prelude.{ℕ, ◌/◌, ◌%◌, List, [], ◌∷◌, map, Some, None, Option, slice_index_or, slice_set}
use Rattle.operation.specs.declared.Operation.{Operation}
use Rattle.operation.specs.declared.Operation.TheVariants.{Sub, Cp, Sbc, CpIndex, And, Bcp, Ld, St, Xor, Adc, Or, Add, Jp, Call, LdIndex, StIndex, Callr, Neg, Cpl, Srl, Rrc, Sra, Sll, Rlc, Dec, Inc, Tnz, Swap, Clr, Mul, Jra, Jrf, Jrugt, Jrule, Jrnc, Jrc, Jrne, Jreq, Jrnh, Jrh, Jrpl, Jrmi, Jrnm, Jrm, Jril, Jrih, Btjt, Btjf, Bset, Bres, Iret, Ret, Trap, PopA, PopIndex, PopCc, PushA, PushIndex, PushCc, Halt, Wfi, LdIndexFromOther, LdSFromIndex, LdSFromA, LdIndexFromS, LdIndexFromA, Rcf, Scf, Rim, Sim, Rsp, Nop, LdAFromS, LdAFromIndex}
use Rattle.instruction.specs.declared.mode.Mode.{Mode}
use Rattle.instruction.specs.declared.mode.Mode.TheVariants.{Inherent, Accumulator, IndexRegister, Immediate, Short, Long, Indexed, ShortIndexed, LongIndexed, Relative, Bit, BitRelative}

-- what an opcode without a prebyte stands for: an operation in a mode
abbrev pub Plain : Type 0
Plain = Operation × Mode

-- an operation in a mode, in a column of the map
abbrev pub at : Mode → Operation → Option Plain
at m o = Some (o, m)

-- the same of a column that may be empty
abbrev pub placed : Mode → Option Operation → Option Plain
placed m (Some o) = at m o
placed m None = None

-- a row of columns, all in one mode
abbrev pub row : Mode → List (Option Operation) → List (Option Plain)
row m = map (placed m)

-- row 0: for bits 0 to 7, jump if the bit is set, jump if it is clear
abbrev pub bit_jumps : List (Option Operation)
bit_jumps = Some Btjt ∷ Some Btjf ∷ Some Btjt ∷ Some Btjf ∷ Some Btjt ∷ Some Btjf ∷ Some Btjt ∷ Some Btjf ∷ Some Btjt ∷ Some Btjf ∷ Some Btjt ∷ Some Btjf ∷ Some Btjt ∷ Some Btjf ∷ Some Btjt ∷ Some Btjf ∷ []

-- row 1: for bits 0 to 7, set the bit, clear it
abbrev pub bit_writes : List (Option Operation)
bit_writes = Some Bset ∷ Some Bres ∷ Some Bset ∷ Some Bres ∷ Some Bset ∷ Some Bres ∷ Some Bset ∷ Some Bres ∷ Some Bset ∷ Some Bres ∷ Some Bset ∷ Some Bres ∷ Some Bset ∷ Some Bres ∷ Some Bset ∷ Some Bres ∷ []

-- row 2: relative jumps
abbrev pub jumps : List (Option Operation)
jumps = Some Jra ∷ Some Jrf ∷ Some Jrugt ∷ Some Jrule ∷ Some Jrnc ∷ Some Jrc ∷ Some Jrne ∷ Some Jreq ∷ Some Jrnh ∷ Some Jrh ∷ Some Jrpl ∷ Some Jrmi ∷ Some Jrnm ∷ Some Jrm ∷ Some Jril ∷ Some Jrih ∷ []

-- rows 3 to 7: one operand is read, changed and written back, or tested
abbrev pub changes : List (Option Operation)
changes = Some Neg ∷ None ∷ None ∷ Some Cpl ∷ Some Srl ∷ None ∷ Some Rrc ∷ Some Sra ∷ Some Sll ∷ Some Rlc ∷ Some Dec ∷ None ∷ Some Inc ∷ Some Tnz ∷ Some Swap ∷ Some Clr ∷ []

-- row 8: returns, TRAP, the stack, HALT and WFI
abbrev pub stack_moves : List (Option Operation)
stack_moves = Some Iret ∷ Some Ret ∷ None ∷ Some Trap ∷ Some PopA ∷ Some PopIndex ∷ Some PopCc ∷ None ∷ Some PushA ∷ Some PushIndex ∷ Some PushCc ∷ None ∷ None ∷ None ∷ Some Halt ∷ Some Wfi ∷ []

-- row 9: transfers between registers, flags, RSP and NOP; prebytes stand in its first three columns
abbrev pub transfers : List (Option Operation)
transfers = None ∷ None ∷ None ∷ Some LdIndexFromOther ∷ Some LdSFromIndex ∷ Some LdSFromA ∷ Some LdIndexFromS ∷ Some LdIndexFromA ∷ Some Rcf ∷ Some Scf ∷ Some Rim ∷ Some Sim ∷ Some Rsp ∷ Some Nop ∷ Some LdAFromS ∷ Some LdAFromIndex ∷ []

-- row A: an immediate operand. Nothing is stored there and no jump goes there
abbrev pub immediates : List (Option Operation)
immediates = Some Sub ∷ Some Cp ∷ Some Sbc ∷ Some CpIndex ∷ Some And ∷ Some Bcp ∷ Some Ld ∷ None ∷ Some Xor ∷ Some Adc ∷ Some Or ∷ Some Add ∷ None ∷ None ∷ Some LdIndex ∷ None ∷ []

-- rows B to F: an operand in memory
abbrev pub accesses : List (Option Operation)
accesses = Some Sub ∷ Some Cp ∷ Some Sbc ∷ Some CpIndex ∷ Some And ∷ Some Bcp ∷ Some Ld ∷ Some St ∷ Some Xor ∷ Some Adc ∷ Some Or ∷ Some Add ∷ Some Jp ∷ Some Call ∷ Some LdIndex ∷ Some StIndex ∷ []

-- the sixteen rows; MUL stands in the third column of row 4, CALLR in the fourteenth of row A
abbrev pub opcode_rows : List (List (Option Plain))
opcode_rows =
    row BitRelative bit_jumps
    ∷ row Bit bit_writes
    ∷ row Relative jumps
    ∷ row Short changes
    ∷ slice_set (row Accumulator changes) 2 (at Inherent Mul)
    ∷ row IndexRegister changes
    ∷ row ShortIndexed changes
    ∷ row Indexed changes
    ∷ row Inherent stack_moves
    ∷ row Inherent transfers
    ∷ slice_set (row Immediate immediates) 13 (at Relative Callr)
    ∷ row Short accesses
    ∷ row Long accesses
    ∷ row LongIndexed accesses
    ∷ row ShortIndexed accesses
    ∷ row Indexed accesses
    ∷ []

-- what an opcode without a prebyte stands for
abbrev pub plain_at : ℕ → Option Plain
plain_at n = slice_index_or (slice_index_or opcode_rows (n / 16) []) (n % 16) None
