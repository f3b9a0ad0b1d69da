-- The worked examples, layer by layer: of instructions so far.
use Rattle.std.specs.Prelude.{◌≡◌, ℕ, ◌+◌, List, [], ◌∷◌, length, Some, Ok, Err, codes}
use Rattle.refusal.specs.declared.Detail.TheVariants as D
use Rattle.instruction.specs.declared.instruction.Instruction.{Instruction}
use Rattle.instruction.specs.Rows.{cycles_of}
use Rattle.isa.specs.declared.fault.DecodeFault.{DecodeFault}
use Rattle.isa.specs.Decode.{decode_of}
use Rattle.isa.specs.Faults.{fault_number, fault_detail}
use Rattle.isa.specs.Relative.{signed, relative_target}
use Rattle.notation.specs.Texts.{statement_text}

-- the bytes are one instruction, which is written so and takes so many cycles
abbrev pub InstructionIs : List ℕ → List ℕ → ℕ → Type 0
InstructionIs bs text cycles =
    (i : Instruction)
    × (decode_of bs ≡ Ok (record { instruction = i; length = length bs }))
    × (statement_text (record { instruction = i; address = 0xC000 }) ≡ text)
    × (cycles_of i ≡ cycles)

-- the bytes are a prebyte and an opcode that make a void code: number 1, with both told
abbrev pub IsVoidCode : ℕ → ℕ → Type 0
IsVoidCode p n =
    (e : DecodeFault)
    × (decode_of (p ∷ n ∷ []) ≡ Err e)
    × (fault_number e ≡ 1)
    × (fault_detail e ≡ D.Void (record { prebyte = Some p; opcode = n }))

-- an offset byte of an instruction of some bytes at an address leads to another
abbrev pub LeadsTo : ℕ → ℕ → ℕ → ℕ → Type 0
LeadsTo byte size address to = relative_target (address + size) (signed byte) ≡ to

-- three instructions, two void codes, a relative offset
abbrev pub Instructions : Type 0
Instructions =
    InstructionIs (0xA6 ∷ 0xF8 ∷ []) (codes "LD A,#$F8") 2
    × InstructionIs (0x92 ∷ 0xD6 ∷ 0x89 ∷ []) (codes "LD A,([$89.w],X)") 7
    × InstructionIs (0x90 ∷ 0xBE ∷ 0x10 ∷ []) (codes "LD Y,$10") 4
    × IsVoidCode 0x90 0x4F
    × IsVoidCode 0x91 0xB6
    × LeadsTo 0x17 2 0xC4A7 0xC4C0

-- the examples of all layers
abbrev pub Examples : Type 0
Examples = Instructions
