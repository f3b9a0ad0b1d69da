-- What the prebytes make of an opcode: $90 puts Y for X, $92 puts a pointer in the place of the operand, $91 does both.
use Rattle.std.specs.Prelude.{ℕ, Bool, true, false, if◌then◌else◌, Some, None, Option}
use Rattle.operation.specs.declared.Operation.{Operation}
use Rattle.instruction.specs.declared.mode.Mode.{Mode}
use Rattle.instruction.specs.declared.mode.Index.{Index}
use Rattle.instruction.specs.declared.mode.Index.TheVariants.{X, Y}
use Rattle.instruction.specs.declared.prebyte.Prebyte.{Prebyte}
use Rattle.instruction.specs.Prebytes.{index_behind, pointer_behind}
use Rattle.instruction.specs.Modes.{indirect_of}
use Rattle.instruction.specs.Indexes.{is_indexed}
use Rattle.operation.specs.Indexes.{uses_index}
use Rattle.isa.specs.declared.opcode.Form.{Form}
use Rattle.isa.specs.Map.{Plain, plain_at}

-- whether an opcode names X: its operation works on X, or its mode finds the operand by X
abbrev pub names_index : Operation → Mode → Bool
names_index o m = if uses_index o then true else is_indexed m

-- Y stands only where X is named
abbrev pub allowed : Index → Operation → Mode → Bool
allowed X o m = true
allowed Y o m = names_index o m

-- a mode, with a pointer in the place of the operand or not: not every mode can have one
abbrev pub turned : Bool → Mode → Option Mode
turned false m = Some m
turned true m = indirect_of m

-- an operation in a mode, if there is one, with an index register
abbrev pub formed : Index → Operation → Option Mode → Option Form
formed i o (Some m) = Some (record { operation = o; mode = m; index = i })
formed i o None = None

-- what an opcode stands for, once it is known what it stands for without a prebyte
abbrev pub form_of : Index → Bool → Option Plain → Option Form
form_of i indirect None = None
form_of i indirect (Some (o, m)) = if allowed i o m then formed i o (turned indirect m) else None

-- what an opcode stands for, with an index register, and with a pointer or without
abbrev pub form_at : Index → Bool → ℕ → Option Form
form_at i indirect n = form_of i indirect (plain_at n)

-- the same behind a prebyte, or without one
abbrev pub form_behind : Option Prebyte → ℕ → Option Form
form_behind p n = form_at (index_behind p) (pointer_behind p) n
