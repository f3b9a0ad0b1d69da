-- The numbers of the decoder's faults.
use Rattle.std.specs.Prelude.{ℕ, List, ◌++◌, codes}
use Rattle.refusal.specs.declared.Detail.{Detail}
use Rattle.refusal.specs.declared.Detail.TheVariants as D
use Rattle.refusal.specs.Lines.{code_text}
use Rattle.isa.specs.declared.fault.DecodeFault.{DecodeFault}
use Rattle.isa.specs.declared.fault.DecodeFault.TheVariants.{Void, Outside}

-- the number of a fault
abbrev pub fault_number : DecodeFault → ℕ
fault_number (Void c) = 1
fault_number Outside = 2

-- what is told besides
abbrev pub fault_detail : DecodeFault → Detail
fault_detail (Void c) = D.Void c
fault_detail Outside = D.Nothing

-- a fault in words
abbrev pub fault_text : DecodeFault → List ℕ
fault_text (Void c) = codes "void code " ++ code_text c
fault_text Outside = codes "byte missing"
