-- Tables in the order of the operations.
use Rattle.std.proofs.Common.{◌≡◌, List, [], ◌∷◌, map, get_or, sym, ap, ◌∙◌, arith}
use Rattle.operation.specs.declared.Operation.{Operation}
use Rattle.operation.specs.declared.Operation.TheVariants.{Sub, Cp, Sbc, CpIndex, And, Bcp, Ld, St, Xor, Adc, Or, Add, Jp, Call, LdIndex, StIndex, Callr, Neg, Cpl, Srl, Rrc, Sra, Sll, Rlc, Dec, Inc, Tnz, Swap, Clr, Mul, Jra, Jrf, Jrugt, Jrule, Jrnc, Jrc, Jrne, Jreq, Jrnh, Jrh, Jrpl, Jrmi, Jrnm, Jrm, Jril, Jrih, Btjt, Btjf, Bset, Bres, Iret, Ret, Trap, PopA, PopIndex, PopCc, PushA, PushIndex, PushCc, Halt, Wfi, LdIndexFromOther, LdSFromIndex, LdSFromA, LdIndexFromS, LdIndexFromA, Rcf, Scf, Rim, Sim, Rsp, Nop, LdAFromS, LdAFromIndex}
use Rattle.operation.specs.Order.{operation_number}

-- every operation, in order
abbrev pub all : List Operation
all = Sub ∷ Cp ∷ Sbc ∷ CpIndex ∷ And ∷ Bcp ∷ Ld ∷ St ∷ Xor ∷ Adc ∷ Or ∷ Add ∷ Jp ∷ Call ∷ LdIndex ∷ StIndex ∷ Callr ∷ Neg ∷ Cpl ∷ Srl ∷ Rrc ∷ Sra ∷ Sll ∷ Rlc ∷ Dec ∷ Inc ∷ Tnz ∷ Swap ∷ Clr ∷ Mul ∷ Jra ∷ Jrf ∷ Jrugt ∷ Jrule ∷ Jrnc ∷ Jrc ∷ Jrne ∷ Jreq ∷ Jrnh ∷ Jrh ∷ Jrpl ∷ Jrmi ∷ Jrnm ∷ Jrm ∷ Jril ∷ Jrih ∷ Btjt ∷ Btjf ∷ Bset ∷ Bres ∷ Iret ∷ Ret ∷ Trap ∷ PopA ∷ PopIndex ∷ PopCc ∷ PushA ∷ PushIndex ∷ PushCc ∷ Halt ∷ Wfi ∷ LdIndexFromOther ∷ LdSFromIndex ∷ LdSFromA ∷ LdIndexFromS ∷ LdIndexFromA ∷ Rcf ∷ Scf ∷ Rim ∷ Sim ∷ Rsp ∷ Nop ∷ LdAFromS ∷ LdAFromIndex ∷ []

-- what a table of all operations has at one of them
pub row_at : {A : Type 0} (f : Operation → A) (none : A) (o : Operation) → get_or (map f all) (operation_number o) none ≡ f o
row_at f none o = grind arith

-- two functions with the same tables are the same at each operation
pub same_everywhere : {A : Type 0} (f g : Operation → A) → map f all ≡ map g all → (o : Operation) → f o ≡ g o
same_everywhere f g e o =
    sym (row_at f (f o) o) ∙ (ap (λ xs. get_or xs (operation_number o) (f o)) e ∙ row_at g (f o) o)
