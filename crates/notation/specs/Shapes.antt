use Rattle.operation.specs.declared.Operation.{Operation}
use Rattle.operation.specs.declared.Operation.TheVariants.{Sub, Cp, Sbc, CpIndex, And, Bcp, Ld, St, Xor, Adc, Or, Add, Jp, Call, LdIndex, StIndex, Callr, Neg, Cpl, Srl, Rrc, Sra, Sll, Rlc, Dec, Inc, Tnz, Swap, Clr, Mul, Jra, Jrf, Jrugt, Jrule, Jrnc, Jrc, Jrne, Jreq, Jrnh, Jrh, Jrpl, Jrmi, Jrnm, Jrm, Jril, Jrih, Btjt, Btjf, Bset, Bres, Iret, Ret, Trap, PopA, PopIndex, PopCc, PushA, PushIndex, PushCc, Halt, Wfi, LdIndexFromOther, LdSFromIndex, LdSFromA, LdIndexFromS, LdIndexFromA, Rcf, Scf, Rim, Sim, Rsp, Nop, LdAFromS, LdAFromIndex}
use Rattle.notation.specs.declared.register.Register.TheVariants.{A, Index, OtherIndex, S, Cc}
use Rattle.notation.specs.declared.shape.Shape.{Shape}
use Rattle.notation.specs.declared.shape.Shape.TheVariants.{OperandAlone, RegisterFirst, RegisterLast, OneRegister, TwoRegisters}

-- the registers that an operation names, and where they stand
abbrev pub shape_of : Operation → Shape
shape_of Sub = RegisterFirst A
shape_of Cp = RegisterFirst A
shape_of Sbc = RegisterFirst A
shape_of CpIndex = RegisterFirst Index
shape_of And = RegisterFirst A
shape_of Bcp = RegisterFirst A
shape_of Ld = RegisterFirst A
shape_of St = RegisterLast A
shape_of Xor = RegisterFirst A
shape_of Adc = RegisterFirst A
shape_of Or = RegisterFirst A
shape_of Add = RegisterFirst A
shape_of Jp = OperandAlone
shape_of Call = OperandAlone
shape_of LdIndex = RegisterFirst Index
shape_of StIndex = RegisterLast Index
shape_of Callr = OperandAlone
shape_of Neg = OperandAlone
shape_of Cpl = OperandAlone
shape_of Srl = OperandAlone
shape_of Rrc = OperandAlone
shape_of Sra = OperandAlone
shape_of Sll = OperandAlone
shape_of Rlc = OperandAlone
shape_of Dec = OperandAlone
shape_of Inc = OperandAlone
shape_of Tnz = OperandAlone
shape_of Swap = OperandAlone
shape_of Clr = OperandAlone
shape_of Mul = TwoRegisters Index A
shape_of Jra = OperandAlone
shape_of Jrf = OperandAlone
shape_of Jrugt = OperandAlone
shape_of Jrule = OperandAlone
shape_of Jrnc = OperandAlone
shape_of Jrc = OperandAlone
shape_of Jrne = OperandAlone
shape_of Jreq = OperandAlone
shape_of Jrnh = OperandAlone
shape_of Jrh = OperandAlone
shape_of Jrpl = OperandAlone
shape_of Jrmi = OperandAlone
shape_of Jrnm = OperandAlone
shape_of Jrm = OperandAlone
shape_of Jril = OperandAlone
shape_of Jrih = OperandAlone
shape_of Btjt = OperandAlone
shape_of Btjf = OperandAlone
shape_of Bset = OperandAlone
shape_of Bres = OperandAlone
shape_of Iret = OperandAlone
shape_of Ret = OperandAlone
shape_of Trap = OperandAlone
shape_of PopA = OneRegister A
shape_of PopIndex = OneRegister Index
shape_of PopCc = OneRegister Cc
shape_of PushA = OneRegister A
shape_of PushIndex = OneRegister Index
shape_of PushCc = OneRegister Cc
shape_of Halt = OperandAlone
shape_of Wfi = OperandAlone
shape_of LdIndexFromOther = TwoRegisters Index OtherIndex
shape_of LdSFromIndex = TwoRegisters S Index
shape_of LdSFromA = TwoRegisters S A
shape_of LdIndexFromS = TwoRegisters Index S
shape_of LdIndexFromA = TwoRegisters Index A
shape_of Rcf = OperandAlone
shape_of Scf = OperandAlone
shape_of Rim = OperandAlone
shape_of Sim = OperandAlone
shape_of Rsp = OperandAlone
shape_of Nop = OperandAlone
shape_of LdAFromS = TwoRegisters A S
shape_of LdAFromIndex = TwoRegisters A Index
