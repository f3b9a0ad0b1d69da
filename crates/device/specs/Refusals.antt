use Rattle.std.specs.Prelude.{ℕ}
use Rattle.refusal.specs.declared.Detail.{Detail}
use Rattle.refusal.specs.declared.Detail.TheVariants.{Offset}
use Rattle.device.specs.declared.fault.DescriptionRefusal.{DescriptionRefusal}
use Rattle.device.specs.declared.fault.DescriptionRefusal.TheVariants.{CodeStart, RamEnd, StackTop, Sources, LastByte, Length}

-- where the field at fault begins in the record
abbrev pub offset_of : DescriptionRefusal → ℕ
offset_of CodeStart = 0
offset_of RamEnd = 2
offset_of StackTop = 4
offset_of Sources = 6
offset_of LastByte = 7
offset_of Length = 8

-- every field at fault has the number 4
abbrev pub number_of : DescriptionRefusal → ℕ
number_of e = 4

-- the detail is where the field at fault begins
abbrev pub detail_of : DescriptionRefusal → Detail
detail_of e = Offset (offset_of e)
