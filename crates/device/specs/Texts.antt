use Rattle.std.specs.Prelude.{ℕ, List, codes}
use Rattle.device.specs.declared.fault.DescriptionRefusal.{DescriptionRefusal}
use Rattle.device.specs.declared.fault.DescriptionRefusal.TheVariants.{CodeStart, RamEnd, StackTop, Sources, LastByte, Length}

-- what a person reads of a record that is no description: what is wrong with it
unfoldable pub reason_text : DescriptionRefusal → List ℕ
reason_text CodeStart = codes "code start missing, or not from C000 to FFC0"
reason_text RamEnd = codes "RAM end missing, or not from 00FF to 07FF"
reason_text StackTop = codes "stack top missing, with a low bit that is 0, or its stack not in RAM"
reason_text Sources = codes "number of sources missing, or above 8"
reason_text LastByte = codes "last byte missing, or not 0"
reason_text Length = codes "more than 8 bytes"
