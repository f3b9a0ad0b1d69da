use Rattle.std.specs.Prelude.{◌≡◌, ℕ, ◌+◌, ◌-◌, ◌*◌, ◌%◌, ◌<◌, ◌≤◌, List, length, Some, None, Ok, Err, Option, Result, slice_index}
use Rattle.refusal.specs.declared.Detail.TheVariants.{Offset}
use Rattle.device.specs.declared.description.Description.{Description}
use Rattle.device.specs.declared.fault.DescriptionRefusal.{DescriptionRefusal}
use Rattle.device.specs.Refusals.{number_of, detail_of}

-- the byte at an offset
abbrev pub byte_at : List ℕ → ℕ → ℕ
byte_at bs o = slice_index bs o

-- the word at an offset, high byte first
abbrev pub word_at : List ℕ → ℕ → ℕ
word_at bs o = byte_at bs o * 256 + byte_at bs (o + 1)

-- the byte at an offset is there, and at most a value
abbrev pub ByteUpTo : List ℕ → ℕ → ℕ → Type 0
ByteUpTo bs o most = (o + 1 ≤ length bs) × (byte_at bs o ≤ most)

-- the word at an offset is wholly there, from one value to another
abbrev pub WordWithin : List ℕ → ℕ → ℕ → ℕ → Type 0
WordWithin bs o low high = (o + 2 ≤ length bs) × (low ≤ word_at bs o) × (word_at bs o ≤ high)

-- how many bytes the stack has of the part that a record describes: every part so far has 64
abbrev pub levels_of : List ℕ → ℕ
levels_of bs = 64

-- the code start is wholly there, from C000 to FFC0
abbrev pub GoodCodeStart : List ℕ → Type 0
GoodCodeStart bs = WordWithin bs 0 0xC000 0xFFC0

-- the RAM end is wholly there, from 00FF to 07FF
abbrev pub GoodRamEnd : List ℕ → Type 0
GoodRamEnd bs = WordWithin bs 2 0x00FF 0x07FF

-- the stack top is wholly there, its low bits are all 1, and the stack that it ends begins at 0080 or above and ends in RAM
abbrev pub GoodStackTop : List ℕ → Type 0
GoodStackTop bs = WordWithin bs 4 (0x0080 + (levels_of bs - 1)) (word_at bs 2) × (word_at bs 4 % levels_of bs ≡ levels_of bs - 1)

-- the number of sources is there, and at most 8
abbrev pub GoodSources : List ℕ → Type 0
GoodSources bs = ByteUpTo bs 6 8

-- the last byte is there, and 0
abbrev pub GoodLastByte : List ℕ → Type 0
GoodLastByte bs = ByteUpTo bs 7 0

-- a record is at fault at the offset of a field that is not good, and at 8 where it goes on
pub data AtFault (bs : List ℕ) : ℕ → Type 0 where
  bad_code_start : (GoodCodeStart bs → ⊥) → AtFault bs 0
  bad_ram_end : (GoodRamEnd bs → ⊥) → AtFault bs 2
  bad_stack_top : (GoodStackTop bs → ⊥) → AtFault bs 4
  bad_sources : (GoodSources bs → ⊥) → AtFault bs 6
  bad_last_byte : (GoodLastByte bs → ⊥) → AtFault bs 7
  goes_on : 8 < length bs → AtFault bs 8

-- a record is lawful where it is at fault nowhere
abbrev pub Lawful : List ℕ → Type 0
Lawful bs = (o : ℕ) → AtFault bs o → ⊥

-- a record is at fault at an offset, and nowhere before it
abbrev pub FirstFault : List ℕ → ℕ → Type 0
FirstFault bs o = AtFault bs o × ((p : ℕ) → p < o → AtFault bs p → ⊥)

-- a description has the fields of a record
pub record Holds (bs : List ℕ) (d : Description) : Type 0 where
  pub code_start : d.code_start ≡ word_at bs 0
  pub ram_end : d.ram_end ≡ word_at bs 2
  pub stack_top : d.stack_top ≡ word_at bs 4
  pub sources : d.sources ≡ byte_at bs 6
  pub stack_levels : d.levels ≡ levels_of bs

-- a record is refused with 4 and the offset of its first fault
pub record Refused (bs : List ℕ) (e : DescriptionRefusal) : Type 0 where
  pub number : number_of e ≡ 4
  pub offset : ℕ
  pub detail : detail_of e ≡ Offset offset
  pub first : FirstFault bs offset

-- exactly the lawful records are taken, and whole
abbrev pub Read : List ℕ → Result Description DescriptionRefusal → Type 0
Read bs (Ok d) = Lawful bs × Holds bs d
Read bs (Err e) = Refused bs e

-- a field answers its value where it is good, and nothing where it is not
abbrev pub Taken : Type 0 → ℕ → Option ℕ → Type 0
Taken Good v None = Good → ⊥
Taken Good v (Some w) = Good × (w ≡ v)
