use Rattle.std.specs.Prelude.{◌≡◌, ℕ, ◌+◌, ◌-◌, ◌<◌, Bool, true, if◌then◌else◌, nat_le, nat_lt}
use Rattle.region.specs.Spans.{span, Within, Inside, vector_address}
use Rattle.device.specs.declared.description.Description.{Description}
use Rattle.region.specs.declared.Region.{Region}
use Rattle.region.specs.declared.Region.TheVariants.{Window, Ram, Unmapped, Image}
use Rattle.region.specs.declared.Span.{Span}
use Rattle.region.specs.declared.Vector.{Vector}
use Rattle.region.specs.declared.Vector.TheVariants.{Reset, Trap, Source}

-- the addresses of each region
abbrev pub region_span : Description → Region → Span
region_span d Window = span 0x0000 0x007F
region_span d Ram = span 0x0080 d.ram_end
region_span d Unmapped = span (d.ram_end + 1) (d.code_start - 1)
region_span d Image = span d.code_start 0xFFFF

-- the region of an address
abbrev pub region_of : Description → ℕ → Region
region_of d a = if nat_lt a 0x0080 then Window else (if nat_le a d.ram_end then Ram else (if nat_le d.code_start a then Image else Unmapped))

-- each of the 65,536 addresses lies in the region that it is said to lie in, and in no other
abbrev pub Partition : Description → Type 0
Partition d = (a : ℕ) → a < 65536 → Within (region_span d (region_of d a)) a × ((r : Region) → Within (region_span d r) a → r ≡ region_of d a)

-- where instructions may stand: the image, but for its last 32 bytes, where the vectors lie
abbrev pub code_span : Description → Span
code_span d = span d.code_start 0xFFDF

-- the stack: as many bytes as it has levels, the last of them its top
abbrev pub stack_span : Description → Span
stack_span d = span (d.stack_top - (d.levels - 1)) d.stack_top

-- how many bytes an image has
abbrev pub image_length : Description → ℕ
image_length d = 65536 - d.code_start

-- a part has the vectors of reset and TRAP, and of its own sources
abbrev pub has_vector : Description → Vector → Bool
has_vector d Reset = true
has_vector d Trap = true
has_vector d (Source k) = nat_lt k d.sources

-- the stack lies in RAM, and is as long as it has levels
abbrev pub StackFits : Description → Span → Type 0
StackFits d s = Inside s (region_span d Ram) × (s.first + d.levels ≡ s.last + 1)

-- both bytes of a vector lie in the image, past the code region
abbrev pub VectorFits : Description → Vector → Type 0
VectorFits d v = ((code_span d).last < vector_address v) × Within (region_span d Image) (vector_address v) × Within (region_span d Image) (vector_address v + 1)
