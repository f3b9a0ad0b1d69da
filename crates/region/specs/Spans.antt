use Rattle.std.specs.Prelude.{ℕ, ◌-◌, ◌*◌, ◌≤◌, Bool, ◌&&◌, nat_le}
use Rattle.region.specs.declared.Span.{Span}
use Rattle.region.specs.declared.Vector.{Vector}
use Rattle.region.specs.declared.Vector.TheVariants.{Reset, Trap, Source}

-- the addresses from one to another
abbrev pub span : ℕ → ℕ → Span
span a b = record { first = a; last = b }

-- an address lies in a span
abbrev pub Within : Span → ℕ → Type 0
Within s a = (s.first ≤ a) × (a ≤ s.last)

-- the test of whether an address lies in a span
abbrev pub within : Span → ℕ → Bool
within s a = nat_le s.first a && nat_le a s.last

-- a span is not empty, and lies in another
abbrev pub Inside : Span → Span → Type 0
Inside s t = (t.first ≤ s.first) × (s.first ≤ s.last) × (s.last ≤ t.last)

-- where each vector lies: the words of the sources go down from the vector of TRAP
abbrev pub vector_address : Vector → ℕ
vector_address Reset = 0xFFFE
vector_address Trap = 0xFFFC
vector_address (Source k) = 0xFFFA - 2 * k
