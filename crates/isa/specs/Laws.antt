-- What holds of every instruction that was decoded.
use Rattle.std.specs.Prelude.{◌≡◌, ℕ, ◌≤◌, List, length, Ok, Err, Result}
use Rattle.instruction.specs.Rows.{length_of, cycles_of}
use Rattle.isa.specs.declared.decoder.Decoded.{Decoded}
use Rattle.isa.specs.declared.fault.DecodeFault.{DecodeFault}

-- its length is the instruction's own, 1 to 4, and its bytes are there
abbrev pub Sized : List ℕ → Result Decoded DecodeFault → Type 0
Sized bs (Ok d) = (d.length ≡ length_of d.instruction) × (1 ≤ d.length) × (d.length ≤ 4) × (d.length ≤ length bs)
Sized bs (Err e) = Unit {0}

-- it takes 2 to 12 cycles
abbrev pub Timed : Result Decoded DecodeFault → Type 0
Timed (Ok d) = (2 ≤ cycles_of d.instruction) × (cycles_of d.instruction ≤ 12)
Timed (Err e) = Unit {0}
