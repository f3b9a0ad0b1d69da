-- Relative offsets.
use Rattle.std.specs.Prelude.{ℕ, ℤ, pos, ◌+ℤ◌, unsigned_abs}
use Rattle.std.specs.Int.{int_rem_euclid, cast_signed, w8}

-- a byte read as a signed number, -128 to 127
abbrev pub signed : ℕ → ℤ
signed b = cast_signed w8 b

-- the address that an offset leads to: it is added, modulo 65,536, to the address after the whole instruction
unfoldable pub relative_target : ℕ → ℤ → ℕ
relative_target next offset = unsigned_abs (int_rem_euclid (pos next +ℤ offset) (pos 65536))
