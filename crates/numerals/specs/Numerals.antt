use Rattle.std.specs.Prelude.{ℕ, ◌+◌, ◌/◌, ◌%◌, if◌then◌else◌, List, [], ◌∷◌, ◌++◌, decimal, nat_lt}

-- the character of one hexadecimal digit: 0 to 9, then capital A to F
abbrev pub hex_digit : ℕ → ℕ
hex_digit d = if nat_lt d 10 then 48 + d else 55 + d

-- a byte as two hexadecimal digits
unfoldable pub hex2 : ℕ → List ℕ
hex2 n = hex_digit (n / 16) ∷ hex_digit (n % 16) ∷ []

-- a word as four hexadecimal digits
unfoldable pub hex4 : ℕ → List ℕ
hex4 n = hex2 (n / 256) ++ hex2 (n % 256)

-- a number in decimal, with a leading zero where one digit would do
unfoldable pub dec2 : ℕ → List ℕ
dec2 n = if nat_lt n 10 then 48 ∷ decimal n else decimal n
