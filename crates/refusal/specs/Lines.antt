use Rattle.std.specs.Prelude.{ℕ, List, [], ◌++◌, Some, None, codes, decimal, Option}
use Rattle.numerals.specs.Numerals.{hex2, hex4, dec2}
use Rattle.refusal.specs.declared.VoidCode.{VoidCode}
use Rattle.refusal.specs.declared.Place.{Place}
use Rattle.refusal.specs.declared.Detail.{Detail}
use Rattle.refusal.specs.declared.Detail.TheVariants.{Nothing, Offset, Index, Void, At, VoidAt}

-- a place of a routine: its address and the routine's entry
abbrev pub place_text : Place → List ℕ
place_text p = hex4 p.address ++ (codes " in " ++ hex4 p.entry)

-- the prebyte, if there is one, and the opcode, with a blank between them
abbrev pub bytes_text : Option ℕ → ℕ → List ℕ
bytes_text None o = hex2 o
bytes_text (Some p) o = hex2 p ++ (codes " " ++ hex2 o)

-- a void code as its bytes
abbrev pub code_text : VoidCode → List ℕ
code_text c = bytes_text c.prebyte c.opcode

-- what follows the number on a line: offsets and indices in decimal, bytes and addresses in hexadecimal
abbrev pub detail_text : Detail → List ℕ
detail_text Nothing = []
detail_text (Offset o) = codes " at " ++ decimal o
detail_text (Index i) = codes " at " ++ decimal i
detail_text (Void c) = codes " code " ++ code_text c
detail_text (At p) = codes " at " ++ place_text p
detail_text (VoidAt c p) = codes " at " ++ place_text p

-- the line of a refusal: NO, its number in two digits, and its detail
unfoldable pub line_text : ℕ → Detail → List ℕ
line_text n d = codes "NO " ++ (dec2 n ++ detail_text d)
