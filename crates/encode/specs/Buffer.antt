-- What the encoder answers, and leaves in the buffer.
use Rattle.std.specs.Prelude.{ℕ, if◌then◌else◌, List, ◌++◌, length, take, drop, Some, None, Ok, Err, Option, Result, nat_lt}
use Rattle.isa.specs.declared.decoder.Decoded.{Decoded}
use Rattle.isa.specs.declared.fault.DecodeFault.{DecodeFault}
use Rattle.encode.specs.declared.refusals.EncodeRefusal.{EncodeRefusal}
use Rattle.encode.specs.declared.refusals.EncodeRefusal.TheVariants.{NoInstruction, ShortBuffer}

-- how many bytes were written into a buffer of a length, or why none
abbrev pub answer : ℕ → Option (List ℕ) → Result ℕ EncodeRefusal
answer room None = Err NoInstruction
answer room (Some bs) = if nat_lt room (length bs) then Err ShortBuffer else Ok (length bs)

-- what the buffer then holds: the bytes in its front and the rest as it was; all as it was where there are none, or too many
abbrev pub buffer : List ℕ → Option (List ℕ) → List ℕ
buffer out None = out
buffer out (Some bs) = if nat_lt (length out) (length bs) then out else bs ++ drop (length bs) out

-- how many bytes a decoding took
abbrev pub length_taken : Result Decoded DecodeFault → Result ℕ DecodeFault
length_taken (Ok d) = Ok d.length
length_taken (Err e) = Err e

-- a buffer whose front holds the bytes that a decoding took; as it was where there was nothing to decode
abbrev pub copied : List ℕ → List ℕ → Result Decoded DecodeFault → List ℕ
copied bs out (Ok d) = take d.length bs ++ drop d.length out
copied bs out (Err e) = out
