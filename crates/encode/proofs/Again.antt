-- A buffer that a decoded instruction was encoded into.
use Rattle.std.proofs.Common.{◌≡◌, ℕ, ◌≤◌, List, length, take, Some, Ok, arith, length-take-le}
use Rattle.std.proofs.lemmas.Bool.Decides.{nat_tests}
use Rattle.isa.specs.declared.decoder.Decoded.{Decoded}
use Rattle.isa.specs.Decode.{decode_of}
use Rattle.encode.specs.Encode.{encode_of}
use Rattle.encode.specs.Buffer.{buffer, copied}

pub copied_is :
    (bs out : List ℕ) (d : Decoded) → length out ≡ 4 → d.length ≤ 4 → d.length ≤ length bs
    → encode_of d.instruction ≡ Some (take d.length bs) → decode_of bs ≡ Ok d
    → buffer out (encode_of d.instruction) ≡ copied bs out (decode_of bs)
copied_is bs out d four few within w e = grind (arith, nat_tests, length-take-le)
