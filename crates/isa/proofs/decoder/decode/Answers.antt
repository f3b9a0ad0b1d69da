use Rattle.std.proofs.Common.{◌≡◌, arith, rules}
use Rattle.isa.specs.Decode.{decode_of}
use Rattle.isa.proofs.Decoding.{found_is}
use Rattle.isa.proofs.Laws.{timed}
use Rattle.isa.proofs.decoder.decode.Goals as goal

-- `using(timed)` on the function does not close it, as `using(sized)` does for the lengths
pub returns-clause-timed : goal.returns-clause-timed
unfolding decode_of
returns-clause-timed c =
    let e : c.complete.result ≡ decode_of c.args.bytes.now = grind (arith, found_is) in
    timed c.args.bytes.now _ (λ k. search rules) e
