use Rattle.std.proofs.Common.{None, arith}
use Rattle.std.proofs.lemmas.List.FromFn.{get_or-map-range_with_len}
use Rattle.isa.specs.Map.{plain_at}
use Rattle.isa.proofs.opcode.unprefixed.Goals as goal

-- the table is the definition, computed for each opcode: the tactics give up at its size
pub returns : goal.returns
returns c = get_or-map-range_with_len plain_at 0 256 c.from.result c.args.opcode None (omega (arith, c.from.ensures)) (omega (arith, c.from.ensures))
