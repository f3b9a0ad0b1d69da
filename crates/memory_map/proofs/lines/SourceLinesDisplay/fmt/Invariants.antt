use Rattle.std.specs.Fmt.{IsPlainFormatter, HasWritten}
use Rattle.memory_map.specs.Maps.{source_lines}
use Rattle.memory_map.proofs.lines.SourceLinesDisplay.fmt.Given as goal

-- the lines of the sources below k are written
abbrev pub invariant-loop-k : goal.invariant-loop-k
invariant-loop-k g l = IsPlainFormatter l.initial.f → HasWritten g.W.Write.write_str_gives l.initial.f (source_lines l.k) l.f
