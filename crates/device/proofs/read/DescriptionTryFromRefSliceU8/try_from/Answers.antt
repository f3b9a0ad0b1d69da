use Rattle.std.proofs.Common.{rules}
use Rattle.device.specs.Record.{bad_code_start, bad_ram_end, bad_stack_top, bad_sources, bad_last_byte}
use Rattle.device.proofs.Faults.{not_taken}
use Rattle.device.proofs.read.DescriptionTryFromRefSliceU8.try_from.Goals as goal

-- each names its own field: `using(not_taken)` on the function closes none of them
pub returns-in_err-code_start : goal.returns-in_err-code_start
returns-in_err-code_start c = not_taken _ _ _ _ _ _ c.word.ensures c.in_err-code_start.ensures.value c.from_residual.ensures.1 bad_code_start (search rules)

pub returns-in_err-ram_end : goal.returns-in_err-ram_end
returns-in_err-ram_end c = not_taken _ _ _ _ _ _ c.word-2.ensures c.in_err-ram_end.ensures.value c.from_residual-in_err-ram_end.ensures.1 bad_ram_end (search rules)

pub returns-in_err-stack_top : goal.returns-in_err-stack_top
returns-in_err-stack_top c = not_taken _ _ _ _ _ _ c.stack_top.ensures c.in_err-stack_top.ensures.value c.from_residual-in_err-stack_top.ensures.1 bad_stack_top (search rules)

pub returns-in_err-sources : goal.returns-in_err-sources
returns-in_err-sources c = not_taken _ _ _ _ _ _ c.byte.ensures c.in_err-sources.ensures.value c.from_residual-in_err-sources.ensures.1 bad_sources (search rules)

pub returns-in_err-ok_or : goal.returns-in_err-ok_or
returns-in_err-ok_or c = not_taken _ _ _ _ _ _ c.byte-2.ensures c.in_err-ok_or.ensures.value c.from_residual-in_err-ok_or.ensures.1 bad_last_byte (search rules)
