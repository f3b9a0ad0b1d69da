-- The rows of lengths have, for every opcode and prebyte, the opcode's byte and those of its mode's operand.
use Rattle.std.proofs.Common.{◌≡◌, ℕ, ◌+◌, ◌<◌, Bool, true, eqb, map, Some, None, Option, sym, ap, ◌∙◌, arith}
use Rattle.std.specs.List.{range_with_len}
use Rattle.std.proofs.lemmas.Bool.{eqb-true}
use Rattle.isa.proofs.Below.{same_below}
use Rattle.instruction.specs.declared.mode.Index.{Index}
use Rattle.instruction.specs.Modes.{operand_bytes}
use Rattle.instruction.specs.Rows.{row_length}
use Rattle.isa.specs.declared.opcode.Form.{Form}
use Rattle.isa.specs.Forms.{form_at}

abbrev sized : Option Form → Bool
sized None = true
sized (Some f) = eqb (row_length f.operation f.mode) (1 + operand_bytes f.mode)

all_sized : (i : Index) (b : Bool) → map (λ n. sized (form_at i b n)) (range_with_len 0 256) ≡ map (λ n. true) (range_with_len 0 256)
all_sized i b = grind arith

each_sized : (i : Index) (b : Bool) (n : ℕ) → n < 256 → sized (form_at i b n) ≡ true
each_sized i b n h = same_below (λ n. sized (form_at i b n)) (λ n. true) 256 (all_sized i b) n h

pub form_sized :
    (i : Index) (b : Bool) (n : ℕ) (f : Form) → n < 256 → form_at i b n ≡ Some f
    → row_length f.operation f.mode ≡ 1 + operand_bytes f.mode
form_sized i b n f h e = eqb-true (row_length f.operation f.mode) (1 + operand_bytes f.mode) (sym (ap sized e) ∙ each_sized i b n h)
