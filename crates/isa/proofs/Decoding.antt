-- The decoder's definition, into the opcode's form and the bytes around it, and back.
use Rattle.std.proofs.Common.{◌≡◌, ℕ, ◌+◌, ◌<◌, ◌≤◌, Bool, true, false, cond, leb, ltb, List, length, get_or, Some, None, Ok, Err, Option, refl, ◌∙◌, rules}
use Rattle.std.proofs.lemmas.Bool.{ltb-false}
use Rattle.instruction.specs.declared.instruction.Instruction.{Instruction}
use Rattle.instruction.specs.Modes.{operand_bytes}
use Rattle.instruction.specs.declared.prebyte.Prebyte.{Prebyte}
use Rattle.instruction.specs.Prebytes.{prebyte_at, prebyte_length}
use Rattle.isa.specs.declared.opcode.Form.{Form}
use Rattle.isa.specs.Forms.{form_behind}
use Rattle.isa.specs.declared.decoder.Decoded.{Decoded}
use Rattle.isa.specs.declared.fault.DecodeFault.TheVariants.{Outside}
use Rattle.isa.specs.Decode.{operand_of, found, decode_at, decode_of}

pub found_is :
    (bs : List ℕ) (p : Option Prebyte) (k n : ℕ) (f : Option Form)
    → p ≡ prebyte_at (get_or bs 0 0) → k ≡ prebyte_length p → k < length bs → n ≡ get_or bs k 0 → f ≡ form_behind p n
    → found bs p k n f ≡ decode_of bs
unfolding decode_of
found_is bs p k n f ep ek h en ef =
    let t : leb (length bs) k ≡ false = search rules in
    let s : found bs p k n f ≡ decode_at bs p k = simp (t, ef, en) in
    s ∙ simp (ek, ep)

-- what was read from an opcode that stands for f, before the bytes a and b
unfoldable pub read : Form → ℕ → ℕ → ℕ → Instruction
read f n a b = record { operation = f.operation; index = f.index; operand = operand_of f.mode n a b }

-- what is decoded comes from a form that the opcode stands for behind the prebyte p, and all its bytes are there
pub record Reads (bs : List ℕ) (p : Option Prebyte) (d : Decoded) : Type 0 where
  pub form : Form
  pub stands : form_behind p (get_or bs (prebyte_length p) 0) ≡ Some form
  pub room : prebyte_length p + 1 + operand_bytes form.mode ≤ length bs
  pub instruction : read form (get_or bs (prebyte_length p) 0) (get_or bs (prebyte_length p + 1) 0) (get_or bs (prebyte_length p + 2) 0) ≡ d.instruction
  pub size : prebyte_length p + 1 + operand_bytes form.mode ≡ d.length

pub reads_of : (bs : List ℕ) (d : Decoded) → decode_of bs ≡ Ok d → Reads bs (prebyte_at (get_or bs 0 0)) d
unfolding decode_of read
reads_of bs d e = go (prebyte_at (get_or bs 0 0)) (leb (length bs) (prebyte_length (prebyte_at (get_or bs 0 0)))) e
  where
    last : (p : Option Prebyte) (f : Form) (t : Bool) → form_behind p (get_or bs (prebyte_length p) 0) ≡ Some f
        → ltb (length bs) (prebyte_length p + 1 + operand_bytes f.mode) ≡ t
        → cond t (Err Outside)
        (Ok (record {
          instruction = read f (get_or bs (prebyte_length p) 0) (get_or bs (prebyte_length p + 1) 0) (get_or bs (prebyte_length p + 2) 0);
          length = prebyte_length p + 1 + operand_bytes f.mode;
        })) ≡ Ok d
        → Reads bs p d
    last p f true q t e = cc
    last p f false q t e =
        record { form = f; stands = q; room = ltb-false (length bs) (prebyte_length p + 1 + operand_bytes f.mode) t; instruction = cc; size = cc }

    form_go : (p : Option Prebyte) (w : Option Form) → form_behind p (get_or bs (prebyte_length p) 0) ≡ w
        → found bs p (prebyte_length p) (get_or bs (prebyte_length p) 0) w ≡ Ok d → Reads bs p d
    form_go p None q e = cc
    form_go p (Some f) q e = last p f (ltb (length bs) (prebyte_length p + 1 + operand_bytes f.mode)) q refl e

    go : (p : Option Prebyte) (t : Bool)
        → cond t (Err Outside) (found bs p (prebyte_length p) (get_or bs (prebyte_length p) 0) (form_behind p (get_or bs (prebyte_length p) 0))) ≡ Ok d
        → Reads bs p d
    go p true e = cc
    go p false e = form_go p (form_behind p (get_or bs (prebyte_length p) 0)) refl e
