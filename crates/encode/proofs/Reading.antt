-- What is written is read back.
use Rattle.std.proofs.Common.{◌≡◌, ℕ, ◌+◌, ◌<◌, ◌≤◌, Bool, true, false, cond, List, ◌∷◌, ◌++◌, length, get_or, Some, None, Ok, Option, sym, refl, ap, ◌∙◌, subst, append_assoc, arith, length-append}
use Rattle.std.proofs.lemmas.Int.{to_z-of_z}
use Rattle.std.proofs.lemmas.Bool.Decides.{nat_tests}
use Rattle.instruction.specs.declared.mode.Mode.{Mode}
use Rattle.instruction.specs.declared.prebyte.Prebyte.{Prebyte}
use Rattle.instruction.specs.declared.instruction.Operand.{Operand}
use Rattle.instruction.specs.declared.instruction.Instruction.{Instruction}
use Rattle.instruction.specs.Modes.{mode_of, direct_of, is_indirect, operand_bytes}
use Rattle.instruction.specs.Prebytes.{prebyte_at, prebyte_length}
use Rattle.instruction.specs.Rows.{prebyte_of}
use Rattle.isa.specs.declared.opcode.Form.{Form}
use Rattle.isa.specs.Map.{Plain, plain_at, at}
use Rattle.isa.specs.Forms.{allowed, turned, form_behind}
use Rattle.isa.specs.Decode.{operand_of, completed, decode_of}
use Rattle.isa.proofs.Decoding.{found_is}
use Rattle.encode.specs.Encode.{bit_of, tail_of, prefix, opcode_of, written, encode_of}
use Rattle.encode.specs.Laws.{Signed, ReadsBack}
use Rattle.encode.proofs.Opcodes.{bit_or, Backed, right}

-- the operand is read from the bytes that it was written as
pub refill :
    (x : Operand) (n : ℕ) (rest : List ℕ) → Signed x → bit_or (direct_of (mode_of x)) n (bit_of x) ≡ bit_of x
    → operand_of (mode_of x) n (get_or (tail_of x ++ rest) 0 0) (get_or (tail_of x ++ rest) 1 0) ≡ x
refill x n rest s e = grind (arith, to_z-of_z)

pub tail_length : (x : Operand) → length (tail_of x) ≡ operand_bytes (mode_of x)
tail_length x = grind arith

-- a mode, turned as it is
turned_again : (m : Mode) → turned (is_indirect m) (direct_of m) ≡ Some m
turned_again m = grind arith

-- the first byte is the prebyte, or an opcode that stands for something, and so is no prebyte
started : (p : Option Prebyte) (n : ℕ) (ts : List ℕ) (q : Plain) → plain_at n ≡ Some q → p ≡ prebyte_at (get_or (prefix p ++ (n ∷ ts)) 0 0)
started p n ts q e = grind (arith, nat_tests)

-- where the opcode and the bytes after it stand
opcode_at : (p : Option Prebyte) (n : ℕ) (ts : List ℕ) → n ≡ get_or (prefix p ++ (n ∷ ts)) (prebyte_length p) 0
opcode_at p n ts = grind arith

first_at : (p : Option Prebyte) (n : ℕ) (ts : List ℕ) → get_or (prefix p ++ (n ∷ ts)) (prebyte_length p + 1) 0 ≡ get_or ts 0 0
first_at p n ts = grind arith

second_at : (p : Option Prebyte) (n : ℕ) (ts : List ℕ) → get_or (prefix p ++ (n ∷ ts)) (prebyte_length p + 2) 0 ≡ get_or ts 1 0
second_at p n ts = grind arith

whole_length : (p : Option Prebyte) (n : ℕ) (ts : List ℕ) → length (prefix p ++ (n ∷ ts)) ≡ prebyte_length p + 1 + length ts
whole_length p n ts = grind arith

-- the opcode that was found stands for the operation in its mode
opcode_right : (i : Instruction) (n : ℕ) → opcode_of i ≡ Some n → Backed i.operation (direct_of (mode_of i.operand)) (bit_of i.operand) (Some n)
opcode_right i n e = grind (arith, nat_tests, right)

-- an opcode that stands for an operation in the direct mode of an operand stands, behind a prebyte, for the operand's mode
form_right :
    (i : Instruction) (n : ℕ) → plain_at n ≡ at (direct_of (mode_of i.operand)) i.operation
    → allowed i.index i.operation (direct_of (mode_of i.operand)) ≡ true
    → form_behind (prebyte_of i) n ≡ Some (record { operation = i.operation; mode = mode_of i.operand; index = i.index })
form_right i n e a = grind arith

-- an operand is filled in from the bytes after its opcode
filling :
    (f : Form) (x : Operand) (bs rest : List ℕ) (k n : ℕ) → f.mode ≡ mode_of x → Signed x → bit_or (direct_of (mode_of x)) n (bit_of x) ≡ bit_of x
    → get_or bs (k + 1) 0 ≡ get_or (tail_of x ++ rest) 0 0 → get_or bs (k + 2) 0 ≡ get_or (tail_of x ++ rest) 1 0
    → k + 1 + operand_bytes f.mode ≤ length bs
    → completed bs k n f ≡ Ok (record { instruction = record { operation = f.operation; index = f.index; operand = x }; length = k + 1 + operand_bytes f.mode })
filling f x bs rest k n m s b g1 g2 h = grind (arith, nat_tests, refill x n rest s b)

reads :
    (i : Instruction) (n : ℕ) (rest : List ℕ) → Signed i.operand
    → Backed i.operation (direct_of (mode_of i.operand)) (bit_of i.operand) (Some n)
    → allowed i.index i.operation (direct_of (mode_of i.operand)) ≡ true
    → decode_of ((prefix (prebyte_of i) ++ (n ∷ tail_of i.operand)) ++ rest)
    ≡ Ok (record { instruction = i; length = length (prefix (prebyte_of i) ++ (n ∷ tail_of i.operand)) })
reads i n rest s b a =
    let p = prebyte_of i in
    let ts = tail_of i.operand ++ rest in
    let bs = prefix p ++ (n ∷ ts) in
    let f : Form = record { operation = i.operation; mode = mode_of i.operand; index = i.index } in
    let len : length bs ≡ prebyte_length p + 1 + length ts = whole_length p n ts in
    let more : length ts ≡ operand_bytes (mode_of i.operand) + length rest = omega (arith, length-append (tail_of i.operand) rest, tail_length i.operand) in
    let room : prebyte_length p < length bs = omega arith in
    let all : prebyte_length p + 1 + operand_bytes (mode_of i.operand) ≤ length bs = omega arith in
    let size : prebyte_length p + 1 + operand_bytes (mode_of i.operand) ≡ length (prefix p ++ (n ∷ tail_of i.operand)) =
    omega (arith, whole_length p n (tail_of i.operand), tail_length i.operand) in
    ap decode_of (append_assoc (prefix p) (n ∷ tail_of i.operand) rest)
    ∙ (sym (found_is bs p (prebyte_length p) n (Some f) (started p n ts (i.operation, direct_of (mode_of i.operand)) b.0) refl room (opcode_at p n ts) (sym (form_right i n b.0 a)))
    ∙ (filling f i.operand bs rest (prebyte_length p) n refl s b.1 (first_at p n ts) (second_at p n ts) all
    ∙ ap (λ (v : ℕ). Ok (record { instruction = i; length = v })) size))

pub reads_back : (i : Instruction) → Signed i.operand → ReadsBack i
unfolding encode_of
reads_back i s bs rest e = go (opcode_of i) refl e
  where
    last : (n : ℕ) (a : Bool) → opcode_of i ≡ Some n → allowed i.index i.operation (direct_of (mode_of i.operand)) ≡ a
        → cond a (Some (prefix (prebyte_of i) ++ (n ∷ tail_of i.operand))) None ≡ Some bs
        → decode_of (bs ++ rest) ≡ Ok (record { instruction = i; length = length bs })
    last n false q t e = cc
    last n true q t e =
        let same : prefix (prebyte_of i) ++ (n ∷ tail_of i.operand) ≡ bs = cc in
        subst (λ (v : List ℕ). decode_of (v ++ rest) ≡ Ok (record { instruction = i; length = length v })) same
        (reads i n rest s (opcode_right i n q) t)

    go : (w : Option ℕ) → opcode_of i ≡ w → written i w ≡ Some bs → decode_of (bs ++ rest) ≡ Ok (record { instruction = i; length = length bs })
    go None q e = cc
    go (Some n) q e = last n (allowed i.index i.operation (direct_of (mode_of i.operand))) q refl e
