-- What is read is written back.
use Rattle.std.proofs.Common.{◌≡◌, ℕ, zero, suc, ◌+◌, ◌<◌, ◌≤◌, Bool, true, List, [], ◌∷◌, ◌++◌, length, get_or, take, Some, None, Option, sym, refl, ap, ◌∙◌, arith}
use Rattle.std.proofs.lemmas.Int.{of_z-to_z}
use Rattle.std.proofs.lemmas.Bool.Decides.{nat_tests}
use Rattle.instruction.specs.declared.mode.Mode.{Mode}
use Rattle.instruction.specs.declared.mode.Index.{Index}
use Rattle.instruction.specs.declared.prebyte.Prebyte.{Prebyte}
use Rattle.instruction.specs.Modes.{mode_of, direct_of, is_indirect, operand_bytes}
use Rattle.instruction.specs.Prebytes.{byte_of, prebyte_at, prebyte_for, prebyte_length, index_behind, pointer_behind}
use Rattle.isa.specs.declared.opcode.Form.{Form}
use Rattle.isa.specs.Forms.{allowed, form_behind}
use Rattle.isa.specs.Decode.{operand_of}
use Rattle.instruction.proofs.Prebytes.{prebyte_again}
use Rattle.isa.proofs.Forms.{mode_kept, few, Parts, parts}
use Rattle.isa.proofs.Decoding.{read, reads_of}
use Rattle.encode.specs.Encode.{bit_of, tail_of, prefix, opcode_of, written, encode_of}
use Rattle.encode.specs.Laws.{WritesBack}
use Rattle.encode.proofs.Opcodes.{opcode_again}

-- the bit of an operand that was read, and its bytes
bit_kept : (m : Mode) (n a b : ℕ) → bit_of (operand_of m n a b) ≡ bit_of (operand_of (direct_of m) n 0 0)
bit_kept m n a b = grind arith

bit_small : (m : Mode) (n a b : ℕ) → bit_of (operand_of m n a b) < 8
bit_small m n a b = grind arith

tail_kept : (m : Mode) (n a b : ℕ) → a < 256 → b < 256 → tail_of (operand_of m n a b) ≡ take (operand_bytes m) (a ∷ b ∷ [])
tail_kept m n a b ha hb = grind (arith, of_z-to_z)

-- the first bytes of a list, case by case: `grind` does not take these lists apart
front : (bs : List ℕ) (c : ℕ) → c ≤ 2 → 1 + c ≤ length bs → get_or bs 0 0 ∷ take c (get_or bs 1 0 ∷ get_or bs 2 0 ∷ []) ≡ take (1 + c) bs
front [] c h l = absurd (omega arith)
front (x ∷ bs) zero h l = refl
front (x ∷ []) (suc c) h l = absurd (omega arith)
front (x ∷ y ∷ bs) (suc zero) h l = refl
front (x ∷ y ∷ []) (suc (suc c)) h l = absurd (omega arith)
front (x ∷ y ∷ z ∷ bs) (suc (suc zero)) h l = refl
front (x ∷ y ∷ z ∷ bs) (suc (suc (suc c))) h l = absurd (omega arith)

-- a prebyte that was read is the byte that it was read from
byte_again : (q : Prebyte) (b : ℕ) → Some q ≡ prebyte_at b → byte_of q ≡ b
byte_again q b e = grind (arith, nat_tests)

-- prebyte, opcode and operand are the first bytes
whole : (p : Option Prebyte) (bs : List ℕ) (c : ℕ) → p ≡ prebyte_at (get_or bs 0 0) → c ≤ 2 → prebyte_length p + 1 + c ≤ length bs
    → prefix p ++ (get_or bs (prebyte_length p) 0 ∷ take c (get_or bs (prebyte_length p + 1) 0 ∷ get_or bs (prebyte_length p + 2) 0 ∷ []))
    ≡ take (prebyte_length p + 1 + c) bs
whole None bs c e h l = front bs c h l
whole (Some q) [] c e h l = absurd (omega arith)
whole (Some q) (x ∷ bs) c e h l =
    let s : suc (1 + c) ≡ 1 + 1 + c = omega arith in
    let l1 : 1 + c ≤ length bs = omega arith in
    ap (λ (v : List ℕ). byte_of q ∷ v) (front bs c h l1) ∙ (ap (λ v. v ∷ take (1 + c) bs) (byte_again q x e) ∙ ap (λ (v : ℕ). take v (x ∷ bs)) s)

opcode_found : (i : Index) (d : Bool) (f : Form) (n a b : ℕ) → n < 256 → Parts i d n f → opcode_of (read f n a b) ≡ Some n
unfolding read
opcode_found i d f n a b h p = grind (arith, nat_tests, bit_small, mode_kept, bit_kept, opcode_again n h, p.plain)

written_is : (p : Option Prebyte) (f : Form) (n a b : ℕ) → n < 256 → a < 256 → b < 256 → form_behind p n ≡ Some f
    → encode_of (read f n a b) ≡ Some (prefix p ++ (n ∷ take (operand_bytes f.mode) (a ∷ b ∷ [])))
unfolding read encode_of
written_is p f n a b h ha hb q =
    let r = parts (index_behind p) (pointer_behind p) n f h q in
    let t : allowed f.index f.operation (direct_of (mode_of (operand_of f.mode n a b))) ≡ true = simp (mode_kept f.mode n a b, r.index, r.allows) in
    let x : prebyte_for f.index (is_indirect (mode_of (operand_of f.mode n a b))) ≡ p = simp (mode_kept f.mode n a b, r.index, r.turn, prebyte_again p) in
    ap (written (read f n a b)) (opcode_found (index_behind p) (pointer_behind p) f n a b h r) ∙ simp (t, x, tail_kept f.mode n a b ha hb)

pub writes_back : (bs : List ℕ) → ((k : ℕ) → get_or bs k 0 < 256) → WritesBack bs
writes_back bs hb d e =
    let p = prebyte_at (get_or bs 0 0) in
    let k = prebyte_length p in
    let r = reads_of bs d e in
    ap encode_of (sym r.instruction)
    ∙ (written_is p r.form (get_or bs k 0) (get_or bs (k + 1) 0) (get_or bs (k + 2) 0) (hb k) (hb (k + 1)) (hb (k + 2)) r.stands
    ∙ ap Some (whole p bs (operand_bytes r.form.mode) refl (few r.form.mode) r.room ∙ ap (λ n. take n bs) r.size))
