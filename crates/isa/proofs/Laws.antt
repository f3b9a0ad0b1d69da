-- Lengths and cycles of what was decoded.
use Rattle.std.proofs.Common.{◌≡◌, ℕ, ◌+◌, ◌<◌, ◌≤◌, Bool, true, false, cond, leb, List, map, get_or, Some, None, Ok, Err, Option, Result, sym, ap, ◌∙◌, subst, arith}
use Rattle.std.specs.List.{range_with_len}
use Rattle.std.proofs.lemmas.Bool.{leb-true}
use Rattle.instruction.specs.declared.mode.Mode.{Mode}
use Rattle.instruction.specs.declared.mode.Index.{Index}
use Rattle.instruction.specs.Modes.{direct_of, is_indirect, operand_bytes}
use Rattle.instruction.specs.declared.prebyte.Prebyte.{Prebyte}
use Rattle.instruction.specs.Prebytes.{prebyte_at, prebyte_for, index_behind, pointer_behind, prebyte_length, prebyte_cycles}
use Rattle.instruction.specs.Rows.{row_length, row_cycles, with_prebyte, length_of, cycles_of}
use Rattle.isa.specs.declared.opcode.Form.{Form}
use Rattle.isa.specs.declared.decoder.Decoded.{Decoded}
use Rattle.isa.specs.declared.fault.DecodeFault.{DecodeFault}
use Rattle.isa.specs.Forms.{form_at, form_behind}
use Rattle.isa.specs.Decode.{decode_of}
use Rattle.isa.specs.Laws.{Sized, Timed}
use Rattle.instruction.proofs.Prebytes.{prebyte_again}
use Rattle.isa.proofs.Below.{same_below}
use Rattle.isa.proofs.Decoding.{read, reads_of}
use Rattle.isa.proofs.Forms.{mode_kept, few, parts}
use Rattle.isa.proofs.Sizes.{form_sized}

-- the cycles of a form
abbrev form_cycles : Form → ℕ
form_cycles f = with_prebyte (row_cycles f.operation (direct_of f.mode)) (prebyte_cycles (prebyte_for f.index (is_indirect f.mode)))

abbrev timely : Option Form → Bool
timely None = true
timely (Some f) = cond (leb 2 (form_cycles f)) (leb (form_cycles f) 12) false

all_timely : (i : Index) (b : Bool) → map (λ n. timely (form_at i b n)) (range_with_len 0 256) ≡ map (λ n. true) (range_with_len 0 256)
all_timely i b = grind arith

each_timely : (i : Index) (b : Bool) (n : ℕ) → n < 256 → timely (form_at i b n) ≡ true
each_timely i b n h = same_below (λ n. timely (form_at i b n)) (λ n. true) 256 (all_timely i b) n h

both : (p q : Bool) → cond p q false ≡ true → (p ≡ true) × (q ≡ true)
both p q e = grind arith

form_timed : (i : Index) (b : Bool) (n a c : ℕ) (f : Form) → n < 256 → form_at i b n ≡ Some f
    → (2 ≤ cycles_of (read f n a c)) × (cycles_of (read f n a c) ≤ 12)
unfolding read cycles_of
form_timed i b n a c f h e =
    let same : cycles_of (read f n a c) ≡ form_cycles f =
    ap (λ (m : Mode). with_prebyte (row_cycles f.operation (direct_of m)) (prebyte_cycles (prebyte_for f.index (is_indirect m)))) (mode_kept f.mode n a c) in
    let t : (leb 2 (form_cycles f) ≡ true) × (leb (form_cycles f) 12 ≡ true) =
    both (leb 2 (form_cycles f)) (leb (form_cycles f) 12) (sym (ap timely e) ∙ each_timely i b n h) in
    (subst (λ v. 2 ≤ v) (sym same) (leb-true 2 (form_cycles f) t.0), subst (λ v. v ≤ 12) (sym same) (leb-true (form_cycles f) 12 t.1))

one_more : (n more : ℕ) → with_prebyte (1 + n) more ≡ 1 + n + more
one_more n more = grind arith

form_length : (p : Option Prebyte) (n a c : ℕ) (f : Form) → n < 256 → form_behind p n ≡ Some f
    → length_of (read f n a c) ≡ 1 + operand_bytes f.mode + prebyte_length p
unfolding read length_of
form_length p n a c f h e =
    let q = parts (index_behind p) (pointer_behind p) n f h e in
    ap (λ (m : Mode). with_prebyte (row_length f.operation m) (prebyte_length (prebyte_for f.index (is_indirect m)))) (mode_kept f.mode n a c)
    ∙ (ap (λ v. with_prebyte v (prebyte_length (prebyte_for f.index (is_indirect f.mode)))) (form_sized (index_behind p) (pointer_behind p) n f h e)
    ∙ (ap (λ v. with_prebyte (1 + operand_bytes f.mode) (prebyte_length (prebyte_for v (is_indirect f.mode)))) q.index
    ∙ (ap (λ v. with_prebyte (1 + operand_bytes f.mode) (prebyte_length (prebyte_for (index_behind p) v))) q.turn
    ∙ (ap (λ v. with_prebyte (1 + operand_bytes f.mode) (prebyte_length v)) (prebyte_again p) ∙ one_more (operand_bytes f.mode) (prebyte_length p)))))

place_small : (p : Option Prebyte) → prebyte_length p ≤ 1
place_small p = grind arith

decoded_sized : (bs : List ℕ) (d : Decoded) → ((k : ℕ) → get_or bs k 0 < 256) → decode_of bs ≡ Ok d → Sized bs (Ok d)
decoded_sized bs d hb e =
    let p = prebyte_at (get_or bs 0 0) in
    let r = reads_of bs d e in
    let l = form_length p (get_or bs (prebyte_length p) 0) (get_or bs (prebyte_length p + 1) 0) (get_or bs (prebyte_length p + 2) 0) r.form (hb (prebyte_length p)) r.stands in
    let same : d.length ≡ length_of d.instruction = omega (arith, r.size, l, ap length_of r.instruction) in
    (same, omega (arith, r.size), omega (arith, r.size, few r.form.mode, place_small p), omega (arith, r.size, r.room))

decoded_timed : (bs : List ℕ) (d : Decoded) → ((k : ℕ) → get_or bs k 0 < 256) → decode_of bs ≡ Ok d → Timed (Ok d)
decoded_timed bs d hb e =
    let p = prebyte_at (get_or bs 0 0) in
    let r = reads_of bs d e in
    subst (λ i. (2 ≤ cycles_of i) × (cycles_of i ≤ 12)) r.instruction
    (form_timed (index_behind p) (pointer_behind p) (get_or bs (prebyte_length p) 0) (get_or bs (prebyte_length p + 1) 0) (get_or bs (prebyte_length p + 2) 0) r.form (hb (prebyte_length p)) r.stands)

-- the laws of an answer that is known to be the definition's
pub sized : (bs : List ℕ) (r : Result Decoded DecodeFault) → ((k : ℕ) → get_or bs k 0 < 256) → r ≡ decode_of bs → Sized bs r
sized bs (Err x) h e = tt
sized bs (Ok d) h e = decoded_sized bs d h (sym e)

pub timed : (bs : List ℕ) (r : Result Decoded DecodeFault) → ((k : ℕ) → get_or bs k 0 < 256) → r ≡ decode_of bs → Timed r
timed bs (Err x) h e = tt
timed bs (Ok d) h e = decoded_timed bs d h (sym e)
