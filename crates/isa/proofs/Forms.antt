-- The parts that a form is made of.
use Rattle.std.proofs.Common.{◌≡◌, ℕ, ◌<◌, ◌≤◌, Bool, true, false, cond, map, Some, None, Option, refl, arith}
use Rattle.std.specs.List.{range_with_len}
use Rattle.std.proofs.lemmas.Option.{none-some}
use Rattle.operation.specs.declared.Operation.{Operation}
use Rattle.instruction.specs.declared.mode.Mode.{Mode}
use Rattle.instruction.specs.declared.mode.Index.{Index}
use Rattle.instruction.specs.Modes.{mode_of, direct_of, is_indirect, operand_bytes}
use Rattle.isa.specs.declared.opcode.Form.{Form}
use Rattle.isa.specs.Map.{Plain, plain_at, at}
use Rattle.isa.specs.Forms.{allowed, turned, formed, form_of, form_at}
use Rattle.isa.specs.Decode.{operand_of}
use Rattle.isa.proofs.Below.{same_below}

-- the mode of an operand that was read
pub mode_kept : (m : Mode) (n a b : ℕ) → mode_of (operand_of m n a b) ≡ m
mode_kept m n a b = grind arith

pub few : (m : Mode) → operand_bytes m ≤ 2
few m = grind arith

-- no opcode of the map is indirect of itself
abbrev direct_plain : Option Plain → Bool
direct_plain None = false
direct_plain (Some (o, m)) = is_indirect m

all_direct : map (λ n. direct_plain (plain_at n)) (range_with_len 0 256) ≡ map (λ n. false) (range_with_len 0 256)
all_direct = refl

direct : (n : ℕ) → n < 256 → direct_plain (plain_at n) ≡ false
direct n h = same_below (λ n. direct_plain (plain_at n)) (λ n. false) 256 all_direct n h

-- the parts of a form
pub record Parts (i : Index) (b : Bool) (n : ℕ) (f : Form) : Type 0 where
  pub allows : allowed i f.operation (direct_of f.mode) ≡ true
  pub index : f.index ≡ i
  pub plain : plain_at n ≡ at (direct_of f.mode) f.operation
  pub turn : is_indirect f.mode ≡ b

-- a mode, turned as a prebyte says, and back
turned_back : (b : Bool) (m k : Mode) → is_indirect m ≡ false → turned b m ≡ Some k → (direct_of k ≡ m) × (is_indirect k ≡ b)
turned_back b m k d e = grind arith

made : (a : Bool) (i : Index) (o : Operation) (w : Option Mode) (f : Form) → cond a (formed i o w) None ≡ Some f
    → (a ≡ true) × (f.index ≡ i) × (f.operation ≡ o) × (w ≡ Some f.mode)
made a i o w f e = grind arith

pub parts : (i : Index) (b : Bool) (n : ℕ) (f : Form) → n < 256 → form_at i b n ≡ Some f → Parts i b n f
parts i b n f h e = go (plain_at n) refl (direct n h) e
  where
    go : (w : Option Plain) → plain_at n ≡ w → direct_plain w ≡ false → form_of i b w ≡ Some f → Parts i b n f
    go None q d e = absurd (none-some f e)
    go (Some (o, m)) q d e =
        let p = made (allowed i o m) i o (turned b m) f e in
        let t = turned_back b m f.mode d p.3 in
        record { allows = simp (p.2, t.0) p.0; index = p.1; plain = simp (p.2, t.0) q; turn = t.1 }
