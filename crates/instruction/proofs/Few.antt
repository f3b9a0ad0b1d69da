-- No row has a large number.
use Rattle.std.proofs.Common.{◌≡◌, ℕ, ◌<◌, Bool, true, false, cond, ltb, List, [], ◌∷◌, get_or, refl, arith}
use Rattle.std.proofs.lemmas.Bool.Decides.{nat_tests}
use Rattle.operation.specs.declared.Operation.{Operation}
use Rattle.operation.proofs.Order.{same_everywhere}
use Rattle.instruction.specs.declared.mode.Mode.{Mode}
use Rattle.instruction.specs.Order.{mode_number}
use Rattle.instruction.specs.Rows.{cycle_row, length_row, row_cycles, row_length}

-- whether each number of a row is below a bound
abbrev below : ℕ → List ℕ → Bool
below bound [] = true
below bound (n ∷ ns) = cond (ltb n bound) (below bound ns) false

each_below : (bound : ℕ) (ns : List ℕ) (k : ℕ) → 0 < bound → below bound ns ≡ true → get_or ns k 0 < bound
each_below bound [] k h e = grind arith
each_below bound (n ∷ ns) k h e = grind (arith, nat_tests, each_below bound ns)

pub few_cycles : (o : Operation) (m : Mode) → row_cycles o m < 12
few_cycles o m = each_below 12 (cycle_row o) (mode_number m) (omega arith) (same_everywhere (λ o. below 12 (cycle_row o)) (λ o. true) refl o)

pub few_bytes : (o : Operation) (m : Mode) → row_length o m < 4
few_bytes o m = each_below 4 (length_row o) (mode_number m) (omega arith) (same_everywhere (λ o. below 4 (length_row o)) (λ o. true) refl o)
