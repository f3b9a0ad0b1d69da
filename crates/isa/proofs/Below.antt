-- What is computed for each number below a bound holds of each.
use Rattle.std.proofs.Common.{◌≡◌, ℕ, ◌<◌, map, get_or, sym, ap, ◌∙◌, arith}
use Rattle.std.specs.List.{range_with_len}
use Rattle.std.proofs.lemmas.List.FromFn.{get_or-map-range_with_len}

-- two functions with the same values below a bound: at literal functions and a literal bound, refl shows the equation of the two lists
pub same_below :
    {A : Type 0} (f g : ℕ → A) (bound : ℕ) → map f (range_with_len 0 bound) ≡ map g (range_with_len 0 bound) → (n : ℕ) → n < bound → f n ≡ g n
same_below f g bound e n h =
    sym (get_or-map-range_with_len f 0 bound n n (f n) h (omega arith))
    ∙ (ap (λ xs. get_or xs n (f n)) e ∙ get_or-map-range_with_len g 0 bound n n (f n) h (omega arith))
