-- The bytes that the encoder puts together.
use Rattle.std.proofs.Common.{◌≡◌, ℕ, suc, ◌+◌, List, [], ◌∷◌, length, take, get_or, refl, arith}

-- two bytes before the first k of two others
pub behind_two : (k p o : ℕ) (bs : List ℕ) → length bs ≡ 2 → take (2 + k) (p ∷ o ∷ get_or bs 0 0 ∷ get_or bs 1 0 ∷ []) ≡ p ∷ o ∷ take k bs
behind_two k p o [] two = absurd (omega arith)
behind_two k p o (a ∷ []) two = absurd (omega arith)
behind_two k p o (a ∷ b ∷ []) two = let e : 2 + k ≡ suc (suc k) = omega arith in rw e refl
behind_two k p o (a ∷ b ∷ c ∷ bs) two = absurd (omega arith)
