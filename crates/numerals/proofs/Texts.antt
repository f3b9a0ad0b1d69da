-- What std writes of a word, with zeros before it up to four digits, is its text here.
use Rattle.std.proofs.Common.{◌≡◌, ℕ, suc, ◌-◌, ◌/◌, ◌%◌, ◌^◌, ◌<◌, ◌≤◌, true, false, List, [], ◌∷◌, ◌∙◌, arith}
use Rattle.std.proofs.lemmas.Fmt.{hex_one_digit, hex_two_digits}
use Rattle.std.specs.Fmt.{digits, digits_onto, char_count, padded_integral, format_spec}
use Rattle.numerals.specs.Numerals.{hex_digit, hex2, hex4}

-- a last digit, and one with others before it
onto_last : (k n : ℕ) (acc : List ℕ) → n < 16 → digits_onto (suc k) 16 true n acc ≡ hex_digit n ∷ acc
onto_last k n acc small = grind arith

onto_step : (k n : ℕ) (acc : List ℕ) → 16 ≤ n → digits_onto (suc k) 16 true n acc ≡ digits_onto k 16 true (n / 16) (hex_digit (n % 16) ∷ acc)
onto_step k n acc large = grind arith

-- three digits, and four
digits_three : (n : ℕ) → 256 ≤ n → n < 4096 → digits 16 true n ≡ hex_digit (n / 256) ∷ hex_digit (n / 16 % 16) ∷ hex_digit (n % 16) ∷ []
unfolding digits
digits_three n large small =
    let first : n / 16 / 16 ≡ n / 256 = omega arith in
    onto_step 63 n [] (omega arith) ∙ onto_step 62 (n / 16) _ (omega arith) ∙ onto_last 61 (n / 16 / 16) _ (omega arith) ∙ cc

digits_four : (n : ℕ) → 4096 ≤ n → n < 65536 → digits 16 true n ≡ hex_digit (n / 256 / 16) ∷ hex_digit (n / 256 % 16) ∷ hex_digit (n / 16 % 16) ∷ hex_digit (n % 16) ∷ []
unfolding digits
digits_four n large small =
    let front : n / 16 / 16 ≡ n / 256 = omega arith in
    onto_step 63 n [] (omega arith) ∙ onto_step 62 (n / 16) _ (omega arith) ∙ onto_step 61 (n / 16 / 16) _ (omega arith) ∙ onto_last 60 (n / 16 / 16 / 16) _ (omega arith) ∙ cc

-- a word
pub word_text : (n : ℕ) → n < 65536 → padded_integral (format_spec 32 0 4 4 (2 ^ 64 - 1)) false [] (digits 16 true n) ≡ hex4 n
unfolding hex2 hex4 padded_integral char_count
word_text n small = grind (arith, hex_one_digit, hex_two_digits, digits_three, digits_four)
