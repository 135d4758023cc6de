-- The digits of a number, by their base, and the number that a text begins with.
use Rattle.std.specs.Prelude.{ℕ, zero, suc, ◌+◌, ◌*◌, ◌^◌, nat_eq, if◌then◌else◌, List, [], ◌∷◌, length, Option, Some, None}
use Rattle.aia_model.specs.Text.{decimal_digit, hex_digit, below, ◌>>=◌}
use Rattle.aia_script.specs.Cursor.{words_after}
use Rattle.aia_script.specs.declared.number.Radix.{Radix}
use Rattle.aia_script.specs.declared.number.Radix.TheVariants.{Decimal, Hexadecimal}

-- How many digits there are.
abbrev pub base : Radix → ℕ
base Decimal = 10
base Hexadecimal = 16

-- The digit that a character stands for.
abbrev pub digit_in : Radix → ℕ → Option ℕ
digit_in Decimal = decimal_digit
digit_in Hexadecimal = hex_digit

-- A number, and the words after it, where its word ends as a text begins.
abbrev pub ended : ℕ → List ℕ → Option (ℕ × List (List ℕ))
ended n text = words_after text >>= λ words. Some (n, words)

-- The number that digits spell after the digits of n, up to the end of the word that a text begins
-- with, and the words after it; None where a character is no digit, or there are more than `most`.
unfoldable pub number_from : Radix → ℕ → ℕ → List ℕ → Option (ℕ × List (List ℕ))
number_from radix most n [] = ended n []
number_from radix zero n (c ∷ cs) = ended n (c ∷ cs)
number_from radix (suc most) n (c ∷ cs) =
    if nat_eq c 32 then ended n (c ∷ cs)
    else (digit_in radix c >>= λ d. number_from radix most (n * base radix + d) cs)

-- The same, where the number is below 2^64.
abbrev pub below_limit : Option (ℕ × List (List ℕ)) → Option (ℕ × List (List ℕ))
below_limit found = found >>= λ p. below (2 ^ 64) p.0 >>= λ n. Some (n, p.1)

-- The number of a text's first word, with the words after it; given what follows `0x`, what follows
-- `0`, or the whole text.
abbrev pub after_x : List ℕ → Option (ℕ × List (List ℕ))
after_x [] = None
after_x (c ∷ cs) = hex_digit c >>= λ d. below_limit (number_from Hexadecimal 15 d cs)

abbrev pub after_zero : List ℕ → Option (ℕ × List (List ℕ))
after_zero [] = ended 0 []
after_zero (c ∷ cs) = if nat_eq c 120 then after_x cs else ended 0 (c ∷ cs)

abbrev pub first_number : List ℕ → Option (ℕ × List (List ℕ))
first_number [] = None
first_number (c ∷ cs) =
    if nat_eq c 48 then after_zero cs
    else (decimal_digit c >>= λ d. below_limit (number_from Decimal (length cs) d cs))
