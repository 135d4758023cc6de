-- Numbers and instructions, as they are printed.
use Rattle.std.proofs.Common.{◌≡◌, ℕ, ◌+◌, ◌/◌, ◌%◌, ◌^◌, ◌<◌, ◌≤◌, List, [], ◌∷◌, ◌++◌, length, map, refl, sym, ap, subst, ◌∙◌, append_assoc, length-append, arith}
use Rattle.std.specs.Int.Digits.{digits_of}
use Rattle.std.specs.List.{join_with_byte}
use Rattle.std.proofs.lemmas.List.{map-append}
use Rattle.std.proofs.lemmas.Int.Digits.{digits_of_step, length-digits_of-le}
use Rattle.aia_regs.specs.declared.access.Op.{Op}
use Rattle.aia_regs.specs.declared.access.Op.TheVariants as ops
use Rattle.aia_model.specs.AnswerText.{digit_character, number_text}
use Rattle.aia_model.proofs.PrintedNumbers.{length-number_text}
use Rattle.std.specs.List.{AllByRecursion}
use Rattle.aia_regs.specs.declared.access.Csr.{Csr}
use Rattle.aia_regs.specs.Operations.{FitsOp}
use Rattle.aia_model.specs.Grammar.{fields}
use Rattle.aia_model.specs.Forms.{instruction, access_values, part_fields}
use Rattle.aia_model.specs.AnswerText.{field_text, part_text}
use Rattle.aia_model.specs.declared.part.Part.{Part}
use Rattle.aia_model.specs.declared.part.Part.TheVariants as parts
use Rattle.aia_model.specs.Printing.{FitsField}
use Rattle.aia_regs.specs.declared.access.Level.{Level}
use Rattle.aia_script.specs.declared.number.Radix.{Radix}
use Rattle.aia_script.specs.declared.number.Radix.TheVariants.{Decimal, Hexadecimal}
use Rattle.aia_script.specs.Digits.{base}

-- an instruction after other words
pub joined_instruction : (word : List ℕ) (level : Level) (csr : Csr) (op : Op)
    → join_with_byte 32 (word ∷ map field_text (fields (instruction level) (access_values level csr op))) ≡ word ++ 32 ∷ join_with_byte 32
    (map field_text (fields (instruction level) (access_values level csr op)))
joined_instruction word level csr ops.Read = refl
joined_instruction word level csr (ops.Write v) = refl
joined_instruction word level csr (ops.Set v) = refl
joined_instruction word level csr (ops.Clear v) = refl

-- a part of an image after other words
pub joined_part : (word : List ℕ) (part : Part) → join_with_byte 32 (word ∷ map field_text (part_fields part)) ≡ word ++ 32 ∷ part_text part
joined_part word (parts.Image version n delivery threshold select) = refl
joined_part word (parts.Majors injected enabled) = refl
joined_part word (parts.Prio hviprio hvictl) = refl
joined_part word (parts.Word w pending enable) = refl

-- the digits of a number below 2^64
pub few_digits : (radix : Radix) (n : ℕ) → n < 2 ^ 64 → length (digits_of (base radix) n) ≤ 20
few_digits Decimal n low = length-digits_of-le 10 20 n (omega arith) (omega arith)
few_digits Hexadecimal n low = let few : length (digits_of 16 n) ≤ 16 = length-digits_of-le 16 16 n (omega arith) (omega arith) in omega arith

pub few_decimal_digits : (n : ℕ) → n < 2 ^ 32 → length (number_text 10 n) ≤ 10
few_decimal_digits n low = length-number_text 10 10 n (omega arith) (omega arith) (omega arith)

two_digits : (radix : Radix) → 2 ≤ base radix
two_digits Decimal = omega arith
two_digits Hexadecimal = omega arith

-- the digits above the last one, and the last one
pub digits_above : (radix : Radix) (b n : ℕ) → b ≡ base radix → 0 < n
    → length (digits_of (base radix) n) ≡ length (digits_of (base radix) (n / b)) + 1
digits_above radix b n e some = ap length (subst (λ b. digits_of (base radix) n ≡ digits_of (base radix) (n / b) ++ n % b ∷ []) (sym e)
    (digits_of_step (base radix) n (two_digits radix) some)) ∙ length-append (digits_of (base radix) (n / b)) (n % b ∷ [])

-- one digit is appended
pub digit_appended : (new mid out : List ℕ) (radix : Radix) (b n d : ℕ) → b ≡ base radix → 0 < n
    → mid ≡ out ++ map digit_character (digits_of (base radix) (n / b)) → new ≡ mid ++ d ∷ [] → d ≡ digit_character (n % b)
    → new ≡ out ++ map digit_character (digits_of (base radix) n)
digit_appended new mid out radix b n d e some above pushed is =
    let step : digits_of (base radix) n ≡ digits_of (base radix) (n / b) ++ n % b ∷ [] =
    subst (λ b. digits_of (base radix) n ≡ digits_of (base radix) (n / b) ++ n % b ∷ []) (sym e)
    (digits_of_step (base radix) n (two_digits radix) some) in
    pushed
    ∙ ap (λ m. m ++ d ∷ []) above
    ∙ append_assoc out (map digit_character (digits_of (base radix) (n / b))) (d ∷ [])
    ∙ ap (λ t. out ++ t) (ap (λ d. map digit_character (digits_of (base radix) (n / b)) ++ d ∷ []) is
    ∙ sym (map-append digit_character (digits_of (base radix) (n / b)) (n % b ∷ [])) ∙ ap (map digit_character) (sym step))

-- what is left of a number is smaller
pub smaller : (radix : Radix) (b n : ℕ) → b ≡ base radix → 0 < n → n / b < n
smaller Decimal b n e some = rw e (omega arith)
smaller Hexadecimal b n e some = rw e (omega arith)

pub digit_low : (radix : Radix) (b n : ℕ) → b ≡ base radix → n % b < 16
digit_low Decimal b n e = rw e (omega arith)
digit_low Hexadecimal b n e = rw e (omega arith)

-- the fields of a CSR instruction whose operand is in range
pub access_in_range : (level : Level) (csr : Csr) (op : Op) → FitsOp op
    → AllByRecursion FitsField (fields (instruction level) (access_values level csr op))
access_in_range level csr ops.Read fits = (tt, (tt, tt))
access_in_range level csr (ops.Write v) fits = (tt, (tt, (fits, tt)))
access_in_range level csr (ops.Set v) fits = (tt, (tt, (fits, tt)))
access_in_range level csr (ops.Clear v) fits = (tt, (tt, (fits, tt)))
