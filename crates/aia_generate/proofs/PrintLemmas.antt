-- Numbers in decimal.
use Rattle.std.proofs.Common.{◌≡◌, ℕ, ◌+◌, ◌^◌, ◌<◌, List, [], ◌∷◌, map, inl, inr, refl, sym, ap, ◌∙◌, arith, lt-ltb}
use Rattle.std.specs.Fmt.{decimal}
use Rattle.std.specs.Int.Digits.{digits_of, AllBelowBase}
use Rattle.std.proofs.lemmas.Bool.{cases_eq, cond-true, cond-false, ne_eqb}
use Rattle.std.proofs.lemmas.Fmt.{decimal_digit, decimal-digits_of}
use Rattle.std.proofs.lemmas.Int.Digits.{all_below_base_digits_of}
use Rattle.aia_model.specs.AnswerText.{digit_character, decimal_text}

decimal_characters : (ds : List ℕ) → AllBelowBase 10 ds → map (λ d. 48 + d) ds ≡ map digit_character ds
decimal_characters [] small = refl
decimal_characters (d ∷ ds) small =
    ap (λ x. x ∷ map (λ d. 48 + d) ds) (sym (cond-true _ _ _ (lt-ltb d 10 small.0)))
    ∙ ap (λ xs. digit_character d ∷ xs) (decimal_characters ds small.1)

-- std's text of a number is the model's
pub same_decimal : (n : ℕ) → n < 2 ^ 64 → decimal n ≡ decimal_text n
same_decimal n low =
    elim (cases_eq n 0) [
      | inl z ↦ ap decimal z ∙ decimal_digit 0 (omega arith) ∙ ap decimal_text (sym z)
      | inr ne ↦ decimal-digits_of n (omega arith) low
          ∙ decimal_characters (digits_of 10 n) (all_below_base_digits_of 10 n (omega arith))
          ∙ sym (cond-false _ _ _ (ne_eqb n 0 ne))
    ]
