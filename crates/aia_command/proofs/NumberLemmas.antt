-- Which texts are numbers.
use Rattle.std.proofs.Common.{◌≡◌, ◌≤◌, ◌<◌, ◌↔◌, ◌^◌, ◌-◌, ℕ, Bool, true, false, [], ◌∷◌, length, suc, refl, ap, arith, Option, Some, None, Result, Ok, Err}
use Rattle.std.specs.Prelude.{◌==◌, option_and_then, drop, cond}
use Rattle.std.specs.Str.Parse.{IsNumeral, ParsesUnsigned, digits_value, without_leading_plus}
use Rattle.std.proofs.lemmas.Bool.{lt-ltb, ne_eqb}
use Rattle.std.proofs.lemmas.Str.Parse.{digit_from_value}
use Rattle.clap.specs.Matches.{ReadsOne}
use Rattle.clap.specs.ValueTests.{is_unsigned_in}
use Rattle.clap.specs.Walk.{Text}
use Rattle.clap.specs.declared.builder.value_parser.ValueParser.TheVariants as parser
use Rattle.clap.proofs.ValueTestLemmas.{accepts-Accepts, Accepts-accepts}
use Rattle.aia_command.specs.CommandLine.{number_of, number_up_to}

-- A text is one number at most, and a number wherever it is digits, with a plus before them or not.
pub number_up_to-some : (most n : ℕ) (text : Text)
    → (number_up_to most text ≡ Some n) ↔ (IsNumeral 10 (without_leading_plus text) × (digits_value 10 (without_leading_plus text) ≡ n)
    × (n ≤ most) × (n < 2 ^ 64))
number_up_to-some most n text = (go (is_unsigned_in 0 most text) refl, back)
  where
    go : (b : Bool) → is_unsigned_in 0 most text ≡ b → number_up_to most text ≡ Some n
        → IsNumeral 10 (without_leading_plus text) × (digits_value 10 (without_leading_plus text) ≡ n) × (n ≤ most) × (n < 2 ^ 64)
    go true is some =
        let passes = accepts-Accepts false (parser.Unsigned 0 most) text is in
        let found : Some (digits_value 10 (without_leading_plus text)) ≡ Some n = rw is at some in
        let same : digits_value 10 (without_leading_plus text) ≡ n = cc in
        (passes.0, same, omega arith, omega arith)
    go false is some =
        let none : ◌≡◌ {A = Option ℕ} None (Some n) = rw is at some in
        absurd (cc)

    back : IsNumeral 10 (without_leading_plus text) × (digits_value 10 (without_leading_plus text) ≡ n) × (n ≤ most) × (n < 2 ^ 64)
        → number_up_to most text ≡ Some n
    back h =
        let same = h.1 in
        rw (Accepts-accepts false (parser.Unsigned 0 most) text (h.0, omega arith, omega arith, omega arith)) (ap Some h.1)

-- What begins with a hyphen is no number.
pub no_number : (most : ℕ) (rest : Text) → number_up_to most (45 ∷ rest) ≡ None
no_number most rest = simp (lt-ltb 0 (suc (length rest)) (omega arith))

-- A number of a range is one of the widest.
pub widest : (most : ℕ) (text : Text) → is_unsigned_in 0 most text ≡ true → is_unsigned_in 0 (2 ^ 64 - 1) text ≡ true
widest most text fits =
    let passes = accepts-Accepts false (parser.Unsigned 0 most) text fits in
    Accepts-accepts false (parser.Unsigned 0 (2 ^ 64 - 1)) text (passes.0, passes.1, passes.2, omega arith)

-- A text is read as `u64` where it is a number.
pub number_read : {E : Type 0} (gives : Text → Result ℕ E → Type 0) (text : Option Text) (read : Option ℕ) → (text ≡ None → read ≡ None)
    → ((t : Text) → text ≡ Some t → ReadsOne gives t read)
    → ((t : Text) (r : Result ℕ E) → gives t r → ParsesUnsigned 64 10 t r) → read ≡ option_and_then number_of text
number_read gives None read none some only = none refl
number_read {E} gives (Some t) read none some only = go (is_unsigned_in 0 (2 ^ 64 - 1) t) refl read (some t refl)
  where
    go : (b : Bool) → is_unsigned_in 0 (2 ^ 64 - 1) t ≡ b → (r : Option ℕ) → ReadsOne gives t r → r ≡ number_of t
    go true is (Some n) h = rw is (ap Some (only t (Ok n) h).1)
    go true is None h =
        let passes = accepts-Accepts false (parser.Unsigned 0 (2 ^ 64 - 1)) t is in
        absurd (only t (Err h.0) h.1 (passes.0, passes.1))
    go false is (Some n) h =
        let gave = only t (Ok n) h in
        let passes : is_unsigned_in 0 (2 ^ 64 - 1) t ≡ true =
        Accepts-accepts false (parser.Unsigned 0 (2 ^ 64 - 1)) t (gave.0.0, gave.0.1, omega arith, omega arith) in
        cc
    go false is None h = rw is refl

-- Digits have no plus before them.
no_plus : (digits : Text) → IsNumeral 10 digits → without_leading_plus digits ≡ digits
no_plus [] h = refl
no_plus (d ∷ ds) h =
    let plus : (d == 43) ≡ false = ne_eqb _ _ (λ e. omega (arith, digit_from_value d h.1.0)) in
    ap (λ (b : Bool). drop (cond b 1 0) (d ∷ ds)) plus

pub digits_are_number : (most : ℕ) (digits : Text) → IsNumeral 10 digits → digits_value 10 digits ≤ most → digits_value 10 digits < 2 ^ 64
    → number_up_to most digits ≡ Some (digits_value 10 digits)
digits_are_number most digits numeral within fits =
    let same = no_plus digits numeral in
    (number_up_to-some most (digits_value 10 digits) digits).1 (rw same numeral, ap (digits_value 10) same, within, fits)
