-- A number, read digit by digit to the end of its word.
use Rattle.std.proofs.Common.{◌≡◌, ℕ, zero, suc, ◌+◌, ◌-◌, ◌*◌, ◌^◌, ◌<◌, ◌≤◌, Bool, true, false, ◌&&◌, nat_eq, List, [], ◌∷◌, length, take, drop, get_or, Option, Some, None, inl, inr, refl, sym, ap, ◌∙◌, arith}
use Rattle.std.proofs.Math.Nat.{pow-suc, pow-le-pow_right}
use Rattle.std.specs.List.{onto_first}
use Rattle.std.proofs.lemmas.Grind.{common_steps}
use Rattle.std.proofs.lemmas.List.{at_drop_more, at_drop_all}
use Rattle.std.proofs.lemmas.Bool.Decides.{nat_tests}
use Rattle.std.proofs.lemmas.List.Splits.{length-slice_split}
use Rattle.std.proofs.lemmas.Bool.{cases_lt, cond-true, cond-false, lt-ltb, le-ltb}
use Rattle.std.specs.Prelude.{count_by, cond, ◌⊎◌, if◌then◌else◌}
use Rattle.std.specs.Int.{is_in_range}
use Rattle.aia_model.specs.Text.{words_of, decimal_digit, hex_digit, value_after, below, number_of, ◌>>=◌}
use Rattle.aia_model.specs.Text as text
use Rattle.aia_model.specs.Reading.{word_at, number_at}
use Rattle.aia_script.specs.declared.number.Radix.{Radix}
use Rattle.aia_script.specs.declared.number.Radix.TheVariants.{Decimal, Hexadecimal}
use Rattle.aia_script.specs.Cursor.{words_after}
use Rattle.aia_script.specs.Digits.{base, digit_in, ended, below_limit, number_from, after_x, after_zero, first_number}

-- ---- one character

-- a space is no digit
pub not_space : (radix : Radix) (c d : ℕ) → digit_in radix c ≡ Some d → nat_eq c 32 ≡ false
not_space Decimal c d e = grind arith
not_space Hexadecimal c d e = grind arith

abbrev with_words : ℕ → Option (List (List ℕ)) → Option (ℕ × List (List ℕ))
with_words n o = o >>= λ ws. Some (n, ws)

abbrev with_number : List (List ℕ) → Option ℕ → Option (ℕ × List (List ℕ))
with_number ws o = o >>= λ n. Some (n, ws)

one_digit : (radix : Radix) (most n c d : ℕ) (cs : List ℕ) → 0 < most → digit_in radix c ≡ Some d
    → number_from radix most n (c ∷ cs) ≡ number_from radix (most - 1) (n * base radix + d) cs
unfolding number_from
one_digit radix zero n c d cs h e = absurd (omega arith)
one_digit radix (suc most) n c d cs h e =
    let one : suc most - 1 ≡ most = omega arith in
    cond-false _ _ _ (not_space radix c d e)
    ∙ ap (λ o. o >>= λ d. number_from radix most (n * base radix + d) cs) e
    ∙ ap (λ k. number_from radix k (n * base radix + d) cs) (sym one)

no_digit_here : (radix : Radix) (most n c : ℕ) (cs : List ℕ) → digit_in radix c ≡ None → number_from radix most n (c ∷ cs) ≡ ended n (c ∷ cs)
unfolding number_from
no_digit_here radix zero n c cs e = refl
no_digit_here radix (suc most) n c cs e =
    ap (λ o. cond (nat_eq c 32) (ended n (c ∷ cs)) (o >>= λ d. number_from radix most (n * base radix + d) cs)) e
    ∙ either (nat_eq c 32) (Some (words_of cs))
  where
    either : (b : Bool) (o : Option (List (List ℕ))) → cond b (with_words n (cond b o None)) None ≡ with_words n (cond b o None)
    either true o = refl
    either false o = refl

-- ---- at a place of a text

pub digit_taken : (radix : Radix) (most n at d : ℕ) (text : List ℕ) → at < most → at < length text → digit_in radix (get_or text at 0) ≡ Some d
    → number_from radix (most - at) n (drop at text) ≡ number_from radix (most - (at + 1)) (n * base radix + d) (drop (at + 1) text)
digit_taken radix most n at d text room there e =
    let less : most - at - 1 ≡ most - (at + 1) = omega arith in
    at_drop_more (number_from radix (most - at) n) text at 0 there
    ∙ one_digit radix (most - at) n (get_or text at 0) d (drop (at + 1) text) (omega arith) e
    ∙ ap (λ k. number_from radix k (n * base radix + d) (drop (at + 1) text)) less

pub digits_end : (radix : Radix) (most n at : ℕ) (text : List ℕ) → at < length text → digit_in radix (get_or text at 0) ≡ None
    → number_from radix most n (drop at text) ≡ ended n (drop at text)
digits_end radix most n at text there e =
    at_drop_more (number_from radix most n) text at 0 there
    ∙ no_digit_here radix most n (get_or text at 0) (drop (at + 1) text) e
    ∙ sym (at_drop_more (ended n) text at 0 there)

pub text_ends : (radix : Radix) (most n at : ℕ) (text : List ℕ) → length text ≤ at → number_from radix most n (drop at text) ≡ ended n (drop at text)
unfolding number_from
text_ends radix most n at text past = at_drop_all (number_from radix most n) text at past ∙ sym (at_drop_all (ended n) text at past)

pub no_room : (radix : Radix) (n : ℕ) (text : List ℕ) → number_from radix 0 n text ≡ ended n text
unfolding number_from
no_room radix n [] = refl
no_room radix n (c ∷ cs) = refl

-- a slice from a place on
pub from_there : (at : ℕ) (text : List ℕ) → take (length text - at) (drop at text) ≡ drop at text
from_there at text = grind (arith, common_steps)

-- ---- the limit

pub none_below : (limit n : ℕ) → below limit n ≡ None → limit ≤ n
none_below limit n e =
    elim (cases_lt n limit) [
      | inl h ↦ let e2 : ◌≡◌ {A = Option ℕ} (Some n) None = sym (cond-true _ _ _ (lt-ltb _ _ h)) ∙ e in absurd (cc)
      | inr h ↦ h
    ]

pub is_below : (limit n m : ℕ) → below limit n ≡ Some m → (n ≡ m) × (n < limit)
is_below limit n m e =
    elim (cases_lt n limit) [
      | inl h ↦ let e2 : Some n ≡ Some m = sym (cond-true _ _ _ (lt-ltb _ _ h)) ∙ e in (cc, h)
      | inr h ↦ let e2 : ◌≡◌ {A = Option ℕ} None (Some m) = sym (cond-false _ _ _ (le-ltb _ _ h)) ∙ e in absurd (cc)
    ]

pub within_limit : (n : ℕ) (text : List ℕ) → n < 2 ^ 64 → below_limit (ended n text) ≡ ended n text
within_limit n text low = each (words_after text)
  where
    each : (o : Option (List (List ℕ))) → below_limit (with_words n o) ≡ with_words n o
    each None = refl
    each (Some ws) = ap (with_number ws) (cond-true _ _ _ (lt-ltb _ _ low))

large_ended : (n : ℕ) (text : List ℕ) → 2 ^ 64 ≤ n → below_limit (ended n text) ≡ None
large_ended n text high = each (words_after text)
  where
    each : (o : Option (List (List ℕ))) → below_limit (with_words n o) ≡ None
    each None = refl
    each (Some ws) = ap (with_number ws) (cond-false _ _ _ (le-ltb _ _ high))

some_base : (radix : Radix) → 1 ≤ base radix
some_base Decimal = omega arith
some_base Hexadecimal = omega arith

grown : (n b d : ℕ) → 1 ≤ b → 2 ^ 64 ≤ n → 2 ^ 64 ≤ n * b + d
grown n b d one high = grind arith

-- a number that is too large stays so, whatever follows
pub stays_large : (radix : Radix) (most n : ℕ) (text : List ℕ) → 2 ^ 64 ≤ n → below_limit (number_from radix most n text) ≡ None
unfolding number_from
stays_large radix most n [] high = large_ended n [] high
stays_large radix zero n (c ∷ cs) high = large_ended n (c ∷ cs) high
stays_large radix (suc most) n (c ∷ cs) high =
    chosen (nat_eq c 32) (digit_in radix c) (λ d. stays_large radix most (n * base radix + d) cs (grown n (base radix) d (some_base radix) high))
  where
    chosen : (b : Bool) (o : Option ℕ) → ((d : ℕ) → below_limit (number_from radix most (n * base radix + d) cs) ≡ None)
        → below_limit (cond b (ended n (c ∷ cs)) (o >>= λ d. number_from radix most (n * base radix + d) cs)) ≡ None
    chosen true o rest = large_ended n (c ∷ cs) high
    chosen false None rest = refl
    chosen false (Some d) rest = rest d

-- ---- hexadecimal digits need no test of the limit

pub room_for : (n at d : ℕ) → n < 16 ^ (at + 1) → at < 15 → d < 16 → (n * 16 + d < 16 ^ (at + 1 + 1)) × (n * 16 + d < 2 ^ 64)
room_for n at d low few digit =
    let next : at + 1 + 1 ≡ suc (at + 1) = omega arith in
    let more : 16 ^ (at + 1 + 1) ≡ 16 ^ (at + 1) * 16 = ap (λ k. 16 ^ k) next ∙ pow-suc 16 (at + 1) in
    let high : 16 ^ (at + 1) ≤ 16 ^ 15 = pow-le-pow_right {n = 16} (omega arith) {i = at + 1} {j = 15} (omega arith) in
    (omega arith, omega arith)

-- ---- the first word of a text

-- what digits spell after those of n, where there are at most `most`
unfoldable value_within : Radix → ℕ → ℕ → List ℕ → Option ℕ
value_within radix most n [] = Some n
value_within radix zero n (c ∷ cs) = None
value_within radix (suc most) n (c ∷ cs) = digit_in radix c >>= λ d. value_within radix most (n * base radix + d) cs

-- the first word, and those after it
abbrev of_first : {X : Type 0} → List (List ℕ) → (List ℕ → List (List ℕ) → Option X) → Option X
of_first ws f = word_at ws >>= λ p. f p.0 p.1

onto : {X : Type 0} (c : ℕ) (ws : List (List ℕ)) (f : List ℕ → List (List ℕ) → Option X) → 0 < length ws
    → of_first (onto_first c ws) f ≡ of_first ws (λ w rest. f (c ∷ w) rest)
onto c [] f some = absurd (omega arith)
onto c (w ∷ ws) f some = refl

some_words : (text : List ℕ) → 0 < length (words_of text)
some_words text = let e : length (words_of text) ≡ count_by (λ b. nat_eq b 32) text + 1 = length-slice_split (λ b. nat_eq b 32) text in omega arith

-- a character that is no space belongs to the first word
in_word : {X : Type 0} (c : ℕ) (cs : List ℕ) (f : List ℕ → List (List ℕ) → Option X) → nat_eq c 32 ≡ false
    → of_first (words_of (c ∷ cs)) f ≡ of_first (words_of cs) (λ w rest. f (c ∷ w) rest)
in_word c cs f e = ap (λ ws. of_first ws f) (cond-false _ _ _ e) ∙ onto c (words_of cs) f (some_words cs)

ends_word : {X : Type 0} (c : ℕ) (cs : List ℕ) (f : List ℕ → List (List ℕ) → Option X) → nat_eq c 32 ≡ true
    → of_first (words_of (c ∷ cs)) f ≡ f [] (words_of cs)
ends_word c cs f e = ap (λ ws. of_first ws f) (cond-true _ _ _ e)

same_of_first : {X : Type 0} (ws : List (List ℕ)) (f g : List ℕ → List (List ℕ) → Option X)
    → ((w : List ℕ) (rest : List (List ℕ)) → f w rest ≡ g w rest) → of_first ws f ≡ of_first ws g
same_of_first [] f g same = refl
same_of_first (w ∷ ws) f g same = same w ws

-- a digit that is read before the rest of its word
digit_first : (o : Option ℕ) (ws : List (List ℕ)) (f : ℕ → List ℕ → Option ℕ)
    → (o >>= λ d. of_first ws (λ w rest. with_number rest (f d w))) ≡ of_first ws (λ w rest. with_number rest (o >>= λ d. f d w))
digit_first None [] f = refl
digit_first None (w ∷ ws) f = refl
digit_first (Some d) [] f = refl
digit_first (Some d) (w ∷ ws) f = refl

then_same : {X : Type 0} (o : Option ℕ) (f g : ℕ → Option X) → ((d : ℕ) → f d ≡ g d) → (o >>= f) ≡ (o >>= g)
then_same None f g same = refl
then_same (Some d) f g same = same d

tested : (b : Bool) → ((b ≡ true) ⊎ (b ≡ false))
tested true = inl refl
tested false = inr refl

-- reading digits to the end of the word is reading the digits of the first word
spelled : (radix : Radix) (most n : ℕ) (text : List ℕ)
    → number_from radix most n text ≡ of_first (words_of text) (λ w rest. with_number rest (value_within radix most n w))
unfolding number_from value_within
spelled radix most n [] = refl
spelled radix zero n (c ∷ cs) =
    elim (tested (nat_eq c 32)) [
      | inl space ↦ ap (with_words n) (cond-true _ _ _ space) ∙ sym (ends_word c cs (λ w rest. with_number rest (value_within radix zero n w)) space)
      | inr more ↦ ap (with_words n) (cond-false _ _ _ more)
          ∙ sym (in_word c cs (λ w rest. with_number rest (value_within radix zero n w)) more ∙ none (words_of cs))
    ]
  where
    none : (ws : List (List ℕ)) → ◌≡◌ {A = Option (ℕ × List (List ℕ))} (of_first ws (λ w rest. with_number rest None)) None
    none [] = refl
    none (w ∷ ws) = refl
spelled radix (suc most) n (c ∷ cs) =
    elim (tested (nat_eq c 32)) [
      | inl space ↦ cond-true _ _ _ space ∙ ap (with_words n) (cond-true _ _ _ space)
          ∙ sym (ends_word c cs (λ w rest. with_number rest (value_within radix (suc most) n w)) space)
      | inr more ↦
          cond-false _ _ _ more
          ∙ then_same (digit_in radix c) _ _ (λ d. spelled radix most (n * base radix + d) cs)
          ∙ digit_first (digit_in radix c) (words_of cs) (λ d w. value_within radix most (n * base radix + d) w)
          ∙ sym (in_word c cs (λ w rest. with_number rest (value_within radix (suc most) n w)) more)
    ]

-- the same where there is room for all
spelled_all : (radix : Radix) (most n : ℕ) (text : List ℕ) → length text ≤ most
    → number_from radix most n text ≡ of_first (words_of text) (λ w rest. with_number rest (value_after (digit_in radix) (base radix) n w))
unfolding number_from
spelled_all radix most n [] room = refl
spelled_all radix zero n (c ∷ cs) room = absurd (omega arith)
spelled_all radix (suc most) n (c ∷ cs) room =
    elim (tested (nat_eq c 32)) [
      | inl space ↦ cond-true _ _ _ space ∙ ap (with_words n) (cond-true _ _ _ space)
          ∙ sym (ends_word c cs (λ w rest. with_number rest (value_after (digit_in radix) (base radix) n w)) space)
      | inr more ↦
          cond-false _ _ _ more
          ∙ then_same (digit_in radix c) _ _ (λ d. spelled_all radix most (n * base radix + d) cs (omega arith))
          ∙ digit_first (digit_in radix c) (words_of cs) (λ d w. value_after (digit_in radix) (base radix) (n * base radix + d) w)
          ∙ sym (in_word c cs (λ w rest. with_number rest (value_after (digit_in radix) (base radix) n w)) more)
    ]

within : (radix : Radix) (most n : ℕ) (w : List ℕ) → length w ≤ most → value_within radix most n w ≡ value_after (digit_in radix) (base radix) n w
unfolding value_within
within radix most n [] room = refl
within radix zero n (c ∷ w) room = absurd (omega arith)
within radix (suc most) n (c ∷ w) room = then_same (digit_in radix c) _ _ (λ d. within radix most (n * base radix + d) w (omega arith))

beyond : (radix : Radix) (most n : ℕ) (w : List ℕ) → most < length w → value_within radix most n w ≡ None
unfolding value_within
beyond radix most n [] past = absurd (omega arith)
beyond radix zero n (c ∷ w) past = refl
beyond radix (suc most) n (c ∷ w) past = then_same (digit_in radix c) _ _ (λ d. beyond radix most (n * base radix + d) w (omega arith))
    ∙ never (digit_in radix c)
  where
    never : (o : Option ℕ) → ◌≡◌ {A = Option ℕ} (o >>= λ d. None) None
    never None = refl
    never (Some d) = refl

-- ---- the number of a text's first word

-- the limit is asked of the number alone
limit_first : (ws : List (List ℕ)) (f : List ℕ → Option ℕ)
    → below_limit (of_first ws (λ w rest. with_number rest (f w))) ≡ of_first ws (λ w rest. with_number rest (f w >>= below (2 ^ 64)))
limit_first [] f = refl
limit_first (w ∷ ws) f = each (f w)
  where
    each : (o : Option ℕ) → below_limit (with_number ws o) ≡ with_number ws (o >>= below (2 ^ 64))
    each None = refl
    each (Some n) = refl

then_then : (o : Option ℕ) (f : ℕ → Option ℕ) (g : ℕ → Option ℕ) → ((o >>= f) >>= g) ≡ (o >>= λ d. f d >>= g)
then_then None f g = refl
then_then (Some d) f g = refl

space_is_none : (radix : Radix) (c : ℕ) → nat_eq c 32 ≡ true → digit_in radix c ≡ None
space_is_none Decimal c e = grind arith
space_is_none Hexadecimal c e = grind arith

none_first : (ws : List (List ℕ)) → ◌≡◌ {A = Option (ℕ × List (List ℕ))} (of_first ws (λ w rest. with_number rest None)) None
none_first [] = refl
none_first (w ∷ ws) = refl

-- a decimal number
decimal_word : (c : ℕ) (cs : List ℕ) → nat_eq c 48 ≡ false
    → (decimal_digit c >>= λ d. below_limit (number_from Decimal (length cs) d cs)) ≡ of_first (words_of (c ∷ cs))
    (λ w rest. with_number rest (number_of w))
decimal_word c cs other =
    elim (tested (nat_eq c 32)) [
      | inl space ↦ ap (λ o. o >>= λ d. below_limit (number_from Decimal (length cs) d cs)) (space_is_none Decimal c space)
          ∙ sym (ends_word c cs (λ w rest. with_number rest (number_of w)) space)
      | inr more ↦
          then_same (decimal_digit c) _ _ (λ d. ap below_limit (spelled_all Decimal (length cs) d cs (omega arith))
          ∙ limit_first (words_of cs) (λ w. value_after decimal_digit 10 d w))
          ∙ digit_first (decimal_digit c) (words_of cs) (λ d w. value_after decimal_digit 10 d w >>= below (2 ^ 64))
          ∙ same_of_first (words_of cs) _ _ (λ w rest. ap (with_number rest) (digits c w other))
          ∙ sym (in_word c cs (λ w rest. with_number rest (number_of w)) more)
    ]
  where
    digits : (c : ℕ) (w : List ℕ) → nat_eq c 48 ≡ false
        → (decimal_digit c >>= λ d. value_after decimal_digit 10 d w >>= below (2 ^ 64)) ≡ number_of (c ∷ w)
    digits c w other =
        then_same (decimal_digit c) _ _ (λ d. let from : d ≡ 0 * 10 + d = omega arith in
        ap (λ n. value_after decimal_digit 10 n w >>= below (2 ^ 64)) from)
        ∙ sym (then_then (decimal_digit c) (λ d. value_after decimal_digit 10 (0 * 10 + d) w) (below (2 ^ 64)))
        ∙ sym (cond-false _ _ _ other)

abbrev hexed : List ℕ → Option ℕ
hexed w = if is_in_range 1 16 (length w) then value_after hex_digit 16 0 w >>= below (2 ^ 64) else None

hex_digits : (c : ℕ) (w : List ℕ) → (hex_digit c >>= λ d. value_within Hexadecimal 15 d w >>= below (2 ^ 64)) ≡ hexed (c ∷ w)
hex_digits c w =
    elim (cases_lt 15 (length w)) [
      | inl past ↦
          let out : is_in_range 1 16 (length (c ∷ w)) ≡ false = grind (arith, nat_tests) in
          then_same (hex_digit c) _ _ (λ d. ap (λ o. o >>= below (2 ^ 64)) (beyond Hexadecimal 15 d w past))
          ∙ never (hex_digit c)
          ∙ sym (cond-false _ _ _ out)
      | inr room ↦
          let fits : is_in_range 1 16 (length (c ∷ w)) ≡ true = grind (arith, nat_tests) in
          then_same (hex_digit c) _ _ (λ d. let from : d ≡ 0 * 16 + d = omega arith in
          ap (λ o. o >>= below (2 ^ 64)) (within Hexadecimal 15 d w room) ∙ ap (λ n. value_after hex_digit 16 n w >>= below (2 ^ 64)) from)
          ∙ sym (then_then (hex_digit c) (λ d. value_after hex_digit 16 (0 * 16 + d) w) (below (2 ^ 64)))
          ∙ sym (cond-true _ _ _ fits)
    ]
  where
    never : (o : Option ℕ) → ◌≡◌ {A = Option ℕ} (o >>= λ d. None) None
    never None = refl
    never (Some d) = refl

-- what follows `0x`
x_word : (cs : List ℕ) → after_x cs ≡ of_first (words_of cs) (λ w rest. with_number rest (hexed w))
x_word [] = refl
x_word (c ∷ cs) =
    elim (tested (nat_eq c 32)) [
      | inl space ↦ ap (λ o. o >>= λ d. below_limit (number_from Hexadecimal 15 d cs)) (space_is_none Hexadecimal c space)
          ∙ sym (ends_word c cs (λ w rest. with_number rest (hexed w)) space)
      | inr more ↦
          then_same (hex_digit c) _ _ (λ d. ap below_limit (spelled Hexadecimal 15 d cs)
          ∙ limit_first (words_of cs) (λ w. value_within Hexadecimal 15 d w))
          ∙ digit_first (hex_digit c) (words_of cs) (λ d w. value_within Hexadecimal 15 d w >>= below (2 ^ 64))
          ∙ same_of_first (words_of cs) _ _ (λ w rest. ap (with_number rest) (hex_digits c w))
          ∙ sym (in_word c cs (λ w rest. with_number rest (hexed w)) more)
    ]

-- what follows `0`
zero_word : (cs : List ℕ) → after_zero cs ≡ of_first (words_of cs) (λ w rest. with_number rest (text.after_zero w))
zero_word [] = refl
zero_word (c ∷ cs) =
    elim (tested (nat_eq c 120)) [
      | inl x ↦
          let more : nat_eq c 32 ≡ false = grind (arith, nat_tests) in
          cond-true _ _ _ x
          ∙ x_word cs
          ∙ same_of_first (words_of cs) _ _ (λ w rest. ap
          (λ b. with_number rest (if b && is_in_range 1 16 (length w) then value_after hex_digit 16 0 w >>= below (2 ^ 64) else None)) (sym x))
          ∙ sym (in_word c cs (λ w rest. with_number rest (text.after_zero w)) more)
      | inr other ↦ cond-false _ _ _ other ∙ elim (tested (nat_eq c 32)) [
        | inl space ↦ ap (with_words 0) (cond-true _ _ _ space) ∙ sym (ends_word c cs (λ w rest. with_number rest (text.after_zero w)) space)
        | inr more ↦
            ap (with_words 0) (cond-false _ _ _ more)
            ∙ sym (none_first (words_of cs))
            ∙ same_of_first (words_of cs) _ _ (λ w rest. ap
            (λ b. with_number rest (if b && is_in_range 1 16 (length w) then value_after hex_digit 16 0 w >>= below (2 ^ 64) else None))
            (sym other))
            ∙ sym (in_word c cs (λ w rest. with_number rest (text.after_zero w)) more)
      ]
    ]

pub first_is_number : (text : List ℕ) → first_number text ≡ number_at (words_of text)
unfolding number_at
first_is_number [] = refl
first_is_number (c ∷ cs) =
    elim (tested (nat_eq c 48)) [
      | inl nought ↦
          let more : nat_eq c 32 ≡ false = grind (arith, nat_tests) in
          cond-true _ _ _ nought
          ∙ zero_word cs
          ∙ same_of_first (words_of cs) _ _ (λ w rest. ap (with_number rest) (sym (cond-true _ _ _ nought)))
          ∙ sym (in_word c cs (λ w rest. with_number rest (number_of w)) more)
      | inr other ↦ cond-false _ _ _ other ∙ decimal_word c cs other
    ]
