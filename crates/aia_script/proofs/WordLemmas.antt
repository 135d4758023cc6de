-- The first word of a text, and whether it is a name.
use Rattle.std.proofs.Common.{◌≡◌, ◌≢◌, ℕ, ◌+◌, ◌<◌, Bool, true, false, cond, ◌&&◌, nat_eq, List, [], ◌∷◌, ◌++◌, length, drop, get_or, Option, option_map, IfSome, IfNone, Some, None, sym, ap, ◌∙◌, refl, true≢false, arith}
use Rattle.std.specs.Prelude.{count_by}
use Rattle.std.specs.Borrow.{Bor}
use Rattle.std.specs.List.{onto_first, starts_with}
use Rattle.std.proofs.lemmas.Bool.Decides.{nat_tests}
use Rattle.std.proofs.lemmas.Bool.{cond-true, cond-false, and_right}
use Rattle.std.proofs.lemmas.List.{at_drop_more, at_drop_all}
use Rattle.std.proofs.lemmas.List.Splits.{length-slice_split}
use Rattle.aia_model.specs.Text.{words_of}
use Rattle.aia_model.specs.Grammar.{is_word}
use Rattle.aia_model.specs.Reading.{word_at, whole}
use Rattle.aia_script.specs.declared.words.Words.{Words}
use Rattle.aia_script.specs.Cursor.{left, words_of_rest, words_after, first_word, after_first}

-- ---- the words of a text

-- the words of a text are the first one and those after it
pub first_and_after : (text : List ℕ) → words_of text ≡ first_word text ∷ after_first text
unfolding first_word after_first
first_and_after [] = refl
first_and_after (c ∷ cs) = either (nat_eq c 32) (first_and_after cs)
  where
    either : (b : Bool) → words_of cs ≡ first_word cs ∷ after_first cs
        → cond b ([] ∷ words_of cs) (onto_first c (words_of cs)) ≡ cond b [] (c ∷ first_word cs) ∷ cond b (words_of cs) (after_first cs)
    either true more = refl
    either false more = ap (onto_first c) more

-- the next word is the first one of the text that is left
pub next_word : (rest : Option (Bor (List ℕ)))
    → option_map (λ (text : Bor (List ℕ)). (first_word text.now, after_first text.now)) rest ≡ word_at (words_of_rest rest)
next_word None = refl
next_word (Some text) = sym (ap word_at (first_and_after text.now))

-- a text has a word
pub words_left : {A : Type 0} (text : List ℕ) (found : A) → whole (words_of text) found ≡ None
words_left text found = more (words_of text) found
    (let e : length (words_of text) ≡ count_by (λ b. nat_eq b 32) text + 1 = length-slice_split (λ b. nat_eq b 32) text in omega arith)
  where
    more : {A : Type 0} (ws : List (List ℕ)) (found : A) → 0 < length ws → whole ws found ≡ None
    more [] found h = absurd (omega arith)
    more (w ∷ ws) found h = refl

-- ---- whether the first word is a name, byte by byte

-- one byte further on they differ
later_byte : (c n : ℕ) (cs name : List ℕ) → is_word (first_word cs) name ≡ false → is_word (first_word (c ∷ cs)) (n ∷ name) ≡ false
unfolding first_word
later_byte c n cs name more = either (nat_eq c 32)
  where
    either : (b : Bool) → is_word (cond b [] (c ∷ first_word cs)) (n ∷ name) ≡ false
    either true = refl
    either false = ap (λ t. nat_eq c n && t) more ∙ and_right (nat_eq c n) false refl

-- a text that is shorter than a name does not begin with it
pub too_short : (text name : List ℕ) → length text < length name → is_word (first_word text) name ≡ false
unfolding first_word
too_short text [] less = absurd (omega arith)
too_short [] (n ∷ name) less = refl
too_short (c ∷ cs) (n ∷ name) less = later_byte c n cs name (too_short cs name (omega arith))

other_byte : (c n : ℕ) (cs name : List ℕ) → nat_eq c n ≡ false → is_word (first_word (c ∷ cs)) (n ∷ name) ≡ false
unfolding first_word
other_byte c n cs name other = either (nat_eq c 32)
  where
    either : (b : Bool) → is_word (cond b [] (c ∷ first_word cs)) (n ∷ name) ≡ false
    either true = refl
    either false = ap (λ t. t && is_word (first_word cs) name) other

-- where a text does not begin so, no name that begins so is its first word
pub other_start : (text start more : List ℕ) → starts_with nat_eq text start ≡ false → is_word (first_word text) (start ++ more) ≡ false
unfolding first_word
other_start text [] more other = absurd (true≢false other)
other_start [] (n ∷ start) more other = refl
other_start (c ∷ cs) (n ∷ start) more other = either (other_start cs start more) (nat_eq n c) refl other
  where
    either : (starts_with nat_eq cs start ≡ false → is_word (first_word cs) (start ++ more) ≡ false) → (b : Bool) → nat_eq n c ≡ b
        → (b && starts_with nat_eq cs start) ≡ false → is_word (first_word (c ∷ cs)) (n ∷ start ++ more) ≡ false
    either later true same other = later_byte c n cs (start ++ more) (later other)
    either later false apart other = other_byte c n cs (start ++ more) (grind (arith, nat_tests))

-- another byte stands there
pub differs : (text name : List ℕ) (at : ℕ) → at < length text → at < length name → get_or text at 0 ≢ get_or name at 0
    → is_word (first_word (drop at text)) (drop at name) ≡ false
differs text name at there named other =
    let apart : nat_eq (get_or text at 0) (get_or name at 0) ≡ false = grind (arith, nat_tests) in
    at_drop_more (λ cs. is_word (first_word cs) (drop at name)) text at 0 there
    ∙ at_drop_more (is_word (first_word (get_or text at 0 ∷ drop (at + 1) text))) name at 0 named
    ∙ other_byte (get_or text at 0) (get_or name at 0) (drop (at + 1) text) (drop (at + 1) name) apart

-- a space ends the word before the name does
space_ends : (c n : ℕ) (cs name : List ℕ) → nat_eq c 32 ≡ true → is_word (first_word (c ∷ cs)) (n ∷ name) ≡ false
unfolding first_word
space_ends c n cs name e = ap (λ w. is_word w (n ∷ name)) (cond-true _ _ _ e)

pub cut_short : (text name : List ℕ) (at : ℕ) → at < length text → at < length name → get_or text at 0 ≡ 32
    → is_word (first_word (drop at text)) (drop at name) ≡ false
cut_short text name at there named space =
    at_drop_more (λ cs. is_word (first_word cs) (drop at name)) text at 0 there
    ∙ at_drop_more (is_word (first_word (get_or text at 0 ∷ drop (at + 1) text))) name at 0 named
    ∙ space_ends (get_or text at 0) (get_or name at 0) (drop (at + 1) text) (drop (at + 1) name) (ap (λ c. nat_eq c 32) space)

-- the same byte stands there, and is no space
word_goes_on : (c n : ℕ) (cs name : List ℕ) → nat_eq c 32 ≡ false → nat_eq c n ≡ true
    → is_word (first_word (c ∷ cs)) (n ∷ name) ≡ is_word (first_word cs) name
unfolding first_word
word_goes_on c n cs name apart equal = ap (λ w. is_word w (n ∷ name)) (cond-false _ _ _ apart) ∙ ap (λ t. t && is_word (first_word cs) name) equal

pub one_more : (text name : List ℕ) (at : ℕ) → at < length text → at < length name → get_or text at 0 ≡ get_or name at 0 → get_or name at 0 ≢ 32
    → is_word (first_word (drop (at + 1) text)) (drop (at + 1) name) ≡ is_word (first_word (drop at text)) (drop at name)
one_more text name at there named same other =
    let apart : nat_eq (get_or text at 0) 32 ≡ false = grind (arith, nat_tests) in
    let equal : nat_eq (get_or text at 0) (get_or name at 0) ≡ true = grind (arith, nat_tests) in
    sym (at_drop_more (λ cs. is_word (first_word cs) (drop at name)) text at 0 there
    ∙ at_drop_more (is_word (first_word (get_or text at 0 ∷ drop (at + 1) text))) name at 0 named
    ∙ word_goes_on (get_or text at 0) (get_or name at 0) (drop (at + 1) text) (drop (at + 1) name) apart equal)

after_goes_on : (c : ℕ) (cs : List ℕ) → nat_eq c 32 ≡ false → after_first (c ∷ cs) ≡ after_first cs
unfolding after_first
after_goes_on c cs apart = cond-false _ _ _ apart

pub after_one_more : (text : List ℕ) (at : ℕ) → at < length text → get_or text at 0 ≢ 32
    → after_first (drop (at + 1) text) ≡ after_first (drop at text)
after_one_more text at there other =
    let apart : nat_eq (get_or text at 0) 32 ≡ false = grind (arith, nat_tests) in
    sym (at_drop_more after_first text at 0 there ∙ after_goes_on (get_or text at 0) (drop (at + 1) text) apart)

-- what follows the name ends the word, or goes on with it
ends_here : (rest : List ℕ) (found : Option Words) → option_map left found ≡ words_after rest
    → IfSome found (λ words. (is_word (first_word rest) [] ≡ true) × (left words ≡ after_first rest))
unfolding first_word after_first
ends_here rest None is = tt
ends_here [] (Some words) is = (refl, some_is is)
  where
    some_is : {A : Type 0} {x y : A} → Some x ≡ Some y → x ≡ y
    some_is e = cc
ends_here (c ∷ cs) (Some words) is = either (nat_eq c 32) is
  where
    either : (b : Bool) → ◌≡◌ {A = Option (List (List ℕ))} (Some (left words)) (cond b (Some (words_of cs)) None)
        → (is_word (cond b [] (c ∷ first_word cs)) [] ≡ true) × (left words ≡ cond b (words_of cs) (after_first cs))
    either true is = (refl, cc)
    either false is = absurd (cc)

goes_on_here : (rest : List ℕ) (found : Option Words) → option_map left found ≡ words_after rest → IfNone found (is_word (first_word rest) [] ≡ false)
unfolding first_word
goes_on_here rest (Some words) is = tt
goes_on_here [] None is = absurd (cc)
goes_on_here (c ∷ cs) None is = either (nat_eq c 32) is
  where
    either : (b : Bool) → ◌≡◌ {A = Option (List (List ℕ))} None (cond b (Some (words_of cs)) None)
        → is_word (cond b [] (c ∷ first_word cs)) [] ≡ false
    either true is = absurd (cc)
    either false is = refl

-- where all bytes of a name stand, the text that follows decides
no_more : (text name : List ℕ) → is_word (first_word (drop (length name) text)) [] ≡ is_word (first_word (drop (length name) text))
    (drop (length name) name)
no_more text name = sym (at_drop_all (is_word (first_word (drop (length name) text))) name (length name) (omega arith))

pub name_found : (text name : List ℕ) (found : Option Words)
    → is_word (first_word (drop (length name) text)) (drop (length name) name) ≡ is_word (first_word text) name
    → after_first (drop (length name) text) ≡ after_first text → option_map left found ≡ words_after (drop (length name) text)
    → IfSome found (λ words. (is_word (first_word text) name ≡ true) × (left words ≡ after_first text))
name_found text name None word after is = tt
name_found text name (Some words) word after is = let here = ends_here (drop (length name) text) (Some words) is in
    (sym word ∙ sym (no_more text name) ∙ here.0, here.1 ∙ after)

pub name_goes_on : (text name : List ℕ) (found : Option Words)
    → is_word (first_word (drop (length name) text)) (drop (length name) name) ≡ is_word (first_word text) name
    → option_map left found ≡ words_after (drop (length name) text) → IfNone found (is_word (first_word text) name ≡ false)
name_goes_on text name (Some words) word is = tt
name_goes_on text name None word is = sym word ∙ sym (no_more text name) ∙ goes_on_here (drop (length name) text) None is
