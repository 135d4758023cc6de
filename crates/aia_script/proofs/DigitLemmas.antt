-- Hexadecimal digits, one at a time.
use Rattle.std.proofs.Common.{◌≡◌, ℕ, zero, suc, ◌+◌, ◌-◌, ◌*◌, ◌/◌, ◌%◌, ◌^◌, ◌<◌, ◌≤◌, List, [], ◌∷◌, ◌++◌, get_or, sym, ap, ◌∙◌, append_assoc, append-nil, arith}
use Rattle.std.proofs.lemmas.Nat.{shr-shr}
use Rattle.aia_model.specs.AnswerText.{digit_character, hex_digits}

-- the digit above another one
digit_above : (v k : ℕ) → v / 2 ^ (8 * k + 4) ≡ v / 2 ^ (8 * k) / 16
digit_above v k = sym (shr-shr v (8 * k) 4)

-- the two digits of a byte
two_digits : (place v : ℕ) → 0 < place → hex_digits (2 * place) v ≡ digit_character (v / 2 ^ (8 * (place - 1)) % 256 / 16) ∷ digit_character
    (v / 2 ^ (8 * (place - 1)) % 256 % 16) ∷ hex_digits (2 * (place - 1)) v
unfolding hex_digits
two_digits place v h =
    let k = place - 1 in
    let x = v / 2 ^ (8 * k) in
    let count : 2 * place ≡ suc (suc (2 * k)) = omega arith in
    let above : 4 * suc (2 * k) ≡ 8 * k + 4 = omega arith in
    let here : 4 * (2 * k) ≡ 8 * k = omega arith in
    let high : v / 2 ^ (4 * suc (2 * k)) % 16 ≡ x % 256 / 16 = ap (λ e. v / 2 ^ e % 16) above ∙ ap (λ q. q % 16) (digit_above v k) ∙ higher x in
    let low : v / 2 ^ (4 * (2 * k)) % 16 ≡ x % 256 % 16 = ap (λ e. v / 2 ^ e % 16) here ∙ lower x in
    ap (λ n. hex_digits n v) count ∙ ap (λ d. digit_character d ∷ digit_character (v / 2 ^ (4 * (2 * k)) % 16) ∷ hex_digits (2 * k) v) high
    ∙ ap (λ d. digit_character (x % 256 / 16) ∷ digit_character d ∷ hex_digits (2 * k) v) low
  where
    higher : (x : ℕ) → x / 16 % 16 ≡ x % 256 / 16
    higher x = omega arith

    lower : (x : ℕ) → x % 16 ≡ x % 256 % 16
    lower x = omega arith

-- they are appended
pub byte_pushed : (mid new out all : List ℕ) (a b byte place v : ℕ) → 0 < place → mid ≡ out ++ a ∷ [] → new ≡ mid ++ b ∷ []
    → byte ≡ v / 2 ^ (8 * (place - 1)) % 256 → a ≡ digit_character (byte / 16) → b ≡ digit_character (byte % 16)
    → out ++ hex_digits (2 * place) v ≡ all → new ++ hex_digits (2 * (place - 1)) v ≡ all
byte_pushed mid new out all a b byte place v h first second is high low before =
    let rest = hex_digits (2 * (place - 1)) v in
    ap (λ xs. xs ++ rest) (second ∙ ap (λ xs. xs ++ b ∷ []) first)
    ∙ append_assoc (out ++ a ∷ []) (b ∷ []) rest
    ∙ append_assoc out (a ∷ []) (b ∷ rest)
    ∙ ap (λ d. out ++ d ∷ b ∷ rest) (high ∙ ap (λ byte. digit_character (byte / 16)) is)
    ∙ ap (λ d. out ++ digit_character (v / 2 ^ (8 * (place - 1)) % 256 / 16) ∷ d ∷ rest) (low ∙ ap (λ byte. digit_character (byte % 16)) is)
    ∙ ap (λ t. out ++ t) (sym (two_digits place v h))
    ∙ before

-- no digit is left
pub digits_done : (out all : List ℕ) (place v : ℕ) → place ≤ 0 → out ++ hex_digits (2 * place) v ≡ all → out ≡ all
unfolding hex_digits
digits_done out all zero v h before = sym (append-nil out) ∙ before
digits_done out all (suc place) v h before = absurd (omega arith)

-- ---- the table of the two digits of each byte

unfoldable pub rows : ℕ → ℕ → List ℕ
rows from zero = []
rows from (suc count) = digit_character (from / 16) ∷ digit_character (from % 16) ∷ rows (suc from) count

row_high : (from count k : ℕ) → k < count → get_or (rows from count) (2 * k) 0 ≡ digit_character ((from + k) / 16)
unfolding rows
row_high from zero k h = absurd (omega arith)
row_high from (suc count) zero h = let e : from ≡ from + 0 = omega arith in ap (λ x. digit_character (x / 16)) e
row_high from (suc count) (suc k) h =
    let e : 2 * suc k ≡ suc (suc (2 * k)) = omega arith in
    let at : suc from + k ≡ from + suc k = omega arith in
    ap (λ i. get_or (rows from (suc count)) i 0) e ∙ row_high (suc from) count k (omega arith) ∙ ap (λ x. digit_character (x / 16)) at

row_low : (from count k : ℕ) → k < count → get_or (rows from count) (2 * k + 1) 0 ≡ digit_character ((from + k) % 16)
unfolding rows
row_low from zero k h = absurd (omega arith)
row_low from (suc count) zero h = let e : from ≡ from + 0 = omega arith in ap (λ x. digit_character (x % 16)) e
row_low from (suc count) (suc k) h =
    let e : 2 * suc k + 1 ≡ suc (suc (2 * k + 1)) = omega arith in
    let at : suc from + k ≡ from + suc k = omega arith in
    ap (λ i. get_or (rows from (suc count)) i 0) e ∙ row_low (suc from) count k (omega arith) ∙ ap (λ x. digit_character (x % 16)) at

pub pair_high : (table : List ℕ) (b : ℕ) → table ≡ rows 0 256 → b < 256 → get_or table (2 * b) 0 ≡ digit_character (b / 16)
pair_high table b is low = let e : 0 + b ≡ b = omega arith in ap (λ (xs : List ℕ). get_or xs (2 * b) 0) is ∙ row_high 0 256 b low
    ∙ ap (λ x. digit_character (x / 16)) e

pub pair_low : (table : List ℕ) (b : ℕ) → table ≡ rows 0 256 → b < 256 → get_or table (2 * b + 1) 0 ≡ digit_character (b % 16)
pair_low table b is low = let e : 0 + b ≡ b = omega arith in ap (λ (xs : List ℕ). get_or xs (2 * b + 1) 0) is ∙ row_low 0 256 b low
    ∙ ap (λ x. digit_character (x % 16)) e
