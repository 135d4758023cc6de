-- The word that shows a set, built from its highest bit on.
use Rattle.std.proofs.Common.{◌≡◌, ℕ, suc, ◌+◌, ◌-◌, ◌*◌, ◌^◌, ◌<◌, ◌≤◌, Bool, cond, refl, ap, ◌∙◌, arith}
use Rattle.std.proofs.Math.Nat.{pow-le-pow_right}
use Rattle.aia_word.specs.Sets.{word_of}
use Rattle.aia_word.proofs.SetLemmas.{word_of-lt}

pub word_of-none : (members : ℕ → Bool) (from : ℕ) → word_of members from 0 ≡ 0
unfolding word_of
word_of-none members from = refl

word_of-step : (members : ℕ → Bool) (from count : ℕ)
    → word_of members from (suc count) ≡ cond (members from) 1 0 + 2 * word_of members (suc from) count
unfolding word_of
word_of-step members from count = refl

-- one bit more, below those that were read
pub word_of-more : (members : ℕ → Bool) (from b n : ℕ) → 0 < b → b ≤ n
    → word_of members (from + (b - 1)) (n - (b - 1)) ≡ cond (members (from + (b - 1))) 1 0 + 2 * word_of members (from + b) (n - b)
word_of-more members from b n some within =
    let e : n - (b - 1) ≡ suc (n - b) = omega arith in
    let f : suc (from + (b - 1)) ≡ from + b = omega arith in
    ap (word_of members (from + (b - 1))) e ∙ word_of-step members (from + (b - 1)) (n - b)
    ∙ ap (λ x. cond (members (from + (b - 1))) 1 0 + 2 * word_of members x (n - b)) f

pub word_of-fits : (members : ℕ → Bool) (from b n : ℕ) → 0 < b → b ≤ n → n ≤ 32 → 2 * word_of members from (n - b) + 1 < 2 ^ 32
word_of-fits members from b n some within small =
    let two : 0 < 2 = omega arith in
    let m : n - b ≤ 31 = omega arith in
    let g : 2 ^ (n - b) ≤ 2 ^ 31 = pow-le-pow_right {n = 2} two {i = n - b} {j = 31} m in
    omega (arith, word_of-lt members from (n - b), g)
