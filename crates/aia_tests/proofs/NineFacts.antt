-- Two sets in which identity 9 alone is, and their summary.
use Rattle.std.proofs.Common.{◌≡◌, ℕ, zero, suc, ◌*◌, ◌/◌, ◌<◌, Bool, false, ◌&&◌, nat_eq, refl, ap₂, arith}
use Rattle.std.proofs.lemmas.Bool.{eqb-true, ne_eqb}
use Rattle.aia_word.specs.Sets.{word_of}
use Rattle.aia_file.specs.Summary.{SummarizesBoth, AreIdentities}
use Rattle.aia_file.proofs.SummaryLemmas.{both_words, empty_summary, summary_elsewhere, bit_put}

abbrev none : ℕ → Bool
none i = false

abbrev nine : ℕ → Bool
nine i = nat_eq i 9

away : (i : ℕ) → (i / 64 ≡ 0 → ⊥) → (nine i && nine i) ≡ (none i && none i)
away i other = let not : nine i ≡ false = ne_eqb i 9 (λ same. other (omega (arith, same))) in ap₂ (λ x y. x && y) not not

some : both_words nine nine 0 ≡ 0 → ⊥
unfolding word_of
some empty = absurd (cc)

pub nine_summarized : SummarizesBoth 1 nine nine
nine_summarized = bit_put 0 0 nine nine (omega arith) some (summary_elsewhere 0 0 none none nine nine (empty_summary none none (λ i. refl)) away)

pub nine_fits : AreIdentities 1 nine
nine_fits = λ i is. (omega (arith, eqb-true i 9 is), omega (arith, eqb-true i 9 is))

pub nine_shown : (k : ℕ) → k < 1 → 512 ≡ word_of nine (64 * k) 64
unfolding word_of
nine_shown zero low = refl
nine_shown (suc k) low = absurd (omega (arith, low))
