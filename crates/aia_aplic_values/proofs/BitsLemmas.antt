-- The least source of two sets, found by the words that show them, from the lowest on.
use Rattle.std.proofs.Common.{◌≡◌, ℕ, suc, ◌+◌, ◌-◌, ◌*◌, ◌<◌, ◌≤◌, Bool, true, false, Some, None, inl, inr, refl, sym, ap, subst, ◌∙◌, arith}
use Rattle.std.proofs.lemmas.Bool.{cases_lt}
use Rattle.aia_word.specs.Sets.{has_bit, word_of}
use Rattle.aia_word.proofs.SetLemmas.{has_bit-word_of}
use Rattle.aia_model.specs.declared.domain_name.DomainName.{DomainName}
use Rattle.aia_model.specs.declared.domain_name.DomainName.TheVariants.{Root, Child}
use Rattle.aia_aplic_values.specs.Bits.{IsFirstSource, AreSources}

abbrev pub NoneBelow : (ℕ → Bool) → ℕ → Type 0
NoneBelow members n = (s : ℕ) → s < n → members s ≡ false

-- what is known of two sets where the first k words of both showed none
pub record ShowNone (p q : ℕ → Bool) (k : ℕ) : Type 0 where
  pub first : NoneBelow p (64 * k)
  pub second : NoneBelow q (64 * k)
  pub range : 0 < k → AreSources p × AreSources q

pub at_first : (p q : ℕ → Bool) → ShowNone p q 0
at_first p q = record {
  first = λ s low. absurd (omega (arith, low));
  second = λ s low. absurd (omega (arith, low));
  range = λ some. absurd (omega arith);
}

-- a source by the bit that shows it
shown_at : (members : ℕ → Bool) (k s : ℕ) → 64 * k ≤ s → s < 64 * k + 64 → members s ≡ has_bit (word_of members (64 * k) 64) (s - 64 * k)
shown_at members k s low high =
    let at : 64 * k + (s - 64 * k) ≡ s = omega arith in ap members (sym at) ∙ sym (has_bit-word_of members (64 * k) 64 (s - 64 * k) (omega arith))

-- none below a word, and none of its lowest bits
none_before : (members : ℕ → Bool) (k bit : ℕ) → NoneBelow members (64 * k) → bit ≤ 64
    → ((b : ℕ) → b < bit → has_bit (word_of members (64 * k) 64) b ≡ false) → NoneBelow members (64 * k + bit)
none_before members k bit below small none s low = elim (cases_lt s (64 * k)) [
  | inl p ↦ below s p
  | inr p ↦ shown_at members k s p (omega arith) ∙ none (s - 64 * k) (omega arith)
]

pub one_word_more : (p q : ℕ → Bool) (k x y : ℕ) → ShowNone p q k → AreSources p → AreSources q → x ≡ word_of p (64 * k) 64
    → y ≡ word_of q (64 * k) 64 → IsFirstSource (has_bit x) (has_bit y) None → ShowNone p q (k + 1)
one_word_more p q k x y shows first second at_p at_q none =
    let e : 64 * (k + 1) ≡ 64 * k + 64 = omega arith in
    record {
      first = λ s low. none_before p k 64 shows.first (omega arith) (λ b high. ap (λ w. has_bit w b) (sym at_p) ∙ none.0 b) s (omega (arith, e, low));
      second = λ s low. none_before q k 64 shows.second (omega arith) (λ b high. ap (λ w. has_bit w b) (sym at_q) ∙ none.1 b) s
          (omega (arith, e, low));
      range = λ some. (first, second);
    }

none_at_all : (members : ℕ → Bool) → NoneBelow members (64 * 16) → AreSources members → (s : ℕ) → members s ≡ false
none_at_all members below range s = at (members s) refl
  where
    at : (b : Bool) → members s ≡ b → members s ≡ false
    at false e = e
    at true e = below s (let low = range s e in omega (arith, low))

pub no_word_more : (p q : ℕ → Bool) → ShowNone p q 16 → IsFirstSource p q None
no_word_more p q shows = let range = shows.range (omega arith) in (none_at_all p shows.first range.0, none_at_all q shows.second range.1)

found_there : (p q : ℕ → Bool) (k : ℕ) (name : DomainName) (bit : ℕ) → ShowNone p q k → bit < 64
    → IsFirstSource (has_bit (word_of p (64 * k) 64)) (has_bit (word_of q (64 * k) 64)) (Some (name, bit))
    → IsFirstSource p q (Some (name, 64 * k + bit))
found_there p q k Root bit shows small found = (
  sym (has_bit-word_of p (64 * k) 64 bit small) ∙ found.0,
  none_before p k bit shows.first (omega arith) found.1,
  none_before q k bit shows.second (omega arith) found.2,
)
found_there p q k Child bit shows small found = (
  sym (has_bit-word_of q (64 * k) 64 bit small) ∙ found.0,
  λ t low. none_before p k (suc bit) shows.first (omega arith) (λ b high. found.1 b (omega arith)) t (omega (arith, low)),
  none_before q k bit shows.second (omega arith) found.2,
)

pub word_found : (p q : ℕ → Bool) (k x y : ℕ) (name : DomainName) (bit : ℕ) → ShowNone p q k → x ≡ word_of p (64 * k) 64
    → y ≡ word_of q (64 * k) 64 → bit < 64 → IsFirstSource (has_bit x) (has_bit y) (Some (name, bit)) → IsFirstSource p q (Some (name, 64 * k + bit))
word_found p q k x y name bit shows at_p at_q small found =
    found_there p q k name bit shows small (subst (λ v. IsFirstSource (has_bit v) (has_bit (word_of q (64 * k) 64)) (Some (name, bit))) at_p
    (subst (λ w. IsFirstSource (has_bit x) (has_bit w) (Some (name, bit))) at_q found))
