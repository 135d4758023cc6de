-- A summary that is made word by word.
use Rattle.std.proofs.Common.{◌≡◌, ◌≢◌, ℕ, ◌+◌, ◌*◌, ◌/◌, ◌%◌, ◌^◌, ◌<◌, ◌≤◌, Bool, true, false, ◌&&◌, ◌||◌, nat_lt, inl, inr, refl, sym, ap, ◌∙◌, subst, arith}
use Rattle.std.specs.Prelude.{bit_and, bit_or}
use Rattle.std.specs.Int.{is_in_range}
use Rattle.std.proofs.lemmas.Bool.{cases_eq, cases_Bool, eq-eqb, ne_eqb, and_parts}
use Rattle.std.proofs.lemmas.Bool.Decides.{nat_tests}
use Rattle.aia_word.specs.Sets.{has_bit, word_of}
use Rattle.aia_word.proofs.BitLemmas.{has_bit-set, has_bit-zero, below_next}
use Rattle.aia_file.specs.InterruptFile.{is_shared, is_greatest_identity}
use Rattle.aia_word.specs.Summary.{Summarizes}
use Rattle.aia_file.specs.Summary.{SummarizesBoth, AreIdentities}
use Rattle.aia_file.proofs.SummaryLemmas.{both_words, none_shared, some_shared, shared_below}

-- the bits of the first `count` words tell of them, and the others are 0
abbrev pub SummarizesFirst : ℕ → ℕ → (ℕ → Bool) → (ℕ → Bool) → Type 0
SummarizesFirst count summary p e = (w : ℕ) → w < 64 → has_bit summary w ≡ (nat_lt w count && is_shared p e w)

pub none_summarized : (p e : ℕ → Bool) → SummarizesFirst 0 0 p e
none_summarized p e w low = has_bit-zero w ∙ ap (λ b. b && is_shared p e w) none
  where
    none : false ≡ nat_lt w 0
    none = grind (arith, nat_tests)

live_word : (p e : ℕ → Bool) (k summary : ℕ) → k < 64 → both_words p e k ≢ 0 → SummarizesFirst k summary p e
    → SummarizesFirst (k + 1) (bit_or summary (1 * 2 ^ k % 2 ^ 64)) p e
live_word p e k summary small some before w low = has_bit-set summary k w small ∙ elim (cases_eq w k) [
  | inl at ↦
      let below : true ≡ nat_lt w (k + 1) = grind (arith, nat_tests) in
      ap (λ b. b || has_bit summary w) (eq-eqb w k at)
      ∙ sym (ap (λ b. b && is_shared p e w) (sym below) ∙ ap (is_shared p e) at ∙ some_shared p e k some)
  | inr ne ↦ ap (λ b. b || has_bit summary w) (ne_eqb w k ne) ∙ before w low ∙ ap (λ b. b && is_shared p e w) (below_next w k ne)
]

dead_word : (p e : ℕ → Bool) (k summary : ℕ) → both_words p e k ≡ 0 → SummarizesFirst k summary p e → SummarizesFirst (k + 1) summary p e
dead_word p e k summary none before w low = before w low ∙ elim (cases_eq w k) [
  | inl at ↦ neither (nat_lt w k) (nat_lt w (k + 1)) (is_shared p e w) (ap (is_shared p e) at ∙ none_shared p e k none)
  | inr ne ↦ ap (λ b. b && is_shared p e w) (below_next w k ne)
]
  where
    neither : (x y b : Bool) → b ≡ false → (x && b) ≡ (y && b)
    neither true true b is = refl
    neither true false b is = is
    neither false true b is = sym is
    neither false false b is = refl

-- as the code tells them apart
module _ (p e : ℕ → Bool) (k summary next pending enabled : ℕ) (shows_pending : pending ≡ word_of p (64 * k) 64)
    (shows_enabled : enabled ≡ word_of e (64 * k) 64) (before : SummarizesFirst k summary p e) where
  both_shown : bit_and pending enabled ≡ both_words p e k
  both_shown = ap (λ x. bit_and x enabled) shows_pending ∙ ap (bit_and (word_of p (64 * k) 64)) shows_enabled

  pub live_added : k < 64 → bit_and pending enabled ≢ 0 → next ≡ bit_or summary (1 * 2 ^ k % 2 ^ 64) → SummarizesFirst (k + 1) next p e
  live_added small some is = subst (λ x. SummarizesFirst (k + 1) x p e) (sym is)
      (live_word p e k summary small (λ none. some (both_shown ∙ none)) before)

  pub dead_added : bit_and pending enabled ≡ 0 → next ≡ summary → SummarizesFirst (k + 1) next p e
  dead_added none is = subst (λ x. SummarizesFirst (k + 1) x p e) (sym is) (dead_word p e k summary (sym both_shown ∙ none) before)

pub all_summarized : (p e : ℕ → Bool) (words summary : ℕ) → AreIdentities words p → SummarizesFirst words summary p e → SummarizesBoth summary p e
unfolding Summarizes
all_summarized p e words summary range before w low = before w low ∙ elim (cases_Bool (is_shared p e w)) [
  | inl shared ↦
      let below = shared_below p e words w range shared in
      let is : nat_lt w words ≡ true = grind (arith, nat_tests) in
      ap (λ b. b && is_shared p e w) is
  | inr none ↦ both (nat_lt w words) (is_shared p e w) none
]
  where
    both : (x b : Bool) → b ≡ false → (x && b) ≡ b
    both true b is = refl
    both false b is = sym is

-- the identities of a slot as a file
pub file_identities : (n : ℕ) (members : ℕ → Bool) → is_greatest_identity n ≡ true
    → AreIdentities ((n + 1) / 64) (λ i. is_in_range 1 n i && members i)
file_identities n members greatest i here = bounds (and_parts _ _ here).0
  where
    bounds : is_in_range 1 n i ≡ true → (1 ≤ i) × (i < 64 * ((n + 1) / 64))
    bounds inside = (grind (arith, nat_tests), grind (arith, nat_tests))
