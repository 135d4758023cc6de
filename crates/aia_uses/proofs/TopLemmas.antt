-- The identity on top, and the least that may be claimed: each gives the other.
use Rattle.std.proofs.Common.{◌≡◌, ℕ, ◌<◌, ◌≤◌, Bool, false, ◌&&◌, Option, Some, None, inl, inr, refl, sym, ◌∙◌, arith}
use Rattle.std.proofs.lemmas.Bool.{cases_lt, and_parts, and_from, false≢true}
use Rattle.aia_word.specs.Top.{lets_through}
use Rattle.aia_word.proofs.LeastLemmas.{least_of_is, least_of_is_none}
use Rattle.aia_file.specs.InterruptFile.{InterruptFile, top_of}
use Rattle.aia_laws.specs.Claims.{MayBeClaimed, IsLeastToClaim}

abbrev may_top : InterruptFile → ℕ → Bool
may_top file i = file.pending i && file.enabled i && lets_through file.threshold i

pub top_is_least : (file : InterruptFile) (i : ℕ) → top_of file ≡ Some i → IsLeastToClaim file i
top_is_least file i top =
    let found = least_of_is (may_top file) 1 file.n i top in
    let high = found.1 in
    let parts = and_parts (file.pending i && file.enabled i) (lets_through file.threshold i) found.2 in
    let both = and_parts (file.pending i) (file.enabled i) parts.0 in
    record { claimable = (found.0, omega (arith, high), both.0, both.1, parts.1); least = λ j may. not_below j may (found.3 j may.0) }
  where
    not_below : (j : ℕ) → MayBeClaimed file j → (j < i → may_top file j ≡ false) → i ≤ j
    not_below j may below = elim (cases_lt j i) [
      | inl low ↦ absurd (false≢true (sym (below low) ∙ and_from _ _ (and_from (file.pending j) (file.enabled j) may.2 may.3) may.4))
      | inr high ↦ high
    ]

pub has_least : (file : InterruptFile) (i : ℕ) → MayBeClaimed file i → (j : ℕ) × IsLeastToClaim file j
has_least file i may = by_top (top_of file) refl
  where
    by_top : (o : Option ℕ) → top_of file ≡ o → (j : ℕ) × IsLeastToClaim file j
    by_top (Some j) top = (j, top_is_least file j top)
    by_top None top =
        let low = may.0 in
        let high = may.1 in
        absurd (false≢true (sym (least_of_is_none (may_top file) 1 file.n top i low (omega (arith, high)))
        ∙ and_from _ _ (and_from (file.pending i) (file.enabled i) may.2 may.3) may.4))
