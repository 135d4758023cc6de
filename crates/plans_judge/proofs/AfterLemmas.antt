-- A loop that makes each element of a list anew, by its place.
use Rattle.std.proofs.Common.{◌≡◌, ◌≢◌, ℕ, ◌+◌, ◌<◌, ◌≤◌, length, List, Some, set, get_or, refl, sym, ap, subst, ◌∙◌, inl, inr, arith}
use Rattle.std.specs.Prelude.{slice_get, option_map}
use Rattle.std.proofs.lemmas.List.{get_or-set_same, get_or-set_other, length-set}
use Rattle.std.proofs.lemmas.Option.{slice_get-get_or, slice_get_past}
use Rattle.std.proofs.lemmas.Bool.{cases_eq, cases_lt}
use Rattle.plans_judge.specs.Table.{AllAfter}

pub set_here : {A : Type 0} (xs : List A) (i : ℕ) (y : A) → i < length xs → slice_get (set xs i y) i ≡ Some y
set_here xs i y low = slice_get-get_or (set xs i y) i y (let e = length-set xs i y in omega (arith, low, e)) ∙ ap Some (get_or-set_same xs i y y low)

pub set_elsewhere : {A : Type 0} (xs : List A) (i j : ℕ) (y : A) → j ≢ i → slice_get (set xs i y) j ≡ slice_get xs j
set_elsewhere xs i j y ne = elim (cases_lt j (length xs)) [
  | inl low ↦ slice_get-get_or (set xs i y) j y (let e = length-set xs i y in omega (arith, low, e)) ∙ ap Some (get_or-set_other xs i j y y ne)
      ∙ sym (slice_get-get_or xs j y low)
  | inr high ↦ slice_get_past (set xs i y) j (let e = length-set xs i y in omega (arith, high, e)) ∙ sym (slice_get_past xs j high)
]

-- The first k elements were made anew.
pub record SoFar {A : Type 0} (after : ℕ → A → A) (old now : List A) (k : ℕ) : Type 0 where
  pub length : length now ≡ length old
  pub made : (j : ℕ) → j < k → slice_get now j ≡ option_map (after j) (slice_get old j)
  pub left : (j : ℕ) → k ≤ j → slice_get now j ≡ slice_get old j

pub none_made : {A : Type 0} (after : ℕ → A → A) (old : List A) → SoFar after old old 0
none_made after old = record { length = refl; made = λ j low. absurd (omega (arith, low)); left = λ j low. refl }

pub one_made : {A : Type 0} (after : ℕ → A → A) (old now : List A) (k : ℕ) (d y : A) → k < length now → y ≡ after k (get_or now k d)
    → SoFar after old now k → SoFar after old (set now k y) (k + 1)
one_made after old now k d y low e so = record {
  length = length-set now k y ∙ so.length;
  made = λ j below. elim (cases_eq j k) [
    | inl same ↦ at_place j same
    | inr ne ↦ set_elsewhere now k j y ne ∙ so.made j (omega (arith, below, ne))
  ];
  left = λ j above. set_elsewhere now k j y (λ same. omega (arith, above, same)) ∙ so.left j (omega (arith, above));
}
  where
    here : slice_get (set now k y) k ≡ option_map (after k) (slice_get old k)
    here = set_here now k y low ∙ ap Some e ∙ ap (option_map (after k)) (sym (slice_get-get_or now k d low))
        ∙ ap (option_map (after k)) (so.left k (omega arith))

    at_place : (j : ℕ) → j ≡ k → slice_get (set now k y) j ≡ option_map (after j) (slice_get old j)
    at_place j same = subst (λ m. slice_get (set now k y) m ≡ option_map (after m) (slice_get old m)) (sym same) here

pub all_made : {A : Type 0} (after : ℕ → A → A) (old now : List A) (k : ℕ) → length now ≤ k → SoFar after old now k → AllAfter after old now
all_made after old now k whole so = (
  so.length,
  λ j. elim (cases_lt j k) [
    | inl below ↦ so.made j below
    | inr above ↦ slice_get_past now j (omega (arith, whole, above))
        ∙ ap (option_map (after j)) (sym (slice_get_past old j (let e = so.length in omega (arith, whole, above, e))))
  ],
)
