-- Lists whose members are changed by their places.
use Rattle.std.proofs.Common.{◌≡◌, ℕ, suc, ◌<◌, List, [], ◌∷◌, length, slice_get, Option, Some, None, option_map, refl, sym, ap, ◌∙◌}
use Rattle.std.proofs.lemmas.Option.{slice_get_within}
use Rattle.aia_domain.specs.InterruptSource.{EachAt}

pub each-length : {A : Type 0} (old new : List A) (change : ℕ → A → A) → EachAt old new change → length new ≡ length old
each-length [] [] change each = refl
each-length {A} [] (y ∷ ys) change each = let e : ◌≡◌ {A = Option A} (Some y) None = each 0 in cc
each-length {A} (x ∷ xs) [] change each = let e : ◌≡◌ {A = Option A} None (Some (change 0 x)) = each 0 in cc
each-length (x ∷ xs) (y ∷ ys) change each = ap suc (each-length xs ys (λ s. change (suc s)) (λ s. each (suc s)))

-- what a member is after each was changed
pub each-member : {A : Type 0} (old new : List A) (change : ℕ → A → A) (was is : ℕ → A) → EachAt old new change
    → ((s : ℕ) (x : A) → slice_get old s ≡ Some x → x ≡ was s)
    → ((s : ℕ) → s < length old → change s (was s) ≡ is s) → (s : ℕ) (y : A) → slice_get new s ≡ Some y → y ≡ is s
each-member {A} old new change was is each stands goes s y found = at (slice_get old s) refl
  where
    at : (o : Option A) → slice_get old s ≡ o → y ≡ is s
    at None e = let bad : ◌≡◌ {A = Option A} None (Some y) = sym (ap (option_map (change s)) e) ∙ sym (each s) ∙ found in cc
    at (Some x) e =
        let same : ◌≡◌ {A = Option A} (Some (change s x)) (Some y) = sym (ap (option_map (change s)) e) ∙ sym (each s) ∙ found in
        let f : change s x ≡ y = cc in
        sym f ∙ ap (change s) (stands s x e) ∙ goes s (slice_get_within old s x e)
