-- Bytes that are cut at LF.
use Rattle.std.proofs.Common.{◌≡◌, ℕ, suc, ◌+◌, ◌<◌, Bool, true, false, if◌then◌else◌, nat_eq, List, [], ◌∷◌, ◌++◌, length, take, drop, Option, Some, None, inl, inr, sym, ap, ◌∙◌, arith}
use Rattle.std.specs.Prelude.{position}
use Rattle.std.specs.List.{All, before_first, after_first, onto_first, position_or_len}
use Rattle.std.proofs.lemmas.List.{get_or-take, length-take}
use Rattle.std.proofs.lemmas.List.Elements.{All-from_get_or}
use Rattle.std.proofs.lemmas.List.Sums.{fails_before_first, passes_at_first, split_at_first}
use Rattle.std.proofs.lemmas.Bool.{cases_lt, cond-true, cond-false, lt-ltb, le-ltb}
use Rattle.aia_io.specs.Lines.{NoEnd}

-- ---- what a search finds

position_some : (p : ℕ → Bool) (xs : List ℕ) (i : ℕ) → position p xs ≡ Some i → (position_or_len p xs < length xs) × (position_or_len p xs ≡ i)
position_some p xs i e =
    elim (cases_lt (position_or_len p xs) (length xs)) [
      | inl h ↦ let e2 : Some (position_or_len p xs) ≡ Some i = sym (cond-true _ _ _ (lt-ltb _ _ h)) ∙ e in (h, cc)
      | inr h ↦ let e2 : ◌≡◌ {A = Option ℕ} None (Some i) = sym (cond-false _ _ _ (le-ltb _ _ h)) ∙ e in absurd (cc)
    ]

none_found : (p : ℕ → Bool) (xs : List ℕ) → position p xs ≡ None → All (λ b. p b ≡ false) xs
none_found p xs e =
    elim (cases_lt (position_or_len p xs) (length xs)) [
      | inl h ↦ let e2 : ◌≡◌ {A = Option ℕ} (Some (position_or_len p xs)) None = sym (cond-true _ _ _ (lt-ltb _ _ h)) ∙ e in absurd (cc)
      | inr h ↦ All-from_get_or (λ b. p b ≡ false) xs 0 (λ i low. fails_before_first p xs i 0 (omega arith))
    ]

-- ---- where the first LF is

abbrev pub is_end : ℕ → Bool
is_end b = nat_eq b 10

-- with no LF
pub no_end_at_all : (bytes : List ℕ) → position is_end bytes ≡ None → NoEnd bytes
no_end_at_all = none_found is_end

-- before the first LF
pub no_end_before : (bytes : List ℕ) (i : ℕ) → position is_end bytes ≡ Some i → NoEnd (take i bytes)
no_end_before bytes i e =
    let p = position_some is_end bytes i e in
    All-from_get_or (λ b. is_end b ≡ false) (take i bytes) 0 (λ k low.
    let within : k < i = omega (arith, length-take i bytes) in
    ap is_end (get_or-take i bytes k 0 within) ∙ fails_before_first is_end bytes k 0 (omega arith))

is_ten : (b : ℕ) → is_end b ≡ true → b ≡ 10
is_ten b e = grind arith

pub cut_at_end : (bytes : List ℕ) (i : ℕ) → position is_end bytes ≡ Some i → bytes ≡ take i bytes ++ (10 ∷ drop (i + 1) bytes)
cut_at_end bytes i e =
    let p = position_some is_end bytes i e in
    let lf = is_ten _ (passes_at_first is_end bytes 0 p.0) in
    split_at_first is_end bytes 0 p.0 ∙ ap (λ b. before_first is_end bytes ++ (b ∷ after_first is_end bytes)) lf
    ∙ ap (λ k. take k bytes ++ (10 ∷ drop (k + 1) bytes)) p.1

pub end_within : (bytes : List ℕ) (i : ℕ) → position is_end bytes ≡ Some i → i < length bytes
end_within bytes i e = let p = position_some is_end bytes i e in omega (arith, p.0, p.1)

-- ---- texts

-- Texts are bytes cut at LF.
pub record CutsAtEnds (texts : List ℕ → List (List ℕ)) : Type 0 where
  pub none : texts [] ≡ []
  pub more : (b : ℕ) (bytes : List ℕ) → texts (b ∷ bytes) ≡ (if nat_eq b 10 then [] ∷ texts bytes else onto_first b (texts bytes))

pub front_cut : (texts : List ℕ → List (List ℕ)) → CutsAtEnds texts → (front rest : List ℕ) → NoEnd front
    → texts (front ++ 10 ∷ rest) ≡ front ∷ texts rest
front_cut texts cuts [] rest none = cuts.more 10 rest
front_cut texts cuts (x ∷ xs) rest none = cuts.more x (xs ++ 10 ∷ rest)
    ∙ (cond-false _ _ _ (none 0 0 (omega arith)) ∙ ap (onto_first x) (front_cut texts cuts xs rest (λ k d h. none (suc k) d (omega arith))))

pub last_cut : (texts : List ℕ → List (List ℕ)) → CutsAtEnds texts → (x : ℕ) (xs : List ℕ) → NoEnd (x ∷ xs) → texts (x ∷ xs) ≡ (x ∷ xs) ∷ []
last_cut texts cuts x [] none = cuts.more x [] ∙ (cond-false _ _ _ (none 0 0 (omega arith)) ∙ ap (onto_first x) cuts.none)
last_cut texts cuts x (y ∷ ys) none = cuts.more x (y ∷ ys)
    ∙ (cond-false _ _ _ (none 0 0 (omega arith)) ∙ ap (onto_first x) (last_cut texts cuts y ys (λ k d h. none (suc k) d (omega arith))))
