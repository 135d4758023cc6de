-- The first of some candidates.
use Rattle.std.proofs.Common.{◌≡◌, ℕ, ◌<◌, ◌≤◌, ◌⊎◌, inl, inr, Bool, true, false, ◌&&◌, ◌||◌, nat_eq, nat_lt, nat_le, cond, List, [], ◌∷◌, ◌++◌, Option, Some, None, refl, sym, ap, subst, ◌∙◌, append_assoc, arith}
use Rattle.std.specs.List.{Contains}
use Rattle.std.proofs.lemmas.Bool.{cases_lt, cases_eq}
use Rattle.std.proofs.lemmas.Bool.Decides.{nat_tests}
use Rattle.std.specs.Option.{option_map, option_map_or}
use Rattle.aia_regs.proofs.ListLemmas.{here, later, here_or_later, nowhere}
use Rattle.aia_major.specs.declared.candidate.Candidate as kept
use Rattle.aia_major.specs.VsMajor.{Candidate, comes_first, first_of}
use Rattle.aia_major.specs.Kept.{seen, listed}
use Rattle.aia_major.specs.First.{ComesFirst, IsFirst}

-- ---- what the code keeps of them

first_listed : (o : Option kept.Candidate) → first_of (listed o) ≡ option_map seen o
first_listed None = refl
first_listed (Some c) = refl

-- one more before the first of some
first_put : (c o : Option kept.Candidate) (rest : List Candidate) → option_map seen o ≡ first_of rest
    → first_of (listed c ++ listed o) ≡ first_of (listed c ++ rest)
first_put None o rest e = first_listed o ∙ e
first_put (Some c) o rest e = ap (λ f. Some (option_map_or (λ b. cond (comes_first (seen c) b) (seen c) b) f (seen c))) (first_listed o ∙ e)

-- five of them, one by one
pub first_of_five : (e s t o h first_o first_t first_s first_e : Option kept.Candidate)
    → option_map seen first_o ≡ first_of (listed o ++ listed h)
    → option_map seen first_t ≡ first_of (listed t ++ listed first_o)
    → option_map seen first_s ≡ first_of (listed s ++ listed first_t)
    → option_map seen first_e ≡ first_of (listed e ++ listed first_s)
    → option_map seen first_e ≡ first_of (listed e ++ listed s ++ listed t ++ listed o ++ listed h)
first_of_five e s t o h first_o first_t first_s first_e is_o is_t is_s is_e =
    let by_t = is_t ∙ first_put t first_o (listed o ++ listed h) is_o in
    let by_s = is_s ∙ first_put s first_t (listed t ++ (listed o ++ listed h)) by_t in
    is_e ∙ first_put e first_s (listed s ++ (listed t ++ (listed o ++ listed h))) by_s ∙ ap first_of (simp append_assoc)

-- ---- the first comes first

-- the test says it, and of two candidates one comes first
test_says : (p q r s : ℕ) → (nat_lt p q || nat_eq p q && nat_le r s) ≡ true → (p < q) ⊎ ((p ≡ q) × (r ≤ s))
test_says p q r s is = elim (cases_lt p q) [
  | inl less ↦ inl less
  | inr more ↦ elim (cases_eq p q) [
    | inl e ↦ elim (cases_lt s r) [
      | inl past ↦ absurd (grind (arith, nat_tests))
      | inr within ↦ inr (e, within)
    ]
    | inr ne ↦ absurd (grind (arith, nat_tests))
  ]
]

test_denies : (p q r s : ℕ) → (nat_lt p q || nat_eq p q && nat_le r s) ≡ false → (q < p) ⊎ ((q ≡ p) × (s ≤ r))
test_denies p q r s is = elim (cases_lt q p) [
  | inl less ↦ inl less
  | inr more ↦ elim (cases_eq q p) [
    | inl e ↦ elim (cases_lt r s) [
      | inl past ↦ absurd (grind (arith, nat_tests))
      | inr within ↦ inr (e, within)
    ]
    | inr ne ↦ absurd (grind (arith, nat_tests))
  ]
]

comes_itself : (a : Candidate) → ComesFirst a a
comes_itself a = inr (refl, omega arith)

comes_before : (a b c : Candidate) → ComesFirst a b → ComesFirst b c → ComesFirst a c
comes_before a b c (inl less) (inl below) = inl (omega arith)
comes_before a b c (inl less) (inr same) = inl (omega (arith, same.0))
comes_before a b c (inr same) (inl below) = inl (omega (arith, same.0))
comes_before a b c (inr same) (inr alike) = inr (same.0 ∙ alike.0, omega (arith, same.1, alike.1))

pub first_of-none : (xs : List Candidate) → first_of xs ≡ None → xs ≡ []
first_of-none [] e = refl
first_of-none (x ∷ xs) e = absurd (cc)

pub first_of-found : (xs : List Candidate) (c : Candidate) → first_of xs ≡ Some c → IsFirst xs c
first_of-found [] c e = absurd (cc)
first_of-found (x ∷ xs) c e = at (first_of xs) refl e (first_of-found xs)
  where
    alone : xs ≡ [] → c ≡ x → IsFirst (x ∷ xs) c
    alone none is = subst (IsFirst (x ∷ xs)) (sym is) (record {
      is = here x xs;
      first = λ b m. elim (here_or_later x b xs m) [
        | inl same ↦ subst (ComesFirst x) same (comes_itself x)
        | inr after ↦ nowhere b (subst (λ ys. Contains ys b) none after)
      ];
    })

    before : (y : Candidate) → ComesFirst x y → IsFirst xs y → c ≡ x → IsFirst (x ∷ xs) c
    before y comes is_y is = subst (IsFirst (x ∷ xs)) (sym is) (record {
      is = here x xs;
      first = λ b m. elim (here_or_later x b xs m) [
        | inl same ↦ subst (ComesFirst x) same (comes_itself x)
        | inr after ↦ comes_before x y b comes (is_y.first b after)
      ];
    })

    after_it : (y : Candidate) → ComesFirst y x → IsFirst xs y → c ≡ y → IsFirst (x ∷ xs) c
    after_it y comes is_y is = subst (IsFirst (x ∷ xs)) (sym is) (record {
      is = later x y xs is_y.is;
      first = λ b m. elim (here_or_later x b xs m) [
        | inl same ↦ subst (ComesFirst y) same comes
        | inr after ↦ is_y.first b after
      ];
    })

    tested : (y : Candidate) (t : Bool) → comes_first x y ≡ t → Some (cond t x y) ≡ Some c → IsFirst xs y → IsFirst (x ∷ xs) c
    tested y true t e is_y = before y (test_says x.number y.number x.rank y.rank t) is_y cc
    tested y false t e is_y = after_it y (test_denies x.number y.number x.rank y.rank t) is_y cc

    at : (o : Option Candidate) → first_of xs ≡ o → Some (option_map_or (λ b. cond (comes_first x b) x b) o x) ≡ Some c
        → ((y : Candidate) → first_of xs ≡ Some y → IsFirst xs y) → IsFirst (x ∷ xs) c
    at None is e found = alone (first_of-none xs is) cc
    at (Some y) is e found = tested y (comes_first x y) refl e (found y is)

pub same_rank : (a b : Candidate) → ComesFirst a b → ComesFirst b a → a.rank ≡ b.rank
same_rank a b (inl less) (inl below) = absurd (omega arith)
same_rank a b (inl less) (inr same) = absurd (omega (arith, same.0))
same_rank a b (inr same) (inl below) = absurd (omega (arith, same.0))
same_rank a b (inr same) (inr alike) = omega (arith, same.1, alike.1)
