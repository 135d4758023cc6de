-- The least of pairs.
use Rattle.std.proofs.Common.{◌≡◌, ℕ, zero, suc, ◌+◌, ◌-◌, ◌<◌, ◌≤◌, true, false, nat_lt, Option, Some, None, inl, inr, refl, sym, ap, subst, ◌∙◌, arith}
use Rattle.std.proofs.lemmas.Bool.{cases_lt, cases_eq, lt-ltb, le-ltb, cond-true, cond-false}
use Rattle.std.proofs.lemmas.Option.{none-some, same_Some}
use Rattle.aia_regs.specs.Top.{Pair, lesser, least_pair, ComesFirst, NamesItself, IsLeast}

pub lesser-none : (a : Option Pair) → lesser a None ≡ a
lesser-none None = refl
lesser-none (Some p) = refl

lesser-assoc : (a b c : Option Pair) → lesser (lesser a b) c ≡ lesser a (lesser b c)
lesser-assoc None b c = refl
lesser-assoc (Some p) None c = refl
lesser-assoc (Some p) (Some q) None = lesser-none _ ∙ sym (ap (lesser (Some p)) (lesser-none (Some q)))
lesser-assoc (Some p) (Some q) (Some r) =
    elim (cases_lt q.0 p.0) [
      | inl a ↦ elim (cases_lt r.0 q.0) [
        | inl b ↦ let e : nat_lt r.0 p.0 ≡ true = lt-ltb r.0 p.0 (omega arith) in simp (lt-ltb q.0 p.0 a, lt-ltb r.0 q.0 b, e)
        | inr b ↦ simp (lt-ltb q.0 p.0 a, le-ltb r.0 q.0 b)
      ]
      | inr a ↦ elim (cases_lt r.0 q.0) [
        | inl b ↦ simp (le-ltb q.0 p.0 a, lt-ltb r.0 q.0 b)
        | inr b ↦ let e : nat_lt r.0 p.0 ≡ false = le-ltb r.0 p.0 (omega arith) in simp (le-ltb q.0 p.0 a, le-ltb r.0 q.0 b, e)
      ]
    ]

pub least_pair-none : (candidate : ℕ → Option Pair) (from : ℕ) → least_pair candidate from 0 ≡ None
unfolding least_pair
least_pair-none candidate from = refl

pub least_pair-suc : (candidate : ℕ → Option Pair) (from count : ℕ)
    → least_pair candidate from (suc count) ≡ lesser (candidate from) (least_pair candidate (suc from) count)
unfolding least_pair
least_pair-suc candidate from count = refl

-- a loop's next step, up to n
pub least_pair-step : (candidate : ℕ → Option Pair) (so_far : Option Pair) (s n : ℕ) → s < n
    → lesser (lesser so_far (candidate s)) (least_pair candidate (s + 1) (n - (s + 1))) ≡ lesser so_far (least_pair candidate s (n - s))
least_pair-step candidate so_far s n within =
    let e : n - s ≡ suc (n - (s + 1)) = omega arith in
    let f : suc s ≡ s + 1 = omega arith in
    lesser-assoc so_far (candidate s) _ ∙ ap (lesser so_far)
    (sym (ap (least_pair candidate s) e ∙ least_pair-suc candidate s (n - (s + 1))
    ∙ ap (λ k. lesser (candidate s) (least_pair candidate k (n - (s + 1)))) f))

pub least_pair-end : (candidate : ℕ → Option Pair) (so_far : Option Pair) (s n : ℕ) → n ≤ s → lesser so_far (least_pair candidate s (n - s)) ≡ so_far
least_pair-end candidate so_far s n past =
    let e : n - s ≡ 0 = omega arith in ap (lesser so_far) (ap (least_pair candidate s) e ∙ least_pair-none candidate s) ∙ lesser-none so_far

-- ---- the least pair is the least

abbrev pub IsLeastOf : (ℕ → Option Pair) → ℕ → ℕ → Option Pair → Type 0
IsLeastOf candidate from count None = (s : ℕ) → from ≤ s → s < from + count → candidate s ≡ None
IsLeastOf candidate from count (Some p) = IsLeast candidate from count p

first_is : (p q : Pair) → q ≡ p → ComesFirst p q
first_is p q e = subst (ComesFirst p) (sym e) (inr (refl, omega arith))

-- the first candidate and the least of those after it
one_more : (candidate : ℕ → Option Pair) (from count : ℕ) (o r : Option Pair) → NamesItself candidate → candidate from ≡ o
    → IsLeastOf candidate (suc from) count r → IsLeastOf candidate from (suc count) (lesser o r)
one_more candidate from count None None own here rest = λ s low high. elim (cases_eq s from) [
  | inl e ↦ ap candidate e ∙ here
  | inr ne ↦ rest s (omega arith) (omega arith)
]
one_more candidate from count None (Some r) own here rest = record {
  low = omega (arith, rest.low);
  high = omega (arith, rest.high);
  is = rest.is;
  least = λ s q low high found. elim (cases_eq s from) [
    | inl e ↦ absurd (none-some q (sym (ap candidate e ∙ here) ∙ found))
    | inr ne ↦ rest.least s q (omega arith) (omega arith) found
  ];
}
one_more candidate from count (Some p) None own here rest =
    let at : p.1 ≡ from = own from p here in
    record {
      low = omega arith;
      high = omega arith;
      is = ap candidate at ∙ here;
      least = λ s q low high found. elim (cases_eq s from) [
        | inl e ↦ first_is p q (same_Some q p (sym found ∙ ap candidate e ∙ here))
        | inr ne ↦ absurd (none-some q (sym (rest s (omega arith) (omega arith)) ∙ found))
      ];
    }
one_more candidate from count (Some p) (Some r) own here rest = elim (cases_lt r.0 p.0) [
  | inl less ↦ subst (IsLeastOf candidate from (suc count)) (sym (cond-true _ _ _ (lt-ltb r.0 p.0 less))) (record {
    low = omega (arith, rest.low);
    high = omega (arith, rest.high);
    is = rest.is;
    least = λ s q low high found. elim (cases_eq s from) [
      | inl e ↦ let f : q ≡ p = same_Some q p (sym found ∙ ap candidate e ∙ here) in subst (ComesFirst r) (sym f) (inl less)
      | inr ne ↦ rest.least s q (omega arith) (omega arith) found
    ];
  })
  | inr more ↦ let at : p.1 ≡ from = own from p here in
      subst (IsLeastOf candidate from (suc count)) (sym (cond-false _ _ _ (le-ltb r.0 p.0 more))) (record {
        low = omega arith;
        high = omega arith;
        is = ap candidate at ∙ here;
        least = λ s q low high found. elim (cases_eq s from) [
          | inl e ↦ first_is p q (same_Some q p (sym found ∙ ap candidate e ∙ here))
          | inr ne ↦ after more at (own s q found) (rest.least s q (omega arith) (omega arith) found) (omega arith)
        ];
      })
]
  where
    after : {s : ℕ} {q : Pair} → p.0 ≤ r.0 → p.1 ≡ from → q.1 ≡ s → ComesFirst r q → from ≤ s → ComesFirst p q
    after {s} {q} more at own (inl less) low = inl (omega arith)
    after {s} {q} more at own (inr same) low = elim (cases_lt p.0 r.0) [
      | inl less ↦ inl (omega (arith, same.0))
      | inr not_less ↦ inr (omega (arith, same.0), omega arith)
    ]

is_least : (candidate : ℕ → Option Pair) (from count : ℕ) → NamesItself candidate → IsLeastOf candidate from count (least_pair candidate from count)
unfolding least_pair
is_least candidate from zero own = λ s low high. absurd (omega arith)
is_least candidate from (suc count) own = one_more candidate from count (candidate from) (least_pair candidate (suc from) count) own refl
    (is_least candidate (suc from) count own)

pub least_none : (candidate : ℕ → Option Pair) (from count : ℕ) → NamesItself candidate → least_pair candidate from count ≡ None → (s : ℕ)
    → from ≤ s → s < from + count → candidate s ≡ None
least_none candidate from count own e = subst (IsLeastOf candidate from count) e (is_least candidate from count own)

pub least_found : (candidate : ℕ → Option Pair) (from count : ℕ) (p : Pair) → NamesItself candidate → least_pair candidate from count ≡ Some p
    → IsLeast candidate from count p
least_found candidate from count p own e = subst (IsLeastOf candidate from count) e (is_least candidate from count own)
