-- Which candidates there are.
use Rattle.std.proofs.Common.{◌≡◌, ℕ, ◌+◌, ◌^◌, ◌<◌, inl, inr, Bool, true, false, not, ◌&&◌, ◌||◌, cond, nat_eq, [], ◌++◌, Option, Some, None, refl, sym, ap, subst, ◌∙◌, arith}
use Rattle.std.specs.List.{Contains}
use Rattle.std.specs.Int.{is_in_range}
use Rattle.std.proofs.lemmas.List.Elements.{Contains-append_cases}
use Rattle.std.proofs.lemmas.Bool.{and_parts, not-true}
use Rattle.aia_regs.specs.Fields.{field, with_field}
use Rattle.aia_regs.proofs.FieldLemmas.{got, other_field}
use Rattle.aia_major.specs.VsMajor.{VsMajorState, Candidate, vti_of, iid_of, dpr_of, iprio_of, is_major, is_hvictl, is_live, or_256, one_if, external, by_hviprio1, by_hvictl, candidates, first_of, priority_shown, candidate_value, stopi_value}
use Rattle.aia_major.specs.First.{IsFirst}
use Rattle.aia_regs.proofs.ListLemmas.{here_or_later, nowhere}
use Rattle.aia_major.proofs.FirstLemmas.{first_of-none, first_of-found, same_rank}

-- ---- the five candidates

abbrev pub external_one : ℕ → Candidate
external_one stopei = record { major = 9; number = cond (nat_eq stopei 0) 256 (field stopei 10 0); rank = 1 }

abbrev pub other_one : ℕ → ℕ → ℕ → ℕ → Candidate
other_one hviprio1 major lo rank = record { major = major; number = or_256 (field hviprio1 (lo + 7) lo); rank = rank }

abbrev pub named_one : Bool → ℕ → Candidate
named_one dpr hvictl = cond dpr (record { major = iid_of hvictl; number = or_256 (iprio_of hvictl); rank = 2 })
    (record { major = iid_of hvictl; number = iprio_of hvictl; rank = 0 })

alone : (is : Bool) (x c : Candidate) → Contains (one_if is x) c → (is ≡ true) × (c ≡ x)
alone false x c m = nowhere c m
alone true x c m = elim (here_or_later x c [] m) [
  | inl e ↦ (refl, sym e)
  | inr n ↦ nowhere c n
]

-- a candidate is one of the five, and its condition holds
member : {A : Type 0} (m : VsMajorState) (stopei : ℕ) (signal : Bool) (c : Candidate) → Contains (candidates m stopei signal) c
    → (is_live m signal 9 ≡ true → c ≡ external_one stopei → A)
    → ((vti_of m.hvictl ≡ false) × (is_live m signal 1 ≡ true) → c ≡ other_one m.hviprio1 1 8 2 → A)
    → ((vti_of m.hvictl ≡ false) × (is_live m signal 5 ≡ true) → c ≡ other_one m.hviprio1 5 24 3 → A)
    → ((vti_of m.hvictl ≡ false) × (is_live m signal 13 ≡ true) → c ≡ other_one m.hviprio1 13 40 4 → A)
    → ((vti_of m.hvictl ≡ true) × (nat_eq (iid_of m.hvictl) 9 ≡ false) → c ≡ named_one (dpr_of m.hvictl) m.hvictl → A)
    → A
member {A} m stopei signal c is e s t o h =
    elim (Contains-append_cases (external m stopei signal ++ by_hviprio1 m signal 1 8 2 ++ by_hviprio1 m signal 5 24 3 ++ by_hviprio1 m signal 13
    40 4) (by_hvictl m.hvictl) c is) [
      | inr in_h ↦ let x = alone _ _ c in_h in let y = and_parts _ _ x.0 in h (y.0, not-true _ y.1) x.1
      | inl four ↦ elim (Contains-append_cases (external m stopei signal ++ by_hviprio1 m signal 1 8 2 ++ by_hviprio1 m signal 5 24 3)
          (by_hviprio1 m signal 13 40 4) c four) [
            | inr in_o ↦ other 13 40 4 in_o o
            | inl three ↦ elim (Contains-append_cases (external m stopei signal ++ by_hviprio1 m signal 1 8 2)
                (by_hviprio1 m signal 5 24 3) c three) [
                  | inr in_t ↦ other 5 24 3 in_t t
                  | inl two ↦ elim (Contains-append_cases (external m stopei signal) (by_hviprio1 m signal 1 8 2) c two) [
                    | inr in_s ↦ other 1 8 2 in_s s
                    | inl in_e ↦ let x = alone (is_live m signal 9) (external_one stopei) c in_e in e x.0 x.1
                  ]
                ]
          ]
    ]
  where
    other : (major lo rank : ℕ) → Contains (by_hviprio1 m signal major lo rank) c
        → ((vti_of m.hvictl ≡ false) × (is_live m signal major ≡ true) → c ≡ other_one m.hviprio1 major lo rank → A) → A
    other major lo rank is next =
        let x = alone (not (vti_of m.hvictl) && is_live m signal major) (other_one m.hviprio1 major lo rank) c is in
        let y = and_parts (not (vti_of m.hvictl)) (is_live m signal major) x.0 in
        next (not-true (vti_of m.hvictl) y.0, y.1) x.1

-- ---- by their ranks

abbrev ranked : VsMajorState → ℕ → Bool → Bool → ℕ → Candidate
ranked m stopei vti dpr rank =
    cond (nat_eq rank 1) (external_one stopei)
    (cond vti (named_one dpr m.hvictl)
    (cond (nat_eq rank 2) (other_one m.hviprio1 1 8 2)
    (cond (nat_eq rank 3) (other_one m.hviprio1 5 24 3)
    (other_one m.hviprio1 13 40 4))))

named_ranked : (m : VsMajorState) (stopei : ℕ) (dpr : Bool) → named_one dpr m.hvictl ≡ ranked m stopei true dpr (named_one dpr m.hvictl).rank
named_ranked m stopei true = refl
named_ranked m stopei false = refl

by_rank : (m : VsMajorState) (stopei : ℕ) (signal : Bool) (c : Candidate) → Contains (candidates m stopei signal) c
    → c ≡ ranked m stopei (vti_of m.hvictl) (dpr_of m.hvictl) c.rank
by_rank m stopei signal c is =
    member m stopei signal c is
    (λ live e. at c (external_one stopei) (vti_of m.hvictl) e refl)
    (λ live e. at c (other_one m.hviprio1 1 8 2) false e refl ∙ with_vti c.rank (sym live.0))
    (λ live e. at c (other_one m.hviprio1 5 24 3) false e refl ∙ with_vti c.rank (sym live.0))
    (λ live e. at c (other_one m.hviprio1 13 40 4) false e refl ∙ with_vti c.rank (sym live.0))
    (λ live e. at c (named_one (dpr_of m.hvictl) m.hvictl) true e (named_ranked m stopei (dpr_of m.hvictl)) ∙ with_vti c.rank (sym live.0))
  where
    at : (c d : Candidate) (vti : Bool) → c ≡ d → d ≡ ranked m stopei vti (dpr_of m.hvictl) d.rank → c ≡ ranked m stopei vti (dpr_of m.hvictl) c.rank
    at c d vti e is = subst (λ x. x ≡ ranked m stopei vti (dpr_of m.hvictl) x.rank) (sym e) is

    with_vti : {v : Bool} (rank : ℕ) → v ≡ vti_of m.hvictl
        → ranked m stopei v (dpr_of m.hvictl) rank ≡ ranked m stopei (vti_of m.hvictl) (dpr_of m.hvictl) rank
    with_vti rank e = ap (λ v. ranked m stopei v (dpr_of m.hvictl) rank) e

pub ranks_decide : (m : VsMajorState) (stopei : ℕ) (signal : Bool) (a b : Candidate) → Contains (candidates m stopei signal) a
    → Contains (candidates m stopei signal) b → a.rank ≡ b.rank → a ≡ b
ranks_decide m stopei signal a b in_a in_b same =
    by_rank m stopei signal a in_a ∙ ap (ranked m stopei (vti_of m.hvictl) (dpr_of m.hvictl)) same ∙ sym (by_rank m stopei signal b in_b)

pub one_first : (m : VsMajorState) (stopei : ℕ) (signal : Bool) (a b : Candidate) → IsFirst (candidates m stopei signal) a
    → IsFirst (candidates m stopei signal) b → a ≡ b
one_first m stopei signal a b is_a is_b = ranks_decide m stopei signal a b is_a.is is_b.is
    (same_rank a b (is_a.first b is_b.is) (is_b.first a is_a.is))

-- ---- where VTI is 0

pub live_majors : (m : VsMajorState) (stopei : ℕ) (signal : Bool) (c : Candidate) → vti_of m.hvictl ≡ false
    → Contains (candidates m stopei signal) c → (is_major c.major && is_live m signal c.major) ≡ true
live_majors m stopei signal c vti is =
    member m stopei signal c is
    (λ live e. at (external_one stopei) e live)
    (λ live e. at (other_one m.hviprio1 1 8 2) e live.1)
    (λ live e. at (other_one m.hviprio1 5 24 3) e live.1)
    (λ live e. at (other_one m.hviprio1 13 40 4) e live.1)
    (λ live e. absurd (cc))
  where
    at : (d : Candidate) → c ≡ d → (is_major d.major && is_live m signal d.major) ≡ true → (is_major c.major && is_live m signal c.major) ≡ true
    at d e live = ap (λ x. is_major x.major && is_live m signal x.major) e ∙ live

-- ---- what stopi shows

named_major : (dpr : Bool) (hvictl : ℕ) → (named_one dpr hvictl).major ≡ iid_of hvictl
named_major true hvictl = refl
named_major false hvictl = refl

small : (m : VsMajorState) (stopei : ℕ) (signal : Bool) (c : Candidate) → Contains (candidates m stopei signal) c → c.major < 2 ^ 12
small m stopei signal c is =
    member m stopei signal c is
    (λ live e. let f = ap (λ x. x.major) e in omega arith)
    (λ live e. let f = ap (λ x. x.major) e in omega arith)
    (λ live e. let f = ap (λ x. x.major) e in omega arith)
    (λ live e. let f = ap (λ x. x.major) e in omega arith)
    (λ live e. let f = ap (λ x. x.major) e ∙ named_major (dpr_of m.hvictl) m.hvictl in omega arith)

legal : (vti : Bool) (iid : ℕ) → vti ≡ true → (not vti || is_in_range 1 63 iid) ≡ true → is_in_range 1 63 iid ≡ true
legal false iid is e = absurd (cc)
legal true iid is e = e

major_in_range : (m : VsMajorState) (stopei : ℕ) (signal : Bool) (c : Candidate) → is_hvictl m.hvictl ≡ true
    → Contains (candidates m stopei signal) c → is_in_range 1 63 c.major ≡ true
major_in_range m stopei signal c may is =
    member m stopei signal c is
    (λ live e. at 9 (ap (λ x. x.major) e) refl)
    (λ live e. at 1 (ap (λ x. x.major) e) refl)
    (λ live e. at 5 (ap (λ x. x.major) e) refl)
    (λ live e. at 13 (ap (λ x. x.major) e) refl)
    (λ live e. at (iid_of m.hvictl) (ap (λ x. x.major) e ∙ named_major (dpr_of m.hvictl) m.hvictl)
    (legal (vti_of m.hvictl) (iid_of m.hvictl) live.0 may))
  where
    at : (major : ℕ) → c.major ≡ major → is_in_range 1 63 major ≡ true → is_in_range 1 63 c.major ≡ true
    at major e is = ap (is_in_range 1 63) e ∙ is

pub range_shown : (m : VsMajorState) (stopei : ℕ) (signal : Bool) (c : Candidate) → is_hvictl m.hvictl ≡ true
    → first_of (candidates m stopei signal) ≡ Some c → is_in_range 1 63 c.major ≡ true
range_shown m stopei signal c may e = major_in_range m stopei signal c may (first_of-found (candidates m stopei signal) c e).is

shown_small : (hvictl number : ℕ) → priority_shown hvictl number < 2 ^ 8
shown_small hvictl number = grind arith

pub major_shown : (m : VsMajorState) (stopei : ℕ) (signal : Bool) (c : Candidate) → first_of (candidates m stopei signal) ≡ Some c
    → field (stopi_value m stopei signal) 27 16 ≡ c.major
major_shown m stopei signal c e =
    ap (λ o. field (candidate_value m.hvictl o) 27 16) e
    ∙ other_field (with_field 0 27 16 c.major) 7 0 (priority_shown m.hvictl c.number) 27 16 (omega arith) (omega arith)
    (shown_small m.hvictl c.number) (inr (omega arith))
    ∙ got 0 27 16 c.major (small m stopei signal c (first_of-found _ c e).is)

pub none_shown : (m : VsMajorState) (stopei : ℕ) (signal : Bool) → is_hvictl m.hvictl ≡ true → stopi_value m stopei signal ≡ 0
    → candidates m stopei signal ≡ []
none_shown m stopei signal may is = at (first_of (candidates m stopei signal)) refl
  where
    at : (o : Option Candidate) → first_of (candidates m stopei signal) ≡ o → candidates m stopei signal ≡ []
    at None e = first_of-none (candidates m stopei signal) e
    at (Some c) e =
        let zero_major : c.major ≡ 0 = sym (major_shown m stopei signal c e) ∙ ap (λ v. field v 27 16) is in
        let none_there : false ≡ true = ap (is_in_range 1 63) (sym zero_major) ∙ range_shown m stopei signal c may e in
        absurd (cc)
